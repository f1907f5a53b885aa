-- A store of a byte through a virtual page changes this byte in its row, and nothing else.
use Rattle.std.proofs.Common.{◌≡◌, ◌≢◌, ℕ, ◌+◌, ◌-◌, ◌*◌, ◌/◌, ◌%◌, ◌<◌, Bool, true, false, ◌&&◌, not, if◌then◌else◌, List, [], ◌∷◌, Option, Some, None, inl, inr, nat_eq, nat_lt, length, slice_index, refl, sym, subst, ap, ◌∙◌, arith}
use Rattle.std.proofs.lemmas.Bool.{cases_order, cond_both, cond-true, eqb-true, eqb-false, lt-ltb, not-true, not-false}
use Rattle.model_memory.specs.Memory.{Memory}
use Rattle.model_orders.specs.Pages.{is_read_write, is_source, stored as stored_in, with_at}
use Rattle.model_orders.specs.Views.{Row, after_store}
use Rattle.model_orders.specs.declared.facts.Protection.TheVariants.{ReadWrite}
use Rattle.model_orders.specs.declared.facts.Side.TheVariants.{Source, Destination}
use Rattle.model_otherwise.specs.Effects.{Meshing, with_spots}
use Rattle.model_otherwise.specs.PageMap.{entry_at, place_in, place_of}
use Rattle.model_otherwise.specs.Spots.{byte_at, spots_of, stored}
use Rattle.model_otherwise.specs.SpotLaws.{IsOutside}
use Rattle.model_otherwise.specs.declared.page_map.Entry.{Entry}
use Rattle.model_otherwise.specs.declared.spot.Spot.{Spot}
use Rattle.model_otherwise.proofs.SpotBytes.{byte_inside, byte_of_bytes, byte_outside, has_bytes_only}
use Rattle.model_words.specs.Classes.{pages_of}
use Rattle.model_orders.specs.HeapRows.{AreSame, IsOfMesh, is_live, row_at, shape_at, view_at, view_of}
use Rattle.model_orders.specs.HeapRowLaws.{byte_stored}
use Rattle.model_orders.proofs.PageBytes.{outside_page}

-- where a byte is stored, it is found
stored_here : (spots : List Spot) (start byte place : ℕ) → place ≡ start → byte_at (stored spots start (byte ∷ [])) place ≡ byte
stored_here spots start byte place same =
    let first : place - start ≡ 0 = omega arith in
    byte_inside spots (spots_of start (byte ∷ [])) start 1 place (omega arith) (omega arith)
    ∙ byte_of_bytes start (byte ∷ []) place (omega arith) (omega arith)
    ∙ ap (slice_index (byte ∷ [])) first

-- elsewhere, the bytes stay
stored_there : (spots : List Spot) (start byte place : ℕ) → IsOutside start 1 place → byte_at (stored spots start (byte ∷ [])) place ≡ byte_at spots place
stored_there spots start byte place out = byte_outside spots (spots_of start (byte ∷ [])) start 1 place out (has_bytes_only start (byte ∷ []) place out)

-- places of a page are apart if their offsets are
offsets_apart : (page other offset at : ℕ) → page ≡ other → at ≢ offset → IsOutside (4096 * page + offset) 1 (4096 * other + at)
offsets_apart page other offset at same apart = elim (cases_order at offset) [
  | inl here ↦ absurd (apart here)
  | inr order ↦ elim order [ inl less ↦ inl (omega arith) | inr more ↦ inr (omega arith) ]
]

-- a store of a byte to a page, as another or the same page has it
bytes_on : (spots : List Spot) (page other offset byte at : ℕ) (here : Bool) → offset < 4096 → at < 4096 → (here ≡ true → page ≡ other)
    → (here ≡ false → other ≢ page)
    → byte_at (stored spots (4096 * page + offset) (byte ∷ [])) (4096 * other + at)
    ≡ stored_in here offset byte (λ o. byte_at spots (4096 * other + o)) at
bytes_on spots page other offset byte at true offset-below at-below same apart =
    cond_both (nat_eq at offset) byte (byte_at spots (4096 * other + at))
    (λ b. byte_at (stored spots (4096 * page + offset) (byte ∷ [])) (4096 * other + at) ≡ b)
    (λ this.
    let equal : at ≡ offset = eqb-true at offset this in
    let one : page ≡ other = same refl in
    stored_here spots (4096 * page + offset) byte (4096 * other + at) (omega arith))
    (λ that. stored_there spots (4096 * page + offset) byte (4096 * other + at) (offsets_apart page other offset at (same refl) (eqb-false at offset that)))
bytes_on spots page other offset byte at false offset-below at-below same apart =
    stored_there spots (4096 * page + offset) byte (4096 * other + at) (outside_page page other offset 1 at (apart refl) (omega arith) at-below)

-- the place of an offset of a virtual page
place_on : (entries : List (Option Entry)) (page offset : ℕ) → offset < 4096 → place_of entries (4096 * page + offset) ≡ place_in (entry_at entries page) offset
place_on entries page offset below =
    let quotient : (4096 * page + offset) / 4096 ≡ page = omega arith in
    let rest : (4096 * page + offset) % 4096 ≡ offset = omega arith in
    ap (λ a. place_in (entry_at entries a) ((4096 * page + offset) % 4096)) quotient ∙ ap (place_in (entry_at entries page)) rest

-- an entry that isn't nothing is one
is_some_entry : (entry : Option Entry) → entry ≢ None → (e : Entry) × (entry ≡ Some e)
is_some_entry None mapped = absurd (mapped refl)
is_some_entry (Some e) mapped = (e, refl)

-- a side that is chosen by a test is the source if the test is true
source_if : (test : Bool) → is_source (if test then Source else Destination) ≡ test
source_if true = refl
source_if false = refl

-- a view's target is the source if its entry is mapped to the source's page
source_of : (from : ℕ) (entry : Option Entry) (e : Entry) → entry ≡ Some e → is_source (view_of from entry).target ≡ nat_eq e.page from
source_of from entry e has = ap (λ o. is_source (view_of from o).target) has ∙ source_if (nat_eq e.page from)

-- heap and mesh after a byte is stored at a place
abbrev stored_at : Meshing → ℕ → ℕ → Meshing
stored_at x place byte = record x { heap = with_spots x.heap (stored x.heap.spots place (byte ∷ [])) }

-- the row of the page to which the byte is stored
row_here : (m : Memory) (memory : ℕ → ℕ) (x : Meshing) (i j offset byte : ℕ) (e : Entry) → IsOfMesh x → i < length x.mesh.members
    → j < pages_of x.mesh.class → offset < 4096 → (view_at x j i).protection ≡ ReadWrite → is_live m x.mesh (4096 * j + offset) ≡ true
    → entry_at x.heap.entries (slice_index x.mesh.members i + j) ≡ Some e
    → AreSame (shape_at x.mesh j) (row_at m (with_at memory offset byte) (stored_at x (4096 * e.page + offset) byte) j)
    (after_store (shape_at x.mesh j) i offset byte (row_at m memory x j))
row_here m memory x i j offset byte e is i-below j-below offset-below writable live has =
    let row : Row = row_at m memory x j in
    let side : Bool = is_source (view_at x j i).target in
    let test : side ≡ nat_eq e.page (slice_index x.mesh.from j) = source_of (slice_index x.mesh.from j) (entry_at x.heap.entries (slice_index x.mesh.members i + j)) e has in
    let from : side ≡ true → e.page ≡ slice_index x.mesh.from j = λ yes. eqb-true e.page (slice_index x.mesh.from j) (sym test ∙ yes) in
    let no_from : side ≡ false → e.page ≢ slice_index x.mesh.from j = λ no. eqb-false e.page (slice_index x.mesh.from j) (sym test ∙ no) in
    let into : side ≡ false → e.page ≡ slice_index x.mesh.into j = λ no. elim (is.on_sides i j e i-below j-below has) [
      | inl same ↦ absurd (no_from no same)
      | inr same ↦ same
    ] in
    let no_into : side ≡ true → slice_index x.mesh.into j ≢ e.page = λ yes same. is.sides_apart j j j-below j-below (sym (from yes) ∙ sym same) in
    let allowed : (nat_lt i (length x.mesh.members) && (is_read_write (view_at x j i).protection && is_live m x.mesh (4096 * j + offset))) ≡ true =
    ap (λ b. b && (is_read_write (view_at x j i).protection && is_live m x.mesh (4096 * j + offset))) (lt-ltb i (length x.mesh.members) i-below)
    ∙ ap (λ p. is_read_write p && is_live m x.mesh (4096 * j + offset)) writable ∙ live in
    let after : Row = record row {
      source = stored_in side offset byte row.source;
      destination = stored_in (not side) offset byte row.destination;
      memory = with_at row.memory offset byte;
    } in
    subst (λ other. AreSame (shape_at x.mesh j) (row_at m (with_at memory offset byte) (stored_at x (4096 * e.page + offset) byte) j) other)
    (sym (cond-true (nat_lt i (length x.mesh.members) && (is_read_write (view_at x j i).protection && is_live m x.mesh (4096 * j + offset))) after row allowed))
    (record {
      views = λ k below. refl;
      released = refl;
      source = λ at below.
          bytes_on x.heap.spots e.page (slice_index x.mesh.from j) offset byte at side offset-below below from (λ no same. no_from no (sym same));
      destination = λ at below.
          bytes_on x.heap.spots e.page (slice_index x.mesh.into j) offset byte at (not side) offset-below below (λ yes. into (not-true side yes))
          (λ no. no_into (not-false side no));
      live = λ at below. refl;
      memory = λ at below. refl;
    })

-- the rows of other pages
row_there : (m : Memory) (memory : ℕ → ℕ) (x : Meshing) (i j l offset byte : ℕ) (e : Entry) → IsOfMesh x → i < length x.mesh.members
    → j < pages_of x.mesh.class → l < pages_of x.mesh.class → offset < 4096 → l ≢ j
    → entry_at x.heap.entries (slice_index x.mesh.members i + j) ≡ Some e
    → AreSame (shape_at x.mesh l) (row_at m memory (stored_at x (4096 * e.page + offset) byte) l) (row_at m memory x l)
row_there m memory x i j l offset byte e is i-below j-below l-below offset-below apart has =
    let from : slice_index x.mesh.from l ≢ e.page = λ same. elim (is.on_sides i j e i-below j-below has) [
      | inl there ↦ apart (is.from_apart l j l-below j-below (same ∙ there))
      | inr there ↦ is.sides_apart l j l-below j-below (same ∙ there)
    ] in
    let into : slice_index x.mesh.into l ≢ e.page = λ same. elim (is.on_sides i j e i-below j-below has) [
      | inl there ↦ is.sides_apart j l j-below l-below (sym (same ∙ there))
      | inr there ↦ apart (is.into_apart l j l-below j-below (same ∙ there))
    ] in
    record {
      views = λ k below. refl;
      released = refl;
      source = λ at below. stored_there x.heap.spots (4096 * e.page + offset) byte (4096 * slice_index x.mesh.from l + at)
          (outside_page e.page (slice_index x.mesh.from l) offset 1 at from (omega arith) below);
      destination = λ at below. stored_there x.heap.spots (4096 * e.page + offset) byte (4096 * slice_index x.mesh.into l + at)
          (outside_page e.page (slice_index x.mesh.into l) offset 1 at into (omega arith) below);
      live = λ at below. refl;
      memory = λ at below. refl;
    }

-- each row, where `here` is whether the byte is stored to its page
row_stored : (m : Memory) (memory : ℕ → ℕ) (x : Meshing) (i j l offset byte : ℕ) (e : Entry) (here : Bool) → nat_eq l j ≡ here → IsOfMesh x
    → i < length x.mesh.members → j < pages_of x.mesh.class → l < pages_of x.mesh.class → offset < 4096 → (view_at x j i).protection ≡ ReadWrite
    → is_live m x.mesh (4096 * j + offset) ≡ true → entry_at x.heap.entries (slice_index x.mesh.members i + j) ≡ Some e
    → AreSame (shape_at x.mesh l)
    (row_at m (if here then with_at memory offset byte else memory) (stored_at x (4096 * e.page + offset) byte) l)
    (if here then after_store (shape_at x.mesh l) i offset byte (row_at m memory x l) else row_at m memory x l)
row_stored m memory x i j l offset byte e true test is i-below j-below l-below offset-below writable live has =
    subst (λ (a : ℕ). AreSame (shape_at x.mesh a) (row_at m (with_at memory offset byte) (stored_at x (4096 * e.page + offset) byte) a)
    (after_store (shape_at x.mesh a) i offset byte (row_at m memory x a)))
    (sym (eqb-true l j test)) (row_here m memory x i j offset byte e is i-below j-below offset-below writable live has)
row_stored m memory x i j l offset byte e false test is i-below j-below l-below offset-below writable live has =
    row_there m memory x i j l offset byte e is i-below j-below l-below offset-below (eqb-false l j test) has

-- a store of a byte through a virtual page is a store to its row
pub byte_in_rows : (m : Memory) (memory : ℕ → ℕ) (x : Meshing) (i j l offset byte : ℕ) → IsOfMesh x → i < length x.mesh.members
    → j < pages_of x.mesh.class → l < pages_of x.mesh.class → offset < 4096 → (view_at x j i).protection ≡ ReadWrite
    → is_live m x.mesh (4096 * j + offset) ≡ true
    → AreSame (shape_at x.mesh l) (row_at m (if nat_eq l j then with_at memory offset byte else memory) (byte_stored x i j offset byte) l)
    (if nat_eq l j then after_store (shape_at x.mesh l) i offset byte (row_at m memory x l) else row_at m memory x l)
byte_in_rows m memory x i j l offset byte is i-below j-below l-below offset-below writable live =
    let found = is_some_entry (entry_at x.heap.entries (slice_index x.mesh.members i + j)) (is.mapped i j i-below j-below) in
    let place : place_of x.heap.entries (4096 * (slice_index x.mesh.members i + j) + offset) ≡ 4096 * found.0.page + offset =
    place_on x.heap.entries (slice_index x.mesh.members i + j) offset offset-below ∙ ap (λ o. place_in o offset) found.1 in
    subst (λ (p : ℕ). AreSame (shape_at x.mesh l) (row_at m (if nat_eq l j then with_at memory offset byte else memory) (stored_at x p byte) l)
    (if nat_eq l j then after_store (shape_at x.mesh l) i offset byte (row_at m memory x l) else row_at m memory x l))
    (sym place) (row_stored m memory x i j l offset byte found.0 (nat_eq l j) refl is i-below j-below l-below offset-below writable live found.1)
