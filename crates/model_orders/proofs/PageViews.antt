-- A change of a virtual page's entry changes its view in its row.
use Rattle.std.proofs.Common.{◌≡◌, ◌≢◌, ℕ, ◌+◌, ◌*◌, ◌%◌, ◌<◌, ◌⊎◌, Bool, true, false, if◌then◌else◌, List, Option, Some, None, inl, inr, nat_eq, length, slice_index, slice_set, refl, sym, subst, ap, ◌∙◌}
use Rattle.std.proofs.lemmas.Bool.{cases_lt, cond_both, eqb-true, eqb-false}
use Rattle.std.proofs.lemmas.Bool.Decides.{eqb_tells}
use Rattle.std.proofs.lemmas.List.{get_or-set_same, get_or-set_other, get_or_past}
use Rattle.std.proofs.lemmas.Nat.{div-mul-add, mod-mul-add}
use Rattle.model_memory.specs.Memory.{Memory}
use Rattle.model_orders.specs.Views.{changed, with_changed}
use Rattle.model_orders.specs.declared.steps.Step.{Step}
use Rattle.model_otherwise.specs.Effects.{Meshing, source_page, with_entry}
use Rattle.model_otherwise.specs.Heaps.{Mesh}
use Rattle.model_otherwise.specs.PageMap.{entry_at}
use Rattle.model_otherwise.specs.declared.page_map.Entry.{Entry}
use Rattle.model_words.specs.Classes.{pages_of}
use Rattle.model_orders.specs.HeapRows.{AreSame, IsOfMesh, row_at, shape_at, view_at, view_of}

-- the page of a number that counts the pages through the members
page_of_number : (mesh : Mesh) (i j : ℕ) → j < pages_of mesh.class
    → source_page mesh (i * pages_of mesh.class + j) ≡ slice_index mesh.members i + j
page_of_number mesh i j below =
    ap (λ a. slice_index mesh.members a + (i * pages_of mesh.class + j) % pages_of mesh.class) (div-mul-add i (pages_of mesh.class) j below)
    ∙ ap (λ b. slice_index mesh.members i + b) (mod-mul-add i (pages_of mesh.class) j below)

-- a mapped page is one of the entries
within_entries : (entries : List (Option Entry)) (page : ℕ) → entry_at entries page ≢ None → page < length entries
within_entries entries page mapped = elim (cases_lt page (length entries)) [
  | inl below ↦ below
  | inr past ↦ absurd (mapped (get_or_past entries page None past))
]

-- what a change makes of each entry, it makes of an entry that isn't nothing
of_mapped : (from : ℕ) (step : Step) (change : Option Entry → Option Entry) (entry : Option Entry) → entry ≢ None
    → ((e : Entry) → view_of from (change (Some e)) ≡ changed step (view_of from (Some e)))
    → view_of from (change entry) ≡ changed step (view_of from entry)
of_mapped from step change None mapped each = absurd (mapped refl)
of_mapped from step change (Some e) mapped each = each e

-- the view of the page of which the entry is changed
view_here : (from : ℕ) (entries : List (Option Entry)) (step : Step) (change : Option Entry → Option Entry) (page : ℕ)
    → entry_at entries page ≢ None → ((e : Entry) → view_of from (change (Some e)) ≡ changed step (view_of from (Some e)))
    → view_of from (entry_at (slice_set entries page (change (entry_at entries page))) page) ≡ changed step (view_of from (entry_at entries page))
view_here from entries step change page mapped each =
    ap (view_of from) (get_or-set_same entries page (change (entry_at entries page)) None (within_entries entries page mapped))
    ∙ of_mapped from step change (entry_at entries page) mapped each

-- the view of another page
view_there : (from : ℕ) (entries : List (Option Entry)) (entry : Option Entry) (page other : ℕ) → other ≢ page
    → view_of from (entry_at (slice_set entries page entry) other) ≡ view_of from (entry_at entries other)
view_there from entries entry page other apart = ap (view_of from) (get_or-set_other entries page other entry None apart)

-- heap and mesh after the entry of a page is changed
abbrev pub entry_changed : Meshing → ℕ → (Option Entry → Option Entry) → Meshing
entry_changed x page change = record x { heap = with_entry x.heap page (change (entry_at x.heap.entries page)) }

-- the rest of each row stays
others_stay : (m : Memory) (memory : ℕ → ℕ) (x : Meshing) (step : Step) (change : Option Entry → Option Entry) (page i l : ℕ) (here : Bool)
    → ((k : ℕ) → k < length x.mesh.members
    → view_at (entry_changed x page change) l k ≡ (if here then with_changed step i (row_at m memory x l) else row_at m memory x l).views k)
    → AreSame (shape_at x.mesh l) (row_at m memory (entry_changed x page change) l)
    (if here then with_changed step i (row_at m memory x l) else row_at m memory x l)
others_stay m memory x step change page i l true views = record {
  views = views;
  released = refl;
  source = λ offset below. refl;
  destination = λ offset below. refl;
  live = λ offset below. refl;
  memory = λ offset below. refl;
}
others_stay m memory x step change page i l false views = record {
  views = views;
  released = refl;
  source = λ offset below. refl;
  destination = λ offset below. refl;
  live = λ offset below. refl;
  memory = λ offset below. refl;
}

-- the views of each row after the entry of a page of one row is changed
views_after : (m : Memory) (memory : ℕ → ℕ) (x : Meshing) (step : Step) (change : Option Entry → Option Entry) (i j l k : ℕ) → IsOfMesh x
    → i < length x.mesh.members → j < pages_of x.mesh.class → l < pages_of x.mesh.class → k < length x.mesh.members
    → ((e : Entry) → view_of (slice_index x.mesh.from j) (change (Some e)) ≡ changed step (view_of (slice_index x.mesh.from j) (Some e)))
    → view_at (entry_changed x (slice_index x.mesh.members i + j) change) l k
    ≡ (if nat_eq l j then with_changed step i (row_at m memory x l) else row_at m memory x l).views k
views_after m memory x step change i j l k is i-below j-below l-below k-below each =
    let page : ℕ = slice_index x.mesh.members i + j in
    let other : (k ≡ i → l ≡ j → ⊥) → view_at (entry_changed x page change) l k ≡ view_at x l k =
    λ apart. view_there (slice_index x.mesh.from l) x.heap.entries (change (entry_at x.heap.entries page)) page (slice_index x.mesh.members k + l)
    (λ e. let same = is.members_apart k i l j k-below i-below l-below j-below e in apart same.0 same.1) in
    cond_both (nat_eq l j) (with_changed step i (row_at m memory x l)) (row_at m memory x l)
    (λ row. view_at (entry_changed x page change) l k ≡ row.views k)
    (λ here. cond_both (nat_eq k i) (changed step (view_at x l i)) (view_at x l k)
    (λ view. view_at (entry_changed x page change) l k ≡ view)
    (λ this.
    let row : l ≡ j = eqb-true l j here in
    let member : k ≡ i = eqb-true k i this in
    ap (λ a. view_at (entry_changed x page change) a k) row
    ∙ ap (λ a. view_at (entry_changed x page change) j a) member
    ∙ view_here (slice_index x.mesh.from j) x.heap.entries step change page (is.mapped i j i-below j-below) each
    ∙ ap (λ a. changed step (view_at x a i)) (sym row))
    (λ that. other (λ member row. eqb-false k i that member)))
    (λ there. other (λ member row. eqb-false l j there row))

-- a change of an entry is a change of a view of its row
pub row_after : (m : Memory) (memory : ℕ → ℕ) (x : Meshing) (step : Step) (change : Option Entry → Option Entry) (i j l : ℕ) → IsOfMesh x
    → i < length x.mesh.members → j < pages_of x.mesh.class → l < pages_of x.mesh.class
    → ((e : Entry) → view_of (slice_index x.mesh.from j) (change (Some e)) ≡ changed step (view_of (slice_index x.mesh.from j) (Some e)))
    → AreSame (shape_at x.mesh l) (row_at m memory (entry_changed x (source_page x.mesh (i * pages_of x.mesh.class + j)) change) l)
    (if nat_eq l j then with_changed step i (row_at m memory x l) else row_at m memory x l)
row_after m memory x step change i j l is i-below j-below l-below each =
    subst (λ page. AreSame (shape_at x.mesh l) (row_at m memory (entry_changed x page change) l)
    (if nat_eq l j then with_changed step i (row_at m memory x l) else row_at m memory x l))
    (sym (page_of_number x.mesh i j j-below))
    (let views = λ (k : ℕ) (k-below : k < length x.mesh.members). views_after m memory x step change i j l k is i-below j-below l-below k-below each in
    others_stay m memory x step change (slice_index x.mesh.members i + j) i l (nat_eq l j) views)

-- what a change makes of an entry that isn't nothing isn't nothing
still_entry : (change : Option Entry → Option Entry) (entry : Option Entry) → ((e : Entry) → change (Some e) ≢ None) → entry ≢ None → change entry ≢ None
still_entry change None each mapped = absurd (mapped refl)
still_entry change (Some e) each mapped = each e

-- a mapped page stays mapped while the entry of a page is changed
still_mapped : (entries : List (Option Entry)) (page other : ℕ) (change : Option Entry → Option Entry) → ((e : Entry) → change (Some e) ≢ None)
    → entry_at entries other ≢ None → entry_at (slice_set entries page (change (entry_at entries page))) other ≢ None
still_mapped entries page other change each mapped none =
    let entry = change (entry_at entries page) in
    elim (eqb_tells other page) [
      | inl here ↦
          (let same : other ≡ page = here.1 in
          let there : entry_at entries page ≢ None = subst (λ (p : ℕ). entry_at entries p ≢ None) same mapped in
          let gone : entry_at (slice_set entries page entry) page ≡ None = subst (λ (p : ℕ). entry_at (slice_set entries page entry) p ≡ None) same none in
          still_entry change (entry_at entries page) each there
          (sym (get_or-set_same entries page entry None (within_entries entries page there)) ∙ gone))
      | inr apart ↦ mapped (sym (get_or-set_other entries page other entry None apart.1) ∙ none)
    ]

-- the page of an entry, or 0 for none
abbrev pub page_in : Option Entry → ℕ
page_in None = 0
page_in (Some entry) = entry.page

-- what is so of an entry's page is so after a change that keeps it so
still_so : (P : ℕ → Type 0) (change : Option Entry → Option Entry) (entry : Option Entry) (after : Entry) → entry ≢ None
    → ((e : Entry) → P e.page → P (page_in (change (Some e)))) → ((e : Entry) → entry ≡ Some e → P e.page) → change entry ≡ Some after → P after.page
still_so P change None after mapped keeps so is = absurd (mapped refl)
still_so P change (Some e) after mapped keeps so is = subst P (ap page_in is) (keeps e (so e refl))

-- what is so of the page of a mapped page's entry is so while the entry of a page is changed
still_so_of : (P : ℕ → Type 0) (entries : List (Option Entry)) (page other : ℕ) (change : Option Entry → Option Entry) (after : Entry)
    → entry_at entries other ≢ None → (other ≡ page → (e : Entry) → P e.page → P (page_in (change (Some e))))
    → ((e : Entry) → entry_at entries other ≡ Some e → P e.page)
    → entry_at (slice_set entries page (change (entry_at entries page))) other ≡ Some after → P after.page
still_so_of P entries page other change after mapped keeps so is =
    let entry = change (entry_at entries page) in
    elim (eqb_tells other page) [
      | inl here ↦
          (let same : other ≡ page = here.1 in
          let there : entry_at entries page ≢ None = subst (λ (p : ℕ). entry_at entries p ≢ None) same mapped in
          let found : entry_at (slice_set entries page entry) page ≡ Some after = subst (λ (p : ℕ). entry_at (slice_set entries page entry) p ≡ Some after) same is in
          still_so P change (entry_at entries page) after there (keeps same)
          (λ e has. so e (ap (entry_at entries) same ∙ has))
          (sym (get_or-set_same entries page entry None (within_entries entries page there)) ∙ found))
      | inr apart ↦ so after (sym (get_or-set_other entries page other entry None apart.1) ∙ is)
    ]

-- the page is one of those to which virtual pages of number `j` are mapped
abbrev pub IsOnSides : Mesh → ℕ → ℕ → Type 0
IsOnSides mesh j page = (page ≡ slice_index mesh.from j) ⊎ (page ≡ slice_index mesh.into j)

-- a change of an entry leaves the premises as they are, if it leaves the entry on the sides
pub premises_after : (x : Meshing) (page : ℕ) (change : Option Entry → Option Entry) → ((e : Entry) → change (Some e) ≢ None)
    → ((i j : ℕ) → i < length x.mesh.members → j < pages_of x.mesh.class → slice_index x.mesh.members i + j ≡ page
    → (e : Entry) → IsOnSides x.mesh j e.page → IsOnSides x.mesh j (page_in (change (Some e))))
    → IsOfMesh x → IsOfMesh (entry_changed x page change)
premises_after x page change each sides is = record {
  class = is.class;
  short = is.short;
  span = is.span;
  members_apart = is.members_apart;
  mapped = λ i j i-below j-below. still_mapped x.heap.entries page (slice_index x.mesh.members i + j) change each (is.mapped i j i-below j-below);
  on_sides = λ i j entry i-below j-below.
      still_so_of (IsOnSides x.mesh j) x.heap.entries page (slice_index x.mesh.members i + j) change entry (is.mapped i j i-below j-below)
      (sides i j i-below j-below) (λ e has. is.on_sides i j e i-below j-below has);
  from_apart = is.from_apart;
  into_apart = is.into_apart;
  sides_apart = is.sides_apart;
  unseen = is.unseen;
}
