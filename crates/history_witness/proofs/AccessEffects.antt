-- What an access does to the bytes of an object, and to other bytes that agree where it loads.
use Rattle.std.proofs.Common.{◌≡◌, ◌⊎◌, ℕ, ◌+◌, ◌-◌, ◌<◌, ◌≤◌, inl, inr, true, false, not, ◌&&◌, nat_eq, nat_le, nat_lt, List, ◌++◌, length, take, drop, get_or, slice_range, arith, refl, sym, ◌∙◌, ap, Some, None, length-append}
use Rattle.std.specs.Str.{bytes_eq}
use Rattle.std.proofs.lemmas.Bool.{and_parts}
use Rattle.std.proofs.lemmas.Bool.Decides.{nat_tests}
use Rattle.std.proofs.lemmas.List.{ext_get_or, get_or-take, get_or-drop, get_or_append_left, get_or-append_right, length-take, length-drop}
use Rattle.std.proofs.lemmas.Slice.Eq.{bytes_eq-Decides}
use Rattle.model_memory.specs.Memory.{overwritten}
use Rattle.model_words.specs.declared.commands.Command.{Command}
use Rattle.model_words.specs.declared.commands.Command.TheVariants.{Put, Get, Addr}
use Rattle.model_words.specs.declared.commands.Reply.{Reply}
use Rattle.model_words.specs.declared.commands.Reply.TheVariants.{Done, Bytes, At}
use Rattle.model_intervals.specs.Objects.{accessed, ends_past}
use Rattle.model_intervals.specs.OverlappingCalls.{cell_of}
use Rattle.model_intervals.proofs.Lists.{tells}
use Rattle.history_witness.specs.Slices.{loads_at, stores_at}

-- ---- bytes that are overwritten

-- a byte of those that were written
written_at : (bytes : List ℕ) (off : ℕ) (new : List ℕ) (at : ℕ) → off + length new ≤ length bytes → off ≤ at → at < off + length new
    → get_or (overwritten bytes off new) at 0 ≡ get_or new (at - off) 0
written_at bytes off new at fits from below =
    let before : length (take off bytes) ≡ off = simp (length-take) (omega (arith, fits)) in
    let both : length (take off bytes ++ new) ≡ off + length new = length-append (take off bytes) new ∙ ap (λ (n : ℕ). n + length new) before in
    get_or_append_left (take off bytes ++ new) (drop (off + length new) bytes) 0 at (omega (arith, both, below))
    ∙ get_or-append_right (take off bytes) new off at 0 before from

-- and one of the others
pub left_at : (bytes : List ℕ) (off : ℕ) (new : List ℕ) (at : ℕ) → off + length new ≤ length bytes → (at < off) ⊎ (off + length new ≤ at)
    → get_or (overwritten bytes off new) at 0 ≡ get_or bytes at 0
left_at bytes off new at fits out =
    let before : length (take off bytes) ≡ off = simp (length-take) (omega (arith, fits)) in
    let both : length (take off bytes ++ new) ≡ off + length new = length-append (take off bytes) new ∙ ap (λ (n : ℕ). n + length new) before in
    elim out [
      | inl low ↦ get_or_append_left (take off bytes ++ new) (drop (off + length new) bytes) 0 at (omega (arith, both, low))
          ∙ get_or_append_left (take off bytes) new 0 at (omega (arith, before, low)) ∙ get_or-take off bytes at 0 low
      | inr high ↦ let back : off + length new + (at - (off + length new)) ≡ at = omega (arith, high) in
          get_or-append_right (take off bytes ++ new) (drop (off + length new) bytes) (off + length new) at 0 both high
          ∙ get_or-drop (off + length new) bytes (at - (off + length new)) 0 ∙ ap (λ (i : ℕ). get_or bytes i 0) back
    ]

-- a byte that a store writes is the same in all bytes of this length
pub written_same : (cell c off : ℕ) (new : List ℕ) (bytes other : List ℕ) (at : ℕ) → off + length new ≤ length bytes → length bytes ≡ length other
    → (nat_eq c cell && nat_le off at && nat_lt at (off + length new)) ≡ true → get_or (overwritten bytes off new) at 0 ≡ get_or (overwritten other off new) at 0
written_same cell c off new bytes other at fits long stores =
    let parts : ((nat_eq c cell && nat_le off at) ≡ true) × (nat_lt at (off + length new) ≡ true) = and_parts (nat_eq c cell && nat_le off at) (nat_lt at (off + length new)) stores in
    let above : nat_le off at ≡ true = (and_parts (nat_eq c cell) (nat_le off at) parts.0).1 in
    let below = parts.1 in
    let from : off ≤ at = grind (arith, nat_tests, above) in
    let to : at < off + length new = grind (arith, nat_tests, below) in
    written_at bytes off new at fits from to ∙ sym (written_at other off new at (omega (arith, fits, long)) from to)

-- a byte that a store doesn't write stays
pub unwritten : (cell off : ℕ) (new : List ℕ) (bytes : List ℕ) (at : ℕ) → off + length new ≤ length bytes
    → (nat_eq cell cell && nat_le off at && nat_lt at (off + length new)) ≡ false → get_or (overwritten bytes off new) at 0 ≡ get_or bytes at 0
unwritten cell off new bytes at fits not_stored = left_at bytes off new at fits (grind (arith, nat_tests, not_stored))

-- ---- bytes that are loaded

same_range : (bytes other : List ℕ) (off len : ℕ) → length bytes ≡ length other → off + len ≤ length bytes
    → ((at : ℕ) → off ≤ at → at < off + len → get_or bytes at 0 ≡ get_or other at 0) → slice_range bytes off (off + len) ≡ slice_range other off (off + len)
same_range bytes other off len long fits same =
    let count : length (slice_range bytes off (off + len)) ≡ len = simp (length-take, length-drop) (omega (arith, fits)) in
    let count' : length (slice_range other off (off + len)) ≡ len = simp (length-take, length-drop) (omega (arith, fits, long)) in
    let part : off + len - off ≡ len = omega arith in
    ext_get_or 0 (slice_range bytes off (off + len)) (slice_range other off (off + len)) (count ∙ sym count')
    (λ i below.
    let within : i < off + len - off = omega (arith, below, count) in
    get_or-take (off + len - off) (drop off bytes) i 0 within ∙ get_or-drop off bytes i 0
    ∙ same (off + i) (omega arith) (omega (arith, below, count))
    ∙ sym (get_or-take (off + len - off) (drop off other) i 0 within ∙ get_or-drop off other i 0))

-- ---- accesses

-- an access stored these bytes
pub record Stores (address : ℕ) (command : Command) (reply : Reply) (bytes next : List ℕ) : Type 0 where
  pub off : ℕ
  pub new : List ℕ
  pub fits : off + length new ≤ length bytes
  pub is : next ≡ overwritten bytes off new
  pub at_those : (at : ℕ) → stores_at (cell_of command) at command ≡ (nat_eq (cell_of command) (cell_of command) && nat_le off at && nat_lt at (off + length new))
  pub others : (other : List ℕ) → length bytes ≡ length other → accessed address command reply other ≡ Some (overwritten other off new)

-- an access left the bytes, and would answer so for all bytes that agree where it loads
pub record Leaves (address : ℕ) (command : Command) (reply : Reply) (bytes next : List ℕ) : Type 0 where
  pub is : next ≡ bytes
  pub no_store : (cell at : ℕ) → stores_at cell at command ≡ false
  pub others : (other : List ℕ) → length bytes ≡ length other
      → ((at : ℕ) → loads_at (cell_of command) at command ≡ true → get_or bytes at 0 ≡ get_or other at 0) → accessed address command reply other ≡ Some other

pub does : (address : ℕ) (command : Command) (reply : Reply) (bytes next : List ℕ) → accessed address command reply bytes ≡ Some next
    → Stores address command reply bytes next ⊎ Leaves address command reply bytes next
does address (Put cell off new) Done bytes next is = elim (tells (ends_past bytes off (length new.items))) [
  | inl past ↦ absurd (let none : None ≡ Some next = rw past at is in cc none)
  | inr inside ↦ (
      let fits : off + length new.items ≤ length bytes = grind (arith, nat_tests, inside) in
      let some : Some (overwritten bytes off new.items) ≡ Some next = rw inside at is in
      inl (record {
        off = off;
        new = new.items;
        fits = fits;
        is = cc some;
        at_those = λ at. refl;
        others = λ other long. (let inside' : ends_past other off (length new.items) ≡ false = grind (arith, nat_tests, fits, long) in rw inside' refl);
      }))
]
does address (Get cell off len) (Bytes told) bytes next is = elim (tells (not (ends_past bytes off len) && bytes_eq told.items (slice_range bytes off (off + len)))) [
  | inl right ↦ (
      let some : Some bytes ≡ Some next = rw right at is in
      let parts : (not (ends_past bytes off len) ≡ true) × (bytes_eq told.items (slice_range bytes off (off + len)) ≡ true) = and_parts _ _ right in
      let inside = parts.0 in
      let fits : off + len ≤ length bytes = grind (arith, nat_tests, inside) in
      let told_is = (bytes_eq-Decides told.items (slice_range bytes off (off + len))).0 parts.1 in
      inr (record {
        is = cc some;
        no_store = λ c at. refl;
        others = λ other long same. (
            let inside' : ends_past other off len ≡ false = grind (arith, nat_tests, fits, long) in
            let agree = same_range bytes other off len long fits (λ at from below. same at (grind (arith, nat_tests, from, below))) in
            let told' = (bytes_eq-Decides told.items (slice_range other off (off + len))).1 (told_is ∙ agree) in
            rw (inside', told') refl);
      }))
  | inr wrong ↦ absurd (let none : None ≡ Some next = rw wrong at is in cc none)
]
does address (Addr cell) (At told) bytes next is = elim (tells (nat_eq told address)) [
  | inl right ↦ (
      let some : Some bytes ≡ Some next = rw right at is in
      inr (record { is = cc some; no_store = λ c at. refl; others = λ other long same. rw right refl }))
  | inr wrong ↦ absurd (let none : None ≡ Some next = rw wrong at is in cc none)
]
does address command reply bytes next is = absurd (cc is)
