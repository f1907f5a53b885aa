-- What a heap means once a new object is placed in its table.
use Rattle.std.proofs.Common.{◌≡◌, ◌≢◌, ℕ, zero, suc, ◌+◌, ◌<◌, Bool, List, [], ◌∷◌, ◌++◌, length, map, find, flat_map, replicate, slice_get, slice_set, IsSome, option_map, ap, refl, sym, ◌∙◌, arith, inl, inr, Option, Some, None, Ok, append-nil}
use Rattle.std.specs.List.{range_with_len}
use Rattle.std.specs.Option.{option_or}
use Rattle.std.proofs.lemmas.Bool.Decides.{nat_tests, eqb_tells}
use Rattle.std.proofs.lemmas.Grind.{flat_map-append}
use Rattle.std.proofs.lemmas.List.Folds.{find-append}
use Rattle.std.proofs.lemmas.List.FromFn.{map-range_with_len_more}
use Rattle.model_heap.proofs.Apart.{picked_free}
use Rattle.model_heap.proofs.GroupLists.{ascend_more}
use Rattle.model_heap.proofs.Meanings.{made_same, record_same}
use Rattle.model_heap.proofs.NewObjects.{by_place}
use Rattle.model_heap.proofs.Records.{found_later}
use Rattle.model_heap.proofs.TableChanges.{one_group}
use Rattle.model_heap.proofs.TiedNewObjects.{fresh_open, spanned_found}
use Rattle.model_words.specs.Classes.{row_of, slots_of}
use Rattle.model_memory.specs.Memory.{Memory, Object, with_new}
use Rattle.model_heap.specs.Places.{Place, Record, Target, byte_of, has_serial, meaning, object_at, records_from, records_of, AreBelow, IsIn, record_in, record_with, records_in}
use Rattle.model_heap.specs.Sound.{AscendBetween, IsSound}
use Rattle.model_heap.specs.Table.{Group, Placed, Slot, Table, changed_at, first_member, fresh_group, group_of, has_number, object_count, picked_slot, place_new, placed_in, with_object_in, with_span}

-- an object put into a free slot leaves the record of another as before
others_put : (s class from : ℕ) (slots : List (Option Slot)) (k : ℕ) (slot : Slot) → slice_get slots k ≡ Some None → slot.serial ≢ s
    → find (has_serial s) (records_from class from (slice_set slots k (Some slot))) ≡ find (has_serial s) (records_from class from slots)
others_put s class from [] k slot free apart = refl
others_put s class from (None ∷ slots) zero slot free apart = grind arith
others_put s class from (Some x ∷ slots) zero slot free apart = absurd (cc)
others_put s class from (None ∷ slots) (suc k) slot free apart = others_put s class (from + 1) slots k slot free apart
others_put s class from (Some x ∷ slots) (suc k) slot free apart = grind (arith, nat_tests, others_put s class (from + 1) slots k slot free apart)

-- an object put into a free slot, where no record has its serial, has the slot's record
one_put : (class from : ℕ) (slots : List (Option Slot)) (k : ℕ) (slot : Slot) → slice_get slots k ≡ Some None
    → find (has_serial slot.serial) (records_from class from slots) ≡ None
    → find (has_serial slot.serial) (records_from class from (slice_set slots k (Some slot))) ≡ Some (record_in class (from + k) slot)
one_put class from [] k slot free none = absurd (cc)
one_put class from (None ∷ slots) zero slot free none = grind arith
one_put class from (Some x ∷ slots) zero slot free none = absurd (cc)
one_put class from (None ∷ slots) (suc k) slot free none = grind (arith, nat_tests, one_put class (from + 1) slots k slot free none)
one_put class from (Some x ∷ slots) (suc k) slot free none = grind (arith, nat_tests, one_put class (from + 1) slots k slot free)

-- where each of ascending groups has a record as before its change, so have all
found_kept : (test : Record → Bool) (change : Group → Group) (low high : ℕ) (gs : List Group) → AscendBetween low gs high
    → ((h : Group) → find (has_number h.number) gs ≡ Some h → find test (records_in (change h)) ≡ find test (records_in h))
    → find test (flat_map records_in (map change gs)) ≡ find test (flat_map records_in gs)
found_kept test change low high [] ascend h = refl
found_kept test change low high (x ∷ xs) ascend h =
    grind (arith, find-append, found_kept test change (x.number + 1) high xs ascend.1, found_later low high x xs)

-- neither option has a value
neither_some : (o p : Option Record) → option_or o p ≡ None → (o ≡ None) × (p ≡ None)
neither_some None p h = (refl, h)
neither_some (Some x) p h = absurd (cc)

-- an object put into a free slot of a group, where no record has its serial, has the slot's record
group_put : (n : ℕ) (gs : List Group) (g : Group) (k : ℕ) (slot : Slot) → find (has_number n) gs ≡ Some g → slice_get g.slots k ≡ Some None
    → find (has_serial slot.serial) (flat_map records_in gs) ≡ None
    → find (has_serial slot.serial) (flat_map records_in (map (changed_at n (with_object_in k slot)) gs)) ≡ Some (record_in g.class k slot)
group_put n [] g k slot found free none = absurd (cc)
group_put n (x ∷ xs) g k slot found free none = grind (
  arith,
  nat_tests,
  neither_some (find (has_serial slot.serial) (records_in x)) (find (has_serial slot.serial) (flat_map records_in xs)),
  find-append (has_serial slot.serial) (records_in (with_object_in k slot x)),
  one_put x.class 0 x.slots k slot,
  find-append (has_serial slot.serial) (records_in x),
  group_put n xs g k slot,
)

-- the new object's record comes to those that there were
record HasNewRecord (t : Table) (placed : Placed) (serial len : ℕ) : Type 0 where
  new : record_with serial (records_of t) ≡ None
      → record_with serial (records_of placed.table) ≡ Some (record { serial = serial; address = placed.address; len = len })
  others : (s : ℕ) → serial ≢ s → record_with s (records_of placed.table) ≡ record_with s (records_of t)

-- an object put into the slot that the word picks in a group with a free one
placed_record : (t : Table) (g : Group) (word serial len : ℕ) → AscendBetween 0 t.groups t.next_span → group_of t g.number ≡ Some g
    → object_count g < length g.slots → HasNewRecord t (placed_in t g word serial len) serial len
placed_record t g word serial len ascend is some = record {
  new = λ none. group_put g.number t.groups g k slot is free none;
  others = λ s apart. found_kept (has_serial s) (changed_at g.number (with_object_in k slot)) 0 t.next_span t.groups ascend (kept s apart);
}
  where
    k : ℕ
    k = picked_slot g word

    slot : Slot
    slot = record { member = first_member g; serial = serial; len = len }

    free : slice_get g.slots k ≡ Some None
    free = picked_free g word some

    kept : (s : ℕ) → serial ≢ s → (h : Group) → group_of t h.number ≡ Some h
        → find (has_serial s) (records_in (changed_at g.number (with_object_in k slot) h)) ≡ find (has_serial s) (records_in h)
    kept s apart h found = elim (eqb_tells h.number g.number) [
      | inl here ↦ let same : h ≡ g = one_group t g.number h g (ap (λ (n : ℕ). group_of t n) (sym here.1) ∙ found) is in
          rw here.0 (others_put s h.class 0 h.slots k slot (ap (λ (x : Group). slice_get x.slots k) same ∙ free) apart)
      | inr off ↦ rw off.0 refl
    ]

-- free slots have no record
free_recordless : (class from n : ℕ) → records_from class from (replicate n None) ≡ []
free_recordless class from zero = refl
free_recordless class from (suc n) = free_recordless class (from + 1) n

-- a new span has no record
span_recordless : (t : Table) (class : ℕ) → records_of (with_span t class) ≡ records_of t
span_recordless t class = let fresh : Group = fresh_group t.next_span class t.next_page in
    flat_map-append records_in t.groups (fresh ∷ [])
    ∙ ap (λ (rs : List Record). records_of t ++ (rs ++ [])) (free_recordless class 0 (slots_of class)) ∙ append-nil (records_of t)

-- an object put into a new span
spanned_record : (t : Table) (class word serial len : ℕ) → IsSound t → IsSome (row_of class)
    → HasNewRecord t (placed_in (with_span t class) (fresh_group t.next_span class t.next_page) word serial len) serial len
spanned_record t class word serial len sound row =
    let fresh : Group = fresh_group t.next_span class t.next_page in
    let same = span_recordless t class in
    let placed = placed_record (with_span t class) fresh word serial len (ascend_more 0 t.next_span t.groups fresh refl sound.numbers) (spanned_found t class sound)
    (fresh_open t.next_span class t.next_page row) in record {
      new = λ none. placed.new (ap (λ (rs : List Record). record_with serial rs) same ∙ none);
      others = λ s apart. placed.others s apart ∙ ap (λ (rs : List Record). record_with s rs) same;
    }

-- a new object's record comes to those that there were
new_record : (t : Table) (len word serial : ℕ) (placed : Placed) → IsSound t → place_new t len word serial ≡ Ok placed → HasNewRecord t placed serial len
new_record t len word serial placed sound = by_place (λ (x : Placed). HasNewRecord t x serial len) t len word serial placed sound
    (λ class g at. placed_record t g word serial len sound.numbers at.there at.is_open.some_slot)
    (λ class at. spanned_record t class word serial len sound at.row)

-- a list made from a range of numbers that make zeros
zeros_made : (f : ℕ → ℕ) (a n : ℕ) → ((k : ℕ) → k < n → f (a + k) ≡ 0) → map f (range_with_len a n) ≡ replicate n 0
zeros_made f a zero h = refl
zeros_made f a (suc n) h = let on : a ≡ a + 0 = omega arith in let first : f a ≡ 0 = ap f on ∙ h 0 (omega arith) in
    let rest : map f (range_with_len (a + 1) n) ≡ replicate n 0
    = zeros_made f (a + 1) n (λ k below. let next : a + 1 + k ≡ a + suc k = omega arith in ap f next ∙ h (suc k) (omega (arith, below))) in cc

-- an object placed in a sound table, whose places hold zeros while those of all live bytes stay, is made
pub new_means : (next : ℕ) (t : Table) (targets targets' : ℕ → Target) (bytes bytes' : Place → ℕ) (roots : List (Option ℕ)) (len word : ℕ)
    (placed : Placed) → IsSound t → AreBelow next (records_of t) → place_new t len word next ≡ Ok placed
    → ((k : ℕ) → k < len → byte_of targets' bytes' (placed.address + k) ≡ 0)
    → ((serial x : ℕ) (r : Record) → record_with serial (records_of t) ≡ Some r → IsIn r x → byte_of targets' bytes' x ≡ byte_of targets bytes x)
    → meaning (next + 1) (records_of placed.table) targets' bytes' roots
    ≡ with_new (meaning next (records_of t) targets bytes roots) len placed.address
new_means next t targets targets' bytes bytes' roots len word placed sound below went zeros kept =
    ap {B = Memory} (λ (os : List (Option Object)). record { objects = os; roots = roots })
    (map-range_with_len_more after 0 next next (omega arith)
    ∙ ap (λ (os : List (Option Object)). os ++ after next ∷ []) (made_same after before 0 next (λ i low high. old i (omega (arith, high))))
    ∙ ap (λ (o : Option Object). map before (range_with_len 0 next) ++ o ∷ []) last)
  where
    before : ℕ → Option Object
    before serial = option_map (object_at targets bytes) (record_with serial (records_of t))

    after : ℕ → Option Object
    after serial = option_map (object_at targets' bytes') (record_with serial (records_of placed.table))

    is : HasNewRecord t placed next len
    is = new_record t len word next placed sound went

    old : (i : ℕ) → i < next → after i ≡ before i
    old i low = ap (option_map (object_at targets' bytes')) (is.others i (λ e. omega (arith, e, low)))
        ∙ record_same targets targets' bytes bytes' (record_with i (records_of t)) (λ x r found within. kept i x r found within)

    last : after next ≡ Some (record { address = placed.address; bytes = replicate len 0 })
    last = ap (option_map (object_at targets' bytes')) (is.new (below next (omega arith)))
        ∙ ap {B = Option Object} (λ (bs : List ℕ). Some (record { address = placed.address; bytes = bs }))
        (zeros_made (byte_of targets' bytes') placed.address len zeros)
