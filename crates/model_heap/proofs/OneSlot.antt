-- A live object stands in one slot.
use Rattle.std.proofs.Common.{◌≡◌, ◌≢◌, ℕ, zero, suc, ◌+◌, ◌≤◌, List, [], ◌∷◌, map, find, slice_get, slice_set, ap, refl, sym, ◌∙◌, arith, inl, inr, Option, Some, None}
use Rattle.std.proofs.lemmas.Bool.Decides.{eqb_tells}
use Rattle.model_heap.proofs.Apart.{places_apart, filled_place}
use Rattle.model_heap.proofs.GroupLists.{find_sound, head_found}
use Rattle.model_heap.proofs.Records.{found_later}
use Rattle.model_memory.specs.Memory.{Memory, Object, object_of}
use Rattle.model_heap.specs.Sound.{AscendBetween, IsLiveSlot, IsSound, IsSoundSlot, IsTied}
use Rattle.model_heap.specs.Table.{Group, Slot, Table, changed_at, emptied_of, group_of, group_without, has_number, slot_address, emptied_at}
use Rattle.model_heap.specs.TableLaws.{AreApart}

-- two changes that agree on each of ascending groups leave the same groups
maps_found : (f g : Group → Group) (low high : ℕ) (gs : List Group) → AscendBetween low gs high
    → ((h : Group) → find (has_number h.number) gs ≡ Some h → f h ≡ g h) → map f gs ≡ map g gs
maps_found f g low high [] ascend h = refl
maps_found f g low high (x ∷ xs) ascend h = let first : f x ≡ g x = h x (head_found x.number x xs refl) in
    let rest : map f xs ≡ map g xs = maps_found f g (x.number + 1) high xs ascend.1 (λ y found. h y (found_later low high x xs y ascend found)) in cc

-- slots emptied of an object that is in none of them stay
emptied_none : (serial : ℕ) (slots : List (Option Slot)) → ((j : ℕ) (x : Slot) → slice_get slots j ≡ Some (Some x) → x.serial ≢ serial)
    → map (emptied_of serial) slots ≡ slots
emptied_none serial [] none = refl
emptied_none serial (None ∷ slots) none =
    ap (λ (ys : List (Option Slot)). None ∷ ys) (emptied_none serial slots (λ j x at. none (suc j) x at))
emptied_none serial (Some y ∷ slots) none = elim (eqb_tells y.serial serial) [
  | inl same ↦ absurd (none 0 y refl same.1)
  | inr other ↦ rw other.0 (ap (λ (ys : List (Option Slot)). Some y ∷ ys) (emptied_none serial slots (λ j x at. none (suc j) x at)))
]

-- nothing put into the one slot of an object empties the slots of it
emptied_one : (serial : ℕ) (slots : List (Option Slot)) (k : ℕ) (slot : Slot) → slice_get slots k ≡ Some (Some slot) → slot.serial ≡ serial
    → ((j : ℕ) (x : Slot) → slice_get slots j ≡ Some (Some x) → x.serial ≡ serial → k ≡ j) → slice_set slots k None ≡ map (emptied_of serial) slots
emptied_one serial [] k slot filled is one = absurd (cc)
emptied_one serial (None ∷ slots) zero slot filled is one = absurd (cc)
emptied_one serial (Some y ∷ slots) zero slot filled is one = let here : Some (Some y) ≡ Some (Some slot) = filled in let same : y ≡ slot = cc in
    elim (eqb_tells y.serial serial) [
      | inl of ↦ rw of.0 (ap (λ (ys : List (Option Slot)). None ∷ ys)
          (sym (emptied_none serial slots (λ j x at e. let clash : 0 ≡ suc j = one (suc j) x at e in omega (arith, clash)))))
      | inr other ↦ absurd (other.1 (ap (λ (x : Slot). x.serial) same ∙ is))
    ]
emptied_one serial (None ∷ slots) (suc k) slot filled is one = ap (λ (ys : List (Option Slot)). None ∷ ys)
    (emptied_one serial slots k slot filled is (λ j x at e. let next : suc k ≡ suc j = one (suc j) x at e in omega (arith, next)))
emptied_one serial (Some y ∷ slots) (suc k) slot filled is one = elim (eqb_tells y.serial serial) [
  | inl same ↦ let clash : suc k ≡ 0 = one 0 y refl same.1 in absurd (omega (arith, clash))
  | inr other ↦ rw other.0 (ap (λ (ys : List (Option Slot)). Some y ∷ ys)
      (emptied_one serial slots k slot filled is (λ j x at e. let next : suc k ≡ suc j = one (suc j) x at e in omega (arith, next))))
]

-- ranges from one address on are not apart
not_apart : (a c b d : ℕ) → AreApart a c b d → a ≡ b → 1 ≤ c → 1 ≤ d → ⊥
not_apart a c b d (inl low) same some some' = omega (arith, low, same, some)
not_apart a c b d (inr high) same some some' = omega (arith, high, same, some')

-- slots of one live object are one
one_place : (m : Memory) (t : Table) (n k n' k' : ℕ) (g g' : Group) (s s' : Slot) → IsSound t → IsTied m t → group_of t n ≡ Some g
    → slice_get g.slots k ≡ Some (Some s) → group_of t n' ≡ Some g' → slice_get g'.slots k' ≡ Some (Some s') → s.serial ≡ s'.serial
    → (n ≡ n') × (k ≡ k')
one_place m t n k n' k' g g' s s' sound tied there filled there' filled' same = grind (arith, apart)
  where
    live : IsLiveSlot m g.class k s
    live = tied.slots n k g s there filled

    live' : IsLiveSlot m g'.class k' s'
    live' = tied.slots n' k' g' s' there' filled'

    object : live.object ≡ live'.object
    object = let both : Some live.object ≡ Some live'.object = sym live.live ∙ ap (λ (x : ℕ). object_of m x) same ∙ live'.live in cc both

    address : slot_address s.member g.class k ≡ slot_address s'.member g'.class k'
    address = sym live.address ∙ ap (λ (x : Object). x.address) object ∙ live'.address

    kept : IsSoundSlot g s
    kept = (find_sound (has_number n) t.groups g there sound.groups).objects k s filled

    kept' : IsSoundSlot g' s'
    kept' = (find_sound (has_number n') t.groups g' there' sound.groups).objects k' s' filled'

    apart : (n ≡ n' → k ≢ k') → ⊥
    apart other =
        let some = kept.some in let fits = kept.fits in let some' = kept'.some in let fits' = kept'.fits in
        not_apart (slot_address s.member g.class k) g.class (slot_address s'.member g'.class k') g'.class
        (places_apart t n n' k k' s.member s'.member g g' sound (filled_place t n k g s sound there filled) (filled_place t n' k' g' s' sound there' filled')
        other)
        address (omega (arith, some, fits)) (omega (arith, some', fits'))

-- an object stands in one slot, so emptying this slot takes the object out
pub one_slot : (m : Memory) (t : Table) (n k : ℕ) (group : Group) (slot : Slot) → IsSound t → IsTied m t → group_of t n ≡ Some group
    → slice_get group.slots k ≡ Some (Some slot) → map (changed_at n (emptied_at k)) t.groups ≡ map (group_without slot.serial) t.groups
one_slot m t n k group slot sound tied there filled =
    maps_found (changed_at n (emptied_at k)) (group_without slot.serial) 0 t.next_span t.groups sound.numbers same
  where
    same : (h : Group) → group_of t h.number ≡ Some h → changed_at n (emptied_at k) h ≡ group_without slot.serial h
    same h found = grind (arith, emptied_one slot.serial h.slots k slot, one_place m t n k h.number, emptied_none slot.serial h.slots)
