-- Stores can have their effects in any state of an object, if they can have them in one.
use Rattle.std.proofs.Common.{◌≡◌, inl, inr, ℕ, ◌+◌, ◌≤◌, Bool, true, false, nat_lt, List, Some, None, length, if◌then◌else◌, ap, refl, sym, ◌∙◌, arith}
use Rattle.arrayvec.specs.ArrayVec.{ArrayVec}
use Rattle.model_intervals.specs.Objects.{ends_past}
use Rattle.history_object.specs.declared.access.Access.{Access}
use Rattle.history_object.specs.declared.access.Access.TheVariants.{Store, Load, Nothing, Elsewhere}
use Rattle.history_object.specs.Chunks.{stored}
use Rattle.history_object.specs.ObjectBytes.{State, answers, bytes_of, effect}
use Rattle.history_object.proofs.Lists.{tells}
use Rattle.history_object.proofs.Offsets.{bytes_of-length}
use Rattle.history_parts.specs.Aside.{IsPossible, IsSteady}

where_not : {X : Type 0} (b : Bool) (x t : X) → (if b then None else Some x) ≡ Some t → (b ≡ false) × (x ≡ t)
where_not true x t e = cc (e)
where_not false x t e = (refl, cc (e))

where_so : {X : Type 0} (b : Bool) (x t : X) → (if b then Some x else None) ≡ Some t → x ≡ t
where_so true x t e = cc (e)
where_so false x t e = cc (e)

-- an access leaves the number of bytes
len_stays : (s t : State) (access : Access) → effect s access ≡ Some t → s.len ≡ t.len
len_stays s t (Store off new) e =
    let made : State = record { len = s.len; chunks = stored s.chunks off new.items } in
    ap (λ (x : State). x.len) (where_not (ends_past (bytes_of s) off (length new.items)) made t e).1
len_stays s t (Load off len answered) e = ap (λ (x : State). x.len) (where_so (answers s off len answered.items) s t e)
len_stays s t Nothing e = let same : s ≡ t = cc (e) in ap (λ (x : State). x.len) same
len_stays s t (Elsewhere address) e = cc (e)

-- a store within the bytes can have its effect
pub store_fits : (s : State) (off : ℕ) (new : ArrayVec ℕ) → ends_past (bytes_of s) off (length new.items) ≡ false → IsPossible effect s (Store off new)
store_fits s off new within = (record { len = s.len; chunks = stored s.chunks off new.items }, rw within refl)

store_within : (s : State) (off : ℕ) (new : ArrayVec ℕ) → IsPossible effect s (Store off new) → ends_past (bytes_of s) off (length new.items) ≡ false
store_within s off new possible =
    let made : State = record { len = s.len; chunks = stored s.chunks off new.items } in
    (where_not (ends_past (bytes_of s) off (length new.items)) made possible.0 possible.1).0

same_ends : (s t : State) (off len : ℕ) → s.len ≡ t.len → ends_past (bytes_of s) off len ≡ ends_past (bytes_of t) off len
same_ends s t off len same =
    let lengths : length (bytes_of s) ≡ length (bytes_of t) = bytes_of-length s ∙ (same ∙ sym (bytes_of-length t)) in
    ap (λ (n : ℕ). nat_lt n (off + len)) lengths

pub store_steady : (off : ℕ) (new : ArrayVec ℕ) → IsSteady effect (Store off new)
store_steady off new s t other e =
    let same = same_ends s t off (length new.items) (len_stays s t other e) in (
      λ p. store_fits t off new (sym same ∙ store_within s off new p),
      λ p. store_fits s off new (same ∙ store_within t off new p),
    )

pub not_past : (bytes : List ℕ) (off len : ℕ) → off + len ≤ length bytes → ends_past bytes off len ≡ false
not_past bytes off len fits = elim (tells (ends_past bytes off len)) [
  | inl past ↦ absurd (grind (arith, past, fits))
  | inr within ↦ within
]
