-- What an access does to the state of an object is what it does to the bytes.
use Rattle.std.proofs.Common.{◌≡◌, ℕ, ◌+◌, ◌≤◌, Bool, true, false, not, ◌&&◌, if◌then◌else◌, nat_eq, List, Some, None, length, refl, ap, arith, suc, inl, inr}
use Rattle.std.specs.Prelude.{option_map, slice_range}
use Rattle.std.specs.Str.{bytes_eq}
use Rattle.std.proofs.lemmas.Bool.Decides.{leb_tells}
use Rattle.model_intervals.specs.Objects.{ends_past}
use Rattle.history_object.specs.declared.access.Access.TheVariants.{Store, Load, Nothing, Elsewhere}
use Rattle.history_object.specs.ObjectBytes.{EffectIsAccess, State, bytes_of}
use Rattle.history_object.proofs.Offsets.{bytes_of-length}
use Rattle.history_object.proofs.Stored.{stored_is_overwritten}

-- bytes that are loaded stay
loaded : (state : State) (right : Bool) → option_map bytes_of (if right then Some state else None) ≡ (if right then Some (bytes_of state) else None)
loaded state true = refl
loaded state false = refl

pub effect_is_access : EffectIsAccess
effect_is_access state (Store off new) = elim (leb_tells (suc (length (bytes_of state))) (off + length new.items)) [
  | inl past ↦ rw past.0 refl
  | inr within ↦
      (let fits : off + length new.items ≤ state.len = (let w = within.1 in let l = bytes_of-length state in omega (arith, w, l)) in
      rw within.0 (ap (λ (xs : List ℕ). Some xs) (stored_is_overwritten state.len state.chunks off new.items fits)))
]
effect_is_access state (Load off len answered) =
    loaded state (nat_eq len (length answered.items) && (not (ends_past (bytes_of state) off (length answered.items))
    && bytes_eq answered.items (slice_range (bytes_of state) off (off + length answered.items))))
effect_is_access state Nothing = refl
effect_is_access state (Elsewhere address) = refl
