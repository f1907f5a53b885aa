-- Which live object has an address of a range.
use Rattle.std.proofs.Common.{◌≡◌, ℕ, ◌+◌, ◌<◌, ◌≤◌, inl, inr, arith, subst, Option, Some, None}
use Rattle.std.proofs.lemmas.Bool.Decides.{eqb_tells}
use Rattle.history_overlaps.specs.Ends.{AreDisjoint, IsNearest, Misses}
use Rattle.history_overlaps.specs.declared.life.Life.{Life}
use Rattle.history_overlaps.specs.declared.objects.NewObject.{NewObject}

module _ (lives : ℕ → Option Life) (starts : ℕ → Option ℕ) (object : NewObject) (last : ℕ) (is_last : last + 1 ≡ object.address + object.len) where
  -- nothing begins by the last address
  pub none_begins : IsNearest starts last None → AreDisjoint lives starts → Misses lives object
  none_begins none are c life is meet =
      let low = meet.0 in let at = are.started c life is in let no = none life.object.address (omega (arith, low, is_last)) in cc (at, no)

  module _ (cell : ℕ) (near : IsNearest starts last (Some cell)) where
    -- what is nearest is live
    pub nearest_lives : lives cell ≡ None → AreDisjoint lives starts → Misses lives object
    nearest_lives none are c life is meet = let found = are.starts_of near.0 cell near.2 in let some = found.1 in cc (none, some)

    module _ (other : Life) (alive : lives cell ≡ Some other) where
      start_is : AreDisjoint lives starts → other.object.address ≡ near.0
      start_is are = let found = are.starts_of near.0 cell near.2 in
          let some = found.1 in let same : found.0 ≡ other = cc (some, alive) in subst (λ (l : Life). l.object.address ≡ near.0) same found.2

      -- it begins by the last address
      pub nearest_begins : last < other.object.address → AreDisjoint lives starts → Misses lives object
      nearest_begins past are c life is meet = let at = start_is are in let low = near.1 in omega (arith, at, low, past)

      -- where it ends before the range, no live object has an address of it
      pub nearest_ends : other.object.address + other.object.len ≤ object.address → AreDisjoint lives starts → Misses lives object
      nearest_ends before are c life is meet = elim (eqb_tells c cell) [
        | inl same ↦
            let is' = subst (λ (q : ℕ). lives q ≡ Some life) same.1 is in
            let one : life ≡ other = cc (is', alive) in
            let high = subst (λ (l : Life). object.address < l.object.address + l.object.len) one meet.1 in omega (arith, high, before)
        | inr two ↦
            let at = start_is are in
            let low = meet.0 in
            let first = near.3 life.object.address c (omega (arith, low, is_last)) (are.started c life is) in
            let some = are.filled cell other alive in
            let high = meet.1 in
            are.apart c cell life other two.1 is alive (omega (arith, first, at, some), omega (arith, high, before, some))
      ]
