use Rattle.std.proofs.Common.{◌≡◌, ℕ, ◌<◌, Some, false, true}
use Rattle.history_object.specs.Marks.{is_marked}
use Rattle.history_object.specs.Standings.{call_at}
use Rattle.history_object.proofs.parts.add_conflicting.Given as goal

abbrev pub invariant-loop-place : goal.invariant-loop-place
invariant-loop-place g l = record {
  stay : (n : ℕ) → is_marked l.initial.inside n ≡ true → is_marked l.inside n ≡ true;
  all : (p : ℕ) (a b : g.row.O-Call.Denot) → p < l.place → is_marked l.inside p ≡ false → call_at l.pending p ≡ Some a → call_at l.pending l.next ≡ Some b
      → g.O.Calls.conflict a b ≡ false;
}
