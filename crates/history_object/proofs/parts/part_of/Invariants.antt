use Rattle.std.proofs.Common.{◌≡◌, ℕ, length, true}
use Rattle.history_object.specs.Parts.{HasAllOf}
use Rattle.history_object.specs.Marks.{is_marked}
use Rattle.history_object.proofs.Inside.{unmarked_places}
use Rattle.history_object.proofs.parts.part_of.Given as goal

abbrev pub invariant-loop-next : goal.invariant-loop-next
invariant-loop-next g l = record {
  long : length l.looked ≡ 64;
  own : is_marked l.inside l.place ≡ true;
  closed : (q : ℕ) → is_marked l.looked q ≡ true → HasAllOf g.O.Calls.conflict l.pending q (is_marked l.inside);
}

abbrev pub decreases-loop-next : goal.decreases-loop-next
decreases-loop-next g l = unmarked_places l.looked
