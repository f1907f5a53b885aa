use Rattle.std.proofs.Common.{ℕ, ◌≤◌, List}
use Rattle.history_object.specs.declared.access.Access.{Access}
use Rattle.history_object.specs.TimedCalls.{Timed}
use Rattle.history_overlaps.specs.Followed.{AreOf, IsUpTo}
use Rattle.history_overlaps.proofs.OpenCalls.{open_count}
use Rattle.history_overlaps.proofs.own_orders.end_before.Given as goal

abbrev pub invariant-loop-number : goal.invariant-loop-number
invariant-loop-number l = (len earlier : ℕ) (timeds : List (Timed Access)) → AreOf l.calls timeds → earlier ≤ l.moment → IsUpTo len timeds earlier l.initial.judge
    → IsUpTo len timeds l.moment l.judge

abbrev pub decreases-loop-number : goal.decreases-loop-number
decreases-loop-number l = open_count l.judge.judge.numbers
