-- The points of a plan.
use Rattle.std.proofs.Common.{◌≡◌, ℕ, ◌<◌, ◌≤◌, Bool, true, false, List, Some, arith, length, nat_lt, slice_get, subst, sym}
use Rattle.std.proofs.lemmas.Grind.{common_steps}
use Rattle.draw_picture.specs.declared.frame.Frame.{Frame}
use Rattle.explore_otherwise.specs.Settings.{setting_of}
use Rattle.model_otherwise.specs.States.{State}
use Rattle.otherwise_frames.specs.Frames.{IsFrameOf}
use Rattle.otherwise_report.specs.Findings.{place_of}
use Rattle.otherwise_report.specs.Points.{IsPlan, IsPointAt, IsPointOf, place_behind}
use Rattle.otherwise_report.specs.declared.points.FoundPlan.{FoundPlan}

-- a number is less than another, or isn't
pub less : (a b : ℕ) → a < b → nat_lt a b ≡ true
less a b h = grind (arith, common_steps)

pub not_less : (a b : ℕ) → b ≤ a → nat_lt a b ≡ false
not_less a b h = grind (arith, common_steps)

-- what holds of the point by whether all moves are behind it
pub point_from : (plan : FoundPlan) (number : ℕ) → IsPlan plan → (s : State) (frame : Frame)
    → slice_get plan.reached.now.system.states (place_behind plan.moves.now number (place_of plan.finding.now)) ≡ Some s → IsFrameOf s frame → (b : Bool)
    → nat_lt (length plan.moves.now) number ≡ b → (words answer : List ℕ) (frame' : Frame)
    → IsPointAt (setting_of plan.setting.now) plan.reached.now.system.states plan.finding.now s plan.moves.now number b frame words answer frame'
    → IsPointOf plan number words answer frame'
point_from plan number is_plan s frame there shows b is words answer frame' point = record {
  is_plan = is_plan;
  s = s;
  there = there;
  frame = frame;
  shows = shows;
  point = subst
      (λ (c : Bool). IsPointAt (setting_of plan.setting.now) plan.reached.now.system.states plan.finding.now s plan.moves.now number c frame words answer frame')
      (sym is) point;
}
