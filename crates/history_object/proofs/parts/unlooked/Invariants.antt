use Rattle.std.proofs.Common.{◌≡◌, ℕ, ◌<◌, true}
use Rattle.history_object.specs.Marks.{is_marked}
use Rattle.history_object.proofs.parts.unlooked.Given as goal

abbrev pub invariant-loop-place : goal.invariant-loop-place
invariant-loop-place l = (n : ℕ) → n < l.place → is_marked l.inside n ≡ true → is_marked l.looked n ≡ true
