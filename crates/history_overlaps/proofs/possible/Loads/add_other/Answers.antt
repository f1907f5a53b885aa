use Rattle.std.proofs.Common.{◌≡◌, ◌≢◌, ◌∙◌, IfSome, Option, length, subst, ℕ}
use Rattle.std.proofs.lemmas.Result.{on_ok_weaker}
use Rattle.arrayvec.specs.ArrayVec.{ArrayVec}
use Rattle.history_overlaps.proofs.KeptLoads.{more_loads}
use Rattle.history_overlaps.proofs.possible.Loads.add_other.Goals as goal

pub returns : goal.returns
returns c =
    let long : length c.in-Some.load.items ≡ c.args.len =
    subst (λ (o : Option (ArrayVec ℕ)). IfSome o (λ load. length load.items ≡ c.args.len)) c.in-Some.is c.requires in
    let apart : c.in-Some.load.items ≢ c.args.answered.now =
    λ same. let yes = c.are_equal.ensures.1 (c.as_slice.ensures.value ∙ same) in let no = c.if-are_equal.false in cc (yes, no) in
    on_ok_weaker c.add.result
    (λ more are. more_loads c.args.len c.args.answered.now c.args.self.now c.add.new.self c.in-Some.load are long apart more) c.add.ensures
