use Rattle.std.proofs.Common.{◌∷◌, []}
use Rattle.std.specs.Prelude.{codes}
use Rattle.model_jobs.specs.Texts.{ended}
use Rattle.explore_verdict.specs.Pieces.{plain, shown}
use Rattle.explore_verdict.proofs.Runs.{has_both, has_plain, has_shown}
use Rattle.explore_verdict.proofs.report.add_shown.Goals as goal

pub returns : goal.returns
returns c =
    let reached = c.args.reached.now in let x = reached.system.setting in
    let old = c.args.text.now.items in let mid = c.extend_from_slice.new.self.items in let new = c.add_outcome.new.text.items in
    has_both x reached (plain (ended (codes "unexpected:")) ∷ []) (shown c.args.number c.args.outcome ∷ []) old mid new
    (has_plain x reached old mid (ended (codes "unexpected:")) c.in_ok-extend_from_slice.ensures.items)
    (has_shown x reached mid new c.args.number c.args.outcome c.in_ok-add_outcome.ensures)
