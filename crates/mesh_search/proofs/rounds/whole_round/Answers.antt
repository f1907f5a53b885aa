use Rattle.std.proofs.Common.{◌≡◌, Bool, List, IfOk, subst}
use Rattle.mesh_search.proofs.RoundTries.{whole_answers}
use Rattle.mesh_search.proofs.rounds.whole_round.Goals as goal

pub returns : goal.returns
returns c =
    subst (λ (bs : List Bool). IfOk c.answers_of.result (λ v. v.items ≡ bs))
    (whole_answers c.count_tries-tries.result c.args.round c.args.view.now c.args.left.now c.args.right.now c.count_tries-tries.ensures) c.answers_of.ensures
