use Rattle.std.proofs.Common.{sym, ◌∙◌}
use Rattle.mesh_class.proofs.ClassLemmas.{IsClass-row, index_few, one_at}
use Rattle.mesh_class.proofs.classes.Class.index.Goals as goal

pub returns-clause-few : goal.returns-clause-few
returns-clause-few c = rw (← c.self.invariant.1) (index_few c.self.inside.size _ c.self.invariant.0)

pub returns-clause-one : goal.returns-clause-one
returns-clause-one c = λ size is at.
    let class = IsClass-row c.self.inside.size c.self.inside.pages c.self.inside.slots c.self.invariant.0 in
    rw (← c.self.view_is) (one_at size c.self.inside.size is class (at ∙ sym c.self.invariant.1))
