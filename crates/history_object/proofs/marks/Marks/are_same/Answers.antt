use Rattle.std.proofs.Common.{ap, sym, ◌∙◌, eq-eqb}
use Rattle.std.proofs.lemmas.Bool.{eqb-true}
use Rattle.history_object.specs.Marks.{marks_in}
use Rattle.history_object.proofs.Words.{same_words}
use Rattle.history_object.proofs.marks.Marks.are_same.Goals as goal

pub returns : goal.returns
returns c = (
  λ told. sym c.self.view_is ∙ (ap (λ n. marks_in n) (eqb-true c.self.inside.word c.other.inside.word told) ∙ c.other.view_is),
  λ same. eq-eqb c.self.inside.word c.other.inside.word (same_words c.self.inside.word c.other.inside.word c.self.invariant c.other.invariant
      (c.self.view_is ∙ (same ∙ sym c.other.view_is))),
)
