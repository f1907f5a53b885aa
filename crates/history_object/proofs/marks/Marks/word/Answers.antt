use Rattle.std.proofs.Common.{List, Bool, ap, sym, ◌∙◌}
use Rattle.history_object.specs.Marks.{word_of}
use Rattle.history_object.proofs.Words.{word_again}
use Rattle.history_object.proofs.marks.Marks.word.Goals as goal

pub returns : goal.returns
returns c = sym (word_again c.self.inside.word c.self.invariant) ∙ ap (λ (xs : List Bool). word_of xs) c.self.view_is
