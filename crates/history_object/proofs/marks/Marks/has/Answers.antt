use Rattle.std.proofs.Common.{List, Bool, ap, sym, ◌∙◌}
use Rattle.history_object.specs.Marks.{is_marked}
use Rattle.history_object.proofs.Words.{marked_bit}
use Rattle.history_object.proofs.marks.Marks.has.Goals as goal

pub returns : goal.returns
returns c = c.has_bit.ensures ∙ (sym (marked_bit c.self.inside.word c.args.place c.requires) ∙ ap (λ (xs : List Bool). is_marked xs c.args.place) c.self.view_is)
