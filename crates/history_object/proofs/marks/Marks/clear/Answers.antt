use Rattle.std.proofs.Common.{List, Bool, false, slice_set, ap, ◌∙◌}
use Rattle.history_object.proofs.Words.{marks_put}
use Rattle.history_object.proofs.marks.Marks.clear.Goals as goal

pub returns : goal.returns
returns c = marks_put c.self.inside.word c.without_bit-self-inside.result c.args.place false c.requires c.without_bit-self-inside.ensures.here c.without_bit-self-inside.ensures.others
    ∙ ap (λ (xs : List Bool). slice_set xs c.args.place false) c.self.view_is
