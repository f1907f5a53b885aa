use Rattle.std.proofs.Common.{List, Bool, true, slice_set, ap, ◌∙◌}
use Rattle.history_object.proofs.Words.{marks_put}
use Rattle.history_object.proofs.marks.Marks.set.Goals as goal

pub returns : goal.returns
returns c = marks_put c.self.inside.word c.with_bit-self-inside.result c.args.place true c.requires c.with_bit-self-inside.ensures.here c.with_bit-self-inside.ensures.others
    ∙ ap (λ (xs : List Bool). slice_set xs c.args.place true) c.self.view_is
