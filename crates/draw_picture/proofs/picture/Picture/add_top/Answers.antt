use Rattle.std.proofs.Common.{[]}
use Rattle.draw_picture.proofs.Heads.{adds_if_failed}
use Rattle.draw_picture.proofs.picture.Picture.add_top.Goals as goal

pub returns-in-Err : goal.returns-in-Err
returns-in-Err c = record { all = c.args.all; legend = []; adds = adds_if_failed _ _ _ c.refuse.ensures }
