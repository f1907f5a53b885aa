use Rattle.std.proofs.Common.{◌≡◌, ◌++◌, length}
use Rattle.draw_picture.specs.Cards.{bars_text}
use Rattle.draw_picture.proofs.card.write_bars.Given as goal

abbrev pub invariant-loop-rest : goal.invariant-loop-rest
invariant-loop-rest l = l.text.items ++ bars_text l.scene.now.now l.scene.layout.now.card l.y l.rest ≡ l.initial.text.items ++ bars_text l.scene.now.now l.scene.layout.now.card l.top l.scene.now.now.meshes.items

abbrev pub decreases-loop-rest : goal.decreases-loop-rest
decreases-loop-rest l = length l.rest
