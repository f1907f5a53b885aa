use Rattle.std.proofs.Common.{◌≡◌, ◌++◌}
use Rattle.draw_picture.specs.Objects.{below}
use Rattle.draw_picture.specs.Pages.{unmapped_text}
use Rattle.draw_picture.proofs.pages.write_unmapped_pages.Given as goal

abbrev pub invariant-loop-place : goal.invariant-loop-place
invariant-loop-place l = l.text.items ≡ l.initial.text.items ++ below l.place (unmapped_text l.scene.layout.now l.scene.now.now l.scene.before.now l.span)
