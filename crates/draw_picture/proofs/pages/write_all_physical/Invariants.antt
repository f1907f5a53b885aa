use Rattle.std.proofs.Common.{◌≡◌, ◌++◌}
use Rattle.draw_picture.specs.Objects.{below}
use Rattle.draw_picture.specs.Pages.{physical_text}
use Rattle.draw_picture.proofs.pages.write_all_physical.Given as goal

abbrev pub invariant-loop-page : goal.invariant-loop-page
invariant-loop-page l = l.text.items ≡ l.initial.text.items ++ below l.page (physical_text l.scene.layout.now l.scene.now.now l.scene.before.now)
