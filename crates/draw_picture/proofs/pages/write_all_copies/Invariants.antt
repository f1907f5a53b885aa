use Rattle.std.proofs.Common.{◌≡◌, ◌++◌, take}
use Rattle.std.specs.List.{flat_map}
use Rattle.draw_picture.specs.Pages.{copies_text}
use Rattle.draw_picture.proofs.pages.write_all_copies.Given as goal

abbrev pub invariant-loop-mesh : goal.invariant-loop-mesh
invariant-loop-mesh l = l.text.items ≡ l.initial.text.items ++ flat_map (copies_text l.frame l.width l.home) (take l.mesh-index l.mesh-items)
