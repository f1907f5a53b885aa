use Rattle.std.proofs.Common.{◌≡◌, ◌++◌, take}
use Rattle.std.specs.List.{flat_map}
use Rattle.draw_picture.specs.Pages.{unmapped_of_text}
use Rattle.draw_picture.proofs.pages.write_all_unmapped.Given as goal

abbrev pub invariant-loop-span : goal.invariant-loop-span
invariant-loop-span l =
    l.text.items
    ≡ l.initial.text.items ++ flat_map (unmapped_of_text l.scene.layout.now l.scene.now.now l.scene.before.now) (take l.span-index l.span-items)
