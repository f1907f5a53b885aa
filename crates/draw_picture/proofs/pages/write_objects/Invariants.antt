use Rattle.std.proofs.Common.{◌≡◌, ◌++◌, take}
use Rattle.std.specs.List.{flat_map}
use Rattle.draw_picture.specs.Pages.{object_text}
use Rattle.draw_picture.proofs.pages.write_objects.Given as goal

abbrev pub invariant-loop-object : goal.invariant-loop-object
invariant-loop-object l = l.text.items ≡ l.initial.text.items ++ flat_map (object_text l.span l.place l.page) (take l.object-index l.object-items)
