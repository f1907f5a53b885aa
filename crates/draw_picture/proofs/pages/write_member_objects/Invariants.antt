use Rattle.std.proofs.Common.{◌≡◌, ◌++◌, take}
use Rattle.std.specs.List.{flat_map}
use Rattle.draw_picture.specs.Pages.{held_object_text}
use Rattle.draw_picture.proofs.pages.write_member_objects.Given as goal

abbrev pub invariant-loop-object : goal.invariant-loop-object
invariant-loop-object l = l.text.items ≡ l.initial.text.items ++ flat_map (held_object_text l.held l.member l.state) (take l.object-index l.object-items)
