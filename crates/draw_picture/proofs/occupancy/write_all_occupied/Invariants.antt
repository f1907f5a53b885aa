use Rattle.std.proofs.Common.{◌≡◌, ◌++◌, take}
use Rattle.std.specs.List.{flat_map}
use Rattle.draw_picture.specs.Occupancy.{occupied_text}
use Rattle.draw_picture.proofs.occupancy.write_all_occupied.Given as goal

abbrev pub invariant-loop-object : goal.invariant-loop-object
invariant-loop-object l = l.text.items ≡ l.initial.text.items ++ flat_map (occupied_text l.member) (take l.object-index l.object-items)
