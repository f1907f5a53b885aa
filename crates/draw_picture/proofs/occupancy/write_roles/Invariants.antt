use Rattle.std.proofs.Common.{◌≡◌, ◌++◌, take}
use Rattle.std.specs.List.{flat_map}
use Rattle.draw_picture.specs.Occupancy.{role_text}
use Rattle.draw_picture.proofs.occupancy.write_roles.Given as goal

abbrev pub invariant-loop-mesh : goal.invariant-loop-mesh
invariant-loop-mesh l = l.text.items ≡ l.initial.text.items ++ flat_map (role_text l.group) (take l.mesh-index l.mesh-items)
