use Rattle.std.proofs.Common.{◌≡◌}
use Rattle.mesh_plain.specs.Maps.{first_holder}
use Rattle.mesh_plain.proofs.maps.first_reaching.Given as goal

-- the first that is left is the first of all
abbrev pub invariant-loop-serial : goal.invariant-loop-serial
invariant-loop-serial l = first_holder l.objects.entries l.address ≡ first_holder l.serial-iterator l.address
