use Rattle.std.proofs.Common.{◌≤◌, arith}
use Rattle.savings_replay.proofs.MovedBytes.{moved_few}
use Rattle.savings_replay.proofs.Pairs.{meshed_is, refused_is}
use Rattle.savings_replay.specs.Mesher.{meshing_of}
use Rattle.savings_replay.proofs.meshing.Mesher.mesh_pair.Goals as goal
use Rattle.savings_replay.proofs.meshing.Mesher.mesh_pair.Goals.{In-Ok}

few : (c : In-Ok) → c.in-Ok.meshed.bytes ≤ 12288
few c = moved_few _ _ _ c.sound.ensures.placement.sound c.in-Ok.ensures.meshed.meshed.moved

pub overflow_add-self-in-Ok : goal.overflow_add-self-in-Ok
overflow_add-self-in-Ok c = let few = few (goal.at.overflow_add-self-in-Ok c).In-Ok in omega (arith, few, c.requires.moved, c.from.ensures)

pub returns-in-Ok-clause-value : goal.returns-in-Ok-clause-value
returns-in-Ok-clause-value c =
    let done = c.in-Ok.ensures.meshed in
    rw c.from.ensures (meshed_is (meshing_of c.args.self.now) _ _ _ _ done.few done.meshed.table done.meshed.moved)

pub returns-in-Ok-clause-counts : goal.returns-in-Ok-clause-counts
returns-in-Ok-clause-counts c =
    let few = few (goal.at.returns-in-Ok-clause-counts c).In-Ok in
    record { counted = omega arith; moved = omega (arith, few, c.from.ensures); tried = omega arith }

pub returns-in-Err-clause-value : goal.returns-in-Err-clause-value
returns-in-Err-clause-value c =
    let h = c.in-Err.ensures.refused in
    rw h.same (refused_is (meshing_of c.args.self.now) _ _ h.refused)
