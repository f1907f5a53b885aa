use Rattle.std.proofs.Common.{◌≡◌, ◌*◌, ◌≤◌, take}
use Rattle.std.specs.List.{sum_by}
use Rattle.model_heap.specs.Table.{len_in}
use Rattle.savings_replay.proofs.placement.meshes.bytes_of.Given as goal

abbrev pub invariant-loop-k : goal.invariant-loop-k
invariant-loop-k l = record { sum : l.bytes ≡ sum_by len_in (take l.k l.group.slots); few : l.bytes ≤ l.k * 2048 }
