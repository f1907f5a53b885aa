-- The meshing heap of the code.
use Rattle.std.specs.Prelude.{◌≡◌, ℕ, ◌+◌, ◌*◌, ◌<◌, ◌≤◌, ◌^◌, Err}
use Rattle.model_words.specs.declared.refusals.Refusal.{Refusal}
use Rattle.savings_replay.specs.Placement.{IsMeshed, Placement, table_of}
use Rattle.savings_replay.specs.Records.{KeepsRecords}
use Rattle.savings_replay.specs.Meshing.{Meshing, members_at, mesh_within}
use Rattle.savings_replay.specs.declared.counts.MeshCounts.{MeshCounts}
use Rattle.savings_replay.specs.declared.meshed.Meshed.{Meshed}
use Rattle.savings_replay.specs.declared.meshing.Mesher.{Mesher}

-- the meshing heap of the code, as a heap of the definitions
abbrev pub meshing_of : Mesher → Meshing
meshing_of m = record { table = table_of m.placement; counts = m.counts; words = m.words; members = m.members }

-- the counts don't overflow if `pairs` more pairs and `tries` more tries are counted
pub record Fits (counts : MeshCounts) (pairs tries : ℕ) : Type 0 where
  pub counted : counts.meshes + counts.refused + pairs < 2 ^ 64
  pub moved : counts.moved + 12288 * pairs < 2 ^ 64
  pub tried : counts.tries + tries < 2 ^ 128

-- no object changed its place, and none was made
pub record IsAsBefore (old new : Mesher) : Type 0 where
  pub serial : new.placement.next_serial ≡ old.placement.next_serial
  pub records : KeepsRecords old.placement.index new.placement.index

-- two groups were meshed, which have at most `most` members together
pub record IsMeshedWithin (old new : Placement) (most source destination : ℕ) (done : Meshed) : Type 0 where
  pub few : members_at (table_of old) source + members_at (table_of old) destination ≤ most
  pub meshed : IsMeshed old new source destination done.pages done.bytes

-- the mesh of two groups is refused for this reason, and nothing changed
pub record IsRefusedWithin (old new : Placement) (most source destination : ℕ) (refusal : Refusal) : Type 0 where
  pub refused : mesh_within most (table_of old) (record { source = source; destination = destination }) ≡ Err refusal
  pub same : new ≡ old

-- the most tries of a search in a class, and of a round: a class has at most 65,536 candidates, and a search fewer than
-- 2^32 rounds of tries
abbrev pub class_tries : ℕ
class_tries = 140737488355328

abbrev pub round_tries : ℕ
round_tries = 1407374883553280
