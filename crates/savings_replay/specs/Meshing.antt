-- A round: both heaps are swept, and then each class of the meshing heap is searched and meshed.
use Rattle.std.specs.Prelude.{ℕ, ◌+◌, ◌*◌, ◌≤◌, nat_lt, List, [], ◌∷◌, Result, Ok, Err, length, map, unwrap_or, option_map}
use Rattle.model_heap.specs.Mesh.{mesh_of_class, mesh_whole}
use Rattle.model_heap.specs.Table.{Counted, Group, Table, group_of}
use Rattle.model_search.specs.Search.{Found, Pairing, search, view_of}
use Rattle.model_words.specs.Classes.{table}
use Rattle.model_words.specs.Words.{◌>>=◌, refuse_if}
use Rattle.model_words.specs.declared.refusals.Refusal.{Refusal}
use Rattle.model_words.specs.declared.refusals.Refusal.TheVariants.{Members}
use Rattle.savings_replay.specs.Sweeps.{swept}
use Rattle.mesh_spans.specs.Counts.{byte_count}
use Rattle.rand_core.specs.Steps.{first_words}
use Rattle.rand_xoshiro.specs.Xoshiro256.{plus_plus}
use Rattle.savings_replay.specs.Words.{after_words}
use Rattle.savings_replay.specs.declared.counts.MeshCounts.{MeshCounts}

-- a meshing heap: its table, the counts of its meshes, the state of the generator of the shuffles' words, and the most
-- members that a mesh may give a group
pub record Meshing : Type 0 where
  pub table : Table
  pub counts : MeshCounts
  pub words : List ℕ
  pub members : ℕ

-- the bytes of the objects of a group, 0 if there is no group with this number
abbrev pub bytes_at : Table → ℕ → ℕ
bytes_at t n = unwrap_or (option_map byte_count (group_of t n)) 0

-- the heap after a mesh from this source; if the mesh is refused, only the refusal is counted
abbrev pub after_mesh : Meshing → ℕ → Result Counted Refusal → Meshing
after_mesh m source (Err refusal) =
    record m { counts = record m.counts { refused = m.counts.refused + 1 } }
after_mesh m source (Ok done) = record m {
  table = done.table;
  counts = record m.counts { meshes = m.counts.meshes + 1; moved = m.counts.moved + bytes_at m.table source };
}

-- the number of members of a group, 0 if there is no group with this number
abbrev pub members_at : Table → ℕ → ℕ
members_at t n = unwrap_or (option_map (λ (g : Group). length g.members) (group_of t n)) 0

-- the result of a mesh, which is refused if the two groups have more than `most` members together
abbrev pub mesh_within : ℕ → Table → Pairing → Result Counted Refusal
mesh_within most t pair =
    refuse_if Members (nat_lt most (members_at t pair.source + members_at t pair.destination))
    >>= λ _. mesh_whole mesh_of_class t pair.source pair.destination

-- the heap after a pair was meshed or refused
unfoldable pub pair_meshed : Meshing → Pairing → Meshing
pair_meshed m pair = after_mesh m pair.source (mesh_within m.members m.table pair)

-- the heap after pairs were meshed or refused, one after another
abbrev pub pairs_meshed : Meshing → List Pairing → Meshing
pairs_meshed m [] = m
pairs_meshed m (pair ∷ pairs) = pairs_meshed (pair_meshed m pair) pairs

-- the heap after a search with this result, for which `count` words were drawn
abbrev pub searched : Meshing → ℕ → Found → Meshing
searched m count found = record m {
  words = after_words count m.words;
  counts = record m.counts { tries = m.counts.tries + found.probes };
}

-- the heap after a class was searched, with a word for each candidate, and the pairs found were meshed
unfoldable pub class_meshed : ℕ → Meshing → ℕ → Meshing
class_meshed probe m class =
    let view = view_of m.table class in let count = length view.candidates in
    let found = search view (first_words plus_plus count m.words) probe in pairs_meshed (searched m count found) found.pairs

-- the heap after these classes were searched and meshed, one after another
abbrev pub classes_meshed : ℕ → Meshing → List ℕ → Meshing
classes_meshed probe m [] = m
classes_meshed probe m (class ∷ classes) = classes_meshed probe (class_meshed probe m class) classes

-- the sizes of the size classes, ascending
abbrev pub class_sizes : List ℕ
class_sizes = map (λ row. row.size) table

-- both heaps: the one that never meshes, and the one that does
pub record Heaps : Type 0 where
  pub without : Table
  pub meshing : Meshing

-- the heaps after a round: both are swept, and then each class of the meshing heap is searched and meshed
unfoldable pub after_round : ℕ → Heaps → Heaps
after_round probe heaps = record {
  without = swept heaps.without;
  meshing = classes_meshed probe (record heaps.meshing { table = swept heaps.meshing.table }) class_sizes;
}

-- at most `pairs` more pairs were meshed or refused, after at most `tries` more tries; each mesh moved at most 12,288
-- bytes, the bytes of a span
pub record IsAfterPairs (old new : MeshCounts) (pairs tries : ℕ) : Type 0 where
  pub counted : new.meshes + new.refused ≤ old.meshes + old.refused + pairs
  pub moved : new.moved ≤ old.moved + 12288 * pairs
  pub tried : new.tries ≤ old.tries + tries
