-- The sample that is taken after a call, and the counts of a whole run.
use Rattle.std.specs.Prelude.{ℕ, ◌-◌, List, map, sum_by}
use Rattle.model_heap.specs.Table.{Table}
use Rattle.model_words.specs.Classes.{table}
use Rattle.savings_report.specs.declared.table.samples.Counts.{Counts}
use Rattle.savings_report.specs.declared.table.samples.Sample.{Sample}
use Rattle.savings_replay.specs.ClassCounts.{class_objects, empty_pages, held_pages}
use Rattle.savings_replay.specs.ClassLaws.{pages_needed}
use Rattle.savings_replay.specs.Followed.{Followed}
use Rattle.mesh_spans.specs.Counts.{byte_count}

-- the pages of the held groups of each class, in the order of the class table
abbrev pub held_by_class : Table → List ℕ
held_by_class t = map (λ row. held_pages t row.size) table

-- for each class, the pages of the fewest spans in which its objects fit
abbrev pub perfect_pages : Table → List ℕ
perfect_pages t = map (λ row. pages_needed row.size (class_objects t row.size)) table

-- the bytes of all objects
abbrev pub live_bytes : Table → ℕ
live_bytes t = sum_by byte_count t.groups

-- the sample of both heaps. The heaps have the same objects, so perfect packing and live bytes are equal for both
unfoldable pub sample_of : Followed → Sample
sample_of f = record {
  without = held_by_class f.heaps.without;
  with = held_by_class f.heaps.meshing.table;
  perfect = perfect_pages f.heaps.without;
  live_bytes = live_bytes f.heaps.without;
  large_pages = f.counts.large_pages;
  empty_without = empty_pages f.heaps.without;
  empty_with = empty_pages f.heaps.meshing.table;
}

-- the counts of the calls so far, and the virtual pages that the meshing heap used
unfoldable pub counts_of : Followed → Counts
counts_of f = record {
  most_objects = f.counts.most_small;
  large = f.counts.large;
  meshes = f.heaps.meshing.counts.meshes;
  refused = f.heaps.meshing.counts.refused;
  copied = f.heaps.meshing.counts.moved;
  rounds = f.counts.rounds;
  tries = f.heaps.meshing.counts.tries;
  virtual_pages = f.heaps.meshing.table.next_page - 1;
  used = f.counts.used;
}
