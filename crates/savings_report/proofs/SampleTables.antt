-- What is looked at, from the tables of both heaps.
use Rattle.std.proofs.Common.{◌≡◌, ℕ, ◌-◌, List, refl}
use Rattle.model_heap.specs.Table.{Table}
use Rattle.savings_replay.specs.Followed.{Followed}
use Rattle.savings_replay.specs.declared.counts.Counts.{Counts as Followings}
use Rattle.savings_replay.specs.declared.counts.MeshCounts.{MeshCounts}
use Rattle.savings_replay.specs.ClassCounts.{empty_pages}
use Rattle.savings_report.specs.Samples.{counts_of, held_by_class, live_bytes, perfect_pages, sample_of}

-- what was computed of both tables, and the counts of the calls, are the sample
pub is_sample : (f : Followed) (counts : Followings) (t u : Table) (without with perfect : List ℕ) (bytes empty_without empty_with : ℕ)
    → counts ≡ f.counts → t ≡ f.heaps.without → u ≡ f.heaps.meshing.table → without ≡ held_by_class t → with ≡ held_by_class u
    → perfect ≡ perfect_pages t → bytes ≡ live_bytes t → empty_without ≡ empty_pages t → empty_with ≡ empty_pages u
    → record {
      without = without;
      with = with;
      perfect = perfect;
      live_bytes = bytes;
      large_pages = counts.large_pages;
      empty_without = empty_without;
      empty_with = empty_with;
    } ≡ sample_of f
unfolding sample_of
is_sample f counts t u without with perfect bytes empty_without empty_with counts-is t-is u-is a b c d e g =
    rw (a, b, c, d, e, g, counts-is, t-is, u-is) refl

-- what was counted of both heaps, and the pages of the table, are the counts
pub are_counts : (f : Followed) (counts : Followings) (meshes : MeshCounts) (u : Table) (pages : ℕ) → counts ≡ f.counts → meshes ≡ f.heaps.meshing.counts
    → u ≡ f.heaps.meshing.table → pages ≡ u.next_page - 1
    → record {
      most_objects = counts.most_small;
      large = counts.large;
      meshes = meshes.meshes;
      refused = meshes.refused;
      copied = meshes.moved;
      rounds = counts.rounds;
      tries = meshes.tries;
      virtual_pages = pages;
      used = counts.used;
    } ≡ counts_of f
unfolding counts_of
are_counts f counts meshes u pages a b u-is d = rw (a, b, d, u-is) refl
