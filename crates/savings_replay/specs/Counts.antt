-- What is counted from call to call.
use Rattle.std.specs.Prelude.{ℕ, ◌+◌, ◌-◌, ◌*◌, ◌/◌, ◌≤◌, Bool, true, false, if◌then◌else◌, max, replicate, slice_set}
use Rattle.mesh_class.specs.Class.{class_index}
use Rattle.savings_replay.specs.declared.counts.Counts.{Counts}
use Rattle.savings_replay.specs.declared.counts.MeshCounts.{MeshCounts}

-- the counts before the first call
abbrev pub no_count : Counts
no_count = record {
  calls = 0;
  made = 0;
  small = 0;
  most_small = 0;
  large = 0;
  large_pages = 0;
  most_large_pages = 0;
  since = 0;
  rounds = 0;
  used = replicate 10 false;
}

-- the counts of meshes before the first mesh
abbrev pub no_mesh : MeshCounts
no_mesh = record { meshes = 0; refused = 0; moved = 0; tries = 0 }

-- the number of pages for `len` bytes, rounded up
abbrev pub whole_pages : ℕ → ℕ
whole_pages len = (len + 4095) / 4096

-- the counts after a small object of a class was made, if `live` small objects are live then
abbrev pub small_new_counted : Counts → ℕ → ℕ → Counts
small_new_counted c class live = record c {
  calls = c.calls + 1;
  made = c.made + 1;
  small = c.small + 1;
  most_small = max c.most_small live;
  used = slice_set c.used (class_index class) true;
}

-- the counts after a large object was made
abbrev pub large_new_counted : Counts → ℕ → Counts
large_new_counted c len = record c {
  calls = c.calls + 1;
  made = c.made + 1;
  large = c.large + 1;
  large_pages = c.large_pages + whole_pages len;
  most_large_pages = max c.most_large_pages (c.large_pages + whole_pages len);
}

-- the counts after a small object was freed, and after the round that follows if one is due
abbrev pub small_free_counted : Counts → Bool → Counts
small_free_counted c is_due =
    record c {
      calls = c.calls + 1;
      since = if is_due then 0 else c.since + 1;
      rounds = c.rounds + (if is_due then 1 else 0);
    }

-- the counts after a large object was freed
abbrev pub large_free_counted : Counts → ℕ → Counts
large_free_counted c len = record c { calls = c.calls + 1; large_pages = c.large_pages - whole_pages len }

-- the counts after a reference was stored in another cell
abbrev pub alias_counted : Counts → Counts
alias_counted c = record c { calls = c.calls + 1 }

-- the numbers of objects, of rounds and of frees since a round are at most the number of calls; a large object has at
-- most 2^52 pages
pub record IsFew (c : Counts) : Type 0 where
  pub made : c.made ≤ c.calls
  pub small : c.small ≤ c.made
  pub large : c.large ≤ c.made
  pub since : c.since ≤ c.calls
  pub rounds : c.rounds ≤ c.calls
  pub pages : c.large_pages ≤ 4503599627370496 * c.large
