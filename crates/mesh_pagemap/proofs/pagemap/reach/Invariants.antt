use Rattle.std.proofs.Common.{◌≡◌, ◌+◌, ◌-◌, ◌≤◌, ℕ, None, get_or}
use Rattle.std.specs.Prelude.{vec_capacity, vec_len}
use Rattle.mesh_pagemap.proofs.pagemap.reach.Given as goal

abbrev pub invariant-loop-table : goal.invariant-loop-table
invariant-loop-table l = record {
  short : vec_len l.table ≤ 65536;
  room : vec_capacity l.table ≡ vec_capacity l.initial.table;
  same : (v : ℕ) → get_or l.table.items v None ≡ get_or l.initial.table.items v None;
}

abbrev pub decreases-loop-table : goal.decreases-loop-table
decreases-loop-table l = l.place + 1 - vec_len l.table
