-- The sweep of all groups of a table, which removes the empty ones.
use Rattle.std.specs.Prelude.{◌≡◌, ℕ, List, [], ◌∷◌, Result, Ok, Err, filter, map, nat_lt}
use Rattle.model_heap.specs.Sound.{IsSound}
use Rattle.model_heap.specs.Table.{Counted, Table, object_count, sweep}
use Rattle.model_words.specs.declared.refusals.Refusal.{Refusal}

-- the table after a call, or the table before if the call is refused
abbrev pub table_after : Table → Result Counted Refusal → Table
table_after t (Err refusal) = t
table_after t (Ok done) = done.table

-- the table after a sweep of each of these groups in turn; if a sweep is refused, it changes nothing
abbrev pub sweep_each : List ℕ → Table → Table
sweep_each [] t = t
sweep_each (n ∷ numbers) t = sweep_each numbers (table_after t (sweep t n))

-- the table after a sweep of each of its groups, in the order of the table
abbrev pub swept : Table → Table
swept t = sweep_each (map (λ g. g.number) t.groups) t

-- if a table is sound and no mesh runs, then after the sweep of all groups exactly the groups with an object are left.
-- Only the groups and the number of free pages change
abbrev pub SweptLeavesFilled : Type 0
SweptLeavesFilled = (t : Table) → IsSound t → t.meshes ≡ []
    → swept t ≡ record t { free_pages = (swept t).free_pages; groups = filter (λ g. nat_lt 0 (object_count g)) t.groups }
