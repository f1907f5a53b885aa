-- How the physical pages of a heap are counted: each is free, or belongs to a group. This project's own choice.
use Rattle.std.specs.Prelude.{◌≡◌, ℕ, ◌+◌, ◌-◌, ◌*◌, Option, Some, None, sum_by}
use Rattle.model_words.specs.Classes.{pages_of, slots_of}
use Rattle.model_heap.specs.Mesh.{page_count}
use Rattle.model_heap.specs.Table.{Group, Made, Progress, Table, Unwinding, group_of}

-- the number of physical pages in the spans of all groups
abbrev pub span_pages : Table → ℕ
span_pages t = sum_by (λ g. pages_of g.class) t.groups

-- the number of this source's physical pages that its mesh has released
abbrev pub released_by : Progress → Option Group → ℕ
released_by (Made d) (Some source) = d - (3 * page_count source + slots_of source.class)
released_by (Unwinding q u) (Some source) = 0
released_by progress None = 0

-- the number of physical pages that all running meshes have released
abbrev pub released_pages : Table → ℕ
released_pages t = sum_by (λ mesh. released_by mesh.progress (group_of t mesh.source)) t.meshes

-- each of `pages` physical pages is free, or is in a group's span and not released: the free pages and the pages of all
-- spans together are `pages` plus the released pages
abbrev pub AreCounted : ℕ → Table → Type 0
AreCounted pages t = t.free_pages + span_pages t ≡ pages + released_pages t
