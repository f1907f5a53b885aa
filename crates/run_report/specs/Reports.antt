-- The text of what the threads of a run did. The format is this project's own choice.
use Rattle.std.specs.Prelude.{ℕ, suc, List, [], ◌∷◌, ◌++◌, codes, length}
use Rattle.std.specs.List.{flat_map}
use Rattle.model_heap.specs.Table.{report_of}
use Rattle.model_jobs.specs.Texts.{ended, number_field, report_text}
use Rattle.model_memory.specs.Plain.{Entry}
use Rattle.model_memory.specs.Seats.{calls_of}
use Rattle.mesh_shared.specs.declared.mesher.Meshed.{Meshed}
use Rattle.mesh_shared.specs.declared.threads.Ran.{Ran}
use Rattle.mesh_shared.specs.declared.worker.Worked.{Worked}
use Rattle.mesh_steps.specs.Heap.{arena_of, table_of}

-- the line of a mesher: its number, its searches, the pairs that they found, the meshes that it began, the pairs that
-- were refused, the meshes that it ended, and the pages that its meshes released
abbrev pub mesher_line : Meshed → List ℕ
mesher_line m =
    ended (codes "mesher" ++ number_field m.number ++ codes " searches" ++ number_field m.counts.searches ++ codes " pairs" ++ number_field m.counts.pairs
    ++ codes " begun" ++ number_field m.counts.begun ++ codes " refused" ++ number_field m.counts.refused ++ codes " ended" ++ number_field m.counts.ended
    ++ codes " released" ++ number_field m.counts.pages)

-- the line of a worker: its number, its calls in the history, and its attempts that were blocked
abbrev pub worker_line : List Entry → ℕ → Worked → List ℕ
worker_line history worker worked =
    ended (codes "worker" ++ number_field worker ++ codes " calls" ++ number_field (length (calls_of worker history)) ++ codes " blocked" ++ number_field worked.blocked)

-- the lines of workers, the first of which has this number
abbrev pub worker_lines : List Entry → ℕ → List Worked → List ℕ
worker_lines history worker [] = []
worker_lines history worker (worked ∷ more) = worker_line history worker worked ++ worker_lines history (suc worker) more

-- what the threads of a run did: the lines of the meshers and of the workers, and the report of the heap
abbrev pub run_report : Ran → List ℕ
run_report ran =
    flat_map mesher_line ran.meshers.items ++ worker_lines ran.ended.history.items 0 ran.workers.items
    ++ ended (report_text (report_of (length (arena_of ran.ended.heap)) (table_of ran.ended.heap)))
