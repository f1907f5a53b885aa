use Rattle.std.proofs.Common.{◌∙◌, sym}
use Rattle.model_heap.specs.Mesh.{cancel, mesh_in}
use Rattle.model_jobs.specs.Jobs.{StepsLeft}
use Rattle.mesh_text.specs.Answers.{count_told}
use Rattle.mesh_text.proofs.MesherCalls.{counted_call, first_cancelled, none_cancelled}
use Rattle.mesh_text.proofs.mesher.cancel_first.Goals as goal

pub returns-in-Some : goal.returns-in-Some
returns-in-Some c = first_cancelled c.args.book.now c.cancel.new.self c.in-Some.class (count_told StepsLeft c.cancel.result) (sym c.in-Some.is ∙ c.first_running.ensures)
    (counted_call StepsLeft (λ t. cancel t (mesh_in t c.in-Some.class)) _ _ c.cancel.result (λ n m. m.table) c.cancel.ensures)

pub returns-in-None : goal.returns-in-None
returns-in-None c = none_cancelled c.args.book.now (sym c.in-None.is ∙ c.first_running.ensures)
