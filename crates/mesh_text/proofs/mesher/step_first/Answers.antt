use Rattle.std.proofs.Common.{◌∙◌, sym}
use Rattle.mesh_text.specs.Answers.{step_told}
use Rattle.mesh_text.proofs.MesherCalls.{first_stepped, none_stepped, stepped_call}
use Rattle.mesh_text.proofs.mesher.step_first.Goals as goal

pub returns-in-Some : goal.returns-in-Some
returns-in-Some c = first_stepped c.args.book.now c.step.new.self c.in-Some.class (step_told c.step.result) (sym c.in-Some.is ∙ c.first_running.ensures)
    (stepped_call _ _ c.in-Some.class c.step.result c.step.ensures)

pub returns-in-None : goal.returns-in-None
returns-in-None c = none_stepped c.args.book.now (sym c.in-None.is ∙ c.first_running.ensures)
