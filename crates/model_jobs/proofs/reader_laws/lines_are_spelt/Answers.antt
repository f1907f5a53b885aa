use Rattle.std.proofs.Common.{refl}
use Rattle.std.specs.Prelude.{codes}
use Rattle.model_jobs.specs.JobFiles.{AtVersion, AtPages, AtHistory, AtWorkers}
use Rattle.model_jobs.proofs.LineReadings.{first_worker_told, heading_told, line_in_range, script_line_told, plan_line_told}
use Rattle.model_jobs.proofs.reader_laws.lines_are_spelt.Goals as goal

pub returns-clause-version : goal.returns-clause-version
returns-clause-version c draft draft' line here h = heading_told AtVersion (codes "mesh") 1 2 _ draft draft' line (λ _ _. refl) here h

pub returns-clause-pages : goal.returns-clause-pages
returns-clause-pages c draft draft' line here h = heading_told AtPages (codes "pages") 1 4096 _ draft draft' line (λ _ _. refl) here h

pub returns-clause-history : goal.returns-clause-history
returns-clause-history c draft draft' line here h = heading_told AtHistory (codes "history") 0 65536 _ draft draft' line (λ _ _. refl) here h

pub returns-clause-workers : goal.returns-clause-workers
returns-clause-workers c draft draft' line here h = heading_told AtWorkers (codes "workers") 1 64 _ draft draft' line (λ _ _. refl) here h

pub returns-clause-first_worker : goal.returns-clause-first_worker
returns-clause-first_worker c draft draft' line here h = first_worker_told draft draft' line here h

pub returns-clause-script : goal.returns-clause-script
returns-clause-script c draft draft' worker line here h = script_line_told draft draft' worker line here h

pub returns-clause-plan : goal.returns-clause-plan
returns-clause-plan c draft draft' line here some h = plan_line_told draft draft' line here some h

pub returns-clause-ranges : goal.returns-clause-ranges
returns-clause-ranges c = line_in_range
