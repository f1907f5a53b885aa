-- The parts of a job's text, in their order.
use Rattle.std.specs.Prelude.{List, ℕ, ◌++◌, codes, length}
use Rattle.std.specs.List.{flat_map}
use Rattle.model_jobs.specs.Jobs.{Job, Line}
use Rattle.model_jobs.specs.Texts.{command_text, ended, line_text, number_field, sections_from, version_number}
use Rattle.model_words.specs.declared.commands.Command.{Command}

-- the line of a command, with its end
abbrev pub command_line : Command → List ℕ
command_line command = ended (command_text command)

-- a line of the plan, with its end
abbrev pub line_line : Line → List ℕ
line_line line = ended (line_text line)

-- the lines before the first worker's section
abbrev pub header_text : Job → List ℕ
header_text job =
    ended (codes "mesh" ++ number_field (version_number job.version)) ++ ended (codes "pages" ++ number_field job.pages)
    ++ ended (codes "history" ++ number_field job.history) ++ ended (codes "workers" ++ number_field (length job.scripts))

-- the sections of all workers
abbrev pub sections_text : List (List Command) → List ℕ
sections_text scripts = flat_map ended (sections_from 0 scripts)

-- the text of a job up to the last line of its plan
abbrev pub begun_text : Job → List ℕ
begun_text job = header_text job ++ sections_text job.scripts ++ ended (codes "plan") ++ flat_map line_line job.plan

-- the job with more lines at the end of its plan
abbrev pub longer_job : Job → List Line → Job
longer_job job more = record job { plan = job.plan ++ more }
