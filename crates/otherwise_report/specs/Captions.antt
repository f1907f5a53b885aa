-- The captions of a plan's moves. This project's own choice.
use Rattle.std.specs.Prelude.{ℕ, ◌-◌, if◌then◌else◌, nat_lt, List, ◌++◌, codes}
use Rattle.model_jobs.specs.Texts.{command_text}
use Rattle.model_otherwise.specs.States.{Setting, State, asked, asks, tried_at}
use Rattle.otherwise_report.specs.PlanTexts.{asker_text, mesher_text, text_if, tried_text}

-- the command of move `n`, and who gives it
abbrev pub command_words : Setting → State → ℕ → List ℕ
command_words x s n = asker_text x.asking n ++ codes ": " ++ text_if command_text (asked x s n)

-- move `n` in a state: the command, or the name of a mesh's move
abbrev pub move_words : Setting → State → ℕ → List ℕ
move_words x s n = if nat_lt n (asks x.asking) then command_words x s n else mesher_text x s (n - asks x.asking)

-- what becomes of it: the answer to the command, or that a mesh has made the move
abbrev pub move_answer : Setting → State → ℕ → List ℕ
move_answer x s n = if nat_lt n (asks x.asking) then text_if tried_text (tried_at x s n) else codes "done"
