-- How a run ends whose text of expected outcomes is in a file.
use Rattle.std.specs.Prelude.{◌≡◌, ◌⊎◌, ℕ, List, Some}
use Rattle.run_command_line.specs.declared.requested.Request.{Request}
use Rattle.run_program.specs.Dispatches.{EndsAs}
use Rattle.run_program.specs.Seen.{Seen}

-- the run of the request ended, with some text of expected outcomes, or nothing was run and the status is 1
abbrev pub EndsOrUnread : Request → Seen → Seen → ℕ → Type 0
EndsOrUnread request before after status =
    ((text : List ℕ) × EndsAs request (Some text) before after status) ⊎ ((after ≡ before) × (status ≡ 1))
