-- Worked examples of lines of a session of two workers, and how each is read.
use Rattle.std.specs.Prelude.{◌≡◌, ℕ, List, [], ◌∷◌, Ok, Err, codes}
use Rattle.model_jobs.specs.Jobs.{MakeReport, PairClass, StepClass}
use Rattle.model_words.specs.declared.commands.Command.TheVariants.{Copy as CopyBytes, Get, Put}
use Rattle.model_words.specs.declared.faults.FaultKind.{FaultKind}
use Rattle.model_words.specs.declared.faults.FaultKind.TheVariants.{Byte, Hex, Number, Word}
use Rattle.run_live.specs.LiveLines.{Attempt, Call, live_line}

-- `run W COMMAND` is an attempt at a command of version 2
abbrev pub AttemptsAreRead : Type 0
AttemptsAreRead = (live_line 2 (codes "run 1 get 7 0 4") ≡ Ok (Attempt 1 (Get 7 0 4)))
    × (live_line 2 (codes "run 0 put 255 3 6869") ≡ Ok (Attempt 0 (Put 255 3 (record { items = 104 ∷ 105 ∷ [] }))))
    × (live_line 2 (codes "run 1 copy 0 1 2 3 32") ≡ Ok (Attempt 1 (CopyBytes 0 1 2 3 32)))

-- any other line is a line of a plan of version 2
abbrev pub CallsAreRead : Type 0
CallsAreRead = (live_line 2 (codes "report") ≡ Ok (Call MakeReport)) × (live_line 2 (codes "step 64") ≡ Ok (Call (StepClass 64)))
    × (live_line 2 (codes "pair 16 2 5 7") ≡ Ok (Call (PairClass 16 2 (5 ∷ 7 ∷ []))))

-- the line has this fault
abbrev pub HasFault : List ℕ → FaultKind → Type 0
HasFault line kind = live_line 2 line ≡ Err kind

-- an empty line, a wrong word, a line of version 1 or of another part of a job file, and a wrong number of fields: the
-- fault is `Word`, even if a number or another field is wrong too
abbrev pub WordsAreLookedAtFirst : Type 0
WordsAreLookedAtFirst = HasFault [] Word × HasFault (codes "run 1") Word × HasFault (codes "step") Word × HasFault (codes "end") Word
    × HasFault (codes "get 0 0 4") Word × HasFault (codes "run 1  get 0 0 4") Word × HasFault (codes "run 2 get 0 0") Word × HasFault (codes "run 2 gets 0 0 4") Word

-- if word and number of fields are right, the fault is that of the first wrong field from the left. A byte that isn't
-- allowed is reported before all others
abbrev pub FieldsAreLookedAtInOrder : Type 0
FieldsAreLookedAtInOrder = HasFault (codes "run 2 get 0 0 4") Number × HasFault (codes "run 1 get 256 0 4") Number × HasFault (codes "run 1 put 0 0 6G") Hex
    × HasFault (codes "run 2 put 0 0 6G") Number × HasFault (codes "run 1 put 0 65536 6G") Number × HasFault (codes "run 2\tput 0 0 6G") Byte
