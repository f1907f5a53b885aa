-- The lines of a script that are taken into a draft.
use Rattle.std.proofs.Common.{◌≡◌, ℕ, ◌+◌, false, nat_eq, nat_lt, ◌&&◌, List, ◌∷◌, ◌++◌, [], Result, Ok, Err, ap}
use Rattle.std.specs.Prelude.{codes}
use Rattle.model_words.specs.Words.{◌>>=◌}
use Rattle.model_words.specs.declared.commands.Command.{Command}
use Rattle.model_words.specs.declared.faults.FaultKind.{FaultKind}
use Rattle.model_jobs.specs.JobFiles.{Draft, are_same, script_line}
use Rattle.text_job.specs.Draft.{with_line}
use Rattle.model_words.specs.Commands.{IsInRange}
use Rattle.model_words.specs.declared.commands.Command.TheVariants.{Put, Get, Copy as CopyBytes}
use Rattle.model_words.specs.declared.versions.Version.{Version}
use Rattle.model_jobs.specs.JobFiles.{IsValidCommand}

-- a command whose numbers are in their ranges may be handed to a heap
pub valid_in_range : (version : Version) (command : Command) → IsValidCommand version command → IsInRange command
valid_in_range version (Put cell off bytes) valid = valid.2
valid_in_range version (Get cell off len) valid = (valid.2, valid.3)
valid_in_range version (CopyBytes to to_off from from_off len) valid = (valid.5, valid.6)
valid_in_range version command valid = tt

-- a command behind a script is one behind that of the draft
script_taken : (draft : Draft) (script : List Command) (read : Result Command FaultKind) → (read >>= λ command. Ok (draft.script ++ command ∷ [])) ≡ Ok script
    → (read >>= λ command. Ok (record draft { script = draft.script ++ command ∷ [] })) ≡ Ok (record draft { script = script })
script_taken draft script (Ok command) is =
    let same : draft.script ++ command ∷ [] ≡ script = cc in ap (λ (all : List Command). Ok (record draft { script = all })) same
script_taken draft script (Err kind) is = cc

-- a line that heads no section is a command
pub command_taken : (draft : Draft) (worker : ℕ) (word : List ℕ) (fields : List (List ℕ)) (script : List Command)
    → (are_same word (codes "worker") && nat_lt (worker + 1) draft.workers) ≡ false
    → (are_same word (codes "plan") && nat_eq (worker + 1) draft.workers) ≡ false → with_line draft.script draft.version word fields ≡ Ok script
    → script_line draft worker word fields ≡ Ok (record draft { script = script })
command_taken draft worker word fields script no_worker no_plan is = rw (no_worker, no_plan) (script_taken _ _ _ is)
