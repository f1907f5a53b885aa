-- Histories as runs of the plain memory.
use Rattle.std.proofs.lemmas.Bool.Decides.{nat_tests}
use Rattle.std.proofs.Common.{◌≡◌, List, [], ◌∷◌, ◌++◌, refl, sym, ◌∙◌, subst, arith}
use Rattle.std.proofs.lemmas.Grind.{common_steps}
use Rattle.model_memory.specs.Memory.{Memory}
use Rattle.model_memory.specs.Plain.{PlainStep, Runs, Entry}
use Rattle.model_words.specs.declared.commands.Command.{Command}
use Rattle.model_words.specs.declared.commands.Reply.{Reply}

-- a run and one step more
pub Runs_more : (m : Memory) (entries : List Entry) (k n : Memory) (entry : Entry) → Runs m entries k → PlainStep k entry.command entry.reply n
    → Runs m (entries ++ entry ∷ []) n
Runs_more m [] k n entry run step = (n, subst (λ (x : Memory). PlainStep x entry.command entry.reply n) run step, refl)
Runs_more m (first ∷ entries) k n entry run step = (run.0, run.1, Runs_more run.0 entries k n entry run.2 step)

-- command and reply determine what a step leaves
determined : (m : Memory) (command : Command) (reply : Reply) (n n' : Memory) → PlainStep m command reply n → PlainStep m command reply n' → n ≡ n'
determined m command reply n n' step step' = grind (arith, common_steps)

-- two runs of the same entries from one memory end in one memory
pub Runs_end : (m : Memory) (entries : List Entry) (k n : Memory) → Runs m entries k → Runs m entries n → k ≡ n
Runs_end m [] k n run run' = run ∙ sym run'
Runs_end m (first ∷ entries) k n run run' =
    grind (arith, nat_tests, determined m first.command first.reply run'.0 run.0 run'.1 run.1, Runs_end run.0 entries k n run.2)
