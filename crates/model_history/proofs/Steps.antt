-- What a recorded step leaves: one end, as many objects and cells but for a `new`, and a run in two parts.
use Rattle.std.proofs.Common.{◌≡◌, ℕ, ◌||◌, List, [], ◌∷◌, ◌++◌, length, ap, subst, refl, sym, ◌∙◌, arith, Result, Ok, Err}
use Rattle.std.proofs.Math.ListN.{length-set}
use Rattle.std.proofs.lemmas.Grind.{common_steps}
use Rattle.model_memory.specs.Memory.{Memory, next_serial}
use Rattle.model_memory.specs.Plain.{Entry, Follows, PlainStep, both_named, ends_outside, holding, named_by}
use Rattle.model_words.specs.Words.{◌>>=◌, refuse_if}
use Rattle.model_words.specs.declared.commands.Command.{Command}
use Rattle.model_words.specs.declared.commands.Command.TheVariants.{New, Put, Get, Free, Alias, Addr, Peek, Poke, Copy as CopyBytes}
use Rattle.model_words.specs.declared.commands.Reply.{Reply}
use Rattle.model_words.specs.declared.commands.Reply.TheVariants.{Object as Made, Done, Bytes, At, Byte, Refused}
use Rattle.model_words.specs.declared.refusals.Refusal.{Refusal}
use Rattle.model_words.specs.declared.refusals.Refusal.TheVariants.{Outside}
use Rattle.model_history.specs.Recorded.{Allocator, Recorded, RecordedRuns, RecordedStep, RecordsNew}

-- two that have the same memory and the same serials are one
pub same_recorded : (m n : Recorded) → m.memory ≡ n.memory → m.serials ≡ n.serials → m ≡ n
same_recorded m n memory serials =
    let first : m ≡ record { memory = n.memory; serials = m.serials } = ap (λ (x : Memory). record { memory = x; serials = m.serials }) memory in
    let second : record { memory = n.memory; serials = m.serials } ≡ n = ap (λ (x : List ℕ). record { memory = n.memory; serials = x }) serials in
    first ∙ second

-- command and reply determine what a plain step leaves
determined : (m : Memory) (command : Command) (reply : Reply) (n n' : Memory) → PlainStep m command reply n → PlainStep m command reply n' → n ≡ n'
determined m command reply n n' step step' = grind (arith, common_steps)

-- and what a `new` leaves
new_determined : (a : Allocator) (r : Recorded) (cell len : ℕ) (reply : Reply) (n n' : Recorded) → RecordsNew a r cell len reply n → RecordsNew a r cell len reply n'
    → n ≡ n'
new_determined a r cell len (Made serial address) n n' step step' = step.4 ∙ sym step'.4
new_determined a r cell len (Refused refusal) n n' step step' = step.1 ∙ sym step'.1
new_determined a r cell len reply n n' step step' = absurd step

-- two plain steps of one command leave the same, with the serials as they were
both_kept : (r : Recorded) (command : Command) (reply : Reply) (n n' : Recorded) → PlainStep r.memory command reply n.memory × (n.serials ≡ r.serials)
    → PlainStep r.memory command reply n'.memory × (n'.serials ≡ r.serials) → n ≡ n'
both_kept r command reply n n' step step' =
    same_recorded n n' (determined r.memory command reply n.memory n'.memory step.0 step'.0) (step.1 ∙ sym step'.1)

-- a recorded step has one end
pub one_step : (a : Allocator) (r : Recorded) (command : Command) (reply : Reply) (n n' : Recorded) → RecordedStep a r command reply n
    → RecordedStep a r command reply n' → n ≡ n'
one_step a r (New cell len word) reply n n' step step' = new_determined a r cell len reply n n' step step'
one_step a r (Put cell off bytes) reply n n' step step' = both_kept r (Put cell off bytes) reply n n' step step'
one_step a r (Get cell off len) reply n n' step step' = both_kept r (Get cell off len) reply n n' step step'
one_step a r (Free cell) reply n n' step step' = both_kept r (Free cell) reply n n' step step'
one_step a r (Alias to from) reply n n' step step' = both_kept r (Alias to from) reply n n' step step'
one_step a r (Addr cell) reply n n' step step' = both_kept r (Addr cell) reply n n' step step'
one_step a r (Peek place) reply n n' step step' = both_kept r (Peek place) reply n n' step step'
one_step a r (Poke place byte) reply n n' step step' = both_kept r (Poke place byte) reply n n' step step'
one_step a r (CopyBytes to to_off from from_off len) reply n n' step step' = both_kept r (CopyBytes to to_off from from_off len) reply n n' step step'

-- two runs of the same entries end in one place
pub one_end : (a : Allocator) (r : Recorded) (entries : List Entry) (m n : Recorded) → RecordedRuns a r entries m → RecordedRuns a r entries n → m ≡ n
one_end a r [] m n run run' = run ∙ sym run'
one_end a r (entry ∷ entries) m n run run' =
    let same : run'.0 ≡ run.0 = one_step a r entry.command entry.reply run'.0 run.0 run'.1 run.1 in
    one_end a run.0 entries m n run.2 (subst (λ (x : Recorded). RecordedRuns a x entries n) same run'.2)

-- a run of two parts is two runs
pub in_two : (a : Allocator) (r : Recorded) (before after : List Entry) (n : Recorded) → RecordedRuns a r (before ++ after) n
    → (k : Recorded) × RecordedRuns a r before k × RecordedRuns a k after n
in_two a r [] after n run = (r, refl, run)
in_two a r (entry ∷ before) after n run = let rest = in_two a run.0 before after n run.2 in (rest.0, (run.0, run.1, rest.1), rest.2)

-- as many objects were made, and there are as many cells
abbrev pub IsAsLarge : Memory → Memory → Type 0
IsAsLarge m n = (next_serial n ≡ next_serial m) × (length n.roots ≡ length m.roots)

-- what a result leaves is as large
abbrev LeavesAsLarge : Memory → Result (Reply × Memory) Refusal → Type 0
LeavesAsLarge m (Ok x) = IsAsLarge m x.1
LeavesAsLarge m (Err refusal) = Unit {0}

chained : {A : Type 0} (m : Memory) (r : Result A Refusal) (next : A → Result (Reply × Memory) Refusal) → ((x : A) → LeavesAsLarge m (next x))
    → LeavesAsLarge m (r >>= next)
chained m (Err e) next h = tt
chained m (Ok x) next h = h x

followed : (m : Memory) (r : Result (Reply × Memory) Refusal) (reply : Reply) (n : Memory) → LeavesAsLarge m r → Follows r m reply n → IsAsLarge m n
followed m (Ok x) reply n h step = subst (λ (k : Memory). IsAsLarge m k) (sym step.1) h
followed m (Err e) reply n h step = subst (λ (k : Memory). IsAsLarge m k) (sym step.1) (refl, refl)

-- a plain step of no `new` leaves a memory as large
pub as_large : (m : Memory) (command : Command) (reply : Reply) (n : Memory) → PlainStep m command reply n
    → ((cell len word : ℕ) → command ≡ New cell len word → ⊥) → IsAsLarge m n
as_large m (New cell len word) reply n step other = absurd (other cell len word refl)
as_large m (Put cell off bytes) reply n step other =
    followed m _ reply n (chained m (named_by m cell) _ (λ named. chained m (refuse_if Outside (ends_outside named.object off (length bytes.items))) _ (λ _. (simp length-set refl, refl)))) step
as_large m (Get cell off len) reply n step other =
    followed m _ reply n (chained m (named_by m cell) _ (λ named. chained m (refuse_if Outside (ends_outside named.object off len)) _ (λ _. (refl, refl)))) step
as_large m (Free cell) reply n step other = followed m _ reply n (chained m (named_by m cell) _ (λ named. (simp length-set refl, refl))) step
as_large m (Alias to from) reply n step other = followed m _ reply n (chained m (named_by m from) _ (λ named. (refl, simp length-set refl))) step
as_large m (Addr cell) reply n step other = followed m _ reply n (chained m (named_by m cell) _ (λ named. (refl, refl))) step
as_large m (Peek place) reply n step other = followed m _ reply n (chained m (holding m place) _ (λ named. (refl, refl))) step
as_large m (Poke place byte) reply n step other = followed m _ reply n (chained m (holding m place) _ (λ named. (simp length-set refl, refl))) step
as_large m (CopyBytes to to_off from from_off len) reply n step other =
    followed m _ reply n (chained m (both_named m to from) _ (λ pair. chained m (refuse_if Outside (ends_outside pair.0.object to_off len || ends_outside pair.1.object from_off len)) _ (λ _. (simp length-set refl, refl)))) step
