-- Serials that were given stay given.
use Rattle.std.proofs.Common.{◌≡◌, ℕ, ◌||◌, Bool, true, false, not, nat_eq, List, [], ◌∷◌, ◌++◌, subst, refl, sym, ◌∙◌, inl, inr}
use Rattle.std.proofs.lemmas.List.Folds.{list_any-append}
use Rattle.std.proofs.lemmas.Bool.Decides.{eqb_tells}
use Rattle.model_memory.specs.Plain.{Entry}
use Rattle.model_words.specs.declared.commands.Command.{Command}
use Rattle.model_words.specs.declared.commands.Command.TheVariants.{New, Put, Get, Free, Alias, Addr, Peek, Poke, Copy as CopyBytes}
use Rattle.model_words.specs.declared.commands.Reply.{Reply}
use Rattle.model_words.specs.declared.commands.Reply.TheVariants.{Object as Made, Done, Bytes, At, Byte, Refused}
use Rattle.model_history.specs.Recorded.{Allocator, Recorded, RecordedRuns, RecordedStep, RecordsNew, any_allocator, was_given}
use Rattle.model_history.proofs.Steps.{in_two}

-- behind more serials it is given too
pub given_before : (serials more : List ℕ) (serial : ℕ) → was_given serials serial ≡ true → was_given (serials ++ more) serial ≡ true
given_before serials more serial h = let parts = list_any-append (λ other. nat_eq other serial) serials more in parts ∙ rw h refl

-- the last one is given
pub given_last : (serials : List ℕ) (serial : ℕ) → was_given (serials ++ serial ∷ []) serial ≡ true
given_last [] serial = elim (eqb_tells serial serial) [ inl same ↦ rw same.0 refl | inr other ↦ absurd (other.1 refl) ]
given_last (other ∷ serials) serial = or_true (nat_eq other serial) (given_last serials serial)
  where
    or_true : (b : Bool) {c : Bool} → c ≡ true → (b || c) ≡ true
    or_true true h = refl
    or_true false h = h

given_by_new : (a : Allocator) (r : Recorded) (cell len : ℕ) (reply : Reply) (n : Recorded) (serial : ℕ) → RecordsNew a r cell len reply n
    → was_given r.serials serial ≡ true → was_given n.serials serial ≡ true
given_by_new a r cell len (Made other address) n serial step h =
    subst (λ (x : Recorded). was_given x.serials serial ≡ true) (sym step.4) (given_before r.serials (other ∷ []) serial h)
given_by_new a r cell len (Refused refusal) n serial step h = subst (λ (x : Recorded). was_given x.serials serial ≡ true) (sym step.1) h
given_by_new a r cell len reply n serial step h = absurd step

-- over a step
given_on : (a : Allocator) (r : Recorded) (command : Command) (reply : Reply) (n : Recorded) (serial : ℕ) → RecordedStep a r command reply n
    → was_given r.serials serial ≡ true → was_given n.serials serial ≡ true
given_on a r (New cell len word) reply n serial step h = given_by_new a r cell len reply n serial step h
given_on a r command reply n serial step h = rw step.1 h

-- over a run
given_over : (a : Allocator) (r : Recorded) (entries : List Entry) (n : Recorded) (serial : ℕ) → RecordedRuns a r entries n → was_given r.serials serial ≡ true
    → was_given n.serials serial ≡ true
given_over a r [] n serial run h = subst (λ (x : Recorded). was_given x.serials serial ≡ true) (sym run) h
given_over a r (entry ∷ entries) n serial run h =
    given_over a run.0 entries n serial run.2 (given_on a r entry.command entry.reply run.0 serial run.1 h)

-- one that was given is given to no other object
pub given_once : (r : Recorded) (before between after : List Entry) (worker cell len word address worker' cell' len' word' address' serial : ℕ) (n : Recorded)
    → RecordedRuns any_allocator r (before ++ record { worker = worker; command = New cell len word; reply = Made serial address }
    ∷ (between ++ record { worker = worker'; command = New cell' len' word'; reply = Made serial address' } ∷ after)) n → ⊥
given_once r before between after worker cell len word address worker' cell' len' word' address' serial n run =
    let later = record { worker = worker'; command = New cell' len' word'; reply = Made serial address' } ∷ after in
    let start = in_two any_allocator r before (record { worker = worker; command = New cell len word; reply = Made serial address } ∷ (between ++ later)) n run in
    let k = start.0 in
    let here = start.2 in
    let made = here.1 in
    let given : was_given here.0.serials serial ≡ true = subst (λ (x : Recorded). was_given x.serials serial ≡ true) (sym made.4) (given_last k.serials serial) in
    let rest = in_two any_allocator here.0 between later n here.2 in
    let still : was_given rest.0.serials serial ≡ true = given_over any_allocator here.0 between rest.0 serial rest.1 given in
    let again = rest.2.1 in
    let fresh : not (was_given rest.0.serials serial) ≡ true = again.2 in
    let clash : not true ≡ true = subst (λ (b : Bool). not b ≡ true) still fresh in cc clash
