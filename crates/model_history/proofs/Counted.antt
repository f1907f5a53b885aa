-- This heap's histories as those of an allocator that counts its objects.
use Rattle.std.proofs.Common.{◌≡◌, ℕ, suc, zero, ◌+◌, ◌≤◌, List, [], ◌∷◌, ◌++◌, length, ap, subst, refl, sym, ◌∙◌, arith, nat_eq, true, nat_lt}
use Rattle.std.specs.List.{range_with_len}
use Rattle.std.proofs.Math.ListN.{length-append}
use Rattle.std.proofs.lemmas.List.FromFn.{length-range_with_len}
use Rattle.std.proofs.lemmas.Bool.Decides.{leb_tells, eqb_tells}
use Rattle.std.proofs.Common.{inl, inr}
use Rattle.model_memory.specs.Memory.{Memory, next_serial}
use Rattle.model_memory.specs.Plain.{Entry, MakesObject, PlainStep, Runs, made}
use Rattle.model_words.proofs.Tests.{equal, less}
use Rattle.model_words.specs.declared.commands.Command.{Command}
use Rattle.model_words.specs.declared.commands.Command.TheVariants.{New, Put, Get, Free, Alias, Addr, Peek, Poke, Copy as CopyBytes}
use Rattle.model_words.specs.declared.commands.Reply.{Reply}
use Rattle.model_words.specs.declared.commands.Reply.TheVariants.{Object as Made, Done, Bytes, At, Byte, Refused}
use Rattle.model_words.specs.declared.refusals.Refusal.TheVariants.{Zero, TooLarge, NoPages, NoAddresses}
use Rattle.model_history.specs.Recorded.{Recorded, RecordedRuns, RecordedStep, RecordsNew, this_heap}
use Rattle.model_history.specs.RecordedLaws.{counted}
use Rattle.model_history.proofs.Steps.{as_large, IsAsLarge, same_recorded}

-- one number more at the end
pub range_more : (a n : ℕ) → range_with_len a (n + 1) ≡ range_with_len a n ++ (a + n) ∷ []
range_more a zero = ap (λ (x : ℕ). x ∷ []) (omega arith)
range_more a (suc n) =
    let rest = range_more (a + 1) n in let same : a + 1 + n ≡ a + suc n = omega arith in
    let one : suc n + 1 ≡ suc (n + 1) = omega arith in
    ap (λ (k : ℕ). range_with_len a k) one ∙ ap (λ (xs : List ℕ). a ∷ xs) (rest ∙ ap (λ (x : ℕ). range_with_len (a + 1) n ++ x ∷ []) same)

-- as many serials are counted as objects were made
pub counted_length : (m : Memory) → length (counted m).serials ≡ next_serial m
counted_length m = length-range_with_len 0 (next_serial m)

-- a new object is the next one counted
pub counted_more : (m : Memory) (cell len address serial : ℕ) → serial ≡ next_serial m
    → counted (made m cell len address) ≡ record { memory = made m cell len address; serials = (counted m).serials ++ serial ∷ [] }
counted_more m cell len address serial is =
    let more : next_serial (made m cell len address) ≡ next_serial m + 1 = length-append m.objects _ in
    let last : 0 + next_serial m ≡ serial = omega (arith, is) in
    let serials : (counted (made m cell len address)).serials ≡ range_with_len 0 (next_serial m) ++ serial ∷ [] =
    ap (λ (n : ℕ). range_with_len 0 n) more ∙ range_more 0 (next_serial m) ∙ ap (λ (x : ℕ). range_with_len 0 (next_serial m) ++ x ∷ []) last in
    same_recorded (counted (made m cell len address)) (record { memory = made m cell len address; serials = (counted m).serials ++ serial ∷ [] }) refl serials

as_many : (m n : Memory) → IsAsLarge m n → (counted n).serials ≡ (counted m).serials
as_many m n large = ap (λ (k : ℕ). range_with_len 0 k) large.0

is_true : (a b : ℕ) → a ≡ b → nat_eq a b ≡ true
is_true a b h = elim (eqb_tells a b) [ inl same ↦ same.0 | inr other ↦ absurd (other.1 h) ]

is_less : (a b : ℕ) → suc a ≤ b → nat_lt a b ≡ true
is_less a b h = elim (leb_tells (suc a) b) [ inl same ↦ same.0 | inr other ↦ absurd (omega (arith, other.1, h)) ]

-- a `new` of this heap is one of the allocator that counts
new_counted : (m : Memory) (cell len : ℕ) (reply : Reply) (n : Memory) → MakesObject m cell len reply n → RecordsNew this_heap (counted m) cell len reply (counted n)
new_counted m cell len (Made serial address) n step = (
  step.0,
  step.1,
  is_true serial (length (counted m).serials) (step.2 ∙ sym (counted_length m)),
  step.3,
  ap counted step.4 ∙ counted_more m cell len address serial step.2,
)
new_counted m cell len (Refused Zero) n step = (step.0, ap counted step.1)
new_counted m cell len (Refused TooLarge) n step = (is_less 2048 len step.0, ap counted step.1)
new_counted m cell len (Refused NoPages) n step = (step.0, ap counted step.1)
new_counted m cell len (Refused NoAddresses) n step = (step.0, ap counted step.1)
new_counted m cell len (Refused _) n step = absurd step.0
new_counted m cell len Done n step = absurd step
new_counted m cell len (Bytes bytes) n step = absurd step
new_counted m cell len (At address) n step = absurd step
new_counted m cell len (Byte byte) n step = absurd step

kept_counted : (m n : Memory) (command : Command) (reply : Reply) → PlainStep m command reply n → ((cell len word : ℕ) → command ≡ New cell len word → ⊥)
    → (counted n).serials ≡ (counted m).serials
kept_counted m n command reply step other = as_many m n (as_large m command reply n step other)

-- so is each of its steps
pub step_counted : (m n : Memory) (command : Command) (reply : Reply) → PlainStep m command reply n → RecordedStep this_heap (counted m) command reply (counted n)
step_counted m n (New cell len word) reply step = new_counted m cell len reply n step
step_counted m n (Put cell off bytes) reply step = (step, kept_counted m n (Put cell off bytes) reply step (λ _ _ _ e. cc e))
step_counted m n (Get cell off len) reply step = (step, kept_counted m n (Get cell off len) reply step (λ _ _ _ e. cc e))
step_counted m n (Free cell) reply step = (step, kept_counted m n (Free cell) reply step (λ _ _ _ e. cc e))
step_counted m n (Alias to from) reply step = (step, kept_counted m n (Alias to from) reply step (λ _ _ _ e. cc e))
step_counted m n (Addr cell) reply step = (step, kept_counted m n (Addr cell) reply step (λ _ _ _ e. cc e))
step_counted m n (Peek place) reply step = (step, kept_counted m n (Peek place) reply step (λ _ _ _ e. cc e))
step_counted m n (Poke place byte) reply step = (step, kept_counted m n (Poke place byte) reply step (λ _ _ _ e. cc e))
step_counted m n (CopyBytes to to_off from from_off len) reply step =
    (step, kept_counted m n (CopyBytes to to_off from from_off len) reply step (λ _ _ _ e. cc e))

-- and so are its runs
pub runs_counted : (m n : Memory) (entries : List Entry) → Runs m entries n → RecordedRuns this_heap (counted m) entries (counted n)
runs_counted m n [] run = ap counted run
runs_counted m n (entry ∷ entries) run = (counted run.0, step_counted m run.0 entry.command entry.reply run.1, runs_counted run.0 n entries run.2)

-- the other way round: a `new` of the allocator that counts is one of this heap, and goes on counting
new_back : (m : Memory) (cell len : ℕ) (reply : Reply) (k : Recorded) → RecordsNew this_heap (counted m) cell len reply k
    → MakesObject m cell len reply k.memory × (k ≡ counted k.memory)
new_back m cell len (Made serial address) k step =
    let is : serial ≡ next_serial m = equal serial (length (counted m).serials) step.2 ∙ counted_length m in
    let whole : k ≡ counted (made m cell len address) = step.4 ∙ sym (counted_more m cell len address serial is) in
    let memory : k.memory ≡ made m cell len address = ap (λ (x : Recorded). x.memory) step.4 in
    ((step.0, step.1, is, step.3, memory), whole ∙ ap counted (sym memory))
new_back m cell len (Refused Zero) k step = ((step.0, ap (λ (x : Recorded). x.memory) step.1), same_again step.1)
  where
    same_again : k ≡ counted m → k ≡ counted k.memory
    same_again h = h ∙ ap counted (sym (ap (λ (x : Recorded). x.memory) h))
new_back m cell len (Refused TooLarge) k step = ((less 2048 len step.0, ap (λ (x : Recorded). x.memory) step.1), step.1 ∙ ap counted (sym (ap (λ (x : Recorded). x.memory) step.1)))
new_back m cell len (Refused NoPages) k step = ((step.0, ap (λ (x : Recorded). x.memory) step.1), step.1 ∙ ap counted (sym (ap (λ (x : Recorded). x.memory) step.1)))
new_back m cell len (Refused NoAddresses) k step = ((step.0, ap (λ (x : Recorded). x.memory) step.1), step.1 ∙ ap counted (sym (ap (λ (x : Recorded). x.memory) step.1)))
new_back m cell len (Refused _) k step = absurd step.0
new_back m cell len Done k step = absurd step
new_back m cell len (Bytes bytes) k step = absurd step
new_back m cell len (At address) k step = absurd step
new_back m cell len (Byte byte) k step = absurd step

kept_back : (m : Memory) (k : Recorded) (command : Command) (reply : Reply) → PlainStep m command reply k.memory × (k.serials ≡ (counted m).serials)
    → ((cell len word : ℕ) → command ≡ New cell len word → ⊥) → PlainStep m command reply k.memory × (k ≡ counted k.memory)
kept_back m k command reply step other =
    (step.0, same_recorded k (counted k.memory) refl (step.1 ∙ sym (as_many m k.memory (as_large m command reply k.memory step.0 other))))

step_back : (m : Memory) (k : Recorded) (command : Command) (reply : Reply) → RecordedStep this_heap (counted m) command reply k
    → PlainStep m command reply k.memory × (k ≡ counted k.memory)
step_back m k (New cell len word) reply step = new_back m cell len reply k step
step_back m k (Put cell off bytes) reply step = kept_back m k (Put cell off bytes) reply step (λ _ _ _ e. cc e)
step_back m k (Get cell off len) reply step = kept_back m k (Get cell off len) reply step (λ _ _ _ e. cc e)
step_back m k (Free cell) reply step = kept_back m k (Free cell) reply step (λ _ _ _ e. cc e)
step_back m k (Alias to from) reply step = kept_back m k (Alias to from) reply step (λ _ _ _ e. cc e)
step_back m k (Addr cell) reply step = kept_back m k (Addr cell) reply step (λ _ _ _ e. cc e)
step_back m k (Peek place) reply step = kept_back m k (Peek place) reply step (λ _ _ _ e. cc e)
step_back m k (Poke place byte) reply step = kept_back m k (Poke place byte) reply step (λ _ _ _ e. cc e)
step_back m k (CopyBytes to to_off from from_off len) reply step =
    kept_back m k (CopyBytes to to_off from from_off len) reply step (λ _ _ _ e. cc e)

pub runs_back : (m : Memory) (entries : List Entry) (n : Recorded) → RecordedRuns this_heap (counted m) entries n → Runs m entries n.memory
runs_back m [] n run = ap (λ (x : Recorded). x.memory) run
runs_back m (entry ∷ entries) n run =
    let step = step_back m run.0 entry.command entry.reply run.1 in
    let rest : RecordedRuns this_heap (counted run.0.memory) entries n = subst (λ (x : Recorded). RecordedRuns this_heap x entries n) step.1 run.2 in
    (run.0.memory, step.0, runs_back run.0.memory entries n rest)
