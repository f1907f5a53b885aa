-- Reads that answer what the plain memory answers keep a history legal, and leave its end.
use Rattle.std.proofs.Common.{◌≡◌, ℕ, suc, ◌+◌, ◌<◌, ◌≤◌, true, List, [], ◌∷◌, ◌++◌, length, take, slice_get, slice_index_or, subst, refl, sym, arith, inl, inr, Option, Some, None}
use Rattle.std.specs.List.{All}
use Rattle.std.proofs.lemmas.List.Elements.{All-append, All-cons}
use Rattle.std.proofs.lemmas.Bool.Decides.{nat_tests}
use Rattle.std.proofs.lemmas.Grind.{common_steps}
use Rattle.model_memory.specs.Memory.{Memory}
use Rattle.model_memory.specs.Plain.{Entry, PlainStep, Runs}
use Rattle.model_words.specs.declared.commands.Command.{Command}
use Rattle.model_words.specs.declared.commands.Command.TheVariants.{Get, Addr, Peek}
use Rattle.model_words.specs.declared.commands.Reply.{Reply}
use Rattle.model_memory.specs.Reads.{Kept, all_reads_at, built_from, is_length, is_read, kept_by, left_by, memory_after, read_reply, reads_at}
use Rattle.model_memory.proofs.WovenCalls.{tells}

-- a read leaves the memory
pub read_stays : (m : Memory) (command : Command) → is_read command ≡ true → PlainStep m command (read_reply m command) m
read_stays m (Get cell off len) h = grind (arith, common_steps)
read_stays m (Addr cell) h = grind (arith, common_steps)
read_stays m (Peek addr) h = grind (arith, common_steps)
read_stays m command h = absurd (cc h)

-- what a step leaves
pub left_is : (m n : Memory) (command : Command) (reply : Reply) → PlainStep m command reply n → n ≡ left_by m command reply
left_is m n command reply step = grind (arith, common_steps)

-- two runs, one after the other
Runs_append : (m : Memory) (xs ys : List Entry) (k n : Memory) → Runs m xs k → Runs k ys n → Runs m (xs ++ ys) n
Runs_append m [] ys k n run next = subst (λ (x : Memory). Runs x ys n) run next
Runs_append m (x ∷ xs) ys k n run next = (run.0, run.1, Runs_append run.0 xs ys k n run.2 next)

-- the reads of a seat that saw `n` entries are answered as the memory answers
abbrev Stay : ℕ → Memory → List Kept → Type 0
Stay n m cs = (i : ℕ) (kept : Kept) → slice_get cs i ≡ Some kept → kept.seen ≡ Some n → (is_read kept.command ≡ true) × (kept.reply ≡ read_reply m kept.command)

-- a length that is the one
is_this : (n : ℕ) (s : Option ℕ) → is_length n s ≡ true → s ≡ Some n
is_this n None h = cc
is_this n (Some k) h = grind (arith, nat_tests)

reads_run : (n w : ℕ) (m : Memory) (cs : List Kept) → Stay n m cs → Runs m (reads_at n w cs) m
reads_run n w m [] stay = refl
reads_run n w m (c ∷ cs) stay = let rest = reads_run n w m cs (λ i kept at. stay (suc i) kept at) in elim (tells (is_length n c.seen)) [
  | inl hit ↦ let good = stay 0 c refl (is_this n c.seen hit) in
      rw hit (m, subst (λ (reply : Reply). PlainStep m c.command reply m) (sym good.1) (read_stays m c.command good.0), rest)
  | inr miss ↦ rw miss rest
]

all_reads_run : (n w : ℕ) (m : Memory) (seats : List (List Kept)) → ((j : ℕ) → Stay n m (slice_index_or seats j [])) → Runs m (all_reads_at n w seats) m
all_reads_run n w m [] stay = refl
all_reads_run n w m (cs ∷ seats) stay =
    Runs_append m (reads_at n w cs) (all_reads_at n (suc w) seats) m m (reads_run n w m cs (stay 0)) (all_reads_run n (suc w) m seats (λ j. stay (suc j)))

-- the reads, each after as many of these entries as it saw after the first `k`, are answered as the memory there
-- answers
abbrev AllStay : ℕ → Memory → List (List Kept) → List Entry → Type 0
AllStay k m seats entries = (j d n i : ℕ) (kept : Kept) → n ≡ k + d → slice_get (kept_by seats j) i ≡ Some kept → kept.seen ≡ Some n
    → (is_read kept.command ≡ true) × (kept.reply ≡ read_reply (memory_after m (take d entries)) kept.command)

-- the history that is built runs where the entries run
pub built_runs : (entries : List Entry) (k : ℕ) (m end : Memory) (seats : List (List Kept)) → Runs m entries end → AllStay k m seats entries
    → Runs m (built_from k seats entries) end
built_runs [] k m end seats run stay =
    subst (λ (x : Memory). Runs m (all_reads_at k 0 seats) x) (sym run) (all_reads_run k 0 m seats (λ j i kept at sees. stay j 0 k i kept (omega arith) at sees))
built_runs (e ∷ es) k m end seats run stay =
    let left = left_is m run.0 e.command e.reply run.1 in
    let here = all_reads_run k 0 m seats (λ j i kept at sees. stay j 0 k i kept (omega arith) at sees) in
    let rest = built_runs es (suc k) run.0 end seats run.2 (λ j d n i kept is at sees.
    let good = stay j (suc d) n i kept (omega (arith, is)) at sees in
    (good.0, subst (λ (x : Memory). kept.reply ≡ read_reply (memory_after x (take d es)) kept.command) (sym left) good.1)) in
    Runs_append m (all_reads_at k 0 seats) (e ∷ built_from (suc k) seats es) m end here (run.0, run.1, rest)

-- the reads have their seats' numbers
reads_known : (n w count : ℕ) (cs : List Kept) → w < count → All (λ entry. entry.worker < count) (reads_at n w cs)
reads_known n w count [] h = λ k d below. absurd (omega (arith, below))
reads_known n w count (c ∷ cs) h = grind (arith, nat_tests, reads_known n w count cs h, All-cons)

all_known : (n w count : ℕ) (seats : List (List Kept)) → w + length seats ≤ count → All (λ entry. entry.worker < count) (all_reads_at n w seats)
all_known n w count [] h = λ k d below. absurd (omega (arith, below))
all_known n w count (cs ∷ seats) h =
    All-append (λ (entry : Entry). entry.worker < count) (reads_at n w cs) (all_reads_at n (suc w) seats) (reads_known n w count cs (omega (arith, h)))
    (all_known n (suc w) count seats (omega (arith, h)))

pub built_known : (entries : List Entry) (k : ℕ) (seats : List (List Kept)) → All (λ entry. entry.worker < length seats) entries
    → All (λ entry. entry.worker < length seats) (built_from k seats entries)
built_known [] k seats known = all_known k 0 (length seats) seats (omega arith)
built_known (e ∷ es) k seats known =
    let rest = built_known es (suc k) seats (λ j d below. known (suc j) d (omega (arith, below))) in
    All-append (λ (entry : Entry). entry.worker < length seats) (all_reads_at k 0 seats) (e ∷ built_from (suc k) seats es) (all_known k 0 (length seats) seats (omega arith))
    (All-cons (λ (entry : Entry). entry.worker < length seats) e (built_from (suc k) seats es) (known 0 e (omega arith)) rest)
