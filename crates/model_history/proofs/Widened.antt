-- A memory with more cells, which nothing names.
use Rattle.std.proofs.Common.{◌≡◌, ℕ, suc, zero, ◌+◌, ◌-◌, ◌<◌, ◌≤◌, ◌||◌, true, false, not, nat_le, List, [], ◌∷◌, ◌++◌, length, replicate, ap, subst, refl, sym, ◌∙◌, arith, inl, inr, Option, Some, None, Result, Ok, Err}
use Rattle.std.specs.List.{All, range_with_len}
use Rattle.std.proofs.Math.ListN.{length-set}
use Rattle.std.proofs.lemmas.List.Elements.{All-head, All-tail}
use Rattle.std.proofs.lemmas.Bool.Decides.{leb_tells, eqb_tells}
use Rattle.std.proofs.lemmas.List.{get_or_append_left, set-append_left, replicate-append-replicate, length-replicate}
use Rattle.model_memory.specs.Memory.{Memory, empty_memory, next_serial, root_of, with_new, with_root}
use Rattle.model_memory.specs.Plain.{Entry, Follows, MakesObject, PlainStep, Runs, both_named, ends_outside, holding, made, named_by, plain}
use Rattle.model_words.specs.Words.{◌>>=◌, refuse_if}
use Rattle.model_words.specs.declared.commands.Command.{Command}
use Rattle.model_words.specs.declared.commands.Command.TheVariants.{New, Put, Get, Free, Alias, Addr, Peek, Poke, Copy as CopyBytes}
use Rattle.model_words.specs.declared.commands.Reply.{Reply}
use Rattle.model_words.specs.declared.commands.Reply.TheVariants.{Object as Made, Done, Bytes, At, Byte, Refused}
use Rattle.model_words.specs.declared.refusals.Refusal.{Refusal}
use Rattle.model_words.specs.declared.refusals.Refusal.TheVariants.{Zero, TooLarge, NoPages, NoAddresses, Outside}
use Rattle.model_history.specs.Recorded.{Recorded, RecordedRuns, RecordedStep, RecordsNew, any_allocator, many_cells, nothing_recorded, was_given}
use Rattle.model_history.specs.RecordedLaws.{HasCells, counted}
use Rattle.model_history.proofs.Counted.{counted_more}
use Rattle.model_history.proofs.Steps.{as_large, same_recorded}

-- the memory with these cells behind its own
abbrev widened : List (Option ℕ) → Memory → Memory
widened more m = record m { roots = m.roots ++ more }

-- a result with such a memory
abbrev lifted : List (Option ℕ) → Result (Reply × Memory) Refusal → Result (Reply × Memory) Refusal
lifted more (Ok x) = Ok (x.0, widened more x.1)
lifted more (Err refusal) = Err refusal

-- a chain is lifted where its end is
lift_on : {A : Type 0} (more : List (Option ℕ)) (r : Result A Refusal) (f g : A → Result (Reply × Memory) Refusal) → ((x : A) → g x ≡ lifted more (f x))
    → (r >>= g) ≡ lifted more (r >>= f)
lift_on more (Err e) f g h = refl
lift_on more (Ok x) f g h = h x

-- a cell holds what it held
root_same : (more : List (Option ℕ)) (m : Memory) (cell : ℕ) → cell < length m.roots → root_of (widened more m) cell ≡ root_of m cell
root_same more m cell below = get_or_append_left m.roots more None cell below

-- another serial in a cell
root_put : (more : List (Option ℕ)) (m : Memory) (cell serial : ℕ) → cell < length m.roots → with_root (widened more m) cell serial ≡ widened more (with_root m cell serial)
root_put more m cell serial below = ap (λ (roots : List (Option ℕ)). record m { roots = roots }) (set-append_left m.roots more cell (Some serial) below)

-- the plain memory answers the same
plain_same : (more : List (Option ℕ)) (m : Memory) (command : Command) → HasCells (length m.roots) command → ((cell len word : ℕ) → command ≡ New cell len word → ⊥)
    → plain (widened more m) 0 command ≡ lifted more (plain m 0 command)
plain_same more m (New cell len word) below other = absurd (other cell len word refl)
plain_same more m (Put cell off bytes) below other =
    rw (root_same more m cell below) (lift_on more (named_by m cell) _ _ (λ named. lift_on more (refuse_if Outside (ends_outside named.object off (length bytes.items))) _ _ (λ _. refl)))
plain_same more m (Get cell off len) below other =
    rw (root_same more m cell below) (lift_on more (named_by m cell) _ _ (λ named. lift_on more (refuse_if Outside (ends_outside named.object off len)) _ _ (λ _. refl)))
plain_same more m (Free cell) below other = rw (root_same more m cell below) (lift_on more (named_by m cell) _ _ (λ named. refl))
plain_same more m (Alias to from) below other =
    rw (root_same more m from below.1) (lift_on more (named_by m from) _ _ (λ named. ap (λ (n : Memory). Ok (Done, n)) (root_put more m to named.serial below.0)))
plain_same more m (Addr cell) below other = rw (root_same more m cell below) (lift_on more (named_by m cell) _ _ (λ named. refl))
plain_same more m (Peek place) below other = lift_on more (holding m place) _ _ (λ named. refl)
plain_same more m (Poke place byte) below other = lift_on more (holding m place) _ _ (λ named. refl)
plain_same more m (CopyBytes to to_off from from_off len) below other =
    rw (root_same more m to below.0, root_same more m from below.1)
    (lift_on more (both_named m to from) _ _ (λ pair. lift_on more (refuse_if Outside (ends_outside pair.0.object to_off len || ends_outside pair.1.object from_off len)) _ _ (λ _. refl)))

lift_followed : (more : List (Option ℕ)) (r : Result (Reply × Memory) Refusal) (m n : Memory) (reply : Reply) → Follows r m reply n
    → Follows (lifted more r) (widened more m) reply (widened more n)
lift_followed more (Ok x) m n reply step = (step.0, ap (widened more) step.1)
lift_followed more (Err refusal) m n reply step = (step.0, ap (widened more) step.1)

-- the memory with more cells, and the serials counted
abbrev wide : List (Option ℕ) → Memory → Recorded
wide more m = record { memory = widened more m; serials = (counted m).serials }

-- a number past all that were counted was not given
not_counted : (a n serial : ℕ) → a + n ≤ serial → was_given (range_with_len a n) serial ≡ false
not_counted a zero serial above = refl
not_counted a (suc n) serial above = elim (eqb_tells a serial) [
  | inl same ↦ absurd (omega (arith, same.1, above))
  | inr other ↦ let rest = not_counted (a + 1) n serial (omega (arith, above)) in rw other.0 rest
]

some_len : (len : ℕ) → 1 ≤ len → nat_le 1 len ≡ true
some_len len h = elim (leb_tells 1 len) [ inl pass ↦ pass.0 | inr fail ↦ absurd (omega (arith, fail.1, h)) ]

-- a `new` of this heap is taken of any allocator
wide_new : (more : List (Option ℕ)) (m : Memory) (cell len : ℕ) (reply : Reply) (n : Memory) → cell < length m.roots → MakesObject m cell len reply n
    → RecordsNew any_allocator (wide more m) cell len reply (wide more n)
wide_new more m cell len (Made serial address) n below step =
    let fresh : was_given (counted m).serials serial ≡ false = (let s = step.2 in not_counted 0 (next_serial m) serial (omega (arith, s))) in
    let memory : widened more (made m cell len address) ≡ made (widened more m) cell len address = sym (root_put more (with_new m len address) cell (next_serial m) below) in
    let serials : (counted (made m cell len address)).serials ≡ (counted m).serials ++ serial ∷ [] = ap (λ (x : Recorded). x.serials) (counted_more m cell len address serial step.2) in
    let grown : wide more (made m cell len address) ≡ record { memory = made (widened more m) cell len address; serials = (counted m).serials ++ serial ∷ [] } =
    same_recorded (wide more (made m cell len address)) (record { memory = made (widened more m) cell len address; serials = (counted m).serials ++ serial ∷ [] }) memory serials in
    let few = step.1 in
    (step.0, omega (arith, few), ap not fresh, step.3, ap (wide more) step.4 ∙ grown)
wide_new more m cell len (Refused Zero) n below step = (step.0, ap (wide more) step.1)
wide_new more m cell len (Refused TooLarge) n below step = (let many = step.0 in some_len len (omega (arith, many)), ap (wide more) step.1)
wide_new more m cell len (Refused NoPages) n below step = (let s = step.0 in (s.0, (let few = s.1 in omega (arith, few))), ap (wide more) step.1)
wide_new more m cell len (Refused NoAddresses) n below step = (let s = step.0 in (s.0, (let few = s.1 in omega (arith, few))), ap (wide more) step.1)
wide_new more m cell len (Refused _) n below step = absurd step.0
wide_new more m cell len Done n below step = absurd step
wide_new more m cell len (Bytes bytes) n below step = absurd step
wide_new more m cell len (At address) n below step = absurd step
wide_new more m cell len (Byte byte) n below step = absurd step

wide_kept : (more : List (Option ℕ)) (m : Memory) (command : Command) (reply : Reply) (n : Memory) → HasCells (length m.roots) command
    → ((cell len word : ℕ) → command ≡ New cell len word → ⊥) → Follows (plain m 0 command) m reply n → PlainStep m command reply n
    → Follows (plain (widened more m) 0 command) (widened more m) reply (widened more n) × ((wide more n).serials ≡ (wide more m).serials)
wide_kept more m command reply n below other step plain_step =
    let lifted_step = lift_followed more (plain m 0 command) m n reply step in
    let large = as_large m command reply n plain_step other in (
      subst (λ (r : Result (Reply × Memory) Refusal). Follows r (widened more m) reply (widened more n)) (sym (plain_same more m command below other)) lifted_step,
      ap (λ (k : ℕ). range_with_len 0 k) large.0,
    )

-- so is each step
wide_step : (more : List (Option ℕ)) (m : Memory) (command : Command) (reply : Reply) (n : Memory) → HasCells (length m.roots) command → PlainStep m command reply n
    → RecordedStep any_allocator (wide more m) command reply (wide more n)
wide_step more m (New cell len word) reply n below step = wide_new more m cell len reply n below step
wide_step more m (Put cell off bytes) reply n below step = wide_kept more m (Put cell off bytes) reply n below (λ _ _ _ e. cc e) step step
wide_step more m (Get cell off len) reply n below step = wide_kept more m (Get cell off len) reply n below (λ _ _ _ e. cc e) step step
wide_step more m (Free cell) reply n below step = wide_kept more m (Free cell) reply n below (λ _ _ _ e. cc e) step step
wide_step more m (Alias to from) reply n below step = wide_kept more m (Alias to from) reply n below (λ _ _ _ e. cc e) step step
wide_step more m (Addr cell) reply n below step = wide_kept more m (Addr cell) reply n below (λ _ _ _ e. cc e) step step
wide_step more m (Peek place) reply n below step = wide_kept more m (Peek place) reply n below (λ _ _ _ e. cc e) step step
wide_step more m (Poke place byte) reply n below step = wide_kept more m (Poke place byte) reply n below (λ _ _ _ e. cc e) step step
wide_step more m (CopyBytes to to_off from from_off len) reply n below step =
    wide_kept more m (CopyBytes to to_off from from_off len) reply n below (λ _ _ _ e. cc e) step step

-- a `new` leaves as many cells
new_cells : (m : Memory) (cell len : ℕ) (reply : Reply) (n : Memory) → MakesObject m cell len reply n → length n.roots ≡ length m.roots
new_cells m cell len (Made serial address) n step = ap (λ (x : Memory). length x.roots) step.4 ∙ simp length-set refl
new_cells m cell len (Refused refusal) n step = ap (λ (x : Memory). length x.roots) step.1
new_cells m cell len reply n step = absurd step

-- so does any command
as_many_cells : (m : Memory) (command : Command) (reply : Reply) (n : Memory) → PlainStep m command reply n → length n.roots ≡ length m.roots
as_many_cells m (New cell len word) reply n step = new_cells m cell len reply n step
as_many_cells m (Put cell off bytes) reply n step = (as_large m (Put cell off bytes) reply n step (λ _ _ _ e. cc e)).1
as_many_cells m (Get cell off len) reply n step = (as_large m (Get cell off len) reply n step (λ _ _ _ e. cc e)).1
as_many_cells m (Free cell) reply n step = (as_large m (Free cell) reply n step (λ _ _ _ e. cc e)).1
as_many_cells m (Alias to from) reply n step = (as_large m (Alias to from) reply n step (λ _ _ _ e. cc e)).1
as_many_cells m (Addr cell) reply n step = (as_large m (Addr cell) reply n step (λ _ _ _ e. cc e)).1
as_many_cells m (Peek place) reply n step = (as_large m (Peek place) reply n step (λ _ _ _ e. cc e)).1
as_many_cells m (Poke place byte) reply n step = (as_large m (Poke place byte) reply n step (λ _ _ _ e. cc e)).1
as_many_cells m (CopyBytes to to_off from from_off len) reply n step = (as_large m (CopyBytes to to_off from from_off len) reply n step (λ _ _ _ e. cc e)).1

-- and so is each run
wide_runs : (more : List (Option ℕ)) (m : Memory) (entries : List Entry) (n : Memory) → length m.roots ≡ 256 → All (λ entry. HasCells 256 entry.command) entries
    → Runs m entries n → RecordedRuns any_allocator (wide more m) entries (wide more n)
wide_runs more m [] n cells all run = ap (wide more) run
wide_runs more m (entry ∷ entries) n cells all run =
    let first = All-head (λ (e : Entry). HasCells 256 e.command) entry entries all in
    let rest = All-tail (λ (e : Entry). HasCells 256 e.command) entry entries all in
    let below : HasCells (length m.roots) entry.command = subst (λ (k : ℕ). HasCells k entry.command) (sym cells) first in
    let step = wide_step more m entry.command entry.reply run.0 below run.1 in
    let cells' : length run.0.roots ≡ 256 = as_many_cells m entry.command entry.reply run.0 run.1 ∙ cells in
    (wide more run.0, step, wide_runs more run.0 entries n cells' rest run.2)

-- as many cells as any allocator may have are those of this heap and more
nothing_wide : nothing_recorded any_allocator ≡ wide (replicate (many_cells - 256) None) empty_memory
unfolding many_cells
nothing_wide =
    let cells : replicate many_cells None ≡ replicate 256 None ++ replicate (many_cells - 256) None = sym (replicate-append-replicate 256 (many_cells - 256) None) in
    ap (λ (roots : List (Option ℕ)). record { memory = record { objects = []; roots = roots }; serials = [] }) cells

-- a legal history of this heap is taken of any allocator
pub taken : (entries : List Entry) (end : Memory) → All (λ entry. HasCells 256 entry.command) entries → Runs empty_memory entries end
    → (end' : Recorded) × RecordedRuns any_allocator (nothing_recorded any_allocator) entries end'
taken entries end all run =
    let more = replicate (many_cells - 256) None in
    (wide more end, subst (λ (r : Recorded). RecordedRuns any_allocator r entries (wide more end)) (sym nothing_wide) (wide_runs more empty_memory entries end (length-replicate {A = Option ℕ} 256 None) all run))
