-- A recorded step changes the state of its cell as `after` says, and no other cell's state.
use Rattle.std.proofs.Common.{◌≡◌, ◌≢◌, ℕ, ◌+◌, ◌<◌, inl, inr, Bool, true, false, List, [], length, replicate, slice_range, arith, ap, refl, sym, subst, ◌∙◌, Some, None, Result, Ok, Err}
use Rattle.std.specs.Str.{bytes_eq}
use Rattle.std.proofs.lemmas.Bool.{eq-eqb}
use Rattle.std.proofs.lemmas.Slice.Eq.{bytes_eq-Decides}
use Rattle.model_history.specs.Recorded.{Recorded, RecordedStep, RecordsNew, any_allocator, many_cells}
use Rattle.model_memory.specs.Memory.{Memory, Object, overwritten, with_object}
use Rattle.model_memory.specs.Plain.{Follows, Named, PlainStep, ends_outside, made, named_by, stored}
use Rattle.model_memory.proofs.NamedObjects.{within_object}
use Rattle.model_memory.proofs.Objects.{overwritten_length}
use Rattle.model_words.specs.Words.{◌>>=◌, refuse_if}
use Rattle.model_words.specs.declared.commands.Command.{Command}
use Rattle.model_words.specs.declared.commands.Command.TheVariants.{New, Put, Get, Free, Addr}
use Rattle.model_words.specs.declared.commands.Reply.{Reply}
use Rattle.model_words.specs.declared.commands.Reply.TheVariants.{Object as Made, Done, Bytes, At, Refused}
use Rattle.model_words.specs.declared.refusals.Refusal.{Refusal}
use Rattle.model_words.specs.declared.refusals.Refusal.TheVariants.{Outside, Empty, Freed}
use Rattle.model_intervals.specs.Objects.{ends_past}
use Rattle.model_intervals.specs.OverlappingCalls.{HasEffect, IsNew, cell_of}
use Rattle.model_intervals.proofs.MemoryChanges.{Changes, made_changes, put_changes, stays}
use Rattle.model_intervals.proofs.CellStates.{CellState, Unmade, Live, Gone, after, state_of, look, named_so, unmade_root, HasLive, IsNamed}

-- the state of the command's cell changes by `after`, and all other cells keep their states
pub record Moves (m : Memory) (cell : ℕ) (command : Command) (reply : Reply) (n : Memory) : Type 0 where
  pub here : after (state_of m cell) command reply ≡ Some (state_of n cell)
  pub others : (d : ℕ) → d ≢ cell → state_of n d ≡ state_of m d
  pub named : IsNamed n

moved : (m : Memory) (cell : ℕ) (command : Command) (reply : Reply) (n : Memory) (s : CellState) → Changes m cell s n
    → after (state_of m cell) command reply ≡ Some s → Moves m cell command reply n
moved m cell command reply n s changes goes = record { here = goes ∙ ap Some (sym changes.here); others = changes.others; named = changes.named }

-- the reply is not a refusal
abbrev IsAnswer : Reply → Type 0
IsAnswer reply = (refusal : Refusal) → reply ≡ Refused refusal → ⊥

-- a command on a cell that is not refused found a live object
pub record Found (m : Memory) (cell : ℕ) (next : Named → Result (Reply × Memory) Refusal) (reply : Reply) (n : Memory) : Type 0 where
  pub has : HasLive m cell
  pub then : Follows (next (record { serial = has.live.index; object = has.object })) m reply n

found : (m : Memory) (cell : ℕ) (next : Named → Result (Reply × Memory) Refusal) (reply : Reply) (n : Memory) → IsAnswer reply
    → Follows (named_by m cell >>= next) m reply n → Found m cell next reply n
found m cell next reply n answer step = elim (look m cell) [
  | inl unmade ↦ let refused : Follows (Err Empty >>= next) m reply n = subst (λ (r : Result Named Refusal). Follows (r >>= next) m reply n) unmade.refused step in absurd (answer Empty refused.0)
  | inr (inl gone) ↦ let refused : Follows (Err Freed >>= next) m reply n = subst (λ (r : Result Named Refusal). Follows (r >>= next) m reply n) gone.refused step in absurd (answer Freed refused.0)
  | inr (inr has) ↦ record { has = has; then = subst (λ (r : Result Named Refusal). Follows (r >>= next) m reply n) (named_so m cell has.object has.live) step }
]

-- its range ends within the object
inside : (b : Bool) (next : Unit {0} → Result (Reply × Memory) Refusal) (m : Memory) (reply : Reply) (n : Memory) → IsAnswer reply
    → Follows (refuse_if Outside b >>= next) m reply n → (b ≡ false) × Follows (next tt) m reply n
inside true next m reply n answer step = absurd (answer Outside step.0)
inside false next m reply n answer step = (refl, step)

-- the commands on a live object
put_moves : (m : Memory) (cell off : ℕ) (items : List ℕ) (n : Memory) (command : Command) → IsNamed m
    → Follows (named_by m cell >>= λ named. refuse_if Outside (ends_outside named.object off (length items)) >>= λ _. Ok (Done, stored m named off items)) m Done n
    → ((object : Object) → ends_past object.bytes off (length items) ≡ false
    → after (Live object) command Done ≡ Some (Live (record object { bytes = overwritten object.bytes off items })))
    → Moves m cell command Done n
put_moves m cell off items n command named step goes =
    let at = found m cell _ Done n (λ refusal e. cc e) step in
    let object = at.has.object in
    let fits = inside (ends_outside object off (length items)) _ m Done n (λ refusal e. cc e) at.then in
    let new = record object { bytes = overwritten object.bytes off items } in
    let n_is : n ≡ with_object m at.has.live.index (Some new) = fits.1.1 in
    let long = overwritten_length object.bytes off items (within_object object off (length items) fits.0) in
    let some = named.filled at.has.live.index object at.has.live.live in
    let changes = put_changes m cell object named at.has.live (Some new) (omega (arith, long, some)) in
    moved m cell command Done n (Live new) (subst (λ x. Changes m cell (Live new) x) (sym n_is) changes)
    (ap (λ s. after s command Done) at.has.is ∙ goes object fits.0)

same_at : (told address : ℕ) → At told ≡ At address → told ≡ address
same_at told address h = cc h

-- the bytes of a reply
abbrev told_by : Reply → List ℕ
told_by (Bytes told) = told.items
told_by reply = []

get_moves : (m : Memory) (cell off len : ℕ) (reply : Reply) (n : Memory) → IsNamed m → IsAnswer reply → PlainStep m (Get cell off len) reply n
    → ((object : Object) → ends_past object.bytes off len ≡ false → bytes_eq (told_by reply) (slice_range object.bytes off (off + len)) ≡ true
    → after (Live object) (Get cell off len) reply ≡ Some (Live object)) → Moves m cell (Get cell off len) reply n
get_moves m cell off len reply n named answer step goes =
    let at = found m cell _ reply n answer step in
    let object = at.has.object in
    let fits = inside (ends_outside object off len) _ m reply n answer at.then in
    let read = (bytes_eq-Decides (told_by reply) (slice_range object.bytes off (off + len))).1 (ap told_by fits.1.0) in
    let changes = subst (λ s. Changes m cell s n) at.has.is (stays m cell n named fits.1.1) in
    moved m cell (Get cell off len) reply n (Live object) changes (ap (λ s. after s (Get cell off len) reply) at.has.is ∙ goes object fits.0 read)

addr_moves : (m : Memory) (cell told : ℕ) (n : Memory) → IsNamed m → PlainStep m (Addr cell) (At told) n → Moves m cell (Addr cell) (At told) n
addr_moves m cell told n named step =
    let at = found m cell _ (At told) n (λ refusal e. cc e) step in
    let object = at.has.object in
    let read = eq-eqb told object.address (same_at told object.address at.then.0) in
    let changes = subst (λ s. Changes m cell s n) at.has.is (stays m cell n named at.then.1) in
    moved m cell (Addr cell) (At told) n (Live object) changes (ap (λ s. after s (Addr cell) (At told)) at.has.is ∙ rw read refl)

free_moves : (m : Memory) (cell : ℕ) (n : Memory) → IsNamed m → PlainStep m (Free cell) Done n → Moves m cell (Free cell) Done n
free_moves m cell n named step =
    let at = found m cell _ Done n (λ refusal e. cc e) step in
    let changes = put_changes m cell at.has.object named at.has.live None tt in
    moved m cell (Free cell) Done n Gone (subst (λ x. Changes m cell Gone x) (sym at.then.1) changes) (ap (λ s. after s (Free cell) Done) at.has.is)

-- the two outcomes of a `new`
new_moves : (r : Recorded) (cell len : ℕ) (word : ℕ) (serial address : ℕ) (n : Recorded) → IsNamed r.memory → cell < many_cells → state_of r.memory cell ≡ Unmade
    → RecordsNew any_allocator r cell len (Made serial address) n → Moves r.memory cell (New cell len word) (Made serial address) n.memory
new_moves r cell len word serial address n named within unmade step =
    let changes = made_changes r.memory cell len address named within (unmade_root r.memory cell unmade) step.0 in
    let memory : n.memory ≡ made r.memory cell len address = ap (λ (x : Recorded). x.memory) step.4 in
    let new : Object = record { address = address; bytes = replicate len 0 } in
    moved r.memory cell (New cell len word) (Made serial address) n.memory (Live new) (subst (λ x. Changes r.memory cell (Live new) x) (sym memory) changes)
    (ap (λ s. after s (New cell len word) (Made serial address)) unmade)

refused_moves : (r : Recorded) (cell len word : ℕ) (refusal : Refusal) (n : Recorded) → IsNamed r.memory → state_of r.memory cell ≡ Unmade
    → n ≡ r → Moves r.memory cell (New cell len word) (Refused refusal) n.memory
refused_moves r cell len word refusal n named unmade same =
    let changes = subst (λ s. Changes r.memory cell s n.memory) unmade (stays r.memory cell n.memory named (ap (λ (x : Recorded). x.memory) same)) in
    moved r.memory cell (New cell len word) (Refused refusal) n.memory Unmade changes (ap (λ s. after s (New cell len word) (Refused refusal)) unmade)

-- all commands of a history
pub step_moves : (r : Recorded) (command : Command) (reply : Reply) (n : Recorded) → IsNamed r.memory → cell_of command < many_cells → HasEffect command reply
    → (IsNew command → state_of r.memory (cell_of command) ≡ Unmade) → RecordedStep any_allocator r command reply n
    → Moves r.memory (cell_of command) command reply n.memory
step_moves r (New cell len word) (Made serial address) n named within effect unmade step = new_moves r cell len word serial address n named within (unmade tt) step
step_moves r (New cell len word) (Refused refusal) n named within effect unmade step = refused_moves r cell len word refusal n named (unmade tt) step.1
step_moves r (Put cell off bytes) Done n named within effect unmade step = put_moves r.memory cell off bytes.items n.memory (Put cell off bytes) named step.0 (λ object fits. rw fits refl)
step_moves r (Get cell off len) (Bytes told) n named within effect unmade step =
    get_moves r.memory cell off len (Bytes told) n.memory named (λ refusal e. cc e) step.0 (λ object fits read. rw (fits, read) refl)
step_moves r (Free cell) Done n named within effect unmade step = free_moves r.memory cell n.memory named step.0
step_moves r (Addr cell) (At told) n named within effect unmade step = addr_moves r.memory cell told n.memory named step.0
step_moves r command reply n named within effect unmade step = absurd effect
