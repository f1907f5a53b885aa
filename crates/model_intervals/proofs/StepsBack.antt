-- A command and a reply that are possible in the state of their cell are a recorded step.
use Rattle.std.proofs.Common.{◌≡◌, ℕ, ◌+◌, ◌≤◌, inl, inr, true, false, not, List, [], ◌∷◌, ◌++◌, length, slice_range, ap, refl, sym, subst, ◌∙◌, Some, None, Result, Ok}
use Rattle.std.specs.Str.{bytes_eq}
use Rattle.std.proofs.Common.{nat_eq}
use Rattle.std.proofs.lemmas.Bool.{eqb-true}
use Rattle.std.proofs.lemmas.Slice.Eq.{bytes_eq-Decides}
use Rattle.model_history.specs.Recorded.{IsOwnRefusal, Recorded, RecordedStep, any_allocator, was_given}
use Rattle.model_memory.specs.Memory.{Memory, Object, overwritten, with_object}
use Rattle.model_memory.specs.Plain.{Follows, IsVacantRange, Named, PlainStep, ends_outside, made, named_by, stored}
use Rattle.model_words.specs.Words.{◌>>=◌, refuse_if}
use Rattle.model_words.specs.declared.commands.Command.{Command}
use Rattle.model_words.specs.declared.commands.Command.TheVariants.{New, Put, Get, Free, Addr}
use Rattle.model_words.specs.declared.commands.Reply.{Reply}
use Rattle.model_words.specs.declared.commands.Reply.TheVariants.{Object as Made, Done, Bytes, At, Refused}
use Rattle.model_words.specs.declared.refusals.Refusal.{Refusal}
use Rattle.model_words.specs.declared.refusals.Refusal.TheVariants.{Outside}
use Rattle.model_intervals.specs.Objects.{ends_past}
use Rattle.model_intervals.specs.OverlappingCalls.{HasEffect, cell_of}
use Rattle.model_intervals.proofs.Lists.{tells}
use Rattle.model_intervals.proofs.CellStates.{CellState, Unmade, Live, Gone, after, state_of, look, named_so, HasLive}

-- the conditions of a `new`: on its length, and on the serial and the range of the object
abbrev pub CanMake : Recorded → Command → Reply → Type 0
CanMake r (New cell len word) (Made serial address) =
    (1 ≤ len) × (len ≤ any_allocator.longest) × (not (was_given r.serials serial) ≡ true) × IsVacantRange r.memory address len
CanMake r (New cell len word) (Refused refusal) = IsOwnRefusal any_allocator len refusal
CanMake r command reply = Unit {0}

-- the reply is possible only if the cell is live
abbrev NeedsLive : Command → Reply → Type 0
NeedsLive command reply = (after Unmade command reply ≡ None) × (after Gone command reply ≡ None)

live_first : (m : Memory) (cell : ℕ) (command : Command) (reply : Reply) (s : CellState) → NeedsLive command reply → after (state_of m cell) command reply ≡ Some s
    → (has : HasLive m cell) × (after (Live has.object) command reply ≡ Some s)
live_first m cell command reply s needs goes = elim (look m cell) [
  | inl unmade ↦ absurd (let clash : None ≡ Some s = sym needs.0 ∙ ap (λ x. after x command reply) (sym unmade.is) ∙ goes in cc clash)
  | inr (inl gone) ↦ absurd (let clash : None ≡ Some s = sym needs.1 ∙ ap (λ x. after x command reply) (sym gone.is) ∙ goes in cc clash)
  | inr (inr has) ↦ (has, ap (λ x. after x command reply) (sym has.is) ∙ goes)
]

follows_back : (m : Memory) (cell : ℕ) (next : Named → Result (Reply × Memory) Refusal) (reply : Reply) (n : Memory) (has : HasLive m cell)
    → Follows (next (record { serial = has.live.index; object = has.object })) m reply n → Follows (named_by m cell >>= next) m reply n
follows_back m cell next reply n has step = subst (λ (r : Result Named Refusal). Follows (r >>= next) m reply n) (sym (named_so m cell has.object has.live)) step

-- the commands on a live object
put_back : (m : Memory) (cell off : ℕ) (items : List ℕ) (command : Command) (s : CellState) → NeedsLive command Done
    → ((object : Object) → ends_past object.bytes off (length items) ≡ true → after (Live object) command Done ≡ None)
    → after (state_of m cell) command Done ≡ Some s
    → (n : Memory) × Follows (named_by m cell >>= λ named. refuse_if Outside (ends_outside named.object off (length items)) >>= λ _. Ok (Done, stored m named off items)) m Done n
put_back m cell off items command s needs over goes =
    let at = live_first m cell command Done s needs goes in
    let object = at.0.object in
    elim (tells (ends_past object.bytes off (length items))) [
      | inl past ↦ absurd (let clash : None ≡ Some s = sym (over object past) ∙ at.1 in cc clash)
      | inr fits ↦ (with_object m at.0.live.index (Some (record object { bytes = overwritten object.bytes off items })), follows_back m cell _ Done _ at.0 (rw fits (refl, refl)))
    ]

get_back : (m : Memory) (cell off len : ℕ) (items : List ℕ) (reply : Reply) (s : CellState) → NeedsLive (Get cell off len) reply
    → ((object : Object) → ends_past object.bytes off len ≡ true → after (Live object) (Get cell off len) reply ≡ None)
    → ((object : Object) → ends_past object.bytes off len ≡ false → bytes_eq items (slice_range object.bytes off (off + len)) ≡ false
    → after (Live object) (Get cell off len) reply ≡ None)
    → ((xs : List ℕ) → items ≡ xs → reply ≡ Bytes (record { items = xs }))
    → after (state_of m cell) (Get cell off len) reply ≡ Some s → (n : Memory) × PlainStep m (Get cell off len) reply n
get_back m cell off len items reply s needs over differ is goes =
    let at = live_first m cell (Get cell off len) reply s needs goes in
    let object = at.0.object in
    let read = slice_range object.bytes off (off + len) in
    elim (tells (ends_past object.bytes off len)) [
      | inl past ↦ absurd (let clash : None ≡ Some s = sym (over object past) ∙ at.1 in cc clash)
      | inr fits ↦ elim (tells (bytes_eq items read)) [
        | inl same ↦ (m, follows_back m cell _ reply m at.0 (rw fits (is read ((bytes_eq-Decides items read).0 same), refl)))
        | inr other ↦ absurd (let clash : None ≡ Some s = sym (differ object fits other) ∙ at.1 in cc clash)
      ]
    ]

addr_back : (m : Memory) (cell told : ℕ) (s : CellState) → after (state_of m cell) (Addr cell) (At told) ≡ Some s → (n : Memory) × PlainStep m (Addr cell) (At told) n
addr_back m cell told s goes =
    let at = live_first m cell (Addr cell) (At told) s (refl, refl) goes in
    let address = at.0.object.address in
    elim (tells (nat_eq told address)) [
      | inl same ↦ (m, follows_back m cell _ (At told) m at.0 (ap At (eqb-true told address same), refl))
      | inr other ↦ absurd (let clash : None ≡ Some s = rw other at at.1 in cc clash)
    ]

free_back : (m : Memory) (cell : ℕ) (s : CellState) → after (state_of m cell) (Free cell) Done ≡ Some s → (n : Memory) × PlainStep m (Free cell) Done n
free_back m cell s goes =
    let at = live_first m cell (Free cell) Done s (refl, refl) goes in
    (with_object m at.0.live.index None, follows_back m cell _ Done _ at.0 (refl, refl))

with_serials : (r : Recorded) (command : Command) (reply : Reply) → (n : Memory) × PlainStep r.memory command reply n
    → (n : Recorded) × (PlainStep r.memory command reply n.memory × (n.serials ≡ r.serials))
with_serials r command reply step = (record { memory = step.0; serials = r.serials }, (step.1, refl))

-- all commands of a history
pub step_back : (r : Recorded) (command : Command) (reply : Reply) (s : CellState) → HasEffect command reply
    → after (state_of r.memory (cell_of command)) command reply ≡ Some s → CanMake r command reply → (n : Recorded) × RecordedStep any_allocator r command reply n
step_back r (New cell len word) (Made serial address) s effect goes can =
    (record { memory = made r.memory cell len address; serials = r.serials ++ serial ∷ [] }, (can.0, can.1, can.2, can.3, refl))
step_back r (New cell len word) (Refused refusal) s effect goes can = (r, (can, refl))
step_back r (Put cell off bytes) Done s effect goes can = with_serials r (Put cell off bytes) Done
    (put_back r.memory cell off bytes.items (Put cell off bytes) s (refl, refl) (λ object past. rw past refl) goes)
step_back r (Get cell off len) (Bytes told) s effect goes can = with_serials r (Get cell off len) (Bytes told)
    (get_back r.memory cell off len told.items (Bytes told) s (refl, refl) (λ object past. rw past refl) (λ object fits other. rw (fits, other) refl)
    (λ xs same. ap (λ (ys : List ℕ). Bytes (record { items = ys })) same) goes)
step_back r (Free cell) Done s effect goes can = with_serials r (Free cell) Done (free_back r.memory cell s goes)
step_back r (Addr cell) (At told) s effect goes can = with_serials r (Addr cell) (At told) (addr_back r.memory cell told s goes)
step_back r command reply s effect goes can = absurd effect
