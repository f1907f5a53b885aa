-- What a command that may be made in two moves answers is judged by the reference memory.
use Rattle.std.proofs.Common.{◌≡◌, ◌⊎◌, ℕ, Bool, true, false, ◌&&◌, not, if◌then◌else◌, nat_eq, List, slice_index, Option, Some, None, Result, Ok, Err, is_some, refl, subst, inl, inr}
use Rattle.std.specs.Cmp.Lexicographic.{pointwise}
use Rattle.std.specs.List.{list_any}
use Rattle.model_words.specs.declared.commands.Command.{Command}
use Rattle.model_words.specs.declared.commands.Command.TheVariants.{New, Put, Get, Free, Alias, Addr, Peek, Poke, Copy as CopyBytes}
use Rattle.model_words.specs.declared.commands.Reply.{Reply}
use Rattle.model_words.specs.declared.commands.Reply.TheVariants.{Object as Made, Done, Bytes, At, Byte, Refused}
use Rattle.model_words.specs.declared.refusals.Refusal.{Refusal}
use Rattle.model_memory.specs.Memory.{Memory}
use Rattle.model_memory.specs.Plain.{Follows, PlainStep, plain}
use Rattle.model_otherwise.specs.Groups.{Placed, group_of}
use Rattle.model_otherwise.specs.Heaps.{Flight, Heap}
use Rattle.model_otherwise.specs.PageMap.{access_of}
use Rattle.model_otherwise.specs.Timed.{alone, attempted, begun, begun_by, ended_as, ended_by, ended_in, ended_through, is_plain, is_whole, making_of, timed, waits, with_map}
use Rattle.model_otherwise.specs.Tries.{Outcome, access_by, by_access, bytes_in, is_hit, loads_of, made_at, new_by_access, new_placed, others_tried, place_new, told, tried, unchanged}
use Rattle.model_otherwise.specs.declared.page_map.Access.{Access}
use Rattle.model_otherwise.specs.declared.page_map.Access.TheVariants.{Reached, Blocked, NoPage as Unmapped}
use Rattle.model_otherwise.specs.declared.timing.Making.{Making}
use Rattle.model_otherwise.specs.declared.timing.Making.TheVariants.{Whole, Split, Stale}
use Rattle.model_otherwise.specs.declared.timing.Timing.{Timing}
use Rattle.model_otherwise.specs.declared.tried.Tried.{Tried}
use Rattle.model_otherwise.specs.declared.tried.Tried.TheVariants.{Answered, Begun, Ended, Held, Waits, NoPage, Wrong, Overlaps, GroupGone}
use Rattle.model_otherwise.proofs.AnswersJudged.{answered_plain, told_answered, told_wrong, wrong_apart}

-- an outcome of a command in the memory `m` is judged by the replies and memories that may come: an answer is one of
-- them, a first move changes nothing, and a wrong answer is none of them
pub record IsJudged (May : Reply → Memory → Type 0) (m : Memory) (outcome : Outcome) : Type 0 where
  pub right : (reply : Reply) → outcome.tried ≡ Answered reply ⊎ outcome.tried ≡ Ended reply → May reply outcome.memory
  pub begins : outcome.tried ≡ Begun → outcome.memory ≡ m
  pub wrong : (n : Memory) (got wanted : Reply) → outcome.tried ≡ Wrong got wanted → May got n → ⊥

-- ---- a command that is one move

-- whether this is none of two moves
abbrev is_only : Tried → Bool
is_only Begun = false
is_only (Ended reply) = false
is_only _ = true

-- one of two such outcomes is one too
one_only : (b : Bool) (x y : Tried) → is_only x ≡ true → is_only y ≡ true → is_only (if b then x else y) ≡ true
one_only true x y hx hy = hx
one_only false x y hx hy = hy

-- what is told is none of two moves
told_only : (loaded : List ℕ) (r : Reply) → is_only (told loaded r) ≡ true
told_only loaded (Bytes wanted) = one_only (pointwise nat_eq loaded wanted.items) _ _ refl refl
told_only loaded (Byte wanted) = one_only (nat_eq (slice_index loaded 0) wanted) _ _ refl refl
told_only loaded (Made serial address) = refl
told_only loaded Done = refl
told_only loaded (At address) = refl
told_only loaded (Refused refusal) = refl

-- nor is a command after its accesses
accessed_only : (m : Memory) (heap : Heap) (command : Command) (x : Reply × Memory) (access : Access)
    → is_only (by_access m heap command x access).tried ≡ true
accessed_only m heap command x Reached = told_only (bytes_in heap (loads_of m command)) x.0
accessed_only m heap command x Blocked = refl
accessed_only m heap command x Unmapped = refl

-- nor is a command that makes no object
others_only : (m : Memory) (heap : Heap) (command : Command) (step : Result (Reply × Memory) Refusal)
    → is_only (others_tried m heap command step).tried ≡ true
others_only m heap command (Err refusal) = refl
others_only m heap command (Ok x) = accessed_only m heap command x (access_by m heap command)

-- nor is a new object at a place that it may have
made_only : (m : Memory) (heap : Heap) (len : ℕ) (placed : Placed) (step : Result (Reply × Memory) Refusal)
    → is_only (made_at m heap len placed step).tried ≡ true
made_only m heap len placed (Err refusal) = refl
made_only m heap len placed (Ok x) = refl

-- nor is a new object at a place where a live object may be
hit_only : (hit : Bool) (x y : Outcome) → is_only x.tried ≡ true → is_only y.tried ≡ true → is_only (if hit then x else y).tried ≡ true
hit_only true x y hx hy = hx
hit_only false x y hx hy = hy

-- nor is a new object at a place
placed_only : (m : Memory) (heap : Heap) (command : Command) (len : ℕ) (placed : Placed) (access : Access)
    → is_only (new_by_access m heap command len placed access).tried ≡ true
placed_only m heap command len placed Reached =
    hit_only (list_any (is_hit placed.address len) m.objects) _ _ refl (made_only m heap len placed (plain m placed.address command))
placed_only m heap command len placed Blocked = refl
placed_only m heap command len placed Unmapped = refl

-- nor is a new object
new_only : (m : Memory) (heap : Heap) (command : Command) (len : ℕ) (place : Result Placed Refusal)
    → is_only (new_placed m heap command len place).tried ≡ true
new_only m heap command len (Err refusal) = refl
new_only m heap command len (Ok placed) = placed_only m heap command len placed (access_of placed.heap.entries true placed.address len)

-- a command that is tried is none of two moves
tried_only : (pages : ℕ) (m : Memory) (heap : Heap) (command : Command) → is_only (tried pages m heap command).tried ≡ true
tried_only pages m heap (New cell len word) = new_only m heap (New cell len word) len (place_new pages m heap len word)
tried_only pages m heap (Put cell off bytes) = others_only m heap (Put cell off bytes) (plain m 0 (Put cell off bytes))
tried_only pages m heap (Get cell off len) = others_only m heap (Get cell off len) (plain m 0 (Get cell off len))
tried_only pages m heap (Free cell) = others_only m heap (Free cell) (plain m 0 (Free cell))
tried_only pages m heap (Alias to from) = others_only m heap (Alias to from) (plain m 0 (Alias to from))
tried_only pages m heap (Addr cell) = others_only m heap (Addr cell) (plain m 0 (Addr cell))
tried_only pages m heap (Peek place) = others_only m heap (Peek place) (plain m 0 (Peek place))
tried_only pages m heap (Poke place byte) = others_only m heap (Poke place byte) (plain m 0 (Poke place byte))
tried_only pages m heap (CopyBytes to to_off from from_off len) =
    others_only m heap (CopyBytes to to_off from from_off len) (plain m 0 (CopyBytes to to_off from from_off len))

-- so it isn't the first of two moves
pub tried_not_begun : (pages : ℕ) (m : Memory) (heap : Heap) (command : Command) → (tried pages m heap command).tried ≡ Begun → ⊥
tried_not_begun pages m heap command h =
    let only : is_only Begun ≡ true = subst (λ (t : Tried). is_only t ≡ true) h (tried_only pages m heap command) in
    cc only

-- nor the second one
pub tried_not_ended : (pages : ℕ) (m : Memory) (heap : Heap) (command : Command) (reply : Reply) → (tried pages m heap command).tried ≡ Ended reply → ⊥
tried_not_ended pages m heap command reply h =
    let only : is_only (Ended reply) ≡ true = subst (λ (t : Tried). is_only t ≡ true) h (tried_only pages m heap command) in
    cc only

-- a command that is one move is judged
tried_judged : (pages : ℕ) (m : Memory) (heap : Heap) (command : Command) → IsJudged (PlainStep m command) m (tried pages m heap command)
tried_judged pages m heap command = record {
  right = λ reply h. right reply h;
  begins = λ h. absurd (let only = subst (λ what. is_only what ≡ true) h (tried_only pages m heap command) in cc only);
  wrong = λ n got wanted h. wrong_apart pages m n heap command got wanted h;
}
  where
    right : (reply : Reply) → (tried pages m heap command).tried ≡ Answered reply ⊎ (tried pages m heap command).tried ≡ Ended reply
        → PlainStep m command reply (tried pages m heap command).memory
    right reply (inl h) = answered_plain pages m heap command reply h
    right reply (inr h) = absurd (let only = subst (λ what. is_only what ≡ true) h (tried_only pages m heap command) in cc only)

-- ---- nothing changes

-- whether this is no reply
abbrev is_silent : Tried → Bool
is_silent (Answered reply) = false
is_silent (Ended reply) = false
is_silent (Wrong got wanted) = false
is_silent _ = true

-- where nothing changes and there is no reply, there is nothing to judge
silent_judged : (May : Reply → Memory → Type 0) (m : Memory) (heap : Heap) (what : Tried) → is_silent what ≡ true → IsJudged May m (unchanged m heap what)
silent_judged May m heap what silent = record {
  right = λ reply h. right reply h;
  begins = λ h. refl;
  wrong = λ n got wanted h may. let none = rw h at silent in cc none;
}
  where
    right : (reply : Reply) → what ≡ Answered reply ⊎ what ≡ Ended reply → May reply m
    right reply (inl h) = absurd (let none = rw h at silent in cc none)
    right reply (inr h) = absurd (let none = rw h at silent in cc none)

-- the reference memory's refusal is judged
refused_judged : (m : Memory) (heap : Heap) (refusal : Refusal)
    → IsJudged (Follows (Err refusal) m) m (unchanged m heap (Answered (Refused refusal)))
refused_judged m heap refusal = record {
  right = λ reply h. right reply h;
  begins = λ h. refl;
  wrong = λ n got wanted h may. cc h;
}
  where
    right : (reply : Reply) → Answered (Refused refusal) ≡ Answered reply ⊎ Answered (Refused refusal) ≡ Ended reply
        → (reply ≡ Refused refusal) × (m ≡ m)
    right reply (inl h) = (cc h, refl)
    right reply (inr h) = absurd (cc h)

-- ---- the first move

-- a first move whose accesses become this is judged
begun_by_judged : (May : Reply → Memory → Type 0) (n : ℕ) (making : Making) (m : Memory) (heap : Heap) (command : Command) (access : Access)
    → IsJudged May m (begun_by n making m heap command access)
begun_by_judged May n making m heap command Reached = record {
  right = λ reply h. right reply h;
  begins = λ h. refl;
  wrong = λ k got wanted h may. cc h;
}
  where
    right : (reply : Reply) → Begun ≡ Answered reply ⊎ Begun ≡ Ended reply → May reply m
    right reply (inl h) = absurd (cc h)
    right reply (inr h) = absurd (cc h)
begun_by_judged May n making m heap command Blocked = silent_judged May m heap Held refl
begun_by_judged May n making m heap command Unmapped = silent_judged May m heap NoPage refl

-- a first move is judged
begun_judged : (n : ℕ) (making : Making) (m : Memory) (heap : Heap) (command : Command) (step : Result (Reply × Memory) Refusal)
    → IsJudged (Follows step m) m (begun n making m heap command step)
begun_judged n making m heap command (Err refusal) = refused_judged m heap refusal
begun_judged n making m heap command (Ok x) = begun_by_judged (Follows (Ok x) m) n making m heap command (access_by m heap command)

-- ---- the second move

-- a reply that comes with the second move is the one that was told
as_answered : (what : Tried) (reply : Reply) → is_only what ≡ true → ended_as what ≡ Answered reply ⊎ ended_as what ≡ Ended reply → what ≡ Answered reply
as_answered (Answered r) reply only (inl h) = absurd (cc h)
as_answered (Answered r) reply only (inr h) = cc h
as_answered (Ended r) reply only h = absurd (cc only)
as_answered Begun reply only h = absurd (cc only)
as_answered Held reply only (inl h) = absurd (cc h)
as_answered Held reply only (inr h) = absurd (cc h)
as_answered Waits reply only (inl h) = absurd (cc h)
as_answered Waits reply only (inr h) = absurd (cc h)
as_answered NoPage reply only (inl h) = absurd (cc h)
as_answered NoPage reply only (inr h) = absurd (cc h)
as_answered (Wrong got wanted) reply only (inl h) = absurd (cc h)
as_answered (Wrong got wanted) reply only (inr h) = absurd (cc h)
as_answered (Overlaps address) reply only (inl h) = absurd (cc h)
as_answered (Overlaps address) reply only (inr h) = absurd (cc h)
as_answered (GroupGone group) reply only (inl h) = absurd (cc h)
as_answered (GroupGone group) reply only (inr h) = absurd (cc h)

-- the second move isn't the first one
as_begun : (what : Tried) → is_only what ≡ true → ended_as what ≡ Begun → ⊥
as_begun (Answered r) only h = cc h
as_begun (Ended r) only h = cc h
as_begun Begun only h = cc only
as_begun Held only h = cc h
as_begun Waits only h = cc h
as_begun NoPage only h = cc h
as_begun (Wrong got wanted) only h = cc h
as_begun (Overlaps address) only h = cc h
as_begun (GroupGone group) only h = cc h

-- a wrong reply that comes with the second move is the one that was told
as_wrong : (what : Tried) (got wanted : Reply) → ended_as what ≡ Wrong got wanted → what ≡ Wrong got wanted
as_wrong (Answered r) got wanted h = absurd (cc h)
as_wrong (Ended r) got wanted h = h
as_wrong Begun got wanted h = h
as_wrong Held got wanted h = h
as_wrong Waits got wanted h = h
as_wrong NoPage got wanted h = h
as_wrong (Wrong x y) got wanted h = h
as_wrong (Overlaps address) got wanted h = h
as_wrong (GroupGone group) got wanted h = h

-- a second move that lands is judged
landed_judged : (m : Memory) (heap : Heap) (loaded : List ℕ) (x : Reply × Memory)
    → IsJudged (Follows (Ok x) m) m (record { tried = ended_as (told loaded x.0); memory = x.1; heap = heap })
landed_judged m heap loaded x = record {
  right = λ reply h. (told_answered loaded x.0 reply (as_answered (told loaded x.0) reply (told_only loaded x.0) h), refl);
  begins = λ h. absurd (as_begun (told loaded x.0) (told_only loaded x.0) h);
  wrong = λ n got wanted h may. told_wrong loaded x.0 got wanted (as_wrong (told loaded x.0) got wanted h) may.0;
}

-- a second move whose accesses become this is judged
ended_by_judged : (m : Memory) (heap through : Heap) (command : Command) (x : Reply × Memory) (access : Access)
    → IsJudged (Follows (Ok x) m) m (ended_by m heap through command x access)
ended_by_judged m heap through command x Reached = landed_judged m _ (bytes_in through (loads_of m command)) x
ended_by_judged m heap through command x Blocked = landed_judged m _ (bytes_in through (loads_of m command)) x
ended_by_judged m heap through command x Unmapped = silent_judged (Follows (Ok x) m) m heap NoPage refl

-- a second move that is made through a page map is judged
through_judged : (m : Memory) (heap through : Heap) (command : Command) (step : Result (Reply × Memory) Refusal)
    → IsJudged (Follows step m) m (ended_through m heap through command step)
through_judged m heap through command (Err refusal) = refused_judged m heap refusal
through_judged m heap through command (Ok x) = ended_by_judged m heap through command x (access_by m through command)

-- where two outcomes are judged, so is the one that a test chooses
either_judged : (May : Reply → Memory → Type 0) (m : Memory) (b : Bool) (x y : Outcome) → IsJudged May m x → IsJudged May m y
    → IsJudged May m (if b then x else y)
either_judged May m true x y hx hy = hx
either_judged May m false x y hx hy = hy

-- a second move is judged, if the group that was looked up exists or not
in_judged : (m : Memory) (heap : Heap) (command : Command) (f : Flight) (group : Option ℕ)
    → IsJudged (Follows (plain m 0 command) m) m (ended_in m heap command f group)
in_judged m heap command f None = through_judged m heap (with_map heap f.map) command (plain m 0 command)
in_judged m heap command f (Some group) = either_judged (Follows (plain m 0 command) m) m (is_some (group_of heap group)) _ _
    (through_judged m heap (with_map heap f.map) command (plain m 0 command))
    (silent_judged (Follows (plain m 0 command) m) m heap (GroupGone group) refl)

-- ---- both

-- a command without second move doesn't end
whole_judged : (May : Reply → Memory → Type 0) (m : Memory) (b : Bool) (x y : Outcome) → IsJudged May m y → IsJudged May m (if b && false then x else y)
whole_judged May m true x y hy = hy
whole_judged May m false x y hy = hy

-- a command that is one move is judged, beside another one or not
one_judged : (n pages : ℕ) (m : Memory) (heap : Heap) (command : Command) (flight : Option Flight)
    → IsJudged (PlainStep m command) m (timed Whole n pages m heap command flight)
one_judged n pages m heap command None = tried_judged pages m heap command
one_judged n pages m heap command (Some f) = whole_judged (PlainStep m command) m (nat_eq f.number n) _ _ (
    either_judged (PlainStep m command) m (true && not (waits m command f)) _ _ (tried_judged pages m heap command)
    (silent_judged (PlainStep m command) m heap Waits refl))

-- a command that makes no object is judged, if no other one is between its moves
alone_judged : (making : Making) (n pages : ℕ) (m : Memory) (heap : Heap) (command : Command)
    → IsJudged (Follows (plain m 0 command) m) m (tried pages m heap command)
    → IsJudged (Follows (plain m 0 command) m) m (alone making n pages m heap command)
alone_judged Whole n pages m heap command one = one
alone_judged Split n pages m heap command one = begun_judged n Split m heap command (plain m 0 command)
alone_judged Stale n pages m heap command one = begun_judged n Stale m heap command (plain m 0 command)

-- a command that makes no object is judged, however it's made
any_judged : (making : Making) (n pages : ℕ) (m : Memory) (heap : Heap) (command : Command) (flight : Option Flight)
    → IsJudged (Follows (plain m 0 command) m) m (tried pages m heap command)
    → IsJudged (Follows (plain m 0 command) m) m (timed making n pages m heap command flight)
any_judged making n pages m heap command None one = alone_judged making n pages m heap command one
any_judged making n pages m heap command (Some f) one =
    either_judged (Follows (plain m 0 command) m) m (nat_eq f.number n && not (is_whole making)) _ _ (in_judged m heap command f f.group) (
    either_judged (Follows (plain m 0 command) m) m (is_whole making && not (waits m command f)) _ _ one
    (silent_judged (Follows (plain m 0 command) m) m heap Waits refl))

-- each command is judged, made as its timing says
timed_judged : (t : Timing) (n pages : ℕ) (m : Memory) (heap : Heap) (command : Command)
    → IsJudged (PlainStep m command) m (timed (making_of t command) n pages m heap command heap.flight)
timed_judged t n pages m heap (New cell len word) = one_judged n pages m heap (New cell len word) heap.flight
timed_judged t n pages m heap (Put cell off bytes) =
    any_judged t.stores n pages m heap (Put cell off bytes) heap.flight (tried_judged pages m heap (Put cell off bytes))
timed_judged t n pages m heap (Get cell off len) =
    any_judged t.loads n pages m heap (Get cell off len) heap.flight (tried_judged pages m heap (Get cell off len))
timed_judged t n pages m heap (Free cell) = any_judged t.frees n pages m heap (Free cell) heap.flight (tried_judged pages m heap (Free cell))
timed_judged t n pages m heap (Alias to from) = one_judged n pages m heap (Alias to from) heap.flight
timed_judged t n pages m heap (Addr cell) = one_judged n pages m heap (Addr cell) heap.flight
timed_judged t n pages m heap (Peek place) = any_judged t.loads n pages m heap (Peek place) heap.flight (tried_judged pages m heap (Peek place))
timed_judged t n pages m heap (Poke place byte) =
    any_judged t.stores n pages m heap (Poke place byte) heap.flight (tried_judged pages m heap (Poke place byte))
timed_judged t n pages m heap (CopyBytes to to_off from from_off len) = one_judged n pages m heap (CopyBytes to to_off from from_off len) heap.flight

-- each command is judged
pub attempted_judged : (t : Timing) (n pages : ℕ) (m : Memory) (heap : Heap) (command : Command)
    → IsJudged (PlainStep m command) m (attempted t n pages m heap command)
attempted_judged t n pages m heap command =
    either_judged (PlainStep m command) m (is_plain t) _ _ (tried_judged pages m heap command) (timed_judged t n pages m heap command)
