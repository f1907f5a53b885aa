-- A command answered over a sound table tied to the memory is a plain step, and leaves them sound and tied.
use Rattle.std.proofs.Common.{◌≡◌, ℕ, ◌≤◌, true, false, nat_eq, nat_lt, List, length, find, subst, refl, arith, inl, inr, Option, Some, None, Result, Ok, Err}
use Rattle.std.proofs.lemmas.Bool.Decides.{nat_tests, eqb_tells, leb_tells}
use Rattle.model_words.proofs.Chains.{went_on, refuse_if_went, refuse_if_refused, or_refuse_refused, last_test, first_refused}
use Rattle.model_heap.proofs.NewApart.{new_vacant}
use Rattle.model_words.proofs.Tests.{positive}
use Rattle.model_heap.proofs.NewObjects.{new_sound}
use Rattle.model_heap.proofs.TableChanges.{free_sound}
use Rattle.model_heap.proofs.TiedMemories.{free_tied, root_tied, stored_tied}
use Rattle.model_heap.proofs.TiedNewObjects.{new_tied}
use Rattle.model_words.specs.Classes.{class_for}
use Rattle.model_jobs.specs.Jobs.{Outcome, answered, new_answered, others_answered, table_freed}
use Rattle.model_memory.specs.Memory.{Memory, next_serial}
use Rattle.model_memory.specs.Plain.{Follows, IsNewRefusal, Named, PlainStep, ends_outside, holding, named_by, plain, stored}
use Rattle.model_heap.specs.Sound.{IsSound, IsTied}
use Rattle.model_heap.specs.Table.{Group, Placed, Table, is_open, place_in, place_new, room_for_span}
use Rattle.model_words.specs.declared.commands.Command.{Command}
use Rattle.model_words.specs.declared.commands.Command.TheVariants.{Addr, Alias, Copy as CopyBytes, Free, Get, New, Peek, Poke, Put}
use Rattle.model_words.specs.declared.commands.Reply.{Reply}
use Rattle.model_words.specs.declared.commands.Reply.TheVariants.{At, Done}
use Rattle.model_words.specs.declared.refusals.Refusal.{Refusal}
use Rattle.model_words.specs.declared.refusals.Refusal.TheVariants.{Outside, TooLarge, Zero}
use Rattle.model_words.proofs.ClassSizes.{class_none, class_some}
use Rattle.model_heap.proofs.NewLengths.{new_length}
use Rattle.model_memory.proofs.NamedObjects.{named_live, holding_held, within_object, copy_went}

-- the answer is a plain step, and leaves table and memory sound and tied
pub record IsWell (m : Memory) (command : Command) (done : Outcome) : Type 0 where
  pub step : PlainStep m command done.reply done.memory
  pub sound : IsSound done.table
  pub tied : IsTied done.memory done.table

-- room for a new span is refused for want of pages or of addresses
room_refused : (t : Table) (class len : ℕ) (refusal : Refusal) → 1 ≤ len → len ≤ 2048 → room_for_span t class ≡ Err refusal → IsNewRefusal len refusal
room_refused t class len refusal some few h = grind (arith, nat_tests, refuse_if_refused, last_test)

-- a new object of a class is refused for want of room
place_refused : (t : Table) (o : Option Group) (class len word serial : ℕ) (refusal : Refusal) → 1 ≤ len → len ≤ 2048
    → place_in o t class word serial len ≡ Err refusal → IsNewRefusal len refusal
place_refused t (Some g) class len word serial refusal some few h = absurd (cc)
place_refused t None class len word serial refusal some few h =
    room_refused t class len refusal some few (first_refused (room_for_span t class) _ refusal h)

-- a new object is refused for its length, or for want of room
new_refused : (t : Table) (len word serial : ℕ) (refusal : Refusal) → place_new t len word serial ≡ Err refusal → IsNewRefusal len refusal
new_refused t len word serial refusal h = elim (refuse_if_refused Zero (nat_eq len 0) _ refusal h) [
  | inl none ↦ subst (λ (x : Refusal). IsNewRefusal len x) none.1 (no_length none.0)
  | inr some ↦ elim (or_refuse_refused TooLarge (class_for len) _ refusal some.1) [
    | inl large ↦ subst (λ (x : Refusal). IsNewRefusal len x) large.1 (class_none len large.0)
    | inr class ↦ place_refused t (find (is_open t class.0) t.groups) class.0 len word serial refusal (positive len some.0)
        (class_some len class.0 class.1) class.2
  ]
]
  where
    no_length : nat_eq len 0 ≡ true → len ≡ 0
    no_length h = elim (eqb_tells len 0) [ inl same ↦ same.1 | inr other ↦ let clash : false ≡ true = rw other.0 at h in absurd (cc clash) ]

-- a `new` answered
new_well : (m : Memory) (t : Table) (cell len word : ℕ) (r : Result Placed Refusal) → IsSound t → IsTied m t → place_new t len word (next_serial m) ≡ r
    → IsWell m (New cell len word) (new_answered m t (New cell len word) r)
new_well m t cell len word (Err refusal) sound tied h =
    record { step = (new_refused t len word (next_serial m) refusal h, refl); sound = sound; tied = tied }
new_well m t cell len word (Ok placed) sound tied h = grind (
  arith,
  nat_tests,
  new_length,
  within,
  positive,
  new_vacant m t len word (next_serial m) placed sound tied h,
  new_sound t len word (next_serial m) placed sound h,
  new_tied,
)
  where
    within : len ≤ 2048 → nat_lt 2048 len ≡ false
    within few = elim (leb_tells 2049 len) [ inl past ↦ absurd (omega (arith, past.1, few)) | inr below ↦ below.0 ]

-- what is answered follows the plain memory
pub others_follow : (m : Memory) (t u : Table) (r : Result (Reply × Memory) Refusal)
    → Follows r m (others_answered m t u r).reply (others_answered m t u r).memory
others_follow m t u (Err refusal) = (refl, refl)
others_follow m t u (Ok x) = (refl, refl)

-- the table is one of the two given
others_sound : (m : Memory) (t u : Table) (r : Result (Reply × Memory) Refusal) → IsSound t → IsSound u → IsSound (others_answered m t u r).table
others_sound m t u (Err refusal) sound sound' = sound
others_sound m t u (Ok x) sound sound' = sound'

-- table and memory are tied, where they are if nothing is refused
others_tied : (m : Memory) (t u : Table) (r : Result (Reply × Memory) Refusal) → IsTied m t → ((x : Reply × Memory) → r ≡ Ok x → IsTied x.1 u)
    → IsTied (others_answered m t u r).memory (others_answered m t u r).table
others_tied m t u (Err refusal) tied after = tied
others_tied m t u (Ok x) tied after = after x refl

-- a reply, and a memory after it
abbrev said : Reply → Memory → Result (Reply × Memory) Refusal
said reply n = Ok (reply, n)

-- the memory that is left is tied, where the one said is
said_tied : (n : Memory) (t : Table) (x : Reply × Memory) (reply : Reply) → IsTied n t → said reply n ≡ Ok x → IsTied x.1 t
said_tied n t x reply tied h = let is : (reply, n) ≡ x = cc h in subst (λ (y : Reply × Memory). IsTied y.1 t) is tied

-- the table without the object that a cell names is sound
freed_sound : (t : Table) (r : Result Named Refusal) → IsSound t → IsSound (table_freed t r)
freed_sound t (Err refusal) sound = sound
freed_sound t (Ok named) sound = free_sound t named.serial sound

-- what a `put` leaves is tied
put_tied : (m : Memory) (t : Table) (cell off : ℕ) (bytes : List ℕ) (x : Reply × Memory) → IsTied m t
    → plain m 0 (Put cell off (record { items = bytes })) ≡ Ok x → IsTied x.1 t
put_tied m t cell off bytes x tied h =
    let named = went_on (named_by m cell) _ x h in
    let inside = refuse_if_went Outside (ends_outside named.value.object off (length bytes)) _ x named.then in
    said_tied (stored m named.value off bytes) t x Done (stored_tied m t named.value off bytes (named_live m cell named.value named.is)
    (within_object named.value.object off (length bytes) inside.0) tied) inside.1

-- what a `get` leaves is tied
get_tied : (m : Memory) (t : Table) (cell off len : ℕ) (x : Reply × Memory) → IsTied m t → plain m 0 (Get cell off len) ≡ Ok x → IsTied x.1 t
get_tied m t cell off len x tied h = grind arith

-- what a `free` leaves is tied
freed_tied : (m : Memory) (t : Table) (cell : ℕ) (x : Reply × Memory) → IsTied m t → plain m 0 (Free cell) ≡ Ok x
    → IsTied x.1 (table_freed t (named_by m cell))
freed_tied m t cell x tied h = grind (arith, nat_tests, went_on (named_by m cell) _ x h, said_tied, free_tied m t, named_live m cell, tied)

-- what an `alias` leaves is tied
alias_tied : (m : Memory) (t : Table) (to from : ℕ) (x : Reply × Memory) → IsTied m t → plain m 0 (Alias to from) ≡ Ok x → IsTied x.1 t
alias_tied m t to from x tied h = grind (arith, nat_tests, went_on (named_by m from) _ x h, said_tied, root_tied m t to, tied)

-- what an `addr` leaves is tied
addr_tied : (m : Memory) (t : Table) (cell : ℕ) (x : Reply × Memory) → IsTied m t → plain m 0 (Addr cell) ≡ Ok x → IsTied x.1 t
addr_tied m t cell x tied h = let named = went_on (named_by m cell) _ x h in said_tied m t x (At named.value.object.address) tied named.then

-- what a `peek` leaves is tied
peek_tied : (m : Memory) (t : Table) (place : ℕ) (x : Reply × Memory) → IsTied m t → plain m 0 (Peek place) ≡ Ok x → IsTied x.1 t
peek_tied m t place x tied h = grind (arith, nat_tests, went_on (holding m place) _ x h, said_tied m t x, tied)

-- what a `poke` leaves is tied
poke_tied : (m : Memory) (t : Table) (place byte : ℕ) (x : Reply × Memory) → IsTied m t → plain m 0 (Poke place byte) ≡ Ok x → IsTied x.1 t
poke_tied m t place byte x tied h = grind (arith, nat_tests, went_on (holding m place) _ x h, holding_held m place, said_tied, stored_tied m t, tied)

-- what a `copy` leaves is tied
copy_tied : (m : Memory) (t : Table) (to to_off from from_off len : ℕ) (x : Reply × Memory) → IsTied m t
    → plain m 0 (CopyBytes to to_off from from_off len) ≡ Ok x → IsTied x.1 t
copy_tied m t to to_off from from_off len x tied h = grind (arith, nat_tests, copy_went m to to_off from from_off len x h, said_tied, stored_tied m t, tied)

-- a command answered is a plain step, and leaves table and memory sound and tied
pub answered_well : (m : Memory) (t : Table) (command : Command) → IsSound t → IsTied m t → IsWell m command (answered m t command)
answered_well m t (New cell len word) sound tied = new_well m t cell len word (place_new t len word (next_serial m)) sound tied refl
answered_well m t (Put cell off bytes) sound tied = record {
  step = others_follow m t t (plain m 0 (Put cell off bytes));
  sound = others_sound m t t (plain m 0 (Put cell off bytes)) sound sound;
  tied = others_tied m t t (plain m 0 (Put cell off bytes)) tied (λ x h. put_tied m t cell off bytes.items x tied h);
}
answered_well m t (Get cell off len) sound tied = record {
  step = others_follow m t t (plain m 0 (Get cell off len));
  sound = others_sound m t t (plain m 0 (Get cell off len)) sound sound;
  tied = others_tied m t t (plain m 0 (Get cell off len)) tied (λ x h. get_tied m t cell off len x tied h);
}
answered_well m t (Free cell) sound tied = record {
  step = others_follow m t (table_freed t (named_by m cell)) (plain m 0 (Free cell));
  sound = others_sound m t (table_freed t (named_by m cell)) (plain m 0 (Free cell)) sound (freed_sound t (named_by m cell) sound);
  tied = others_tied m t (table_freed t (named_by m cell)) (plain m 0 (Free cell)) tied (λ x h. freed_tied m t cell x tied h);
}
answered_well m t (Alias to from) sound tied = record {
  step = others_follow m t t (plain m 0 (Alias to from));
  sound = others_sound m t t (plain m 0 (Alias to from)) sound sound;
  tied = others_tied m t t (plain m 0 (Alias to from)) tied (λ x h. alias_tied m t to from x tied h);
}
answered_well m t (Addr cell) sound tied = record {
  step = others_follow m t t (plain m 0 (Addr cell));
  sound = others_sound m t t (plain m 0 (Addr cell)) sound sound;
  tied = others_tied m t t (plain m 0 (Addr cell)) tied (λ x h. addr_tied m t cell x tied h);
}
answered_well m t (Peek place) sound tied = record {
  step = others_follow m t t (plain m 0 (Peek place));
  sound = others_sound m t t (plain m 0 (Peek place)) sound sound;
  tied = others_tied m t t (plain m 0 (Peek place)) tied (λ x h. peek_tied m t place x tied h);
}
answered_well m t (Poke place byte) sound tied = record {
  step = others_follow m t t (plain m 0 (Poke place byte));
  sound = others_sound m t t (plain m 0 (Poke place byte)) sound sound;
  tied = others_tied m t t (plain m 0 (Poke place byte)) tied (λ x h. poke_tied m t place byte x tied h);
}
answered_well m t (CopyBytes to to_off from from_off len) sound tied = record {
  step = others_follow m t t (plain m 0 (CopyBytes to to_off from from_off len));
  sound = others_sound m t t (plain m 0 (CopyBytes to to_off from from_off len)) sound sound;
  tied = others_tied m t t (plain m 0 (CopyBytes to to_off from from_off len)) tied (λ x h. copy_tied m t to to_off from from_off len x tied h);
}
