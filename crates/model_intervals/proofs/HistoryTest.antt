-- A test of calls, which computes. If it passes, they are a history.
use Rattle.std.proofs.Common.{◌≡◌, ◌≢◌, ℕ, suc, ◌<◌, ◌≤◌, inl, inr, Bool, true, false, not, ◌&&◌, ◌||◌, nat_eq, nat_le, nat_lt, List, [], ◌∷◌, arith, refl, Some, slice_get}
use Rattle.std.specs.List.{list_any}
use Rattle.std.proofs.lemmas.Bool.{and_parts, eq-eqb, eqb-true, leb-true, ltb-true, or_cases}
use Rattle.model_history.specs.Recorded.{many_cells}
use Rattle.model_words.specs.declared.commands.Command.{Command}
use Rattle.model_words.specs.declared.commands.Command.TheVariants.{New, Put, Get, Free, Addr}
use Rattle.model_words.specs.declared.commands.Reply.{Reply}
use Rattle.model_words.specs.declared.commands.Reply.TheVariants.{Object as Made, Done, Bytes, At, Refused}
use Rattle.model_intervals.specs.Intervals.{Call}
use Rattle.model_intervals.specs.OverlappingCalls.{HasEffect, IsFree, IsHistory, IsMadeBefore, IsNew, MakesOne, cell_at}
use Rattle.model_intervals.proofs.CellParts.{is_new}
use Rattle.model_intervals.proofs.Lists.{Every, every_weaker}
use Rattle.model_intervals.proofs.MiddleForm.{is_free}
use Rattle.model_intervals.proofs.Places.{Mutual, all_from, every_at, places_from_mutual}

-- ---- tests of lists

-- each element passes the test
abbrev pub passes_each : {X : Type 0} → (X → Bool) → List X → Bool
passes_each test [] = true
passes_each test (x ∷ xs) = test x && passes_each test xs

pub each_passes : {X : Type 0} (test : X → Bool) (xs : List X) → passes_each test xs ≡ true → Every (λ x. test x ≡ true) xs
each_passes test [] passes = tt
each_passes test (x ∷ xs) passes = let both = and_parts (test x) (passes_each test xs) passes in (both.0, each_passes test xs both.1)

-- each two elements at different places pass the test, in both directions
abbrev pub passes_pairs : {X : Type 0} → (X → X → Bool) → List X → Bool
passes_pairs test [] = true
passes_pairs test (x ∷ xs) = passes_each (λ y. test x y && test y x) xs && passes_pairs test xs

pub pairs_pass : {X : Type 0} (test : X → X → Bool) (xs : List X) → passes_pairs test xs ≡ true → Mutual (λ a b. test a b ≡ true) xs
pairs_pass test [] passes = tt
pairs_pass test (x ∷ xs) passes =
    let both = and_parts (passes_each (λ y. test x y && test y x) xs) (passes_pairs test xs) passes in (
      every_weaker (λ y. (test x y && test y x) ≡ true) (λ y. (test x y ≡ true) × (test y x ≡ true)) xs (λ y pass. and_parts (test x y) (test y x) pass)
          (each_passes (λ y. test x y && test y x) xs both.0),
      pairs_pass test xs both.1,
    )

-- an element that passes the test, and its place
pub one_passes : {X : Type 0} (test : X → Bool) (xs : List X) → list_any test xs ≡ true → (place : ℕ) × (x : X) × (slice_get xs place ≡ Some x) × (test x ≡ true)
one_passes test [] passes = absurd (cc passes)
one_passes test (x ∷ xs) passes = elim (or_cases (test x) (list_any test xs) passes) [
  | inl here ↦ (0, x, refl, here)
  | inr later ↦ let found = one_passes test xs later in (suc found.0, found.1, found.2, found.3)
]

-- ---- tests of calls

abbrev has_effect : Command → Reply → Bool
has_effect (New cell len word) (Made serial address) = true
has_effect (New cell len word) (Refused refusal) = true
has_effect (Put cell off bytes) Done = true
has_effect (Get cell off len) (Bytes bytes) = true
has_effect (Free cell) Done = true
has_effect (Addr cell) (At address) = true
has_effect command reply = false

effect_so : (command : Command) (reply : Reply) → has_effect command reply ≡ true → HasEffect command reply
effect_so (New cell len word) (Made serial address) has = tt
effect_so (New cell len word) (Refused refusal) has = tt
effect_so (Put cell off bytes) Done has = tt
effect_so (Get cell off len) (Bytes bytes) has = tt
effect_so (Free cell) Done has = tt
effect_so (Addr cell) (At address) has = tt
effect_so command reply has = absurd (cc has)

abbrev pub makes_one : Command → Reply → Bool
makes_one (New cell len word) (Made serial address) = true
makes_one command reply = false

makes_so : (command : Command) (reply : Reply) → makes_one command reply ≡ true → MakesOne command reply
makes_so (New cell len word) (Made serial address) makes = tt
makes_so command reply makes = absurd (cc makes)

new_so : (command : Command) → IsNew command → is_new command ≡ true
new_so (New cell len word) new = refl
new_so command new = absurd new

no_new_so : (command : Command) → is_new command ≡ true → IsNew command
no_new_so (New cell len word) new = tt
no_new_so command new = absurd (cc new)

pub free_is : (command : Command) → IsFree command → is_free command ≡ true
free_is (Free cell) free = refl
free_is command free = absurd free

-- a call that ended before the moment made the object of the cell
abbrev pub is_made_before : List Call → ℕ → ℕ → Bool
is_made_before calls cell moment = list_any (λ call. makes_one call.entry.command call.entry.reply && nat_eq (cell_at call) cell && nat_lt call.end moment) calls

made_before_so : (calls : List Call) (cell moment : ℕ) → is_made_before calls cell moment ≡ true → IsMadeBefore calls cell moment
made_before_so calls cell moment passes =
    let found = one_passes (λ call. makes_one call.entry.command call.entry.reply && nat_eq (cell_at call) cell && nat_lt call.end moment) calls passes in
    let call = found.1 in
    let parts = and_parts (makes_one call.entry.command call.entry.reply && nat_eq (cell_at call) cell) (nat_lt call.end moment) found.3 in
    let both = and_parts (makes_one call.entry.command call.entry.reply) (nat_eq (cell_at call) cell) parts.0 in
    record {
      place = found.0;
      call = call;
      there = found.2;
      makes = makes_so call.entry.command call.entry.reply both.0;
      names = eqb-true (cell_at call) cell both.1;
      ended = ltb-true call.end moment parts.1;
    }

-- what `IsHistory` requires of one call, and of two
abbrev is_call_of : List Call → Call → Bool
is_call_of calls call = (nat_le call.begin call.end && has_effect call.entry.command call.entry.reply)
    && (nat_lt (cell_at call) 4294967296 && (is_new call.entry.command || is_made_before calls (cell_at call) call.begin))

abbrev are_apart : Call → Call → Bool
are_apart a b = not (nat_eq (cell_at a) (cell_at b)) || (not (is_new a.entry.command && is_new b.entry.command) && (not (is_free b.entry.command) || nat_lt a.end b.begin))

abbrev pub is_history : List Call → Bool
is_history calls = passes_each (is_call_of calls) calls && passes_pairs are_apart calls

below_many : (cell : ℕ) → cell < 4294967296 → cell < many_cells
unfolding many_cells
below_many cell below = omega (arith, below)

-- the parts of `is_call_of`
record IsCallOf (calls : List Call) (call : Call) : Type 0 where
  pub time : call.begin ≤ call.end
  pub effect : HasEffect call.entry.command call.entry.reply
  pub cell : cell_at call < many_cells
  pub made : (IsNew call.entry.command → ⊥) → IsMadeBefore calls (cell_at call) call.begin

call_so : (calls : List Call) (call : Call) → is_call_of calls call ≡ true → IsCallOf calls call
call_so calls call passes =
    let parts = and_parts (nat_le call.begin call.end && has_effect call.entry.command call.entry.reply)
    (nat_lt (cell_at call) 4294967296 && (is_new call.entry.command || is_made_before calls (cell_at call) call.begin)) passes in
    let first = and_parts (nat_le call.begin call.end) (has_effect call.entry.command call.entry.reply) parts.0 in
    let last = and_parts (nat_lt (cell_at call) 4294967296) (is_new call.entry.command || is_made_before calls (cell_at call) call.begin) parts.1 in
    record {
      time = leb-true call.begin call.end first.0;
      effect = effect_so call.entry.command call.entry.reply first.1;
      cell = below_many (cell_at call) (ltb-true (cell_at call) 4294967296 last.0);
      made = λ no_new. elim (or_cases (is_new call.entry.command) (is_made_before calls (cell_at call) call.begin) last.1) [
        | inl new ↦ absurd (no_new (no_new_so call.entry.command new))
        | inr made ↦ made_before_so calls (cell_at call) call.begin made
      ];
    }

-- the parts of `are_apart`
same_cell : (a b : Call) → cell_at a ≡ cell_at b → are_apart a b ≡ true
    → (not (is_new a.entry.command && is_new b.entry.command) && (not (is_free b.entry.command) || nat_lt a.end b.begin)) ≡ true
same_cell a b same passes = let equal : nat_eq (cell_at a) (cell_at b) ≡ true = eq-eqb (cell_at a) (cell_at b) same in rw equal at passes

no_two_news : (a b : Call) → are_apart a b ≡ true → IsNew a.entry.command → IsNew b.entry.command → cell_at a ≢ cell_at b
no_two_news a b passes new_a new_b same =
    let parts = and_parts (not (is_new a.entry.command && is_new b.entry.command)) (not (is_free b.entry.command) || nat_lt a.end b.begin) (same_cell a b same passes) in
    let is_a = new_so a.entry.command new_a in let is_b = new_so b.entry.command new_b in
    let clash : not (true && true) ≡ true = rw (is_a, is_b) at parts.0 in cc clash

ends_first : (a b : Call) → are_apart a b ≡ true → IsFree b.entry.command → cell_at a ≡ cell_at b → a.end < b.begin
ends_first a b passes free same =
    let parts = and_parts (not (is_new a.entry.command && is_new b.entry.command)) (not (is_free b.entry.command) || nat_lt a.end b.begin) (same_cell a b same passes) in
    let is_b = free_is b.entry.command free in
    let last : (not true || nat_lt a.end b.begin) ≡ true = rw is_b at parts.1 in
    ltb-true a.end b.begin last

pub history_so : (calls : List Call) → is_history calls ≡ true → IsHistory calls
history_so calls passes =
    let both = and_parts (passes_each (is_call_of calls) calls) (passes_pairs are_apart calls) passes in
    let each = every_weaker (λ call. is_call_of calls call ≡ true) (IsCallOf calls) calls (call_so calls) (each_passes (is_call_of calls) calls both.0) in
    let pairs = pairs_pass are_apart calls both.1 in
    record {
      take_time = all_from (λ call. call.begin ≤ call.end) calls (every_weaker (IsCallOf calls) (λ call. call.begin ≤ call.end) calls (λ call is. is.time) each);
      have_effects = all_from (λ call. HasEffect call.entry.command call.entry.reply) calls
          (every_weaker (IsCallOf calls) (λ call. HasEffect call.entry.command call.entry.reply) calls (λ call is. is.effect) each);
      have_cells = all_from (λ call. cell_at call < many_cells) calls (every_weaker (IsCallOf calls) (λ call. cell_at call < many_cells) calls (λ call is. is.cell) each);
      own_cells = λ i j a b apart at_i at_j new_a new_b. no_two_news a b (places_from_mutual (λ c d. are_apart c d ≡ true) calls pairs i j a b apart at_i at_j) new_a new_b;
      after_new = λ i call at no_new. (every_at (IsCallOf calls) calls i call each at).made no_new;
      before_free = λ i j a f apart at_i at_j free same. ends_first a f (places_from_mutual (λ c d. are_apart c d ≡ true) calls pairs i j a f apart at_i at_j) free same;
    }
