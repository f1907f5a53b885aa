-- A test, which computes, of a history's calls and an order of them.
-- If it passes, that order explains each object's accesses by themselves, so some order explains all calls.
use Rattle.std.proofs.Common.{◌≡◌, ◌≢◌, ℕ, ◌+◌, ◌<◌, ◌≤◌, ◌⊎◌, inl, inr, Bool, true, false, not, ◌&&◌, ◌||◌, nat_eq, nat_le, nat_lt, List, [], ◌∷◌, replicate, refl, subst, Option, Some, None, slice_get}
use Rattle.std.specs.List.{list_any}
use Rattle.std.specs.List.Sorted.{IsPermutation}
use Rattle.std.specs.Option.{is_some}
use Rattle.std.proofs.lemmas.Bool.{and_parts, eq-eqb, eqb-true, leb-true, lt-ltb, or_cases}
use Rattle.model_history.specs.Recorded.{any_allocator}
use Rattle.model_words.specs.declared.commands.Command.{Command}
use Rattle.model_words.specs.declared.commands.Command.TheVariants.{New}
use Rattle.model_words.specs.declared.commands.Reply.{Reply}
use Rattle.model_words.specs.declared.commands.Reply.TheVariants.{Object as Made, Refused}
use Rattle.model_words.specs.declared.refusals.Refusal.TheVariants.{Zero, TooLarge, NoPages, NoAddresses}
use Rattle.model_intervals.specs.Intervals.{Call, IsLinearizable}
use Rattle.model_intervals.specs.Objects.{Object as NewObject, IsExplainedByObject, IsFairNew, IsFreedBy, Meet, accesses_of, bytes_behind, is_access}
use Rattle.model_intervals.specs.OverlappingCalls.{IsHistory, cell_at}
use Rattle.model_intervals.proofs.AfterStep.{frees_own}
use Rattle.model_intervals.proofs.CellParts.{free_so}
use Rattle.model_intervals.proofs.Filtered.{pairs_filter}
use Rattle.model_intervals.proofs.HistoryTest.{each_passes, is_history, history_so, one_passes, pairs_pass, passes_each, passes_pairs}
use Rattle.model_intervals.proofs.Lists.{Pairs, every_weaker}
use Rattle.model_intervals.proofs.MiddleForm.{frees, made_by}
use Rattle.model_intervals.proofs.OneOrder.{linearizable}
use Rattle.model_intervals.proofs.Permuted.{filter_permuted}
use Rattle.model_intervals.proofs.Places.{all_from, all_pairs_from, every_at, places_from_mutual}

-- ---- the calls by themselves

abbrev is_fair : Command → Reply → Bool
is_fair (New cell len word) (Made serial address) = nat_le 1 len && nat_le len any_allocator.longest
is_fair (New cell len word) (Refused Zero) = nat_eq len 0
is_fair (New cell len word) (Refused TooLarge) = nat_le 1 len
is_fair (New cell len word) (Refused NoPages) = nat_le 1 len && nat_le len any_allocator.longest
is_fair (New cell len word) (Refused NoAddresses) = nat_le 1 len && nat_le len any_allocator.longest
is_fair (New cell len word) (Refused refusal) = false
is_fair command reply = true

within : (len : ℕ) → (nat_le 1 len && nat_le len any_allocator.longest) ≡ true → (1 ≤ len) × (len ≤ any_allocator.longest)
within len passes = let both = and_parts (nat_le 1 len) (nat_le len any_allocator.longest) passes in (leb-true 1 len both.0, leb-true len any_allocator.longest both.1)

fair_so : (command : Command) (reply : Reply) → is_fair command reply ≡ true → IsFairNew command reply
fair_so (New cell len word) (Made serial address) fair = within len fair
fair_so (New cell len word) (Refused Zero) fair = eqb-true len 0 fair
fair_so (New cell len word) (Refused TooLarge) fair = fair
fair_so (New cell len word) (Refused NoPages) fair = within len fair
fair_so (New cell len word) (Refused NoAddresses) fair = within len fair
fair_so (New cell len word) (Refused refusal) fair = absurd (cc fair)
fair_so command reply fair = tt

-- ---- two objects

-- the object of the cell was freed by the moment
abbrev pub is_freed_by : List Call → ℕ → ℕ → Bool
is_freed_by calls cell moment = list_any (λ call. frees cell call && nat_le call.begin moment) calls

freed_so : (calls : List Call) (cell moment : ℕ) → is_freed_by calls cell moment ≡ true → IsFreedBy calls cell moment
freed_so calls cell moment passes =
    let found = one_passes (λ call. frees cell call && nat_le call.begin moment) calls passes in
    let both = and_parts (frees cell found.1) (nat_le found.1.begin moment) found.3 in
    let own = frees_own cell found.1 both.0 in
    record {
      place = found.0;
      free = found.1;
      there = found.2;
      frees = free_so found.1.entry.command own.0;
      names = own.1;
      begun = leb-true found.1.begin moment both.1;
    }

-- the ranges meet, so one of the objects was freed
abbrev are_parted : List Call → ℕ → ℕ → NewObject → NewObject → Bool
are_parted calls end_x end_y x y = not (nat_lt x.address (y.address + y.len) && nat_lt y.address (x.address + x.len))
    || (is_freed_by calls x.cell end_y || is_freed_by calls y.cell end_x)

abbrev differ : List Call → ℕ → ℕ → Option NewObject → Option NewObject → Bool
differ calls end_a end_b (Some x) (Some y) = not (nat_eq x.serial y.serial) && are_parted calls end_a end_b x y
differ calls end_a end_b x y = true

abbrev calls_differ : List Call → Call → Call → Bool
calls_differ calls a b = differ calls a.end b.end (made_by a) (made_by b)

both_made : (calls : List Call) (a b : Call) (x y : NewObject) → calls_differ calls a b ≡ true → made_by a ≡ Some x → made_by b ≡ Some y
    → (not (nat_eq x.serial y.serial) ≡ true) × (are_parted calls a.end b.end x y ≡ true)
both_made calls a b x y passes makes_x makes_y =
    let at_x = subst (λ o. differ calls a.end b.end o (made_by b) ≡ true) makes_x passes in
    let at_y : differ calls a.end b.end (Some x) (Some y) ≡ true = subst (λ o. differ calls a.end b.end (Some x) o ≡ true) makes_y at_x in
    and_parts (not (nat_eq x.serial y.serial)) (are_parted calls a.end b.end x y) at_y

other_serial : (x y : NewObject) → not (nat_eq x.serial y.serial) ≡ true → x.serial ≢ y.serial
other_serial x y passes same =
    let equal : nat_eq x.serial y.serial ≡ true = eq-eqb x.serial y.serial same in
    let clash : not true ≡ true = rw equal at passes in cc clash

parted_so : (calls : List Call) (end_x end_y : ℕ) (x y : NewObject) → are_parted calls end_x end_y x y ≡ true → Meet x y
    → IsFreedBy calls x.cell end_y ⊎ IsFreedBy calls y.cell end_x
parted_so calls end_x end_y x y passes meet =
    let low : nat_lt x.address (y.address + y.len) ≡ true = lt-ltb x.address (y.address + y.len) meet.0 in
    let high : nat_lt y.address (x.address + x.len) ≡ true = lt-ltb y.address (x.address + x.len) meet.1 in
    let freed : (is_freed_by calls x.cell end_y || is_freed_by calls y.cell end_x) ≡ true = rw (low, high) at passes in
    elim (or_cases (is_freed_by calls x.cell end_y) (is_freed_by calls y.cell end_x) freed) [
      | inl of_x ↦ inl (freed_so calls x.cell end_y of_x)
      | inr of_y ↦ inr (freed_so calls y.cell end_x of_y)
    ]

-- ---- the accesses of an object, in this order

abbrev answers_of : List Call → Option NewObject → Bool
answers_of order None = true
answers_of order (Some x) = is_some (bytes_behind x.address (replicate x.len 0) (accesses_of x.cell order))

some_last : (bytes : Option (List ℕ)) → is_some bytes ≡ true → (last : List ℕ) × (bytes ≡ Some last)
some_last None passes = absurd (cc passes)
some_last (Some last) passes = (last, refl)

-- the back call didn't end before the front one began
abbrev goes_before : Call → Call → Bool
goes_before front back = not (nat_lt back.end front.begin)

abbrev passes_ordered : List Call → Bool
passes_ordered [] = true
passes_ordered (call ∷ calls) = passes_each (goes_before call) calls && passes_ordered calls

in_time : (order : List Call) → passes_ordered order ≡ true → Pairs (λ front back. back.end < front.begin → ⊥) order
in_time [] passes = tt
in_time (call ∷ order) passes =
    let both = and_parts (passes_each (goes_before call) order) (passes_ordered order) passes in (
      every_weaker (λ back. goes_before call back ≡ true) (λ back. back.end < call.begin → ⊥) order
          (λ back pass early.
          let is : nat_lt back.end call.begin ≡ true = lt-ltb back.end call.begin early in
          let clash : not true ≡ true = rw is at pass in cc clash) (each_passes (goes_before call) order both.0),
      in_time order both.1,
    )

abbrev pub explains : List Call → List Call → Bool
explains calls order = (passes_each (λ call. is_fair call.entry.command call.entry.reply) calls && passes_pairs (calls_differ calls) calls)
    && (passes_each (λ call. answers_of order (made_by call)) calls && passes_ordered order)

module _ (calls order : List Call) (same : IsPermutation order calls) (passes : explains calls order ≡ true) where
  parts : ((passes_each (λ call. is_fair call.entry.command call.entry.reply) calls && passes_pairs (calls_differ calls) calls) ≡ true)
      × ((passes_each (λ call. answers_of order (made_by call)) calls && passes_ordered order) ≡ true)
  parts = and_parts (passes_each (λ call. is_fair call.entry.command call.entry.reply) calls && passes_pairs (calls_differ calls) calls)
      (passes_each (λ call. answers_of order (made_by call)) calls && passes_ordered order) passes

  first : (passes_each (λ call. is_fair call.entry.command call.entry.reply) calls ≡ true) × (passes_pairs (calls_differ calls) calls ≡ true)
  first = and_parts (passes_each (λ call. is_fair call.entry.command call.entry.reply) calls) (passes_pairs (calls_differ calls) calls) parts.0

  last : (passes_each (λ call. answers_of order (made_by call)) calls ≡ true) × (passes_ordered order ≡ true)
  last = and_parts (passes_each (λ call. answers_of order (made_by call)) calls) (passes_ordered order) parts.1

  two : (i j : ℕ) (a b : Call) (x y : NewObject) → i ≢ j → slice_get calls i ≡ Some a → slice_get calls j ≡ Some b → made_by a ≡ Some x → made_by b ≡ Some y
      → (not (nat_eq x.serial y.serial) ≡ true) × (are_parted calls a.end b.end x y ≡ true)
  two i j a b x y apart at_i at_j makes_x makes_y =
      both_made calls a b x y (places_from_mutual (λ c d. calls_differ calls c d ≡ true) calls (pairs_pass (calls_differ calls) calls first.1) i j a b apart at_i at_j)
      makes_x makes_y

  answers : (i : ℕ) (call : Call) (x : NewObject) → slice_get calls i ≡ Some call → made_by call ≡ Some x
      → (bytes : List ℕ) × (bytes_behind x.address (replicate x.len 0) (accesses_of x.cell order) ≡ Some bytes)
  answers i call x at makes =
      let pass = every_at (λ c. answers_of order (made_by c) ≡ true) calls i call (each_passes (λ c. answers_of order (made_by c)) calls last.0) at in
      some_last (bytes_behind x.address (replicate x.len 0) (accesses_of x.cell order)) (subst (λ o. answers_of order o ≡ true) makes pass)

  by_object : IsExplainedByObject calls
  by_object = record {
    fair = all_from (λ call. IsFairNew call.entry.command call.entry.reply) calls
        (every_weaker (λ call. is_fair call.entry.command call.entry.reply ≡ true) (λ call. IsFairNew call.entry.command call.entry.reply) calls
        (λ call pass. fair_so call.entry.command call.entry.reply pass) (each_passes (λ call. is_fair call.entry.command call.entry.reply) calls first.0));
    serials_once = λ i j a b x y apart made_x made_y. other_serial x y (two i j a b x y apart made_x.0 made_y.0 made_x.1 made_y.1).0;
    apart = λ i j a b x y apart made_x made_y meet. parted_so calls a.end b.end x y (two i j a b x y apart made_x.0 made_y.0 made_x.1 made_y.1).1 meet;
    each = λ i call x made. (
      accesses_of x.cell order,
      record {
        same = filter_permuted (λ c. is_access c.entry.command && nat_eq (cell_at c) x.cell) order calls same;
        in_time = all_pairs_from (λ front back. back.end < front.begin → ⊥) (accesses_of x.cell order)
            (pairs_filter (λ front back. back.end < front.begin → ⊥) (λ c. is_access c.entry.command && nat_eq (cell_at c) x.cell) order (in_time order last.1));
        last = (answers i call x made.0 made.1).0;
        answers = (answers i call x made.0 made.1).1;
      },
    );
  }

-- a history of calls that have a tested order
pub explained_in : (calls order : List Call) → IsPermutation order calls → is_history calls ≡ true → explains calls order ≡ true → IsHistory calls × IsLinearizable calls
explained_in calls order same is passes = let history = history_so calls is in (history, linearizable calls history (by_object calls order same passes))
