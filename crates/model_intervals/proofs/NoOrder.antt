-- A test, which computes, that tries all orders of an object's accesses. If it passes, none of them explains them.
use Rattle.std.proofs.Common.{◌≡◌, ℕ, zero, suc, ◌<◌, inl, inr, Bool, true, false, ◌&&◌, ◌||◌, nat_lt, List, [], ◌∷◌, replicate, ◌∙◌, Option, Some, None}
use Rattle.std.specs.List.{list_any}
use Rattle.std.specs.List.Sorted.{IsPermutation}
use Rattle.std.specs.Option.{option_and_then}
use Rattle.std.proofs.lemmas.Bool.{ltb-true, or_cases}
use Rattle.std.proofs.lemmas.List.Sorted.{IsPermutation-sym, list_any-IsPermutation}
use Rattle.model_intervals.specs.Intervals.{Call}
use Rattle.model_intervals.specs.Objects.{Object as NewObject, IsExplainedByObject, IsMadeAt, accesses_of, bytes_behind, effect_on}
use Rattle.model_intervals.proofs.Lists.{Every, Pairs}
use Rattle.model_intervals.proofs.Picks.{PicksSo, each_pick, first_picked, pick_passes}
use Rattle.model_intervals.proofs.Places.{pairs_from}

-- one of the calls ended before this one began
abbrev is_late : Call → List Call → Bool
is_late call others = list_any (λ other. nat_lt other.end call.begin) others

-- there are no bytes, since the call did not answer as recorded, or they pass the test
abbrev none_or : (List ℕ → Bool) → Option (List ℕ) → Bool
none_or test None = true
none_or test (Some bytes) = test bytes

abbrev is_some_list : List Call → Bool
is_some_list [] = false
is_some_list (call ∷ calls) = true

-- the calls are at least one and at most so many, and no order of them respects time and answers as recorded from
-- these bytes on
abbrev pub has_no_order : ℕ → ℕ → List ℕ → List Call → Bool
has_no_order zero address bytes calls = false
has_no_order (suc most) address bytes calls = is_some_list calls
    && each_pick (λ call others. is_late call others || none_or (λ next. has_no_order most address next others) (effect_on address bytes call)) calls

not_late : (call : Call) (others : List Call) → Every (λ other. other.end < call.begin → ⊥) others → is_late call others ≡ true → ⊥
not_late call [] all late = cc late
not_late call (other ∷ others) all late = elim (or_cases (nat_lt other.end call.begin) (is_late call others) late) [
  | inl here ↦ all.0 (ltb-true other.end call.begin here)
  | inr later ↦ not_late call others all.1 later
]

-- a call that answers as recorded leaves bytes, and the test passes on them
goes_on : (test : List ℕ → Bool) (rest : List ℕ → Option (List ℕ)) (effect : Option (List ℕ)) (last : List ℕ) → none_or test effect ≡ true
    → option_and_then rest effect ≡ Some last → (next : List ℕ) × (test next ≡ true) × (rest next ≡ Some last)
goes_on test rest None last passes answers = absurd (cc answers)
goes_on test rest (Some next) last passes answers = (next, passes, answers)

no_such_run : (most address : ℕ) (bytes : List ℕ) (calls order : List Call) (last : List ℕ) → has_no_order most address bytes calls ≡ true → IsPermutation order calls
    → Pairs (λ front back. back.end < front.begin → ⊥) order → bytes_behind address bytes order ≡ Some last → ⊥
no_such_run zero address bytes calls order last none same time answers = cc none
no_such_run (suc most) address bytes [] order last none same time answers = cc none
no_such_run (suc most) address bytes (call ∷ calls) [] last none same time answers = (first_picked call calls [] (IsPermutation-sym [] (call ∷ calls) same)).1
no_such_run (suc most) address bytes (first ∷ calls) (call ∷ order) last none same time answers =
    let picked : PicksSo call order (first ∷ calls) = first_picked call order (first ∷ calls) same in
    let test = λ (next : List ℕ). has_no_order most address next picked.0 in
    let passes : (is_late call picked.0 || none_or test (effect_on address bytes call)) ≡ true =
    pick_passes (λ (c : Call) (others : List Call). is_late c others || none_or (λ next. has_no_order most address next others) (effect_on address bytes c)) (first ∷ calls) none
    call picked.0 picked.1 in
    elim (or_cases (is_late call picked.0) (none_or test (effect_on address bytes call)) passes) [
      | inl late ↦ not_late call order time.0 (list_any-IsPermutation (λ other. nat_lt other.end call.begin) order picked.0 picked.2 ∙ late)
      | inr ends ↦
          let next = goes_on test (λ bytes'. bytes_behind address bytes' order) (effect_on address bytes call) last ends answers in
          no_such_run most address next.0 picked.0 order last next.1 picked.2 time.1 next.2
    ]

-- an object with at most four accesses, which no order explains
pub no_order : (calls : List Call) (place : ℕ) (call : Call) (x : NewObject) → IsMadeAt calls place call x
    → has_no_order 4 x.address (replicate x.len 0) (accesses_of x.cell calls) ≡ true → IsExplainedByObject calls → ⊥
no_order calls place call x made none explained =
    let found = explained.each place call x made in
    no_such_run 4 x.address (replicate x.len 0) (accesses_of x.cell calls) found.0 found.1.last none found.1.same
    (pairs_from (λ front back. back.end < front.begin → ⊥) found.0 found.1.in_time) found.1.answers
