-- What the laws of examples are proved by: from tests that compute, whether a history is explained.
use Rattle.std.proofs.Common.{◌≡◌, ℕ, zero, suc, Bool, true, false, ◌&&◌, nat_eq, nat_le, nat_lt, List, [], ◌∷◌, replicate, refl, sym, subst, ◌∙◌, Some, slice_get}
use Rattle.std.specs.List.{list_any}
use Rattle.std.proofs.lemmas.Bool.{and_from, eq-eqb, le-leb, lt-ltb, or_left, or_right}
use Rattle.std.proofs.lemmas.List.Sorted.{IsPermutation-refl}
use Rattle.model_words.specs.declared.commands.Command.{Command}
use Rattle.model_words.specs.declared.commands.Command.TheVariants.{New}
use Rattle.model_words.specs.declared.commands.Reply.{Reply}
use Rattle.model_words.specs.declared.commands.Reply.TheVariants.{Object as Made}
use Rattle.model_intervals.specs.ExampleLaws.{IsExplained, IsUnexplained}
use Rattle.model_intervals.specs.Intervals.{Call}
use Rattle.model_intervals.specs.Objects.{Object as NewObject, IsExplainedByObject, IsFreedBy, IsMadeAt, accesses_of}
use Rattle.model_intervals.specs.OverlappingCalls.{IsMadeBefore, MakesOne, cell_at}
use Rattle.model_intervals.proofs.ByObject.{explained}
use Rattle.model_intervals.proofs.ExplainedTest.{explained_in, explains, is_freed_by}
use Rattle.model_intervals.proofs.HistoryTest.{free_is, history_so, is_history, is_made_before, makes_one}
use Rattle.model_intervals.proofs.MiddleForm.{frees, is_free}
use Rattle.model_intervals.proofs.NoOrder.{has_no_order, no_order}

-- the order in which the calls are listed explains them
pub explained_as_listed : (calls : List Call) → is_history calls ≡ true → explains calls calls ≡ true → IsExplained calls
explained_as_listed calls is passes = explained_in calls calls (IsPermutation-refl calls) is passes

pub unexplained : (calls : List Call) → is_history calls ≡ true → (IsExplainedByObject calls → ⊥) → IsUnexplained calls
unexplained calls is refuted = let history = history_so calls is in (history, λ some. refuted (explained calls history some))

-- no order explains the accesses of the object that the call at this place made
pub unexplained_object : (calls : List Call) (place : ℕ) (call : Call) (x : NewObject) → is_history calls ≡ true → IsMadeAt calls place call x
    → has_no_order 4 x.address (replicate x.len 0) (accesses_of x.cell calls) ≡ true → IsUnexplained calls
unexplained_object calls place call x is made none = unexplained calls is (no_order calls place call x made none)

-- the element at some place of a list passes the test
passes_at : {X : Type 0} (test : X → Bool) (xs : List X) (place : ℕ) (x : X) → slice_get xs place ≡ Some x → test x ≡ true → list_any test xs ≡ true
passes_at test [] zero x at passes = absurd (cc at)
passes_at test [] (suc place) x at passes = absurd (cc at)
passes_at test (y ∷ xs) zero x at passes = let same : x ≡ y = cc at in or_left (test y) (list_any test xs) (subst (λ z. test z ≡ true) same passes)
passes_at test (y ∷ xs) (suc place) x at passes = or_right (test y) (list_any test xs) (passes_at test xs place x at passes)

pub not_freed : (calls : List Call) (cell moment : ℕ) → is_freed_by calls cell moment ≡ false → IsFreedBy calls cell moment → ⊥
not_freed calls cell moment fails freed =
    let passes = passes_at (λ call. frees cell call && nat_le call.begin moment) calls freed.place freed.free freed.there
    (and_from (frees cell freed.free) (nat_le freed.free.begin moment)
    (and_from (is_free freed.free.entry.command) (nat_eq (cell_at freed.free) cell) (free_is freed.free.entry.command freed.frees) (eq-eqb (cell_at freed.free) cell freed.names))
    (le-leb freed.free.begin moment freed.begun)) in
    let clash : true ≡ false = sym passes ∙ fails in cc clash

makes_is : (command : Command) (reply : Reply) → MakesOne command reply → makes_one command reply ≡ true
makes_is (New cell len word) (Made serial address) makes = refl
makes_is command reply makes = absurd makes

pub not_made_before : (calls : List Call) (cell moment : ℕ) → is_made_before calls cell moment ≡ false → IsMadeBefore calls cell moment → ⊥
not_made_before calls cell moment fails made =
    let call = made.call in
    let passes = passes_at (λ c. makes_one c.entry.command c.entry.reply && nat_eq (cell_at c) cell && nat_lt c.end moment) calls made.place call made.there
    (and_from (makes_one call.entry.command call.entry.reply && nat_eq (cell_at call) cell) (nat_lt call.end moment)
    (and_from (makes_one call.entry.command call.entry.reply) (nat_eq (cell_at call) cell) (makes_is call.entry.command call.entry.reply made.makes)
    (eq-eqb (cell_at call) cell made.names)) (lt-ltb call.end moment made.ended)) in
    let clash : true ≡ false = sym passes ∙ fails in cc clash
