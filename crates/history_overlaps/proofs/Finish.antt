-- Live objects, and those of them of which no access waits.
use Rattle.std.proofs.Common.{◌≡◌, ℕ, true, List, [], map, replicate, arith, refl, sym, subst, ◌∙◌, ap, Option, Some, None, option_map}
use Rattle.std.specs.List.Sorted.{IsPermutation}
use Rattle.std.proofs.lemmas.List.Sorted.{IsPermutation-refl}
use Rattle.model_intervals.specs.Intervals.{Call}
use Rattle.model_intervals.specs.Objects.{Object as AnObject, accesses_of}
use Rattle.model_intervals.specs.OverlappingCalls.{IsAt}
use Rattle.history_overlaps.specs.Accesses.{is_access_of}
use Rattle.history_overlaps.specs.Judges.{AccessJudge, IsExplained, IsJudged, live_of}
use Rattle.history_overlaps.specs.declared.life.Life.{Life}
use Rattle.history_overlaps.specs.Queues.{IsWaiting, object_of}
use Rattle.history_overlaps.specs.declared.objects.NewObject.{NewObject}
use Rattle.history_overlaps.specs.declared.pending.Pending.{Pending}
use Rattle.history_overlaps.proofs.AccessOrders.{accesses_are, call_at}
use Rattle.history_overlaps.proofs.Follows.{idle_explained}

-- the life of a live object
pub life_of : (lives : ℕ → Option Life) (c : ℕ) (x : AnObject) → live_of lives c ≡ Some x → (life : Life) × (lives c ≡ Some life) × (object_of life.object ≡ x)
life_of lives c x is = found (lives c) refl is
  where
    found : (o : Option Life) → lives c ≡ o → option_map (λ life. object_of life.object) (lives c) ≡ Some x
        → (life : Life) × (lives c ≡ Some life) × (object_of life.object ≡ x)
    found None none at = absurd (let at' = subst (λ (o : Option Life). option_map (λ life. object_of life.object) o ≡ Some x) none at in cc at')
    found (Some life) some at =
        (life, some, let at' = subst (λ (o : Option Life). option_map (λ life. object_of life.object) o ≡ Some x) some at in cc at')

-- some order explains the accesses to an object of which none waits
pub idle_object : (calls : List Call) (waits : ℕ → Option Pending) (object : NewObject) (judge : Option AccessJudge) → IsJudged calls waits object judge
    → ((i : ℕ) (a : Call) → IsAt calls i a → is_access_of object.cell a ≡ true → IsWaiting waits a i → ⊥) → IsExplained calls (object_of object)
idle_object calls waits object None none idle =
    let empty : accesses_of object.cell calls ≡ [] = sym (accesses_are 0 object.cell calls) ∙ ap (λ xs. map call_at xs) none in (
      [],
      record {
        same = subst (λ xs. IsPermutation [] xs) (sym empty) (IsPermutation-refl []);
        in_time = λ i j d before below. absurd (omega (arith, below));
        last = replicate object.len 0;
        answers = refl;
      },
    )
idle_object calls waits object (Some judge) follows idle = idle_explained calls waits object judge follows idle
