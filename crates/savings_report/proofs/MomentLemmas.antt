-- The first moment that is no less than any other.
use Rattle.std.proofs.Common.{◌≡◌, ℕ, suc, ◌+◌, ◌<◌, Bool, true, false, ◌&&◌, List, [], ◌∷◌, ◌++◌, length, Option, Some, None, refl, sym, ap, ◌∙◌, subst, arith, add-zero, inl, inr}
use Rattle.std.specs.Prelude.{nat_le}
use Rattle.std.specs.List.{AllByRecursion, find, list_all}
use Rattle.std.proofs.lemmas.Bool.{le-leb}
use Rattle.std.proofs.lemmas.Bool.Decides.{leb_tells}
use Rattle.std.proofs.lemmas.List.Folds.{list_all-append}
use Rattle.savings_report.specs.FigureSamples.{first_best, lives_no_less, moment, moments_from, saves_no_less}
use Rattle.savings_report.specs.Figures.{IsMost}
use Rattle.savings_report.specs.declared.table.moments.Moment.{Moment}
use Rattle.savings_report.specs.declared.table.samples.Sample.{Sample}

-- any two moments can be compared
abbrev pub IsComparison : (Moment → Moment → Bool) → Type 0
IsComparison no_less = (a b : Moment) → no_less a b ≡ false → no_less b a ≡ true

leb_no : (a b : ℕ) → nat_le a b ≡ false → b < a
leb_no a b e =
    elim (leb_tells a b) [
      | inl told ↦ let other : nat_le a b ≡ true = told.0 in absurd (cc)
      | inr told ↦ told.1
    ]

pub saves_comparison : IsComparison saves_no_less
saves_comparison a b less =
    let below : a.without + b.with < b.without + a.with = leb_no (b.without + a.with) (a.without + b.with) less in
    le-leb (a.without + b.with) (b.without + a.with) (omega arith)

pub lives_comparison : IsComparison lives_no_less
lives_comparison a b less =
    let below : a.live_bytes < b.live_bytes = leb_no b.live_bytes a.live_bytes less in le-leb a.live_bytes b.live_bytes (omega arith)

all_weaker : {X : Type 0} (P Q : X → Type 0) → ((x : X) → P x → Q x) → (xs : List X) → AllByRecursion P xs → AllByRecursion Q xs
all_weaker P Q f [] h = tt
all_weaker P Q f (x ∷ xs) h = (f x h.0, all_weaker P Q f xs h.1)

all_joined : {X : Type 0} (P : X → Type 0) (xs ys : List X) → AllByRecursion P xs → AllByRecursion P ys → AllByRecursion P (xs ++ ys)
all_joined P [] ys h g = g
all_joined P (x ∷ xs) ys h g = (h.0, all_joined P xs ys h.1 g)

all_pass : {X : Type 0} (p : X → Bool) (xs : List X) → AllByRecursion (λ x. p x ≡ true) xs → list_all p xs ≡ true
all_pass p [] h = refl
all_pass p (x ∷ xs) h = rw (h.0, all_pass p xs h.1) refl

-- where one among them fails
and_false : (b : Bool) → (b && false) ≡ false
and_false true = refl
and_false false = refl

one_fails : {X : Type 0} (p : X → Bool) (before after : List X) (x : X) → p x ≡ false → list_all p (before ++ x ∷ after) ≡ false
one_fails p before after x h = list_all-append p before (x ∷ after) ∙ rw h (and_false (list_all p before))

-- a search passes those that fail
found_behind : {X : Type 0} (p : X → Bool) (before after : List X) (x : X) → AllByRecursion (λ y. p y ≡ false) before → p x ≡ true
    → find p (before ++ x ∷ after) ≡ Some x
found_behind p [] after x h e = rw e refl
found_behind p (y ∷ before) after x h e = rw h.0 (found_behind p before after x h.1 e)

true_at_last : (b : Bool) → (b ≡ false → b ≡ true) → b ≡ true
true_at_last true f = refl
true_at_last false f = f refl

pub found_best : (no_less : Moment → Moment → Bool) → IsComparison no_less → (o : Option Moment) (moments : List Moment) → IsMost no_less o moments
    → first_best no_less moments ≡ o
found_best no_less compares None moments h = rw h refl
found_best no_less compares (Some best) moments (before, after, h) =
    let weak : (m : Moment) → no_less m best ≡ false → no_less best m ≡ true = λ m l. compares m best l in
    let itself : no_less best best ≡ true = true_at_last (no_less best best) (compares best best) in
    let passes : list_all (no_less best) (before ++ best ∷ after) ≡ true =
    all_pass _ _ (all_joined (λ (m : Moment). no_less best m ≡ true) before (best ∷ after)
    (all_weaker (λ (m : Moment). no_less m best ≡ false) (λ (m : Moment). no_less best m ≡ true) weak before h.earlier) (itself, h.later)) in
    let fails : (m : Moment) → no_less m best ≡ false → list_all (no_less m) (before ++ best ∷ after) ≡ false =
    λ m l. one_fails (no_less m) before after best l in
    rw h.split
    (found_behind (λ (a : Moment). list_all (no_less a) (before ++ best ∷ after)) before after best
    (all_weaker (λ (m : Moment). no_less m best ≡ false) (λ (m : Moment). list_all (no_less m) (before ++ best ∷ after) ≡ false) fails before h.earlier) passes)

pub moments_push : (first : ℕ) (samples : List Sample) (s : Sample)
    → moments_from first (samples ++ s ∷ []) ≡ moments_from first samples ++ moment (first + length samples) s ∷ []
moments_push first [] s = rw add-zero refl
moments_push first (t ∷ samples) s =
    let count : first + 1 + length samples ≡ first + suc (length samples) = omega arith in
    ap (λ (rest : List Moment). moment first t ∷ rest)
    (moments_push (first + 1) samples s ∙ ap (λ (n : ℕ). moments_from (first + 1) samples ++ moment n s ∷ []) count)

-- one more sample, whose moment was taken
pub most_push : (no_less : Moment → Moment → Bool) (o : Option Moment) (first : ℕ) (samples : List Sample) (s : Sample) (next : Moment)
    → next ≡ moment (first + length samples) s → IsMost no_less o (moments_from first samples ++ next ∷ [])
    → IsMost no_less o (moments_from first (samples ++ s ∷ []))
most_push no_less o first samples s next e h =
    subst (IsMost no_less o) (ap (λ (v : Moment). moments_from first samples ++ v ∷ []) e ∙ sym (moments_push first samples s)) h
