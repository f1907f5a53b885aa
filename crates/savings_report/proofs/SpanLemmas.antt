-- The least and the greatest of two lists of numbers.
use Rattle.std.proofs.Common.{◌≡◌, ℕ, ◌<◌, min, max, List, [], ◌∷◌, ◌++◌, length, map, refl, sym, ap, ◌∙◌, arith}
use Rattle.std.proofs.lemmas.List.{map-append, length-map}
use Rattle.savings_report.specs.FigureSamples.{peak}
use Rattle.savings_report.specs.Intervals.{last_reading, last_with, least, least_with, span_of}
use Rattle.savings_report.specs.declared.plot.readings.Reading.{Reading}
use Rattle.savings_report.specs.declared.plot.spans.Span.{Span}

pub least_with_min : (m n : ℕ) (ns : List ℕ) → least_with (min m n) ns ≡ min m (least_with n ns)
least_with_min m n [] = refl
least_with_min m n (x ∷ ns) =
    let moved : min (min m n) x ≡ min m (min n x) = omega arith in ap (λ (a : ℕ). least_with a ns) moved ∙ least_with_min m (min n x) ns

pub least_with_append : (m n : ℕ) (ns ms : List ℕ) → least_with m (ns ++ n ∷ ms) ≡ min (least_with m ns) (least_with n ms)
least_with_append m n [] ms = least_with_min m n ms
least_with_append m n (x ∷ ns) ms = least_with_append (min m x) n ns ms

pub least_append : (ns ms : List ℕ) → 0 < length ns → 0 < length ms → least (ns ++ ms) ≡ min (least ns) (least ms)
least_append [] ms some _ = omega arith
least_append (n ∷ ns) [] _ some = omega arith
least_append (n ∷ ns) (m ∷ ms) _ _ = least_with_append n m ns ms

pub peak_append : (ns ms : List ℕ) → peak (ns ++ ms) ≡ max (peak ns) (peak ms)
peak_append [] ms = omega arith
peak_append (n ∷ ns) ms = rw (peak_append ns ms) (omega arith)

last_with_append : (r s : Reading) (rs ss : List Reading) → last_with r (rs ++ s ∷ ss) ≡ last_with s ss
last_with_append r s [] ss = refl
last_with_append r s (q ∷ rs) ss = last_with_append q s rs ss

-- the last reading of the calls of both
pub last_append : (these those : List Reading) → 0 < length those → last_reading (these ++ those) ≡ last_reading those
last_append these [] some = absurd (omega arith)
last_append [] (s ∷ those) some = refl
last_append (r ∷ these) (s ∷ those) some = last_with_append r s these those

-- a curve's span of the calls of both
pub joined_span : (f : Reading → ℕ) (span a b : Span) (these those : List Reading) → 0 < length these → 0 < length those
    → span.least ≡ min a.least b.least → span.greatest ≡ max a.greatest b.greatest
    → a ≡ span_of (map f these) → b ≡ span_of (map f those) → span ≡ span_of (map f (these ++ those))
joined_span f span a b these those some others low high first second =
    let least_is : span.least ≡ least (map f these ++ map f those) =
    low ∙ ap (λ (s : Span). min s.least b.least) first ∙ ap (λ (s : Span). min (least (map f these)) s.least) second
    ∙ sym (least_append (map f these) (map f those) (rw (length-map these f) some) (rw (length-map those f) others)) in
    let greatest_is : span.greatest ≡ peak (map f these ++ map f those) =
    high ∙ ap (λ (s : Span). max s.greatest b.greatest) first ∙ ap (λ (s : Span). max (peak (map f these)) s.greatest) second
    ∙ sym (peak_append (map f these) (map f those)) in
    let both : span ≡ span_of (map f these ++ map f those) = rw (← least_is, ← greatest_is) refl in
    both ∙ ap span_of (sym (map-append f these those))
