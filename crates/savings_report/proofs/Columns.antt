-- Figures of columns of numbers of which one is at most the other, number by number.
use Rattle.std.proofs.Common.{◌≡◌, ℕ, zero, suc, ◌+◌, ◌-◌, ◌*◌, ◌/◌, ◌<◌, ◌≤◌, Bool, true, false, if◌then◌else◌, Option, Some, List, [], ◌∷◌, length, map, slice_index, sum, take, sym, subst, ◌∙◌, arith, inl, inr}
use Rattle.std.proofs.Math.Nat.{div-mul-le_self}
use Rattle.std.proofs.lemmas.Bool.Decides.{eqb_tells}
use Rattle.std.proofs.lemmas.List.{length-map}
use Rattle.std.proofs.lemmas.Nat.{le-div}
use Rattle.std.proofs.lemmas.List.Elements.{All-drop, All-take}
use Rattle.std.proofs.lemmas.List.Sums.{sum_by-cons}
use Rattle.std.specs.List.{All, find}
use Rattle.savings_report.specs.FigureSamples.{first_call, last, live_pages, mean, mean_of, measured, moment, moments_from, peak, rounded, row_at, total}
use Rattle.savings_report.specs.declared.table.moments.Moment.{Moment}
use Rattle.savings_report.specs.declared.table.samples.Sample.{Sample}
use Rattle.savings_report.specs.declared.table.samples.Window.{Window}
use Rattle.savings_report.specs.Laws.{AreLeastRows, IsLeast, IsLeastRow, PerfectFiguresAreLeast}

-- no number is above the one at its place
abbrev AreBelow : List ℕ → List ℕ → Type 0
AreBelow xs ys = (k : ℕ) → slice_index xs k ≤ slice_index ys k

sum_below : (xs ys : List ℕ) → AreBelow xs ys → sum xs ≤ sum ys
sum_below [] ys each = omega arith
sum_below (x ∷ xs) [] each =
    let rest = sum_below xs [] (λ k. each (suc k)) in omega (arith, rest, each 0, sum_by-cons (λ (n : ℕ). n) x xs)
sum_below (x ∷ xs) (y ∷ ys) each =
    let rest = sum_below xs ys (λ k. each (suc k)) in
    omega (arith, rest, each 0, sum_by-cons (λ (n : ℕ). n) x xs, sum_by-cons (λ (n : ℕ). n) y ys)

peak_below : (xs ys : List ℕ) → AreBelow xs ys → peak xs ≤ peak ys
peak_below [] ys each = omega arith
peak_below (x ∷ xs) [] each = (let rest = peak_below xs [] (λ k. each (suc k)) in omega (arith, rest, each 0))
peak_below (x ∷ xs) (y ∷ ys) each = (let rest = peak_below xs ys (λ k. each (suc k)) in omega (arith, rest, each 0))

last_below : (xs ys : List ℕ) → length xs ≡ length ys → AreBelow xs ys → last xs ≤ last ys
last_below xs ys len each = subst (λ (n : ℕ). slice_index xs (length xs - 1) ≤ slice_index ys (n - 1)) len (each (length xs - 1))

rounded_below : (a c n : ℕ) → 0 < n → a ≤ c → rounded a n ≤ rounded c n
unfolding rounded
rounded_below a c n some below =
    let part : (2 * a + n) / (2 * n) * (2 * n) ≤ 2 * a + n = div-mul-le_self (2 * a + n) (2 * n) in
    le-div ((2 * a + n) / (2 * n)) (2 * c + n) (2 * n) (omega (arith, some)) (omega (arith, part, below))

mean_of_below : (a c n : ℕ) → a ≤ c → mean_of a n ≤ mean_of c n
mean_of_below a c n below =
    elim (eqb_tells n 0) [
      | inl none ↦ rw none.0 (omega arith)
      | inr some ↦ let apart = some.1 in rw some.0 (rounded_below a c n (omega (arith, apart)) below)
    ]

mean_below : (xs ys : List ℕ) → length xs ≡ length ys → AreBelow xs ys → mean xs ≤ mean ys
mean_below xs ys len each = subst (λ (n : ℕ). mean_of (sum xs) (length xs) ≤ mean_of (sum ys) n) len (mean_of_below (sum xs) (sum ys) (length xs) (sum_below xs ys each))

-- numbers of samples
maps_below : (f g : Sample → ℕ) (samples : List Sample) → All (λ s. f s ≤ g s) samples → AreBelow (map f samples) (map g samples)
maps_below f g [] all k = omega arith
maps_below f g (s ∷ samples) all zero = all 0 s (omega arith)
maps_below f g (s ∷ samples) all (suc k) = maps_below f g samples (λ j d below. all (suc j) d (omega (arith, below))) k

maps_as_long : (f g : Sample → ℕ) (samples : List Sample) → length (map f samples) ≡ length (map g samples)
maps_as_long f g samples = length-map samples f ∙ sym (length-map samples g)

-- a moment that is searched for among those of the samples
either_row : (b : Bool) (m : Moment) (rest : Option Moment) → IsLeastRow (row_at (Some m)) → IsLeastRow (row_at rest)
    → IsLeastRow (row_at (if b then Some m else rest))
either_row true m rest one others = one
either_row false m rest one others = others

found_row : (p : Moment → Bool) (call : ℕ) (samples : List Sample) → All IsLeast samples → IsLeastRow (row_at (find p (moments_from call samples)))
found_row p call [] least = record { without = omega arith; with = omega arith; live = omega arith }
found_row p call (s ∷ samples) least =
    let here : IsLeast s = least 0 s (omega arith) in
    either_row (p (moment call s)) (moment call s) (find p (moments_from (call + 1) samples))
    (record { without = sum_below _ _ here.without; with = sum_below _ _ here.with; live = here.live })
    (found_row p (call + 1) samples (λ j d below. least (suc j) d (omega (arith, below))))

rows_of : (window : Window) (samples : List Sample) → All IsLeast (measured window samples) → AreLeastRows window samples
rows_of window samples least =
    let these : List Sample = measured window samples in
    let perfect : Sample → ℕ = λ s. total s.perfect in
    let without : Sample → ℕ = λ s. total s.without in
    let with : Sample → ℕ = λ s. total s.with in
    let a : AreBelow (map perfect these) (map without these) = maps_below perfect without these (λ k d below. sum_below _ _ (least k d below).without) in
    let b : AreBelow (map perfect these) (map with these) = maps_below perfect with these (λ k d below. sum_below _ _ (least k d below).with) in
    let c : AreBelow (map live_pages these) (map perfect these) = maps_below live_pages perfect these (λ k d below. (least k d below).live) in record {
      peaks = record { without = peak_below _ _ a; with = peak_below _ _ b; live = peak_below _ _ c };
      means =
          record {
            without = mean_below _ _ (maps_as_long perfect without these) a;
            with = mean_below _ _ (maps_as_long perfect with these) b;
            live = mean_below _ _ (maps_as_long live_pages perfect these) c;
          };
      most_live = found_row _ (first_call window) these least;
      ends =
          record {
            without = last_below _ _ (maps_as_long perfect without these) a;
            with = last_below _ _ (maps_as_long perfect with these) b;
            live = last_below _ _ (maps_as_long live_pages perfect these) c;
          };
    }

pub least_figures : PerfectFiguresAreLeast
least_figures window samples least =
    rows_of window samples (All-drop IsLeast (window.from - 1) (take window.to samples) (All-take IsLeast window.to samples least))
