-- The series of the measured calls, of what a contract sees of `Curves`.
use Rattle.std.proofs.Common.{◌≡◌, ℕ, suc, zero, ◌+◌, ◌-◌, ◌*◌, ◌<◌, ◌≤◌, ◌^◌, Bool, true, false, nat_eq, if◌then◌else◌, List, length, map, refl, sym, ap, add-one, ◌∙◌, arith}
use Rattle.std.specs.Int.{div_ceil}
use Rattle.std.specs.List.{range_with_len}
use Rattle.std.proofs.lemmas.Bool.{eqb-true, eqb-false}
use Rattle.std.proofs.lemmas.List.{ext_get_or}
use Rattle.std.proofs.lemmas.List.FromFn.{length-map-range_with_len, get_or-map-range_with_len}
use Rattle.savings_report.specs.Courses.{intervals_of, series_of, width_after}
use Rattle.savings_report.specs.FigureSamples.{measured}
use Rattle.savings_report.specs.Intervals.{Gathered, IsOf, IsWidth, interval_at, interval_of, no_interval, piece, reading, readings}
use Rattle.savings_report.specs.declared.plot.spans.Interval.{Interval}
use Rattle.savings_report.specs.declared.table.samples.Sample.{Sample}
use Rattle.savings_report.specs.declared.table.samples.Window.{Window}
use Rattle.savings_report.proofs.PieceLemmas.{width_doubled, width_kept, width_none}
use Rattle.std.proofs.lemmas.List.{length-map}
use Rattle.std.proofs.lemmas.Nat.{pow_pos}

-- one more call, by whether all intervals are full
width_step : (w n : ℕ) (full : Bool) → nat_eq n (600 * w) ≡ full → IsWidth w n → IsWidth (if full then 2 * w else w) (n + 1)
width_step w n true full h =
    let wide : 0 < w = rw h.power_is (pow_pos h.exponent) in
    width_doubled w n h (eqb-true n (600 * w) full) wide
width_step w n false full h =
    let other : n ≡ 600 * w → ⊥ = eqb-false n (600 * w) full in
    width_kept w n h (omega (arith, h.enough, other))

-- the width that doubles when it must is the least that is enough
pub width_is_least : (n : ℕ) → IsWidth (width_after n) n
unfolding width_after
width_is_least zero = width_none
width_is_least (suc n) = rw (← add-one n) (width_step (width_after n) n (nat_eq n (600 * width_after n)) refl (width_is_least n))

-- there is one least width
pub one_width : (w n : ℕ) → IsWidth w n → w ≡ width_after n
one_width w n h =
    let least = width_is_least n in
    let enough : n ≤ 600 * 2 ^ h.exponent = rw (← h.power_is) h.enough in
    let enough_too : n ≤ 600 * 2 ^ least.exponent = rw (← least.power_is) least.enough in
    let same : h.exponent ≡ least.exponent = omega (arith, h.no_less least.exponent enough_too, least.no_less h.exponent enough) in
    h.power_is ∙ ap (λ (e : ℕ). 2 ^ e) same ∙ sym least.power_is

-- a list, by its elements
same_list : (f : ℕ → Interval) (n : ℕ) (list : List Interval) → length list ≡ n → ((k : ℕ) → k < length list → interval_at list k ≡ f k)
    → list ≡ map f (range_with_len 0 n)
same_list f n list long each =
    ext_get_or no_interval list (map f (range_with_len 0 n)) (long ∙ sym (length-map-range_with_len f 0 n))
    (λ k below. each k below ∙ sym (get_or-map-range_with_len f 0 n k k no_interval (rw (← long) below) (omega arith)))

-- what a contract sees of the curves is the series of the measured calls
pub is_series : (curves : Gathered) (w : Window) (samples : List Sample) → IsOf curves w samples
    → record {
      before = curves.window.from - 1;
      last = curves.window.from - 1 + curves.count;
      width = curves.width;
      intervals = curves.intervals;
    }
    ≡ series_of w samples
unfolding series_of
is_series curves w samples h =
    let long : length (readings w samples) ≡ length (measured w samples) = length-map (measured w samples) reading in
    let count : curves.count ≡ length (readings w samples) = h.count_is ∙ sym long in
    let width : curves.width ≡ width_after (length (readings w samples)) = one_width curves.width (length (readings w samples)) (rw long h.width_is) in
    let many : length curves.intervals ≡ div_ceil (length (readings w samples)) curves.width =
    h.intervals_are ∙ ap (λ (n : ℕ). div_ceil n curves.width) (sym long) in
    let each : curves.intervals ≡ intervals_of curves.width (readings w samples) =
    same_list (λ k. interval_of (piece curves.width k (readings w samples))) (div_ceil (length (readings w samples)) curves.width) curves.intervals many h.each_is in
    rw (each, count, width, h.window_is) refl
