-- One more sample, in the window or outside it, and what a contract sees of it.
use Rattle.std.proofs.Common.{◌≡◌, ◌⊎◌, inl, inr, ℕ, ◌+◌, ◌*◌, ◌/◌, ◌%◌, min, ◌<◌, ◌≤◌, List, [], ◌∷◌, ◌++◌, length, map, take, sym, subst, ap, ◌∙◌, arith}
use Rattle.std.specs.Int.{div_ceil}
use Rattle.std.proofs.lemmas.List.{length-take-le, length-map, length_push, map-append, get_or-take}
use Rattle.std.proofs.lemmas.Grind.{div_ceil_times}
use Rattle.std.proofs.Math.Nat.{lt_of_mul-lt-mul_right}
use Rattle.savings_report.proofs.TableWindows.{measured_before, measured_behind, measured_inside}
use Rattle.savings_report.specs.FigureSamples.{measured}
use Rattle.savings_report.specs.declared.table.samples.Sample.{Sample}
use Rattle.savings_report.specs.declared.table.samples.Window.{Window}
use Rattle.savings_report.specs.Intervals.{Gathered, IsOf, AreOf, IsSound, no_interval, reading, readings}
use Rattle.savings_report.specs.declared.plot.intervals.Intervals.{Intervals}
use Rattle.savings_report.specs.declared.plot.readings.Reading.{Reading}
use Rattle.savings_report.proofs.PieceLemmas.{begins_below, below_begins}

-- what a contract sees of the curves
abbrev pub shown : Window → ℕ → Intervals → Gathered
shown window calls i =
    record { window = window; calls = calls; count = i.count; width = i.width; intervals = take (div_ceil i.count i.width) i.list.items }

-- the intervals that a contract sees are as many as the calls make
pub shown_count : (i : Intervals) → IsSound i → length (take (div_ceil i.count i.width) i.list.items) ≡ div_ceil i.count i.width
shown_count i sound =
    let bounds = div_ceil_times i.count i.width sound.wide in
    let high : (i.count / i.width + min 1 (i.count % i.width)) * i.width < i.count + i.width = bounds.1 in
    let less : div_ceil i.count i.width * i.width < 601 * i.width = omega (arith, sound.few) in
    let few : div_ceil i.count i.width < 601 = lt_of_mul-lt-mul_right i.width less in
    length-take-le (div_ceil i.count i.width) i.list.items (omega (arith, sound.room))

-- what a contract sees of intervals, and what they are
pub seen : (window : Window) (calls : ℕ) (i : Intervals) (w : Window) (samples : List Sample) → IsSound i → window ≡ w → calls ≡ length samples
    → AreOf i (readings w samples) → IsOf (shown window calls i) w samples
seen window calls i w samples sound same number are =
    let long : length (readings w samples) ≡ length (measured w samples) = length-map (measured w samples) reading in
    let count : i.count ≡ length (measured w samples) = are.count_is ∙ long in
    record {
      window_is = same;
      calls_are = number;
      count_is = count;
      width_is = rw (← long) are.width_is;
      intervals_are = shown_count i sound ∙ ap (λ (n : ℕ). div_ceil n i.width) count;
      each_is = λ k below.
          let few : k < div_ceil i.count i.width = omega (arith, shown_count i sound) in
          get_or-take (div_ceil i.count i.width) i.list.items k no_interval few
          ∙ are.each_is k (rw (← are.count_is) (begins_below i.count i.width k sound.wide few));
    }

pub unseen : (window : Window) (calls : ℕ) (i : Intervals) (w : Window) (samples : List Sample) → IsSound i
    → IsOf (shown window calls i) w samples → AreOf i (readings w samples)
unseen window calls i w samples sound h =
    let long : length (readings w samples) ≡ length (measured w samples) = length-map (measured w samples) reading in
    let count : i.count ≡ length (readings w samples) = h.count_is ∙ sym long in
    record {
      count_is = count;
      width_is = rw long h.width_is;
      each_is = λ k begins.
          let few : k < div_ceil i.count i.width = below_begins i.count i.width k sound.wide (rw count begins) in
          sym (get_or-take (div_ceil i.count i.width) i.list.items k no_interval few)
          ∙ h.each_is k (omega (arith, shown_count i sound, few));
    }

-- one more call, which is measured
pub look_measured : (w : Window) (old new : Intervals) (calls : ℕ) (window : Window) (samples : List Sample) (s : Sample) → IsSound old → IsSound new
    → window.from ≤ calls + 1 → calls + 1 ≤ window.to
    → ((rs : List Reading) → AreOf old rs → AreOf new (rs ++ reading s ∷ []))
    → IsOf (shown window calls old) w samples → IsOf (shown window (calls + 1) new) w (samples ++ s ∷ [])
look_measured w old new calls window samples s sound still from to add h =
    let begun : w.from ≤ length samples + 1 = rw (← h.window_is, ← h.calls_are) from in
    let open_yet : length samples + 1 ≤ w.to = rw (← h.window_is, ← h.calls_are) to in
    let more : readings w (samples ++ s ∷ []) ≡ readings w samples ++ reading s ∷ [] =
    ap (map reading) (measured_inside w samples s begun open_yet) ∙ map-append reading (measured w samples) (s ∷ []) in
    seen window (calls + 1) new w (samples ++ s ∷ []) still h.window_is (omega (arith, length_push samples s, h.calls_are))
    (subst (λ (rs : List Reading). AreOf new rs) (sym more) (add (readings w samples) (unseen window calls old w samples sound h)))

-- one more call, which is not measured
pub look_passed : (w : Window) (i : Intervals) (calls : ℕ) (window : Window) (samples : List Sample) (s : Sample) → IsSound i
    → (calls + 1 < window.from) ⊎ (window.to < calls + 1)
    → IsOf (shown window calls i) w samples → IsOf (shown window (calls + 1) i) w (samples ++ s ∷ [])
look_passed w i calls window samples s sound outside h =
    let still : measured w (samples ++ s ∷ []) ≡ measured w samples =
    elim outside [
      | inl from ↦ measured_before w samples s (rw (← h.window_is, ← h.calls_are) from)
      | inr to ↦ measured_behind w samples s (rw (← h.window_is, ← h.calls_are) to)
    ] in
    seen window (calls + 1) i w (samples ++ s ∷ []) sound h.window_is (omega (arith, length_push samples s, h.calls_are))
    (subst (λ (ss : List Sample). AreOf i (map reading ss)) (sym still) (unseen window calls i w samples sound h))
