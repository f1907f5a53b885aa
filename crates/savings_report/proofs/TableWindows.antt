-- One more sample, in the window or outside it.
use Rattle.std.proofs.Common.{◌≡◌, ◌⊎◌, inl, inr, ℕ, ◌+◌, ◌-◌, ◌<◌, ◌≤◌, List, [], ◌∷◌, ◌++◌, length, take, drop, sym, subst, ap, ◌∙◌, arith}
use Rattle.std.proofs.lemmas.List.{take_all, drop_all, drop-append-le, take-append-le, length-drop, length-take, length_push}
use Rattle.savings_report.specs.FigureSamples.{measured, first_call}
use Rattle.savings_report.specs.Figures.{Gathered, IsMeasured, IsOf}
use Rattle.savings_report.specs.declared.table.samples.Sample.{Sample}
use Rattle.savings_report.specs.declared.table.samples.Window.{Window}

pub measured_inside : (w : Window) (samples : List Sample) (s : Sample) → w.from ≤ length samples + 1 → length samples + 1 ≤ w.to
    → measured w (samples ++ s ∷ []) ≡ measured w samples ++ s ∷ []
measured_inside w samples s from to =
    let more : take w.to (samples ++ s ∷ []) ≡ samples ++ s ∷ [] = take_all w.to (samples ++ s ∷ []) (omega (arith, length_push samples s)) in
    let all : take w.to samples ≡ samples = take_all w.to samples (omega arith) in
    rw (more, all) (drop-append-le (w.from - 1) samples (s ∷ []) (omega arith))

pub measured_before : (w : Window) (samples : List Sample) (s : Sample) → length samples + 1 < w.from
    → measured w (samples ++ s ∷ []) ≡ measured w samples
measured_before w samples s from =
    drop_all (w.from - 1) (take w.to (samples ++ s ∷ [])) (omega (arith, length-take {A = Sample}, length_push samples s))
    ∙ sym (drop_all (w.from - 1) (take w.to samples) (omega (arith, length-take {A = Sample})))

pub measured_behind : (w : Window) (samples : List Sample) (s : Sample) → w.to < length samples + 1
    → measured w (samples ++ s ∷ []) ≡ measured w samples
measured_behind w samples s to =
    ap (λ (taken : List Sample). drop (w.from - 1) taken) (take-append-le w.to samples (s ∷ []) (omega arith))

pub measured_number : (w : Window) (samples : List Sample) → w.from ≤ length samples + 1 → length samples + 1 ≤ w.to
    → length samples + 1 ≡ first_call w + length (measured w samples)
measured_number w samples from to =
    let all : take w.to samples ≡ samples = take_all w.to samples (omega arith) in
    rw all (omega (arith, length-drop (w.from - 1) samples))

pub measured_none : (w : Window) → measured w [] ≡ []
measured_none w = rw (take_all {A = Sample} w.to [] (omega arith)) (drop_all {X = Sample} (w.from - 1) [] (omega arith))

-- one more call, which is measured
pub look_measured : (w : Window) (old new : Gathered) (samples : List Sample) (s : Sample) → new.window ≡ old.window → new.calls ≡ old.calls + 1
    → old.window.from ≤ old.calls + 1 → old.calls + 1 ≤ old.window.to
    → ((first : ℕ) (before : List Sample) → IsMeasured old.measured first before → new.calls ≡ first + length before
    → IsMeasured new.measured first (before ++ s ∷ []))
    → IsOf old w samples → IsOf new w (samples ++ s ∷ [])
look_measured w old new samples s same more from to add h =
    let begun : w.from ≤ length samples + 1 = rw (← h.window_is, ← h.calls_are) from in
    let open_yet : length samples + 1 ≤ w.to = rw (← h.window_is, ← h.calls_are) to in
    let number : new.calls ≡ first_call w + length (measured w samples) =
    more ∙ ap (λ (n : ℕ). n + 1) h.calls_are ∙ measured_number w samples begun open_yet in
    record {
      window_is = same ∙ h.window_is;
      calls_are = omega (arith, length_push samples s, h.calls_are);
      measured_is =
          subst (λ (m : List Sample). IsMeasured new.measured (first_call w) m) (sym (measured_inside w samples s begun open_yet))
          (add (first_call w) (measured w samples) h.measured_is number);
    }

-- one more call, which is not measured
pub look_passed : (w : Window) (old new : Gathered) (samples : List Sample) (s : Sample) → new.window ≡ old.window → new.calls ≡ old.calls + 1
    → (old.calls + 1 < old.window.from) ⊎ (old.window.to < old.calls + 1) → new.measured ≡ old.measured
    → IsOf old w samples → IsOf new w (samples ++ s ∷ [])
look_passed w old new samples s same more outside kept h =
    let still : measured w (samples ++ s ∷ []) ≡ measured w samples =
    elim outside [
      | inl from ↦ measured_before w samples s (rw (← h.window_is, ← h.calls_are) from)
      | inr to ↦ measured_behind w samples s (rw (← h.window_is, ← h.calls_are) to)
    ] in
    record {
      window_is = same ∙ h.window_is;
      calls_are = omega (arith, length_push samples s, h.calls_are);
      measured_is = rw (kept, still) h.measured_is;
    }
