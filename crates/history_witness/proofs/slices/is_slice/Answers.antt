use Rattle.std.proofs.Common.{◌≡◌, ℕ, ◌+◌, true, false, inl, inr, length, map, arith, ap, refl, subst, sym, ◌∙◌, Some, slice_get}
use Rattle.std.proofs.lemmas.Bool.Decides.{leb_tells}
use Rattle.std.proofs.lemmas.Option.{slice_get_read}
use Rattle.history_reading.specs.CallWords.{plain_call}
use Rattle.history_reading.specs.declared.words.TimedCall.{TimedCall}
use Rattle.model_intervals.specs.Intervals.{Call}
use Rattle.model_intervals.specs.OverlappingCalls.{cell_at}
use Rattle.history_witness.specs.Slices.{TakesNewAndFree, TakesStores}
use Rattle.history_witness.specs.TakenLines.{taken_in}
use Rattle.history_witness.proofs.PlainCalls.{read_at}
use Rattle.history_witness.proofs.slices.is_slice.Goals as goal
use Rattle.history_witness.proofs.slices.is_slice.Goals.{else-is_taken-via-then-is_taken+else-not-takes_its_calls, else-is_taken-via-else-is_taken}

pub loop-place-preserved : goal.loop-place-preserved
loop-place-preserved c = λ i call below is on.
    let calls = c.args.calls.now in
    let taken = taken_in c.args.taken.now in
    let place = c.loop-place.place in
    elim (leb_tells (i + 1) place) [
      | inl less ↦ (let l = less.1 in c.loop-place.invariant i call (omega (arith, l)) is on)
      | inr last ↦ (
          let l = last.1 in
          let same : place ≡ i = omega (arith, l, below) in
          let read = slice_get_read calls (length calls) place c.index-calls-place.result refl c.loop-place-test.true c.index-calls-place.is in
          let there : Some c.index-calls-place.result ≡ Some call = sym read ∙ ap (λ (n : ℕ). slice_get calls n) same ∙ is in
          let call_is : c.index-calls-place.result ≡ call = cc there in
          elim c.else-is_taken.branch [
            | else-is_taken-via-then-is_taken+else-not-takes_its_calls w ↦
                subst (λ (x : TimedCall). TakesNewAndFree (map plain_call calls) taken (cell_at (plain_call x)) × TakesStores (map plain_call calls) taken (plain_call x))
                call_is (w.if-not-takes_its_calls.ensures refl)
            | else-is_taken-via-else-is_taken w ↦ (
                let off = w.if-is_taken.false in
                absurd (let clash : true ≡ false = sym on ∙ ap (λ (n : ℕ). taken n) (sym same) ∙ sym c.is_taken.ensures ∙ off in cc clash))
          ])
    ]

pub returns : goal.returns
returns c = λ told i a is on.
    let calls = c.args.calls.now in
    let taken = taken_in c.args.taken.now in
    let x = read_at calls i a is in
    let within = x.within in
    let over = c.loop-place-test.false in
    subst (λ (b : Call). TakesNewAndFree (map plain_call calls) taken (cell_at b) × TakesStores (map plain_call calls) taken b) x.plain
    (c.loop-place.invariant i x.call (omega (arith, within, over)) x.there on)
