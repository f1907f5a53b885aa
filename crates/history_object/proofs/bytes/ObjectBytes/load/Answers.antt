use Rattle.std.proofs.Common.{◌≡◌, ℕ, ◌+◌, ◌*◌, ◌-◌, ◌++◌, List, length, slice_range, ap, ◌∙◌, arith, append_assoc}
use Rattle.std.proofs.lemmas.List.{length-append}
use Rattle.history_object.specs.ObjectBytes.{bytes_of}
use Rattle.history_object.proofs.ByRuns.{left_behind, range_long, run_and_rest}
use Rattle.history_object.proofs.bytes.ObjectBytes.load.Goals as goal

pub loop-left-preserved : goal.loop-left-preserved
loop-left-preserved c =
    let bytes = bytes_of c.args.self.now in
    let start = c.loop-left.number * 64 + c.loop-left.place in
    let next = (c.loop-left.number + 1) * 64 + 0 in
    let run = c.first_run.result in
    let left = c.loop-left.left in
    let before = c.loop-left.bytes.items in
    let within = c.first_run.ensures.within in
    let end = c.loop-left.invariant.left c.loop-left-test.true in
    let fits = c.requires.fits in
    let long : length c.run-run.result.now ≡ run = ap (λ (xs : List ℕ). length xs) c.run-run.ensures ∙ range_long bytes start run (omega (arith, end, fits, within)) in
    let sum : left - length c.run-run.result.now + run ≡ left = omega (arith, long, within) in
    let count = c.loop-left.invariant.count in
    let both = ap (λ (xs : List ℕ). length xs) c.in_ok-extend.ensures.bytes ∙ length-append before c.run-run.result.now in
    record {
      within = omega arith;
      left = left_behind c.loop-left.number c.loop-left.place run left (left - length c.run-run.result.now) (c.args.off + c.args.len) sum c.first_run.ensures.rest c.loop-left.invariant.left;
      count = omega (arith, both, long, within, count);
      all =
          ap (λ (xs : List ℕ). xs ++ slice_range bytes next (next + (left - length c.run-run.result.now)))
          (c.in_ok-extend.ensures.bytes ∙ ap (λ (xs : List ℕ). before ++ xs) c.run-run.ensures)
          ∙ append_assoc before (slice_range bytes start (start + run)) (slice_range bytes next (next + (left - length c.run-run.result.now)))
          ∙ ap (λ (xs : List ℕ). before ++ xs) (run_and_rest bytes c.loop-left.number c.loop-left.place run left (left - length c.run-run.result.now) sum c.first_run.ensures.rest)
          ∙ c.loop-left.invariant.all;
    }
