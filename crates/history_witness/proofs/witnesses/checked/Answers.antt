use Rattle.std.proofs.Common.{ℕ, ◌+◌, List, map, ap, arith, refl, subst, ◌∙◌}
use Rattle.std.proofs.lemmas.List.{length-map}
use Rattle.history_reading.specs.CallWords.{plain_call}
use Rattle.history_witness.specs.TakenLines.{is_kept, lines_at, taken_below, taken_in}
use Rattle.history_witness.specs.Witnesses.{IsRefuted}
use Rattle.history_witness.proofs.KeptLines.{taken_within}
use Rattle.history_witness.proofs.witnesses.checked.Goals as goal

pub returns : goal.returns
returns c = λ text lines first.
    let taken = taken_in c.args.taken.now in
    let calls = c.args.calls.now in record {
      calls = map plain_call calls;
      taken = taken;
      first = first;
      within = λ i on.
          let below = taken_within c.args.taken.now i on in
          let whole = c.if-not-is_slice_with.ensures.whole refl in
          let many = length-map calls plain_call in omega (arith, below, whole, many);
      slice = c.if-not-is_slice_with.ensures.slice refl;
      lines = c.in_ok-text.ensures ∙ ap (λ (l : List (List ℕ)). lines_at (is_kept taken) l) lines;
      number = c.args.number;
      in_line = refl;
      has_wrong = c.if-not-is_slice_with.ensures.has refl;
      refuted = subst (λ (t : List ℕ). IsRefuted t (taken_below taken c.args.number + 2)) c.as_slice.ensures.value
          (subst (λ (n : ℕ). IsRefuted c.as_slice.result.now n) (c.line_among.ensures c.requires) (c.in_ok-is_refuted.ensures c.if-not-branch.false));
    }
