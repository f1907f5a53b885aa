use Rattle.std.proofs.Common.{arith, rules, false, ◌-◌, ◌+◌, sym, subst, ◌≡◌, ◌≤◌, ◌<◌, length, take, drop}
use Rattle.std.proofs.lemmas.List.{take_rest}
use Rattle.std.specs.List.{list_any}
use Rattle.model_jobs.specs.JobFiles.{is_empty}
use Rattle.text_fields.specs.Lines.{IsSplit, texts}
use Rattle.text_fields.proofs.FewFields.{IsBegun, field_begun, filled_more, line_split}
use Rattle.text_fields.proofs.lines.few_fields.Goals as goal

pub returns-then-text-end-eq10-clause-split : goal.returns-then-text-end-eq10-clause-split
returns-then-text-end-eq10-clause-split c =
    let whole : c.min-most.result ≤ length c.args.text.now = search rules in
    let short : c.min-most.result ≤ 1025 = search rules in
    let before : c.field_end-end.result < c.min-most.result = omega (arith, c.field_end-end.ensures.most, c.if-end-most.false) in
    subst (λ fields. IsSplit c.args.text.now fields (take (length c.args.text.now - (c.field_end-end.result + 1)) (drop (c.field_end-end.result + 1) c.args.text.now)))
    (sym c.in-Ok.ensures.ok) (line_split _ _ _ _ _ _ c.field_end-end.ensures.least
    (omega (arith, before, whole)) (omega (arith, before, short)) c.if-text-end-eq10.true (take_rest c.args.text.now (c.field_end-end.result + 1))
    c.loop-start.invariant.begun c.field_end-end.ensures.bytes)

pub loop-start-preserved : goal.loop-start-preserved
loop-start-preserved c =
    let whole : c.min-most.result ≤ length c.args.text.now = search rules in
    let before : c.field_end-end.result < c.min-most.result = omega (arith, c.field_end-end.ensures.most, c.if-end-most.false) in
    record {
      within = omega (arith, before);
      begun = subst (λ fields. IsBegun (take (c.field_end-end.result + 1) c.args.text.now) fields) (sym c.in-Ok.ensures.ok)
          (field_begun c.args.text.now (texts c.loop-start.fields.items) c.loop-start.start c.field_end-end.result 0 c.field_end-end.ensures.least
          (omega (arith, before, whole)) c.if-text-end-ne32.false c.loop-start.invariant.begun c.field_end-end.ensures.bytes);
      filled = subst (λ fields. list_any is_empty fields ≡ false) (sym c.in-Ok.ensures.ok)
          (filled_more (texts c.loop-start.fields.items) _ c.loop-start.invariant.filled c.in-Ok.ensures.filled);
    }
