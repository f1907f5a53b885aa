use Rattle.std.proofs.Common.{arith, sym, ◌∙◌}
use Rattle.text_fields.proofs.FewFields.{field_more}
use Rattle.text_fields.proofs.lines.field_end.Goals as goal

pub loop-place-preserved : goal.loop-place-preserved
loop-place-preserved c = record {
  least = omega (arith, c.loop-place.invariant.least);
  most = omega (arith, c.loop-place-test.true);
  bytes = field_more c.args.text.now c.args.start c.loop-place.place 0 c.loop-place.invariant.least (omega (arith, c.loop-place-test.true, c.requires.most))
      (sym c.is_field_byte.ensures ∙ c.if-is_field_byte.true) c.loop-place.invariant.bytes;
}
