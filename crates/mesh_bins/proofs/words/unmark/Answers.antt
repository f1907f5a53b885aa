use Rattle.std.proofs.Common.{refl, sym, ◌∙◌}
use Rattle.std.proofs.lemmas.Bool.{eqb-false}
use Rattle.mesh_bins.proofs.WordLemmas.{marked_kept}
use Rattle.mesh_bins.proofs.words.unmark.Goals as goal

pub returns-else-is_zero : goal.returns-else-is_zero
returns-else-is_zero c = record {
  puts = c.clear_bit.ensures.puts;
  marked = marked_kept c.args.words.now c.clear_bit.new.words c.args.marks.now c.args.n c.requires.marked c.clear_bit.ensures.others c.clear_bit.ensures.puts
      (c.clear_bit.ensures.fits _) (eqb-false _ 0 (sym c.is_zero.ensures ∙ c.if-is_zero.false));
  long = c.clear_bit.ensures.long;
  marks = refl;
}
