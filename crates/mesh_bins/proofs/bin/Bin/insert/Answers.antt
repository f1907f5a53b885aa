use Rattle.std.proofs.Common.{length, ap, ◌∙◌}
use Rattle.mesh_bins.proofs.WordLemmas.{inserted_is, marked_insert, written_is}
use Rattle.mesh_bins.proofs.bin.Bin.insert.Goals as goal

pub invariant_of-self : goal.invariant_of-self
invariant_of-self c =
    let was = c.as_mut_slice.ensures.value in
    let others = rw was at c.set_bit.ensures.others in
    rw (written_is _ _ _ _ c.self.inside.words.ok.0 was c.set_bit.ensures.long) record {
      sized = c.set_bit.ensures.long ∙ ap length was ∙ c.self.invariant.sized;
      summed = c.mark.ensures.long ∙ c.self.invariant.summed;
      topped = c.mark.ensures.marks ∙ c.self.invariant.topped;
      marked = marked_insert _ _ _ _ _ c.self.invariant.marked others (rw was at c.set_bit.ensures.puts).here c.mark.ensures.puts;
      top_marked = c.mark.ensures.marked;
    }

pub returns : goal.returns
returns c =
    inserted_is _ _ _ _ _ _ c.self.inside.words.ok.0 c.as_mut_slice.ensures.value c.set_bit.ensures.long c.set_bit.ensures.puts c.self.view_is
