use Rattle.std.proofs.Common.{◌≡◌, ℕ, ◌/◌, List, Bool, nat_eq, length, slice_index, ap, sym, ◌∙◌, arith}
use Rattle.std.proofs.lemmas.Bool.{eqb-true, eqb-false}
use Rattle.mesh_bins.proofs.WordLemmas.{marked_cleared, marked_kept, removed_is, written_is}
use Rattle.mesh_bins.proofs.bin.Bin.remove.Goals as goal

-- whether a word is zero, once the words were written
zero_is : (ws read new : List ℕ) (n : ℕ) (zero : Bool) → read ≡ ws → ws ≡ new → zero ≡ nat_eq (slice_index read (n / 64)) 0
    → zero ≡ nat_eq (slice_index new (n / 64)) 0
zero_is ws read new n zero same written is = is ∙ ap (λ (xs : List ℕ). nat_eq (slice_index xs (n / 64)) 0) (same ∙ written)

pub is_zero-requires : goal.is_zero-requires
is_zero-requires c = grind arith

pub invariant_of-self : goal.invariant_of-self
invariant_of-self c =
    let was = c.as_mut_slice.ensures.value in
    let written = written_is c.self.inside.words.len c.self.inside.words.items _ c.clear_bit.new.words c.self.inside.words.ok.0 was c.clear_bit.ensures.long in
    let zero = zero_is _ _ c.clear_bit.new.words c.args.n c.is_zero.result c.as_slice.ensures.value written c.is_zero.ensures in
    rw written record {
      sized = c.clear_bit.ensures.long ∙ ap length was ∙ c.self.invariant.sized;
      summed = c.unmark.ensures.long ∙ c.self.invariant.summed;
      topped = c.unmark.ensures.marks ∙ c.self.invariant.topped;
      marked = marked_cleared c.self.inside.words.items c.clear_bit.new.words c.self.inside.summary c.unmark.new.words c.args.n c.self.invariant.marked
          (rw was at c.clear_bit.ensures.others) (eqb-true _ 0 (sym zero ∙ c.if-is_zero.true)) c.unmark.ensures.puts;
      top_marked = c.unmark.ensures.marked;
    }

pub invariant_of-self-else-is_zero : goal.invariant_of-self-else-is_zero
invariant_of-self-else-is_zero c =
    let was = c.as_mut_slice.ensures.value in
    let written = written_is c.self.inside.words.len c.self.inside.words.items _ c.clear_bit.new.words c.self.inside.words.ok.0 was c.clear_bit.ensures.long in
    let zero = zero_is _ _ c.clear_bit.new.words c.args.n c.is_zero.result c.as_slice.ensures.value written c.is_zero.ensures in
    rw written record {
      sized = c.clear_bit.ensures.long ∙ ap length was ∙ c.self.invariant.sized;
      summed = c.self.invariant.summed;
      topped = c.self.invariant.topped;
      top_marked = c.self.invariant.top_marked;
      marked = marked_kept c.self.inside.words.items c.clear_bit.new.words c.self.inside.summary c.args.n c.self.invariant.marked
          (rw was at c.clear_bit.ensures.others) (rw was at c.clear_bit.ensures.puts) (c.clear_bit.ensures.fits (c.args.n / 64))
          (eqb-false _ 0 (sym zero ∙ c.if-is_zero.false));
    }

pub returns-then-is_zero : goal.returns-then-is_zero
returns-then-is_zero c =
    removed_is _ _ _ _ _ _ c.self.inside.words.ok.0 c.as_mut_slice.ensures.value c.clear_bit.ensures.long c.clear_bit.ensures.puts c.self.view_is

pub returns-else-is_zero : goal.returns-else-is_zero
returns-else-is_zero c =
    removed_is _ _ _ _ _ _ c.self.inside.words.ok.0 c.as_mut_slice.ensures.value c.clear_bit.ensures.long c.clear_bit.ensures.puts c.self.view_is
