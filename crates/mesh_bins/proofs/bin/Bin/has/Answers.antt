use Rattle.std.proofs.Common.{ap, sym, ◌∙◌, ℕ, List}
use Rattle.std.specs.FinSet.{contains}
use Rattle.mesh_bins.specs.Words.{has}
use Rattle.mesh_bins.proofs.WordLemmas.{contains-set_of}
use Rattle.mesh_bins.proofs.bin.Bin.has.Goals as goal

pub returns : goal.returns
returns c =
    c.has_bit.ensures ∙ ap (λ (ws : List ℕ). has ws c.args.n) c.as_slice.ensures.value ∙ sym (contains-set_of c.self.inside.words.items c.args.n)
    ∙ ap (λ s. contains s c.args.n) c.self.view_is
