use Rattle.std.proofs.Common.{◌≡◌, replicate, rules, ap, ◌∙◌, refl, ℕ, length}
use Rattle.std.proofs.lemmas.List.{length-replicate}
use Rattle.mesh_bins.specs.Words.{set_of}
use Rattle.mesh_bins.proofs.WordLemmas.{set_of-zeros, marked_zeros}
use Rattle.mesh_bins.proofs.bin.Bin.new.Goals as goal

pub invariant_of-result : goal.invariant_of-result
invariant_of-result c =
    let zeros : c.in_ok-words.words.items ≡ replicate 1024 0 = c.in_ok-words.ensures.items_if_clones_equal (search rules) in
    record { sized = ap length zeros ∙ length-replicate {A = ℕ} 1024 0; summed = refl; topped = refl; marked = rw zeros (marked_zeros 1024 16); top_marked = marked_zeros 16 1 }

pub returns : goal.returns
returns c = ap set_of (c.in_ok-words.ensures.items_if_clones_equal (search rules)) ∙ set_of-zeros 1024
