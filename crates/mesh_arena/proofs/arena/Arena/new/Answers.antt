use Rattle.std.proofs.Common.{◌≡◌, ℕ, ◌≤◌, false, None, replicate, arith, ap, ◌∙◌}
use Rattle.std.proofs.lemmas.List.{length-replicate}
use Rattle.mesh_arena.specs.Pages.{Pages, is_taken, free_count}
use Rattle.mesh_arena.specs.Tied.{IsTied}
use Rattle.mesh_arena.proofs.Counts.{free_count-replicate}
use Rattle.mesh_arena.proofs.Taken.{is_taken-replicate}
use Rattle.mesh_arena.proofs.arena.Arena.new.Goals as goal

free_of : (a : Pages) (n : ℕ) → a ≡ replicate n None → free_count a ≡ n
free_of a n e = ap free_count e ∙ free_count-replicate n

new_tied : (a : Pages) (n : ℕ) → n ≤ 4096 → a ≡ replicate n None → IsTied a n
new_tied a n few e = grind (arith, length-replicate, free_of)

untaken : (a : Pages) (m : ℕ) → a ≡ replicate m None → (p : ℕ) → is_taken a p ≡ false
untaken a m e p = ap (λ (s : Pages). is_taken s p) e ∙ is_taken-replicate m p

pub invariant_of-result : goal.invariant_of-result
invariant_of-result c = new_tied _ c.args.pages c.requires.few c.in_ok-new.ensures

pub returns-clause-free : goal.returns-clause-free
returns-clause-free c = free_of _ c.args.pages c.in_ok-new.ensures

pub returns-clause-untaken : goal.returns-clause-untaken
returns-clause-untaken c = untaken _ c.args.pages c.in_ok-new.ensures
