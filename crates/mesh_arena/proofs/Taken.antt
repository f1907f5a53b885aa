-- Which pages are taken.
use Rattle.std.proofs.Common.{◌≡◌, ◌≢◌, ℕ, ◌<◌, ◌≤◌, false, List, Option, Some, None, length, set, get_or, replicate, sym, ap, ◌∙◌, arith, get_or-set_same, get_or-set_other, ⊎_elim}
use Rattle.std.specs.Prelude.{is_some}
use Rattle.std.proofs.lemmas.List.{length-replicate, get_or_past, get_or-replicate}
use Rattle.std.proofs.lemmas.Bool.{cases_lt, cases_eq}
use Rattle.mesh_arena.specs.Pages.{Pages, IsTaken, is_taken}

-- a taken page is one of the arena's
pub taken-below : (a : Pages) (p : ℕ) → IsTaken a p → p < length a
unfolding is_taken
taken-below a p h =
    ⊎_elim (λ (l : p < length a). l) (λ (past : length a ≤ p). let e : get_or a p None ≡ None = get_or_past a p None past in absurd (cc)) (cases_lt p (length a))

pub is_taken-set_same : (a : Pages) (p : ℕ) (c : Option (List ℕ)) → p < length a → is_taken (set a p c) p ≡ is_some c
unfolding is_taken
is_taken-set_same a p c h = ap is_some (get_or-set_same a p c None h)

pub is_taken-set_other : (a : Pages) (p q : ℕ) (c : Option (List ℕ)) → q ≢ p → is_taken (set a p c) q ≡ is_taken a q
unfolding is_taken
is_taken-set_other a p q c h = ap is_some (get_or-set_other a p q c None h)

-- a page that was taken and is given new bytes changes which pages are taken nowhere
pub is_taken-set_some : (a : Pages) (p : ℕ) (bytes : List ℕ) → IsTaken a p → (q : ℕ) → is_taken (set a p (Some bytes)) q ≡ is_taken a q
is_taken-set_some a p bytes h q =
    ⊎_elim (λ (e : q ≡ p). rw e (is_taken-set_same _ _ _ (taken-below _ _ h) ∙ sym h)) (λ (ne : q ≢ p). is_taken-set_other _ _ _ _ ne) (cases_eq q p)

-- in an arena of free pages none is taken
pub is_taken-replicate : (n p : ℕ) → is_taken (replicate n None) p ≡ false
unfolding is_taken
is_taken-replicate n p = grind (arith, get_or-replicate, get_or_past, length-replicate)
