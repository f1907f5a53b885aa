-- Frames that were made, and behind them those that were not.
use Rattle.std.proofs.Common.{◌≡◌, ℕ, ◌+◌, ◌-◌, ◌<◌, ◌≤◌, ◌++◌, ◌∷◌, [], false, List, Option, None, length, set, get_or, replicate, refl, sym, ap, ◌∙◌, arith, length-set, ⊎_elim}
use Rattle.std.specs.Prelude.{is_some}
use Rattle.std.proofs.Math.Seq.{set-append_seam}
use Rattle.std.proofs.Common.{length-append, add-one}
use Rattle.std.proofs.lemmas.List.{append_assoc}
use Rattle.std.proofs.lemmas.List.{length-replicate, get_or_past, get_or-replicate, get_or_append_left, get_or-append_right, set-append_left}
use Rattle.std.proofs.lemmas.Bool.{cases_lt}
use Rattle.mesh_arena.specs.Pages.{Pages, IsTaken, is_taken, content}
use Rattle.mesh_arena.specs.Frames.{with_unmade}

nones : (m k : ℕ) → get_or {A = Option (List ℕ)} (replicate m None) k None ≡ None
nones m k = grind (arith, get_or-replicate, get_or_past, length-replicate)

-- a frame that was made
pub content-made : (a : Pages) (n p : ℕ) → p < length a → content (with_unmade a n) p ≡ content a p
unfolding with_unmade
content-made a n p h = get_or_append_left a (replicate (n - length a) None) None p h

-- a frame that was not
pub content-unmade : (a : Pages) (n p : ℕ) → length a ≤ p → content (with_unmade a n) p ≡ None
unfolding with_unmade
content-unmade a n p h = get_or-append_right a (replicate (n - length a) None) (length a) p None refl h ∙ nones (n - length a) (p - length a)

pub is_taken-unmade : (a : Pages) (n p : ℕ) → length a ≤ p → is_taken (with_unmade a n) p ≡ false
unfolding is_taken
is_taken-unmade a n p h = ap is_some (content-unmade a n p h)

-- a taken frame was made
pub made-below : (a : Pages) (n p : ℕ) → IsTaken (with_unmade a n) p → p < length a
made-below a n p h =
    ⊎_elim (λ (l : p < length a). l) (λ (past : length a ≤ p). let e = is_taken-unmade a n p past in absurd (cc)) (cases_lt p (length a))

pub length-with_unmade : (a : Pages) (n : ℕ) → length a ≤ n → length (with_unmade a n) ≡ n
unfolding with_unmade
length-with_unmade a n h = let e : length (a ++ replicate (n - length a) None) ≡ length a + (n - length a) = length-append a (replicate (n - length a) None) ∙ ap (λ m. length a + m) (length-replicate (n - length a) None) in omega (arith, e)

-- a change of a frame that was made
pub set-made : (a : Pages) (n p : ℕ) (x : Option (List ℕ)) → p < length a → with_unmade (set a p x) n ≡ set (with_unmade a n) p x
unfolding with_unmade
set-made a n p x h = ap (λ m. set a p x ++ replicate (n - m) None) (length-set a p x) ∙ sym (set-append_left a (replicate (n - length a) None) p x h)

next_of : (n m : ℕ) → m < n → replicate {A = Option (List ℕ)} (n - m) None ≡ None ∷ replicate (n - (m + 1)) None
next_of n m h = let e : n - m ≡ (n - (m + 1)) + 1 = omega arith in ap (λ k. replicate k None) (e ∙ add-one (n - (m + 1)))

-- the next frame that is made
pub set-next : (a : Pages) (n : ℕ) (x : Option (List ℕ)) → length a < n → with_unmade (a ++ x ∷ []) n ≡ set (with_unmade a n) (length a) x
unfolding with_unmade
set-next a n x h =
    let rest = replicate (n - (length a + 1)) None in
    let there : (a ++ x ∷ []) ++ replicate (n - length (a ++ x ∷ [])) None ≡ a ++ x ∷ rest = ap (λ m. (a ++ x ∷ []) ++ replicate (n - m) None) (length-append a (x ∷ [])) ∙ append_assoc a (x ∷ []) rest in
    there ∙ sym (ap (λ s. set (a ++ s) (length a) x) (next_of n (length a) h) ∙ set-append_seam a None rest x)
