use Rattle.std.proofs.Common.{◌≡◌, ℕ, ◌++◌, arith, drop, take, length, length-set, List, sym, ap, ◌∙◌, set}
use Rattle.std.proofs.lemmas.List.{take_at}
use Rattle.mesh_arena.proofs.Given.{bytes-frame, pages-written}
use Rattle.mesh_arena.proofs.frames.Frames.copy.Goals as goal

-- the frames after a copy, as the vector shows them
whole_of : (made new : List (List ℕ)) (n p : ℕ) (x : List ℕ) → n ≡ length made → new ≡ set made p x → take n (new ++ drop (length new) made) ≡ set made p x
whole_of made new n p x count e = take_at new (drop (length new) made) n (ap length e ∙ length-set made p x ∙ sym count) ∙ e

pub returns-clause-copied : goal.returns-clause-copied
returns-clause-copied c =
    let to_taken = rw (← c.self.view_is) at c.requires.to_taken in
    let is = rw (c.as_mut_slice.ensures.value) at c.copy_between.ensures.copied in
    let count : c.self.inside.made.len ≡ length c.self.inside.made.items = omega (arith, c.as_mut_slice.ensures.len, ap length c.as_mut_slice.ensures.value) in
    let from = bytes-frame _ _ _ _ (rw (← c.self.view_is) at c.requires.from_taken) in
    rw (whole_of _ _ _ _ _ count is, ← c.self.view_is, from, bytes-frame _ _ _ _ to_taken) (pages-written _ _ _ _ _ to_taken)
