use Rattle.std.proofs.Common.{◌≡◌, ℕ, ◌<◌, ◌≤◌, false, arith, length, sym}
use Rattle.mesh_arena.specs.Pages.{Pages, IsTaken, is_taken}
use Rattle.mesh_arena.specs.Tied.{IsTied}
use Rattle.mesh_arena.proofs.Counts.{lowest_free-none, lowest_free-is}
use Rattle.mesh_arena.proofs.Changes.{takes}
use Rattle.mesh_arena.proofs.Given.{IsLowest}
use Rattle.mesh_arena.proofs.Ties.{tied_by_take, found}
use Rattle.mesh_arena.proofs.arena.Arena.take.Goals as goal

lowest : (a : Pages) (free p : ℕ) → IsTied a free → 0 < free → p ≤ length a → ((q : ℕ) → q < p → IsTaken a q) → (p < length a → is_taken a p ≡ false) → IsLowest a p
lowest a free p tied some within passed here =
    let h : p < length a = found a free p tied some within passed in
    record {
      within = h;
      free = here h;
      passed = passed;
    }

pub returns-then-self-eq0-clause-page : goal.returns-then-self-eq0-clause-page
returns-then-self-eq0-clause-page c = rw (← c.self.view_is) (sym (lowest_free-none _ (omega (arith, c.self.invariant.counted))))

pub take-requires-clause-within : goal.take-requires-clause-within
take-requires-clause-within c =
    let at = lowest c.self.inside.frames _ c.first_free-place.result c.self.invariant (omega arith) c.first_free-place.ensures.within c.first_free-place.ensures.passed c.first_free-place.ensures.found in
    at.within

pub take-requires-clause-free : goal.take-requires-clause-free
take-requires-clause-free c =
    let at = lowest c.self.inside.frames _ c.first_free-place.result c.self.invariant (omega arith) c.first_free-place.ensures.within c.first_free-place.ensures.passed c.first_free-place.ensures.found in
    at.free

pub invariant_of-self : goal.invariant_of-self
invariant_of-self c =
    let at = lowest c.self.inside.frames _ c.first_free-place.result c.self.invariant (omega arith) c.first_free-place.ensures.within c.first_free-place.ensures.passed c.first_free-place.ensures.found in
    rw c.take.ensures (tied_by_take _ _ _ c.self.invariant at.within at.free at.passed)

pub returns-clause-page : goal.returns-clause-page
returns-clause-page c =
    let at = lowest c.self.inside.frames _ c.first_free-place.result c.self.invariant (omega arith) c.first_free-place.ensures.within c.first_free-place.ensures.passed c.first_free-place.ensures.found in
    rw (c.numbered.ensures, ← c.self.view_is) (sym (lowest_free-is c.self.inside.frames c.first_free-place.result at.within at.free at.passed))

pub returns-clause-takes : goal.returns-clause-takes
returns-clause-takes c =
    let at = lowest c.self.inside.frames _ c.first_free-place.result c.self.invariant (omega arith) c.first_free-place.ensures.within c.first_free-place.ensures.passed c.first_free-place.ensures.found in
    rw (c.take.ensures, c.numbered.ensures, ← c.self.view_is) (takes c.self.inside.frames c.first_free-place.result at.within at.free at.passed)
