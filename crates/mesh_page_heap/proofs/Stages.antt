-- What each step does to the stage of a mesh, and how a changed list of meshes is seen.
use Rattle.std.proofs.Common.{◌≡◌, ℕ, ◌+◌, ◌-◌, ◌*◌, ◌<◌, ◌≤◌, min, refl, arith}
use Rattle.std.proofs.lemmas.Bool.Decides.{nat_tests}
use Rattle.std.proofs.lemmas.Bool.{le-leb, lt-leb}
use Rattle.model_heap.specs.Table.{Made, Unwinding}
use Rattle.mesh_page_heap.specs.Layout.{IsStage, Stage}
use Rattle.mesh_page_heap.specs.MeshLayouts.{copied_after, stage_at}

-- stages with the same parts are one
same_parts : {i i' f f' t t' c c' r r' g g' : ℕ} → i ≡ i' → f ≡ f' → t ≡ t' → c ≡ c' → r ≡ r' → g ≡ g'
    → ◌≡◌ {A = Stage} (record { into = i; locked_from = f; locked_to = t; copied = c; remapped = r; released = g })
    (record { into = i'; locked_from = f'; locked_to = t'; copied = c'; remapped = r'; released = g' })
same_parts x y z u v w = cc

pub copied_low : (t s d : ℕ) → d ≤ 2 * t + s → copied_after t s d ≡ min (d - t) s
copied_low t s d h = rw (le-leb d (2 * t + s) h) refl

pub copied_high : (t s d : ℕ) → 2 * t + s < d → copied_after t s d ≡ 0
copied_high t s d h = rw (lt-leb d (2 * t + s) h) refl

-- page `i` is protected
pub protect_stage : (t s n d : ℕ) → d < t → stage_at t s n (Made (d + 1)) ≡ record (stage_at t s n (Made d)) { locked_to = d + 1 }
protect_stage t s n d h = same_parts refl (omega (arith, h)) (omega (arith, h)) (grind (arith, nat_tests)) (omega (arith, h)) (omega (arith, h))

-- slot `k` is copied
pub copy_stage : (t s n k : ℕ) → k < s → stage_at t s n (Made (t + k + 1)) ≡ record (stage_at t s n (Made (t + k))) { copied = k + 1 }
copy_stage t s n k h = same_parts refl (omega (arith, h)) (omega (arith, h)) (grind (arith, nat_tests)) (omega (arith, h)) (omega (arith, h))

-- page `i` is remapped
pub remap_stage : (t s n i : ℕ) → i < t → stage_at t s n (Made (t + s + i + 1)) ≡ record (stage_at t s n (Made (t + s + i))) { remapped = i + 1 }
remap_stage t s n i h = same_parts refl (omega (arith, h)) (omega (arith, h)) (grind (arith, nat_tests)) (omega (arith, h)) (omega (arith, h))

-- page `i` is unprotected
pub unprotect_stage : (t s n i : ℕ) → i < t
    → stage_at t s n (Made (2 * t + s + i + 1)) ≡ record (stage_at t s n (Made (2 * t + s + i))) { locked_from = i + 1; copied = 0 }
unprotect_stage t s n i h = same_parts refl (omega (arith, h)) (omega (arith, h)) (grind (arith, nat_tests)) (omega (arith, h)) (omega (arith, h))

-- physical page `j` is given back
pub release_stage : (t s n j : ℕ) → 0 < t → stage_at t s n (Made (3 * t + s + j + 1)) ≡ record (stage_at t s n (Made (3 * t + s + j))) { released = j + 1 }
release_stage t s n j h = same_parts refl (omega (arith, h)) (omega (arith, h)) (grind (arith, nat_tests)) (omega (arith, h)) (omega (arith, h))

-- a mesh is cancelled before its first remap
pub cancel_stage : (t s n d : ℕ) → d ≤ t + s → stage_at t s n (Unwinding (min d t) 0) ≡ record (stage_at t s n (Made d)) { copied = 0 }
cancel_stage t s n d h = same_parts refl (omega (arith, h)) refl refl (omega (arith, h)) (omega (arith, h))

-- a page of a cancelled mesh is unprotected
pub unwind_stage : (t s n q u : ℕ) → stage_at t s n (Unwinding q (u + 1)) ≡ record (stage_at t s n (Unwinding q u)) { locked_from = u + 1; copied = 0 }
unwind_stage t s n q u = refl

-- a mesh that begins
pub begin_stage : (t s n : ℕ) → stage_at t s n (Made 0) ≡ record { into = n; locked_from = 0; locked_to = 0; copied = 0; remapped = 0; released = 0 }
begin_stage t s n = same_parts refl (omega arith) (omega arith) (grind (arith, nat_tests)) (omega arith) (omega arith)

-- the progress of a mesh within its steps is a stage
pub made_stage : (t s n d : ℕ) → 0 < t → IsStage t s (stage_at t s n (Made d))
made_stage t s n d some = grind arith

pub unwinding_stage : (t s n q u : ℕ) → q ≤ t → IsStage t s (stage_at t s n (Unwinding q u))
unwinding_stage t s n q u few = grind arith
