-- The lowest refusal that holds of a sweep, a step and a cancel.
use Rattle.std.proofs.Common.{◌≡◌, ℕ, suc, ◌+◌, ◌≤◌, Bool, true, false, nat_lt, List, [], ◌∷◌, count_by, find, is_some, cond, min, slice_get, refl, sym, ◌∙◌, arith, ◌⊎◌, Option, Some, None, lit≤}
use Rattle.std.proofs.lemmas.List.Sums.{sum_by-cons}
use Rattle.model_words.proofs.Tests.{less}
use Rattle.model_heap.proofs.ListPlaces.{any_passes, found_passes, none_found_passes, none_passes}
use Rattle.model_words.proofs.LowestRefusals.{AreFrom, Told, none_holds, refused_by, told_if, told_ok, told_some}
use Rattle.model_heap.proofs.MeshLists.{mesh_found}
use Rattle.model_heap.proofs.TiedTables.{filled_counted}
use Rattle.model_words.specs.Classes.{slots_of}
use Rattle.model_heap.specs.Mesh.{Stepped, cancel, cancelled, cancelled_at, page_count, step, stepped}
use Rattle.model_heap.specs.RefusalLaws.{HasNoMesh, IsOfMesh, IsTooLate, cancel_holds, step_holds, sweep_holds}
use Rattle.model_words.specs.Refusals.{IsRefusedBy}
use Rattle.model_heap.specs.Sound.{IsSound}
use Rattle.model_heap.specs.Table.{Counted, Group, Made, Mesh, Progress, Slot, Table, Unwinding, group_of, is_meshing, object_count, sweep, takes_part}
use Rattle.model_words.specs.declared.refusals.Refusal.TheVariants.{NoGroup, Busy, NoMesh, TooLate, NotEmpty}

-- the refusals of a sweep are from a number on
sweep_from : (t : Table) (n low : ℕ) → (sweep_holds t n NoGroup → low ≤ 9) → (sweep_holds t n Busy → low ≤ 12) → (sweep_holds t n NotEmpty → low ≤ 17)
    → AreFrom low (sweep_holds t n)
sweep_from t n low no_group busy not_empty NoGroup h = no_group h
sweep_from t n low no_group busy not_empty Busy h = busy h
sweep_from t n low no_group busy not_empty NotEmpty h = not_empty h
sweep_from t n low no_group busy not_empty _ h = absurd h

-- the group is of a mesh
pub of_mesh : (t : Table) (n : ℕ) → is_meshing t n ≡ true → IsOfMesh t n
of_mesh t n h = grind (arith, any_passes Mesh (takes_part n) t.meshes h)
  where
    parts : (mesh : Mesh) → takes_part n mesh ≡ true → (mesh.source ≡ n) ⊎ (mesh.destination ≡ n)
    parts mesh h = grind arith

-- or of none
pub of_no_mesh : (t : Table) (n : ℕ) → is_meshing t n ≡ false → ¬ IsOfMesh t n
of_no_mesh t n h one = parts one.mesh (none_passes Mesh (takes_part n) t.meshes h one.i one.mesh one.running) one.part
  where
    parts : (mesh : Mesh) → takes_part n mesh ≡ false → (mesh.source ≡ n) ⊎ (mesh.destination ≡ n) → ⊥
    parts mesh off part = grind arith

-- where objects are counted a slot has one
counted_filled : (slots : List (Option Slot)) → 1 ≤ count_by is_some slots → (k : ℕ) × (slot : Slot) × (slice_get slots k ≡ Some (Some slot))
counted_filled [] h = absurd (omega (arith, h))
counted_filled (Some x ∷ slots) h = (0, x, refl)
counted_filled (None ∷ slots) h =
    let more : count_by is_some (None ∷ slots) ≡ 0 + count_by is_some slots = sum_by-cons (λ o. cond (is_some o) 1 0) None slots in
    let rest = counted_filled slots (omega (arith, h, more)) in (suc rest.0, rest.1, rest.2)

-- a sweep is refused by the lowest
pub sweep_lowest : (t : Table) (n : ℕ) → IsRefusedBy (sweep_holds t n) (sweep t n)
sweep_lowest t n = refused_by Counted (sweep_holds t n) (sweep t n)
    (told_some Counted Group (sweep_holds t n) NoGroup (group_of t n) _ (sweep_from t n 9 (λ h. lit≤ tt) (λ h. lit≤ tt) (λ h. lit≤ tt)) (λ none. none)
    (λ g is. let some : ¬ sweep_holds t n NoGroup = λ none. let clash : Some g ≡ None = sym is ∙ none in cc clash in
    told_if Counted (sweep_holds t n) Busy (is_meshing t n) _ (sweep_from t n 12 (λ h. absurd (some h)) (λ h. lit≤ tt) (λ h. lit≤ tt)) (of_mesh t n)
    (of_no_mesh t n) (λ free _.
    told_if Counted (sweep_holds t n) NotEmpty (nat_lt 0 (object_count g)) _
    (sweep_from t n 17 (λ h. absurd (some h)) (λ h. absurd (of_no_mesh t n free h)) (λ h. lit≤ tt))
    (λ many. let one = counted_filled g.slots (less 0 (object_count g) many) in
    record { group = g; there = is; is = record { k = one.0; slot = one.1; filled = one.2 } })
    (objects g is) (λ empty _.
    told_ok Counted (sweep_holds t n) _ (none_holds (sweep_holds t n)
    (sweep_from t n 18 (λ h. absurd (some h)) (λ h. absurd (of_no_mesh t n free h)) (λ h. absurd (objects g is empty h))))))))
  where
    objects : (g : Group) → group_of t n ≡ Some g → nat_lt 0 (object_count g) ≡ false → ¬ sweep_holds t n NotEmpty
    objects g is empty h = grind (arith, filled_counted g.slots)

-- where a mesh is found some mesh passes
found_some : (t : Table) (test : Mesh → Bool) (mesh : Mesh) → find test t.meshes ≡ Some mesh → ¬ HasNoMesh t test
found_some t test mesh found none = grind (arith, found_passes Mesh test t.meshes mesh found)

-- the refusals of a step are from a number on
step_from : (t : Table) (test : Mesh → Bool) (low : ℕ) → (step_holds t test NoMesh → low ≤ 15) → AreFrom low (step_holds t test)
step_from t test low no_mesh NoMesh h = no_mesh h
step_from t test low no_mesh _ h = absurd h

-- a step is refused by the lowest
pub step_lowest : (t : Table) (test : Mesh → Bool) → IsSound t → IsRefusedBy (step_holds t test) (step t (find test t.meshes))
step_lowest t test sound = refused_by Stepped (step_holds t test) (step t (find test t.meshes))
    (told_some Stepped Mesh (step_holds t test) NoMesh (find test t.meshes) _ (step_from t test 15 (λ h. lit≤ tt)) (none_found_passes Mesh test t.meshes)
    (λ mesh found.
    told_some Stepped Group (step_holds t test) NoMesh (group_of t mesh.source) _ (step_from t test 15 (λ h. lit≤ tt)) (sourced mesh found) (λ source is.
    told_ok Stepped (step_holds t test) (stepped t mesh source mesh.progress) (none_holds (step_holds t test)
    (step_from t test 18 (λ h. absurd (found_some t test mesh found h)))))))
  where
    sourced : (mesh : Mesh) → find test t.meshes ≡ Some mesh → group_of t mesh.source ≡ None → step_holds t test NoMesh
    sourced mesh found none = let old = mesh_found t test t.meshes mesh found sound.meshes in
        absurd (let clash : Some old.source ≡ None = sym old.source_is ∙ none in cc clash)

-- the refusals of a cancel are from a number on
cancel_from : (t : Table) (test : Mesh → Bool) (low : ℕ) → (cancel_holds t test NoMesh → low ≤ 15) → (cancel_holds t test TooLate → low ≤ 16)
    → AreFrom low (cancel_holds t test)
cancel_from t test low no_mesh late NoMesh h = no_mesh h
cancel_from t test low no_mesh late TooLate h = late h
cancel_from t test low no_mesh late _ h = absurd h

-- a cancel of the mesh at its progress
cancel_at : (t : Table) (test : Mesh → Bool) (mesh : Mesh) (source : Group) (progress : Progress) → find test t.meshes ≡ Some mesh
    → group_of t mesh.source ≡ Some source → mesh.progress ≡ progress → Told Counted (cancel_holds t test) (cancelled t mesh source progress)
cancel_at t test mesh source (Made d) found is at =
    told_if Counted (cancel_holds t test) TooLate (nat_lt (page_count source + slots_of source.class) d) _
    (cancel_from t test 16 (λ h. absurd (found_some t test mesh found h)) (λ h. lit≤ tt))
    (λ late. record {
      mesh = mesh;
      source = source;
      made = d;
      late = less (page_count source + slots_of source.class) d late;
      running = found;
      source_is = is;
      made_is = at;
    })
    in_time (λ early _. told_ok Counted (cancel_holds t test) (cancelled_at t mesh source (min d (page_count source))) (none_holds (cancel_holds t test)
    (cancel_from t test 18 (λ h. absurd (found_some t test mesh found h)) (λ h. absurd (in_time early h)))))
  where
    in_time : nat_lt (page_count source + slots_of source.class) d ≡ false → ¬ IsTooLate t test
    in_time early late = grind arith
cancel_at t test mesh source (Unwinding q u) found is at =
    told_ok Counted (cancel_holds t test) _ (none_holds (cancel_holds t test)
    (cancel_from t test 18 (λ h. absurd (found_some t test mesh found h)) (λ late. absurd (made late))))
  where
    made : ¬ IsTooLate t test
    made late = grind arith

-- a cancel is refused by the lowest
pub cancel_lowest : (t : Table) (test : Mesh → Bool) → IsSound t → IsRefusedBy (cancel_holds t test) (cancel t (find test t.meshes))
cancel_lowest t test sound = refused_by Counted (cancel_holds t test) (cancel t (find test t.meshes))
    (told_some Counted Mesh (cancel_holds t test) NoMesh (find test t.meshes) _ (cancel_from t test 15 (λ h. lit≤ tt) (λ h. lit≤ tt))
    (none_found_passes Mesh test t.meshes) (λ mesh found.
    told_some Counted Group (cancel_holds t test) NoMesh (group_of t mesh.source) _ (cancel_from t test 15 (λ h. lit≤ tt) (λ h. lit≤ tt))
    (sourced mesh found) (λ source is. cancel_at t test mesh source mesh.progress found is refl)))
  where
    sourced : (mesh : Mesh) → find test t.meshes ≡ Some mesh → group_of t mesh.source ≡ None → cancel_holds t test NoMesh
    sourced mesh found none = let old = mesh_found t test t.meshes mesh found sound.meshes in
        absurd (let clash : Some old.source ≡ None = sym old.source_is ∙ none in cc clash)
