-- The steps to come of the mesh of a class, and what a step and a cancel leave of them.
use Rattle.std.proofs.Common.{◌≡◌, ◌≢◌, ◌↔◌, ℕ, zero, suc, ◌+◌, ◌-◌, ◌*◌, ◌≤◌, Bool, min, [], ◌∷◌, ◌++◌, length, find, map, ap, subst, refl, sym, ◌∙◌, arith, ◌⊎◌, Option, Some, None, Ok}
use Rattle.std.proofs.lemmas.Bool.Decides.{nat_tests}
use Rattle.model_words.proofs.Chains.{went_on}
use Rattle.model_heap.proofs.MayBegin.{began}
use Rattle.model_heap.proofs.GroupLists.{find_number, find_without_other, find_changed_other}
use Rattle.model_heap.proofs.MeshLists.{mesh_found, without_fewer}
use Rattle.model_heap.proofs.OneMesh.{at, of_class, found_at, found_beside, found_class, found_more, found_without, none_found}
use Rattle.model_heap.proofs.TableChanges.{one_group, step_sound, cancel_went, step_went, found_within}
use Rattle.model_words.specs.Classes.{pages_of, slots_of}
use Rattle.model_heap.specs.Mesh.{Stepped, begin, cancel, cancelled, cancelled_at, left_of, merged, merged_into, mesh_in, page_count, step, step_count, stepped, with_progress, without_mesh}
use Rattle.model_heap.specs.MeshLaws.{left_in, steps_of_class}
use Rattle.model_heap.specs.Sound.{IsSound, IsSoundMesh, IsWithinSteps}
use Rattle.model_heap.specs.Table.{Counted, Group, Made, Mesh, Progress, Table, Unwinding, changed_at, group_of, has_number}
use Rattle.model_heap.specs.TableLaws.{IsBusyTest}

-- two groups of a class merged leave each group of another class
pub merged_keeps : (t : Table) (a b : Group) (source destination n : ℕ) (g : Group) → group_of t source ≡ Some a → group_of t destination ≡ Some b
    → a.class ≡ b.class → g.class ≢ a.class → group_of t n ≡ Some g → find (has_number n) (merged t.groups a destination) ≡ Some g
merged_keeps t a b source destination n g is is' class apart at_n = grind (
  arith,
  nat_tests,
  find_without_other a.number n (map (changed_at destination (merged_into a)) t.groups),
  same_class a source is,
  find_number source t.groups a is,
  find_changed_other destination n (merged_into a) t.groups,
  same_class b destination is',
)
  where
    same_class : (h : Group) (m : ℕ) → group_of t m ≡ Some h → n ≡ m → g.class ≡ h.class
    same_class h m at_m e = ap (λ (x : Group). x.class) (one_group t m g h (ap (λ (k : ℕ). group_of t k) (sym e) ∙ at_n) at_m)

-- what a step leaves: the mesh is over, or it has come to another progress; each group of another class stays
pub record Came (t : Table) (this : Mesh) (a : Group) (x : Stepped) : Type 0 where
  pub how : ((x.left ≡ 0) × (x.table.meshes ≡ without_mesh t.meshes this))
      ⊎ ((progress : Progress) × (1 ≤ x.left) × (x.table.meshes ≡ with_progress t.meshes this progress) × (x.table.groups ≡ t.groups)
      × (left_of a progress ≡ x.left))
  pub keeps : (n : ℕ) (g : Group) → g.class ≢ a.class → group_of t n ≡ Some g → group_of x.table n ≡ Some g

-- a step of a mesh at a progress within its steps
comes : (t : Table) (this : Mesh) (a b : Group) (progress : Progress) → group_of t this.source ≡ Some a → group_of t this.destination ≡ Some b
    → a.class ≡ b.class → IsWithinSteps a progress → Came t this a (stepped t this a progress)
comes t this a b (Made d) is is' class within = grind (arith, nat_tests, merged_keeps t a b this.source this.destination)
comes t this a b (Unwinding q u) is is' class within = grind (arith, nat_tests)

-- a step answers one less than were to come
one_less : (t : Table) (this : Mesh) (a : Group) (progress : Progress) → IsWithinSteps a progress
    → (stepped t this a progress).left + 1 ≡ left_of a progress
one_less t this a (Made d) within = omega (arith, within)
one_less t this a (Unwinding q u) within = let below = within.0 in omega (arith, below)

-- a step of a running mesh: which, from which source, and what it leaves
pub record Went (t : Table) (test : Mesh → Bool) (x : Stepped) : Type 0 where
  pub mesh : Mesh
  pub source : Group
  pub found : find test t.meshes ≡ Some mesh
  pub sound : IsSoundMesh t mesh
  pub source_is : group_of t mesh.source ≡ Some source
  pub class : source.class ≡ mesh.class
  pub within : IsWithinSteps source mesh.progress
  pub is : stepped t mesh source mesh.progress ≡ x
  pub one : x.left + 1 ≡ left_of source mesh.progress
  pub came : Came t mesh source x

-- a step that is not refused
pub step_came : (t : Table) (test : Mesh → Bool) (x : Stepped) → IsSound t → step t (find test t.meshes) ≡ Ok x → Went t test x
step_came t test x sound h =
    grind (arith, nat_tests, step_went t (find test t.meshes) x h, mesh_found t test t.meshes, one_group t, found_within t test, one_less t, comes t)

-- the steps to come of the mesh that is found
pub left_is : (t : Table) (class : ℕ) (mesh : Mesh) (source : Group) → mesh_in t class ≡ Some mesh → group_of t mesh.source ≡ Some source
    → left_in t class ≡ left_of source mesh.progress
left_is t class mesh source found is = rw (found, is) refl

-- where no mesh is found no step is to come
left_none : (t : Table) (class : ℕ) → mesh_in t class ≡ None → left_in t class ≡ 0
left_none t class none = rw none refl

-- no mesh of the class is left where the mesh ends
ended : (t : Table) (class : ℕ) (mesh : Mesh) → IsSound t → mesh_in t class ≡ Some mesh → find (of_class class) (without_mesh t.meshes mesh) ≡ None
ended t class mesh sound found = grind (
  arith,
  without_fewer class (of_class class) t.meshes mesh found (found_class class t.meshes mesh found),
  none_found class (without_mesh t.meshes mesh),
)

-- no step is to come where the mesh is over
over : (t : Table) (class : ℕ) (left : ℕ) → mesh_in t class ≡ None → left ≡ 0 → (left_in t class ≡ left) × ((mesh_in t class ≡ None) ↔ (left ≡ 0))
over t class left none is = (left_none t class none ∙ sym is, (λ h. is, λ h. none))

-- some step is to come where the mesh goes on
goes : (t : Table) (class : ℕ) (left : ℕ) (mesh : Mesh) (source : Group) → mesh_in t class ≡ Some mesh → group_of t mesh.source ≡ Some source
    → left_of source mesh.progress ≡ left → 1 ≤ left → (left_in t class ≡ left) × ((mesh_in t class ≡ None) ↔ (left ≡ 0))
goes t class left mesh source found is some above = grind (arith, nat_tests, left_is t class mesh source found is)

-- a step leaves as many steps as it answers, and ends the mesh where these are none
pub step_leaves : (t : Table) (class : ℕ) (x : Stepped) → IsSound t → step t (mesh_in t class) ≡ Ok x
    → (x.left + 1 ≡ left_in t class) × (left_in x.table class ≡ x.left) × ((mesh_in x.table class ≡ None) ↔ (x.left ≡ 0))
step_leaves t class x sound h = grind (
  arith,
  nat_tests,
  step_came t (of_class class) x sound h,
  of_class class,
  over x.table class x.left,
  ended t class,
  goes x.table class x.left,
  at,
  found_at (of_class class),
  left_is t class,
)

-- the steps to come stay where the mesh that is found and its source do
left_stays : (t u : Table) (class : ℕ) (o : Option Mesh) → mesh_in t class ≡ o → mesh_in u class ≡ o
    → ((mesh : Mesh) → o ≡ Some mesh → group_of u mesh.source ≡ group_of t mesh.source) → left_in u class ≡ left_in t class
left_stays t u class None found found' stays = rw (found, found') refl
left_stays t u class (Some mesh) found found' stays = rw (found, found', stays mesh refl) refl

-- a step leaves the steps to come of another class
pub others_keep : (t : Table) (class other : ℕ) (x : Stepped) → IsSound t → other ≢ class → step t (mesh_in t class) ≡ Ok x
    → left_in x.table other ≡ left_in t other
others_keep t class other x sound apart h = grind (
  arith,
  nat_tests,
  step_came t (of_class class) x sound h,
  of_class class,
  found_class class t.meshes,
  of_class other,
  found_without t other,
  found_beside t other,
  left_stays t x.table other (mesh_in t other),
  mesh_found t (of_class other) t.meshes,
  found_class other t.meshes,
)

-- the steps to come and those made are as many as were to come
pub count_down : (n class : ℕ) (t u : Table) → IsSound t → steps_of_class class n t ≡ Ok u → left_in u class + n ≡ left_in t class
count_down zero class t u sound h = let same : t ≡ u = cc h in rw (ap (λ (x : Table). left_in x class) (sym same)) (omega arith)
count_down (suc n) class t u sound h =
    let first = went_on (step t (mesh_in t class)) _ u h in
    let rest = count_down n class first.value.table u (step_sound t (of_class class) first.value sound first.is) first.then in
    let one = step_leaves t class first.value sound first.is in
    let taken = one.0 in let left = one.1 in omega (arith, rest, taken, left)

-- a mesh cancelled with so many unprotects left
cancelled_leaves : (t : Table) (class : ℕ) (this : Mesh) (a : Group) (q : ℕ) → IsSound t → mesh_in t class ≡ Some this → group_of t this.source ≡ Some a
    → (left_in (cancelled_at t this a q).table class ≡ (cancelled_at t this a q).count)
    × ((mesh_in (cancelled_at t this a q).table class ≡ None) ↔ ((cancelled_at t this a q).count ≡ 0))
cancelled_leaves t class this a q sound found is = grind (
  arith,
  nat_tests,
  over,
  ended t class this sound found,
  goes,
  at this (Unwinding q 0),
  found_at (of_class class) this (Unwinding q 0) t.meshes,
  of_class class,
)

-- a cancel of a mesh at a progress
cancels : (t : Table) (class : ℕ) (this : Mesh) (a : Group) (progress : Progress) (x : Counted) → IsSound t → mesh_in t class ≡ Some this
    → group_of t this.source ≡ Some a → this.progress ≡ progress → IsWithinSteps a progress → cancelled t this a progress ≡ Ok x
    → (left_in x.table class ≡ x.count) × ((mesh_in x.table class ≡ None) ↔ (x.count ≡ 0))
cancels t class this a (Made d) x sound found is at_d within h = grind (arith, cancelled_leaves t class this a (min d (page_count a)) sound found is)
cancels t class this a (Unwinding q u) x sound found is at_u within h = grind (arith, nat_tests, goes t class (q - u) this a found is)

-- a cancel leaves as many steps as it answers, and ends the mesh where these are none
pub cancel_leaves : (t : Table) (class : ℕ) (x : Counted) → IsSound t → cancel t (mesh_in t class) ≡ Ok x
    → (left_in x.table class ≡ x.count) × ((mesh_in x.table class ≡ None) ↔ (x.count ≡ 0))
cancel_leaves t class x sound h =
    let went = cancel_went t (mesh_in t class) x h in
    cancels t class went.mesh went.source went.mesh.progress x sound went.running went.source_is refl
    (found_within t (of_class class) went.mesh went.source sound went.running went.source_is) went.is

-- `begin` answers all steps of the mesh
pub begin_answers : (busy : Table → ℕ → Bool) (t : Table) (source destination : ℕ) (group : Group) (begun : Counted) → group_of t source ≡ Some group
    → begin busy t source destination ≡ Ok begun
    → begun.count ≡ 3 * (length group.members * pages_of group.class) + slots_of group.class + pages_of group.class
begin_answers busy t source destination group begun is h = grind (arith, nat_tests, began busy t source destination begun h, one_group t source)

-- where no step was made all are to come
none_made : (a : Group) → left_of a (Made 0) ≡ step_count a
none_made a = omega arith

-- `begin` leaves as many steps as it answers
pub begin_leaves : (busy : Table → ℕ → Bool) (t : Table) (source destination : ℕ) (group : Group) (begun : Counted) → IsBusyTest busy t → IsSound t
    → group_of t source ≡ Some group → begin busy t source destination ≡ Ok begun → left_in begun.table group.class ≡ begun.count
begin_leaves busy t source destination group begun test sound is h =
    let made = began busy t source destination begun h in
    let may = made.may in
    let m : Mesh = record { class = made.pair.source.class; source = source; destination = destination; progress = Made 0 } in
    let same : made.pair.source ≡ group = one_group t source made.pair.source group may.source_is is in
    let u : Table = record t { meshes = t.meshes ++ m ∷ [] } in
    let left : left_in u m.class ≡ step_count made.pair.source
    = left_is u m.class m made.pair.source (found_more m t.meshes (test made.pair.source.class may.idle)) may.source_is ∙ none_made made.pair.source in
    subst (λ (x : Counted). left_in x.table group.class ≡ x.count) made.is
    (subst (λ (c : ℕ). left_in u c ≡ step_count made.pair.source) (ap (λ (g : Group). g.class) same) left)
