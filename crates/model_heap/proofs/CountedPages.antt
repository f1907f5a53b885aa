-- Every transition keeps the count of physical pages.
use Rattle.std.proofs.Common.{◌≡◌, ◌≢◌, ℕ, suc, ◌+◌, ◌-◌, ◌*◌, ◌≤◌, Bool, true, false, not, min, nat_lt, List, [], ◌∷◌, length, find, filter, map, sum_by, ap, refl, sym, ◌∙◌, arith, inl, inr, Some, Ok}
use Rattle.std.specs.List.{list_any}
use Rattle.std.proofs.lemmas.Bool.Decides.{nat_tests, eqb_tells, leb_tells}
use Rattle.std.proofs.lemmas.Bool.{true≢false}
use Rattle.std.proofs.lemmas.List.Sums.{sum_by-cons, sum_by_push}
use Rattle.std.proofs.Math.Nat.{mul-le-mul_left}
use Rattle.model_heap.proofs.NewObjects.{by_place}
use Rattle.model_words.proofs.Tests.{tells}
use Rattle.model_heap.proofs.GroupLists.{ascend_mapped, changed_number, find_again, find_changed_other, find_more, find_number, find_without_other, first_or_later, without_none}
use Rattle.model_heap.proofs.MeshLists.{mesh_found, without_fewer, meshes_filtered}
use Rattle.model_heap.proofs.OneMesh.{at, sum_at, sum_without}
use Rattle.model_heap.proofs.StepCounts.{merged_keeps}
use Rattle.model_heap.proofs.TableChanges.{one_group, found_within}
use Rattle.model_words.specs.Classes.{pages_of}
use Rattle.model_heap.specs.Mesh.{Stepped, begin, cancel, cancelled, cancelled_at, free_after, kind_after, merged, merged_into, mesh_whole, page_count, step, step_count, stepped, with_progress, without_mesh}
use Rattle.model_heap.specs.PageCounts.{AreCounted, released_by, released_pages, span_pages}
use Rattle.model_heap.specs.Sound.{AreSoundGroups, AreSoundMeshes, AscendBetween, IsSound, IsWithinSteps, meshes_of}
use Rattle.model_heap.specs.Table.{Counted, Group, Made, Mesh, Placed, Progress, Slot, Table, Unwinding, changed_at, first_member, fresh_group, group_of, group_without, has_number, is_meshing, mapped_count, picked_slot, place_new, placed_in, sweep, takes_part, with_group, with_object_in, with_span, without_object}
use Rattle.model_heap.specs.TableLaws.{IsBusyTest}

-- the physical pages of a group
abbrev pub span_of : Group → ℕ
span_of g = pages_of g.class

-- the physical pages that a mesh has released
abbrev pub given : Table → Mesh → ℕ
given t mesh = released_by mesh.progress (group_of t mesh.source)

-- changed groups of the same classes have as many pages
span_mapped : (change : Group → Group) (gs : List Group) → ((g : Group) → (change g).class ≡ g.class) → sum_by span_of (map change gs) ≡ sum_by span_of gs
span_mapped change [] keeps = refl
span_mapped change (x ∷ xs) keeps =
    let rest = span_mapped change xs keeps in let old = sum_by-cons span_of x xs in let new = sum_by-cons span_of (change x) (map change xs) in
    let same : span_of (change x) ≡ span_of x = ap pages_of (keeps x) in omega (arith, rest, old, new, same)

-- without a group its pages are less
pub span_without : (n low high : ℕ) (gs : List Group) (g : Group) → AscendBetween low gs high → find (has_number n) gs ≡ Some g
    → sum_by span_of (filter (λ x. not (has_number n x)) gs) + span_of g ≡ sum_by span_of gs
span_without n low high [] g ascend h = absurd (cc)
span_without n low high (x ∷ xs) g ascend h = elim (first_or_later n low high x xs g ascend h) [
  | inl first ↦ rw (first.0, without_none n xs first.2, first.1) (let old = sum_by-cons span_of g xs in omega (arith, old))
  | inr later ↦ rw later.0 (let new = sum_by-cons span_of x (filter (λ y. not (has_number n y)) xs) in let old = sum_by-cons span_of x xs in
      let rest = span_without n (x.number + 1) high xs g ascend.1 later.1 in omega (arith, new, old, rest))
]

-- a group with other slots is the source of as many released pages
given_mapped : (progress : Progress) (n : ℕ) (change : Group → Group) (gs : List Group) → ((g : Group) → (change g).number ≡ g.number)
    → ((g : Group) → released_by progress (Some (change g)) ≡ released_by progress (Some g))
    → released_by progress (find (has_number n) (map change gs)) ≡ released_by progress (find (has_number n) gs)
given_mapped progress n change [] numbers keeps = refl
given_mapped progress n change (x ∷ xs) numbers keeps = grind (arith, given_mapped progress n change xs numbers keeps)

-- groups with other slots keep the count
mapped_counted : (pages : ℕ) (t : Table) (change : Group → Group) → ((g : Group) → (change g).number ≡ g.number)
    → ((g : Group) → (change g).class ≡ g.class) → ((progress : Progress) (g : Group) → released_by progress (Some (change g)) ≡ released_by progress (Some g))
    → AreCounted pages t → AreCounted pages (record t { groups = map change t.groups })
mapped_counted pages t change numbers classes keeps counted = grind (arith, span_mapped change t.groups classes, given_mapped)

-- an object taken out leaves what was released
given_emptied : (serial : ℕ) (progress : Progress) (g : Group) → released_by progress (Some (group_without serial g)) ≡ released_by progress (Some g)
given_emptied serial (Made d) g = refl
given_emptied serial (Unwinding q u) g = refl

-- an object freed keeps the count
pub free_counted : (pages : ℕ) (t : Table) (serial : ℕ) → AreCounted pages t → AreCounted pages (without_object t serial)
free_counted pages t serial counted = mapped_counted pages t (group_without serial) (λ g. refl) (λ g. refl) (given_emptied serial) counted

-- a changed group is of the same class
class_put : (n k : ℕ) (slot : Slot) (g : Group) → (changed_at n (with_object_in k slot) g).class ≡ g.class
class_put n k slot g = elim (tells (has_number n g)) [ inl pass ↦ rw pass refl | inr fail ↦ rw fail refl ]

-- an object put into a group keeps the count
put_counted : (pages : ℕ) (t : Table) (n k : ℕ) (slot : Slot) → AreCounted pages t → AreCounted pages (with_group t n (with_object_in k slot))
put_counted pages t n k slot counted = grind (arith, mapped_counted pages t (changed_at n (with_object_in k slot)), class_put n k slot)

-- a group more is the source of no other released pages, where each source is a group
given_more : (t u : Table) (ms : List Mesh) → ((n : ℕ) (g : Group) → group_of t n ≡ Some g → group_of u n ≡ Some g) → AreSoundMeshes t ms
    → sum_by (given u) ms ≡ sum_by (given t) ms
given_more t u [] keeps sound = refl
given_more t u (m ∷ ms) keeps sound = grind (arith, given_more t u ms keeps sound.1, sum_by-cons (given t) m ms, sum_by-cons (given u) m ms)

-- a new span keeps the count
span_counted : (pages : ℕ) (t : Table) (class : ℕ) → IsSound t → nat_lt t.free_pages (pages_of class) ≡ false → AreCounted pages t
    → AreCounted pages (with_span t class)
span_counted pages t class sound room counted =
    let u : Table = with_span t class in
    let fresh : Group = fresh_group t.next_span class t.next_page in
    let span : span_pages u ≡ span_pages t + pages_of class = sum_by_push span_of t.groups fresh in
    let released : released_pages u ≡ released_pages t
    = given_more t u t.meshes (λ n g is. find_more (has_number n) t.groups (fresh ∷ []) g is) sound.meshes in
    elim (leb_tells (suc t.free_pages) (pages_of class)) [
      | inl few ↦ let clash : true ≡ false = rw few.0 at room in absurd (true≢false clash)
      | inr enough ↦ omega (arith, span, released, counted, enough.1)
    ]

-- a new object keeps the count
pub new_counted : (pages : ℕ) (t : Table) (len word serial : ℕ) (placed : Placed) → IsSound t → AreCounted pages t
    → place_new t len word serial ≡ Ok placed → AreCounted pages placed.table
new_counted pages t len word serial placed sound counted = by_place (λ (x : Placed). AreCounted pages x.table) t len word serial placed sound
    (λ class g at. in_group t g counted)
    (λ class at. in_group (with_span t class) (fresh_group t.next_span class t.next_page) (span_counted pages t class sound at.pages counted))
  where
    in_group : (u : Table) (g : Group) → AreCounted pages u → AreCounted pages (placed_in u g word serial len).table
    in_group u g before = put_counted pages u g.number (picked_slot g word) (record { member = first_member g; serial = serial; len = len }) before

-- a group in none of the meshes is the source of no released pages
given_outside : (t u : Table) (n : ℕ) (ms : List Mesh) → ((m : ℕ) → m ≢ n → group_of u m ≡ group_of t m) → list_any (takes_part n) ms ≡ false
    → sum_by (given u) ms ≡ sum_by (given t) ms
given_outside t u n [] keeps outside = refl
given_outside t u n (m ∷ ms) keeps outside = elim (eqb_tells m.source n) [
  | inl is ↦ let clash : true ≡ false = rw is.0 at outside in absurd (true≢false clash)
  | inr source ↦ elim (eqb_tells m.destination n) [
    | inl is ↦ let clash : true ≡ false = rw (source.0, is.0) at outside in absurd (true≢false clash)
    | inr destination ↦ let later : list_any (takes_part n) ms ≡ false = rw (source.0, destination.0) at outside in
        let rest = given_outside t u n ms keeps later in let old = sum_by-cons (given t) m ms in let new = sum_by-cons (given u) m ms in
        let here : given u m ≡ given t m = ap (released_by m.progress) (keeps m.source source.1) in omega (arith, rest, old, new, here)
  ]
]

-- the table without a group
abbrev swept_table : Table → ℕ → Group → Table
swept_table t n g = record t { free_pages = t.free_pages + pages_of g.class; groups = filter (λ x. not (has_number n x)) t.groups }

-- a group that is in no mesh taken out keeps the count
swept_counted : (pages : ℕ) (t : Table) (n : ℕ) (g : Group) → IsSound t → AreCounted pages t → group_of t n ≡ Some g → is_meshing t n ≡ false
    → AreCounted pages (swept_table t n g)
swept_counted pages t n g sound counted found outside =
    grind (arith, span_without n 0 t.next_span t.groups g sound.numbers found, given_outside t (swept_table t n g) n t.meshes, find_without_other n)

-- a sweep keeps the count
pub sweep_counted : (pages : ℕ) (t : Table) (n : ℕ) (x : Counted) → IsSound t → AreCounted pages t → sweep t n ≡ Ok x → AreCounted pages x.table
sweep_counted pages t n x sound counted h = grind (arith, swept_counted pages t n)

-- a sweep answers how many pages come free
pub sweep_answers : (t : Table) (n : ℕ) (x : Counted) → sweep t n ≡ Ok x → x.table.free_pages ≡ t.free_pages + x.count
sweep_answers t n x h = grind arith

-- a mesh begun keeps the count
pub begin_counted : (pages : ℕ) (busy : Table → ℕ → Bool) (t : Table) (source destination : ℕ) (x : Counted) → AreCounted pages t
    → begin busy t source destination ≡ Ok x → AreCounted pages x.table
begin_counted pages busy t source destination x counted h = grind (arith, sum_by_push (given t) t.meshes)

-- groups of a class that none of the meshes is of are the sources of no released pages
given_elsewhere : (t u : Table) (class : ℕ) (ms : List Mesh)
    → ((n : ℕ) (g : Group) → g.class ≢ class → group_of t n ≡ Some g → group_of u n ≡ Some g) → meshes_of class ms ≡ 0 → AreSoundMeshes t ms
    → sum_by (given u) ms ≡ sum_by (given t) ms
given_elsewhere t u class [] keeps none sound = refl
given_elsewhere t u class (m ∷ ms) keeps none sound = elim (eqb_tells m.class class) [
  | inl same ↦ let some : 1 + meshes_of class ms ≡ 0 = rw same.0 at none in absurd (omega (arith, some))
  | inr other ↦ let later : 0 + meshes_of class ms ≡ 0 = rw other.0 at none in
      let rest = given_elsewhere t u class ms keeps (omega (arith, later)) sound.1 in
      let old = sum_by-cons (given t) m ms in let new = sum_by-cons (given u) m ms in
      let here : given u m ≡ given t m = ap (released_by m.progress)
      (keeps m.source sound.0.source (λ e. other.1 (sym sound.0.source_class ∙ e)) sound.0.source_is ∙ sym sound.0.source_is) in
      omega (arith, rest, old, new, here)
]

-- a merged group is of the destination's class
class_merged : (n : ℕ) (a g : Group) → (changed_at n (merged_into a) g).class ≡ g.class
class_merged n a g = elim (tells (has_number n g)) [ inl pass ↦ rw pass refl | inr fail ↦ rw fail refl ]

-- two groups merged have the source's pages less
span_merged : (t : Table) (a b : Group) (source destination : ℕ) → IsSound t → group_of t source ≡ Some a → source ≢ destination
    → sum_by span_of (merged t.groups a destination) + pages_of a.class ≡ sum_by span_of t.groups
span_merged t a b source destination sound is two =
    let changed : List Group = map (changed_at destination (merged_into a)) t.groups in
    let number : a.number ≡ source = find_number source t.groups a is in
    let ascend : AscendBetween 0 changed t.next_span = ascend_mapped 0 t.next_span (changed_at destination (merged_into a)) t.groups
    (changed_number destination (merged_into a) (λ g. refl)) sound.numbers in
    let found : find (has_number a.number) changed ≡ Some a
    = find_changed_other destination a.number (merged_into a) t.groups (λ x. refl) (λ e. two (sym number ∙ e))
    ∙ find_again (has_number source) 0 t.next_span t.groups a sound.numbers is in
    let less = span_without a.number 0 t.next_span changed a ascend found in
    let all = span_mapped (changed_at destination (merged_into a)) t.groups (class_merged destination a) in
    omega (arith, less, all)

-- a whole mesh keeps the count
pub whole_counted : (pages : ℕ) (busy : Table → ℕ → Bool) (t : Table) (source destination : ℕ) (x : Counted) → IsBusyTest busy t → IsSound t
    → AreCounted pages t → mesh_whole busy t source destination ≡ Ok x → AreCounted pages x.table
whole_counted pages busy t source destination x test sound counted h = grind (arith, span_merged t, given_elsewhere t, merged_keeps t)

-- a whole mesh answers how many pages come free
pub whole_answers : (busy : Table → ℕ → Bool) (t : Table) (source destination : ℕ) (x : Counted) → mesh_whole busy t source destination ≡ Ok x
    → x.table.free_pages ≡ t.free_pages + x.count
whole_answers busy t source destination x h = grind arith

-- a mesh that was found comes to a progress at which it has released as much
come_counted : (pages : ℕ) (t : Table) (test : Mesh → Bool) (this : Mesh) (progress : Progress) → IsSound t → AreCounted pages t
    → find test t.meshes ≡ Some this → given t (at this progress) ≡ given t this → AreCounted pages (record t { meshes = with_progress t.meshes this progress })
come_counted pages t test this progress sound counted found same =
    let all = sum_at t test this progress (given t) t.meshes found sound.meshes (sound.one_a_class this.class) in omega (arith, all, same, counted)

-- a mesh that has released nothing ends
end_counted : (pages : ℕ) (t : Table) (test : Mesh → Bool) (this : Mesh) → IsSound t → AreCounted pages t → find test t.meshes ≡ Some this
    → given t this ≡ 0 → AreCounted pages (record t { meshes = without_mesh t.meshes this })
end_counted pages t test this sound counted found none =
    let all = sum_without t test this (given t) t.meshes found sound.meshes (sound.one_a_class this.class) in omega (arith, all, none, counted)

-- a mesh cancelled with so many unprotects left keeps the count
cancelled_at_counted : (pages : ℕ) (t : Table) (test : Mesh → Bool) (this : Mesh) (a : Group) (q : ℕ) → IsSound t → AreCounted pages t
    → find test t.meshes ≡ Some this → group_of t this.source ≡ Some a → given t this ≡ 0 → AreCounted pages (cancelled_at t this a q).table
cancelled_at_counted pages t test this a q sound counted found is none =
    grind (arith, end_counted pages t test this sound counted found none, come_counted pages t test this (Unwinding q 0) sound counted found)

-- a cancel of a mesh at a progress keeps the count
cancels_counted : (pages : ℕ) (t : Table) (test : Mesh → Bool) (this : Mesh) (a : Group) (progress : Progress) (x : Counted) → IsSound t
    → AreCounted pages t → find test t.meshes ≡ Some this → group_of t this.source ≡ Some a → this.progress ≡ progress
    → cancelled t this a progress ≡ Ok x → AreCounted pages x.table
cancels_counted pages t test this a (Made d) x sound counted found is at_d h =
    grind (arith, cancelled_at_counted pages t test this a (min d (page_count a)) sound counted found is)
cancels_counted pages t test this a (Unwinding q u) x sound counted found is at_u h = grind arith

-- a cancel keeps the count
pub cancel_counted : (pages : ℕ) (t : Table) (test : Mesh → Bool) (x : Counted) → IsSound t → AreCounted pages t → cancel t (find test t.meshes) ≡ Ok x
    → AreCounted pages x.table
cancel_counted pages t test x sound counted h = grind (arith, cancels_counted pages t test)

-- the last step keeps the count
last_counted : (pages : ℕ) (t : Table) (test : Mesh → Bool) (this : Mesh) (a : Group) (d : ℕ) → IsSound t → AreCounted pages t
    → find test t.meshes ≡ Some this → group_of t this.source ≡ Some a → this.progress ≡ Made d → d + 1 ≡ step_count a
    → AreCounted pages (record t {
      free_pages = free_after (kind_after a d) t.free_pages;
      meshes = without_mesh t.meshes this;
      groups = merged t.groups a this.destination;
    })
last_counted pages t test this a d sound counted found is at_d last = grind (
  arith,
  nat_tests,
  mesh_found t test t.meshes this found sound.meshes,
  one_group,
  without_fewer a.class test t.meshes this found,
  span_merged,
  given_elsewhere t,
  merged_keeps,
  meshes_filtered,
  sum_without,
)

-- a step that is not the last keeps the count
next_counted : (pages : ℕ) (t : Table) (test : Mesh → Bool) (this : Mesh) (a : Group) (d : ℕ) → IsSound t → AreCounted pages t
    → find test t.meshes ≡ Some this → group_of t this.source ≡ Some a → this.progress ≡ Made d
    → AreCounted pages (record t { free_pages = free_after (kind_after a d) t.free_pages; meshes = with_progress t.meshes this (Made (d + 1)) })
next_counted pages t test this a d sound counted found is at_d =
    grind (arith, sum_at t test this (Made (d + 1)) (given t) t.meshes found sound.meshes (sound.one_a_class this.class))

-- a step of a mesh at a progress keeps the count
stepped_counted : (pages : ℕ) (t : Table) (test : Mesh → Bool) (this : Mesh) (a : Group) (progress : Progress) → IsSound t → AreCounted pages t
    → find test t.meshes ≡ Some this → group_of t this.source ≡ Some a → this.progress ≡ progress → IsWithinSteps a progress
    → AreCounted pages (stepped t this a progress).table
stepped_counted pages t test this a (Made d) sound counted found is at_d within =
    grind (arith, last_counted pages t test this a d sound counted found is at_d, next_counted pages t test this a d sound counted found is at_d)
stepped_counted pages t test this a (Unwinding q u) sound counted found is at_u within =
    grind (arith, end_counted pages t test this sound counted found, come_counted pages t test this (Unwinding q (u + 1)) sound counted found)

-- a step keeps the count
pub step_counted : (pages : ℕ) (t : Table) (test : Mesh → Bool) (x : Stepped) → IsSound t → AreCounted pages t → step t (find test t.meshes) ≡ Ok x
    → AreCounted pages x.table
step_counted pages t test x sound counted h = grind (arith, stepped_counted pages t test, found_within t test)

-- groups have at least as many virtual pages as physical ones
span_mapped_count : (gs : List Group) → AreSoundGroups gs → sum_by span_of gs ≤ sum_by (λ g. length g.members * pages_of g.class) gs
span_mapped_count [] sound = omega arith
span_mapped_count (g ∷ gs) sound =
    let rest = span_mapped_count gs sound.1 in let some = sound.0.some_member in
    let old = sum_by-cons span_of g gs in let new = sum_by-cons (λ (x : Group). length x.members * pages_of x.class) g gs in
    let here : pages_of g.class ≤ length g.members * pages_of g.class = omega (arith, mul-le-mul_left (pages_of g.class) some) in omega (arith, rest, old, new, here)

-- no more pages are taken than mapped
pub taken_mapped : (pages : ℕ) (t : Table) → IsSound t → AreCounted pages t → pages - t.free_pages ≤ mapped_count t
taken_mapped pages t sound counted = let fewer = span_mapped_count t.groups sound.groups in omega (arith, counted, fewer)
