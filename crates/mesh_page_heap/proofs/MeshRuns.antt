-- What a running mesh of a page heap needs for its next step, and what the step leaves.
use Rattle.std.proofs.Common.{◌≡◌, ℕ, ◌+◌, ◌-◌, ◌*◌, ◌<◌, ◌≤◌, nat_eq, length, position, slice_get, slice_index_or, IsSome, List, Option, Some, None, Ok, Err, ap, subst, refl, sym, ◌∙◌, arith}
use Rattle.std.proofs.lemmas.Bool.{eqb-true}
use Rattle.std.proofs.lemmas.Option.{get_or_from_slice_get, slice_get_within}
use Rattle.mesh_class.specs.Classes.{pages_of, slots_of}
use Rattle.mesh_page_heap.specs.Indexes.{class_in, layout_of, members_in}
use Rattle.mesh_page_heap.specs.Layout.{IsHeldBy, IsOrderly, Layout, Stage, page_total, virtual_page}
use Rattle.mesh_page_heap.specs.MeshLayouts.{mesh_from, stage_at, stage_of, stage_with}
use Rattle.mesh_page_heap.specs.PageHeapInvariant.{IsPageHeap}
use Rattle.mesh_page_heap.specs.StepChanges.{IsStepAt}
use Rattle.mesh_page_heap.proofs.Homes.{dest_held}
use Rattle.mesh_page_heap.proofs.MadeSteps.{HasSides, has_sides, pages_counted, some_pages}
use Rattle.mesh_page_heap.proofs.MeshList.{from_found}
use Rattle.mesh_page_heap.proofs.MeshPlaces.{position_finds, position_none}
use Rattle.mesh_page_heap.proofs.PageHeapSteps.{page_heap_orderly}
use Rattle.mesh_page_heap.proofs.UnwoundMeshes.{cancel_late, unwinding_cancelled}
use Rattle.model_heap.specs.Mesh.{cancel, mesh_in}
use Rattle.model_heap.specs.Table.{Made, Mesh, Progress, Unwinding}
use Rattle.model_words.specs.declared.commands.StepKind.{StepKind}
use Rattle.model_words.specs.declared.commands.StepKind.TheVariants.{Copy, Protect, Release, Remap, Unprotect}
use Rattle.model_words.specs.declared.refusals.Refusal.TheVariants.{TooLate}
use Rattle.mesh_running.specs.StepOrders.{order_steps, steps_before, steps_of}
use Rattle.mesh_running.specs.declared.step_order.StepOrder.{StepOrder}
use Rattle.mesh_spans.specs.Changes.{IsMergeable}
use Rattle.mesh_spans.specs.Index.{GroupEntry, IsIndex, group_at}
use Rattle.mesh_page_heap.specs.Meshes.{CanWindBack, IsRunning}
use Rattle.mesh_page_heap.specs.PageHeap.{PageHeap, table_in}
use Rattle.mesh_page_heap.specs.StepOrders.{IsStepOrderOf}
use Rattle.mesh_page_heap.specs.Steps.{HasPage, IsReady}

-- a mesh that runs in a page heap
pub record Runs (g : PageHeap) (place : ℕ) (this : Mesh) : Type 0 where
  pub index : IsIndex g.index.spans g.index.groups
  pub paged : IsPageHeap g.arena g.map g.index g.next_page g.meshes
  pub at : slice_get g.meshes place ≡ Some this
  pub found : mesh_in (table_in g) this.class ≡ Some this

-- one that is known to run in the page heap that is seen runs inside
pub runs_inside : (inside seen : PageHeap) (place : ℕ) (this : Mesh) → inside ≡ seen → IsIndex inside.index.spans inside.index.groups
    → IsPageHeap inside.arena inside.map inside.index inside.next_page inside.meshes → IsRunning seen place this → Runs inside place this
runs_inside inside seen place this same index paged is =
    let own = subst (λ (g : PageHeap). IsRunning g place this) (sym same) is in
    record { index = index; paged = paged; at = own.at; found = own.found }

-- what stands at the place of the mesh of a class is this mesh
running_at : (g : PageHeap) (class place : ℕ) (this : Mesh) → position (λ mesh. nat_eq mesh.class class) g.meshes ≡ Some place
    → this ≡ slice_index_or g.meshes place this → IsRunning g place this × (this.class ≡ class)
running_at g class place this at is =
    let first = position_finds (λ mesh. nat_eq mesh.class class) g.meshes place at in
    let same : this ≡ first.this = is ∙ get_or_from_slice_get g.meshes place first.this this first.at in
    let of_class : this.class ≡ class = ap (λ (m : Mesh). m.class) same ∙ eqb-true first.this.class class first.passes in (
      record {
        at = first.at ∙ ap (λ (m : Mesh). Some m) (sym same);
        found = ap (λ (c : ℕ). mesh_in (table_in g) c) of_class ∙ first.found ∙ ap (λ (m : Mesh). Some m) (sym same);
      },
      of_class,
    )

-- the same of the page heap that is seen
running_seen : (inside seen : PageHeap) (class place : ℕ) (this : Mesh) → inside ≡ seen
    → position (λ mesh. nat_eq mesh.class class) inside.meshes ≡ Some place → this ≡ slice_index_or inside.meshes place this
    → IsRunning seen place this × (this.class ≡ class)
running_seen inside seen class place this same at is =
    let own = running_at inside class place this at is in (subst (λ (g : PageHeap). IsRunning g place this) same own.0, own.1)

-- the same where the place was found in a slice of the meshes, and the mesh read from another
pub running_found : (inside seen : PageHeap) (class place : ℕ) (this : Mesh) (sought read : List Mesh) (found : Option ℕ) → inside ≡ seen
    → sought ≡ inside.meshes → found ≡ position (λ mesh. nat_eq mesh.class class) sought → found ≡ Some place
    → read ≡ inside.meshes → this ≡ slice_index_or read place this → IsRunning seen place this × (this.class ≡ class)
running_found inside seen class place this sought read found same sought_is found_is is read_is at =
    running_seen inside seen class place this same (ap (position (λ mesh. nat_eq mesh.class class)) (sym sought_is) ∙ sym found_is ∙ is)
    (subst (λ (ms : List Mesh). this ≡ slice_index_or ms place this) read_is at)

-- where there is no place of a mesh of the class none runs
pub none_running : (inside seen : PageHeap) (class : ℕ) → inside ≡ seen → position (λ mesh. nat_eq mesh.class class) inside.meshes ≡ None
    → mesh_in (table_in seen) class ≡ None
none_running inside seen class same none =
    subst (λ (g : PageHeap). mesh_in (table_in g) class ≡ None) same (position_none (λ mesh. nat_eq mesh.class class) inside.meshes none)

-- the step that an order tells is the layout's
pub step_told : (l : Layout) (n : ℕ) (order : StepOrder) (made i : ℕ) (kind : StepKind) → IsStepOrderOf l n order → made ≡ steps_before order kind + i
    → i < steps_of order kind → IsStepAt (page_total l n) (slots_of (l.class n)) (pages_of (l.class n)) made kind i
step_told l n order made i Protect is number within = grind arith
step_told l n order made i Copy is number within = grind arith
step_told l n order made i Remap is number within = grind arith
step_told l n order made i Unprotect is number within = grind arith
step_told l n order made i Release is number within = grind arith

-- the steps of an order, counted by the layout
pub steps_are : (l : Layout) (n : ℕ) (order : StepOrder) → IsStepOrderOf l n order → order_steps order ≡ 3 * page_total l n + slots_of (l.class n) + pages_of (l.class n)
steps_are l n order is = let t = is.total in let s = is.slots in let p = is.pages in omega (arith, t, s, p)

module _ (g : PageHeap) (place : ℕ) (this : Mesh) (runs : Runs g place this) where
  -- its place is one of the list
  pub place_below : place < length g.meshes
  place_below = slice_get_within g.meshes place this runs.at

  -- its two groups
  pub sides : HasSides g.index (table_in g) this
  sides = has_sides g.arena g.map g.index g.next_page g.meshes (λ mesh. nat_eq mesh.class this.class) this runs.paged runs.found

  pub source_there : IsSome (group_at g.index.groups this.source)
  source_there = rw sides.source refl

  pub destination_there : IsSome (group_at g.index.groups this.destination)
  destination_there = rw sides.destination refl

  -- not all of its steps were made
  pub made_below : (d : ℕ) (order : StepOrder) → this.progress ≡ Made d → IsStepOrderOf (layout_of g.index) this.source order → d < order_steps order
  made_below d order at is = grind (arith, sides, pages_counted)

  -- of a cancelled one not all pages are writable again
  pub unwound_below : (q u : ℕ) → this.progress ≡ Unwinding q u → (u < q) × (q ≤ page_total (layout_of g.index) this.source)
  unwound_below q u at = grind (arith, sides, pages_counted)

  -- its groups can be merged
  pub mergeable : IsMergeable g.index this.destination this.source
  mergeable =
      let few = sides.few in
      record {
        a = sides.a;
        b = sides.b;
        source = sides.source;
        destination = sides.destination;
        two = sides.two;
        same_class = sides.source_class ∙ sym sides.destination_class;
        few = few;
        apart = sides.apart;
      }

  orderly : IsOrderly (layout_of g.index) (stage_of (layout_of g.index) g.meshes)
  orderly = page_heap_orderly g.arena g.map g.index g.next_page g.meshes runs.index runs.paged

  own : mesh_from this.source g.meshes ≡ Some this
  own = from_found (table_in g) (λ mesh. nat_eq mesh.class this.class) g.meshes this runs.found runs.paged.sound.meshes runs.paged.sound.one_a_class

  stage_is : (progress : Progress) → this.progress ≡ progress → stage_of (layout_of g.index) g.meshes this.source
      ≡ stage_at (page_total (layout_of g.index) this.source) (slots_of ((layout_of g.index).class this.source)) this.destination progress
  stage_is progress at = ap (stage_with (layout_of g.index) this.source) own
      ∙ ap (stage_at (page_total (layout_of g.index) this.source) (slots_of ((layout_of g.index).class this.source)) this.destination) at

  source_some : 0 < (layout_of g.index).members this.source
  source_some = subst (λ (o : Option GroupEntry). 0 < length (members_in o)) (sym sides.source) (runs.index.each this.source sides.a sides.source).some_member

  destination_some : 0 < (layout_of g.index).members this.destination
  destination_some = subst (λ (o : Option GroupEntry). 0 < length (members_in o)) (sym sides.destination)
      (runs.index.each this.destination sides.b sides.destination).some_member

  same_class : (layout_of g.index).class this.destination ≡ (layout_of g.index).class this.source
  same_class = ap class_in sides.destination ∙ sides.destination_class ∙ sym sides.source_class ∙ sym (ap class_in sides.source)

  -- a virtual page of its source can be changed
  pub has_page : (i : ℕ) → i < page_total (layout_of g.index) this.source → HasPage (layout_of g.index) g.map this.source i
  has_page i below = record {
    within = below;
    mapped = (runs.paged.laid_out.each this.source i (virtual_page (layout_of g.index) this.source i) (record { within = below; at = refl })).mapped;
  }

  -- its source holds the physical pages that were not released
  source_held : (d j : ℕ) → this.progress ≡ Made d
      → d ≤ 3 * page_total (layout_of g.index) this.source + slots_of ((layout_of g.index).class this.source) + j → j < pages_of ((layout_of g.index).class this.source)
      → IsHeldBy (layout_of g.index) (stage_of (layout_of g.index) g.meshes) this.source j
  source_held d j at early below = record {
    group = source_some;
    within = below;
    kept = (let e : (stage_of (layout_of g.index) g.meshes this.source).released
        ≡ d - (3 * page_total (layout_of g.index) this.source + slots_of ((layout_of g.index).class this.source)) = ap (λ (c : Stage). c.released) (stage_is (Made d) at)
        in omega (arith, e, early));
  }

  -- its destination holds all of its own
  destination_held : (d j : ℕ) → this.progress ≡ Made d → j < pages_of ((layout_of g.index).class this.source)
      → IsHeldBy (layout_of g.index) (stage_of (layout_of g.index) g.meshes) this.destination j
  destination_held d j at below =
      let into : (stage_of (layout_of g.index) g.meshes this.source).into ≡ this.destination = ap (λ (c : Stage). c.into) (stage_is (Made d) at) in
      subst (λ (n : ℕ). IsHeldBy (layout_of g.index) (stage_of (layout_of g.index) g.meshes) n j) into
      (dest_held (layout_of g.index) (stage_of (layout_of g.index) g.meshes) this.source j orderly (λ same. sides.two (sym same ∙ into)) below)

  -- its next step can be made
  pub ready : (d i : ℕ) (kind : StepKind) → this.progress ≡ Made d
      → IsStepAt (page_total (layout_of g.index) this.source) (slots_of ((layout_of g.index).class this.source)) (pages_of ((layout_of g.index).class this.source)) d kind i
      → IsReady (layout_of g.index) kind this.source this.destination i g.arena g.map
  ready d i Protect at is = has_page i is.1
  ready d i Unprotect at is = has_page i is.1
  ready d i Remap at is = (has_page i is.1, source_some, destination_some, same_class)
  ready d j Release at is = (
    source_some,
    is.1,
    runs.paged.laid_out.taken this.source j
        (source_held d j at (let e = is.0 in omega (arith, e)) is.1),
  )
  ready d k Copy at is =
      let early : d ≤ 3 * page_total (layout_of g.index) this.source + slots_of ((layout_of g.index).class this.source) = (let e = is.0 in let b = is.1 in omega (arith, e, b)) in
      let laid = runs.paged.laid_out in
      record {
        pages = record {
          source_is = source_some;
          destination_is = destination_some;
          same_class = same_class;
          from = λ j below. laid.taken this.source j (source_held d j at (omega (arith, early)) below);
          into = λ j below. laid.taken this.destination j (destination_held d j at below);
          apart = λ x y below below' same. sides.two (sym (laid.apart this.destination x this.source y (destination_held d x at below)
              (source_held d y at (omega (arith, early)) below') same).0);
          once = λ x y below below' same. (laid.apart this.destination x this.destination y (destination_held d x at below) (destination_held d y at below') same).1;
        };
        class = orderly.class this.source source_some;
        below = is.1;
      }

  -- its source has virtual pages
  pub source_pages : 0 < page_total (layout_of g.index) this.source
  source_pages = (some_pages g.index this.source sides.a runs.index sides.source).0

  -- a cancel after its first remap is refused
  pub late_cancel : (d : ℕ) (order : StepOrder) → this.progress ≡ Made d → IsStepOrderOf (layout_of g.index) this.source order → order.virtual_pages + order.slots < d
      → cancel (table_in g) (mesh_in (table_in g) this.class) ≡ Err TooLate
  late_cancel d order at is late = grind (arith, cancel_late)

  -- one that is unwinding is cancelled again for nothing
  pub cancel_again : (q u : ℕ) → this.progress ≡ Unwinding q u → cancel (table_in g) (mesh_in (table_in g) this.class) ≡ Ok (record { count = q - u; table = table_in g })
  cancel_again q u at = unwinding_cancelled g.meshes _ (λ mesh. nat_eq mesh.class this.class) _ _ _ _ runs.found sides.source_group at

-- one that is known to run in the page heap that is seen can be wound back inside
pub can_wind_back : (inside seen : PageHeap) (place : ℕ) (this : Mesh) → inside ≡ seen → IsIndex inside.index.spans inside.index.groups
    → IsPageHeap inside.arena inside.map inside.index inside.next_page inside.meshes → IsRunning seen place this
    → CanWindBack inside.index inside.meshes place this
can_wind_back inside seen place this same index paged is =
    let runs = runs_inside inside seen place this same index paged is in
    record { listed = place_below inside place this runs; source = source_there inside place this runs; destination = destination_there inside place this runs }
