use Rattle.std.proofs.Common.{◌≡◌, ◌≢◌, not, nat_eq, slice_index, refl, sym, ap}
use Rattle.std.proofs.lemmas.Bool.{cond_both, eqb-true, eqb-false}
use Rattle.model_orders.specs.Views.{after_part}
use Rattle.model_orders.specs.declared.steps.Step.TheVariants.{Release}
use Rattle.model_otherwise.specs.Effects.{Meshing, released}
use Rattle.model_orders.specs.HeapRows.{AreSame, row_at, shape_at}
use Rattle.model_orders.proofs.PageBytes.{gone, others_kept, others_taken, page_cleared}
use Rattle.model_orders.proofs.heap_laws.pages_are_released.Goals as goal

pub returns : goal.returns
returns c = λ m memory x j l is j-below l-below.
    let after : Meshing = record x { heap = released x.heap (slice_index x.mesh.from j) } in
    cond_both (nat_eq l j) (after_part (shape_at x.mesh l) Release 0 (row_at m memory x l)) (row_at m memory x l)
    (λ row. AreSame (shape_at x.mesh l) (row_at m memory after l) row)
    (λ here.
    let same : slice_index x.mesh.from l ≡ slice_index x.mesh.from j = ap (slice_index x.mesh.from) (eqb-true l j here) in
    record {
      views = λ i below. refl;
      released = rw same (ap not (gone (slice_index x.mesh.from j) x.heap.taken));
      source = λ offset below. rw same (page_cleared x.heap.spots (slice_index x.mesh.from j) offset below);
      destination = λ offset below. others_kept x.heap.spots (slice_index x.mesh.from j) (slice_index x.mesh.into l) offset
          (λ e. is.sides_apart j l j-below l-below (sym e)) below;
      live = λ offset below. refl;
      memory = λ offset below. refl;
    })
    (λ there.
    let apart : slice_index x.mesh.from l ≢ slice_index x.mesh.from j = λ e. eqb-false l j there (is.from_apart l j l-below j-below e) in
    record {
      views = λ i below. refl;
      released = ap not (others_taken (slice_index x.mesh.from j) (slice_index x.mesh.from l) x.heap.taken apart);
      source = λ offset below. others_kept x.heap.spots (slice_index x.mesh.from j) (slice_index x.mesh.from l) offset apart below;
      destination = λ offset below. others_kept x.heap.spots (slice_index x.mesh.from j) (slice_index x.mesh.into l) offset
          (λ e. is.sides_apart j l j-below l-below (sym e)) below;
      live = λ offset below. refl;
      memory = λ offset below. refl;
    })
