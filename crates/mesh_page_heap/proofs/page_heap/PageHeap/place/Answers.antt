use Rattle.std.proofs.Common.{◌≡◌, ◌%◌, None, refl, sym, subst, ◌∙◌}
use Rattle.mesh_class.specs.Classes.{slots_of}
use Rattle.mesh_page_heap.specs.PageHeap.{IsPlaceFault, PageHeap, open_group, table_in}
use Rattle.mesh_spans.proofs.HandedOn.{handed_on}
use Rattle.mesh_page_heap.proofs.NewPlaces.{open_is, place_fresh, place_open}
use Rattle.mesh_page_heap.proofs.page_heap.PageHeap.place.Goals as goal

pub returns-in-Some-clause-ok : goal.returns-in-Some-clause-ok
returns-in-Some-clause-ok c =
    rw (← c.self.view_is) (place_open _ _ _ _ _ c.self.invariant c.sound.ensures c.in-Some.ensures.picked c.in-Some.ensures.vacant)

pub returns-in_err-span-in-None-clause-err : goal.returns-in_err-span-in-None-clause-err
returns-in_err-span-in-None-clause-err c =
    let none : open_group (table_in c.args.self.now) c.args.class ≡ None
    = subst (λ (g : PageHeap). open_group (table_in g) c.args.class ≡ None) c.self.view_is (sym (open_is _ c.args.class c.self.invariant) ∙ c.in-None.ensures.none) in
    handed_on c.from_residual.result c.in_err-span-in-None.field-0.0 (IsPlaceFault c.args.self.now c.add_span.new.self c.args.class)
    c.from_residual.ensures.1
    (record { none_open = none; room = c.in_err-span-in-None.ensures.err.room; same = c.in_err-span-in-None.ensures.err.same })

pub returns-in_ok-span-in-None-clause-ok : goal.returns-in_ok-span-in-None-clause-ok
returns-in_ok-span-in-None-clause-ok c =
    let none : open_group (table_in c.args.self.now) c.args.class ≡ None
    = subst (λ (g : PageHeap). open_group (table_in g) c.args.class ≡ None) c.self.view_is (sym (open_is _ _ c.self.invariant) ∙ c.in-None.ensures.none) in
    let at : c.numbered.result ≡ c.args.word % slots_of c.args.class = rw (c.numbered.ensures, c.from.ensures, c.slots.ensures.value) refl in
    place_fresh _ _ _ _ _ _ c.slots.ensures.class none c.in_ok-span-in-None.ensures.ok at
