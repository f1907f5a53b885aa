use Rattle.std.proofs.Common.{◌≡◌, ℕ, List, length, Err, refl, subst, sym, ◌∙◌}
use Rattle.mesh_class.specs.Classes.{pages_of}
use Rattle.mesh_page_heap.specs.Growth.{GivesFirst}
use Rattle.mesh_page_heap.specs.PageHeapInvariant.{IsPageHeap}
use Rattle.model_heap.specs.Table.{sweep}
use Rattle.model_words.specs.declared.refusals.Refusal.TheVariants.{Busy, NoGroup, NotEmpty}
use Rattle.mesh_page_heap.proofs.Insides.{seen_of}
use Rattle.mesh_page_heap.proofs.Emptied.{can_give, can_unmap, swept, sweeps_busy, sweeps_filled, sweeps_none}
use Rattle.mesh_page_heap.proofs.page_heap.PageHeap.sweep.Goals as goal
use Rattle.mesh_page_heap.proofs.page_heap.PageHeap.sweep.Goals.{After-retire}
use Rattle.mesh_page_heap.specs.Sweeps.{HasGone}
use Rattle.mesh_page_heap.specs.PageHeap.{PageHeap, table_in}

pub returns-in_default-clause-refused : goal.returns-in_default-clause-refused
returns-in_default-clause-refused c =
    (subst (λ (g : PageHeap). sweep (table_in g) c.args.n ≡ Err NoGroup) c.self.view_is (sweeps_none (seen_of c.self.inside) c.args.n (sym c.in_default.ensures)), refl)

pub returns-then-in_mesh-clause-refused : goal.returns-then-in_mesh-clause-refused
returns-then-in_mesh-clause-refused c = (
  subst (λ (g : PageHeap). sweep (table_in g) c.args.n ≡ Err Busy) c.self.view_is
      (sweeps_busy _ c.args.n c.in-Some.group.now c.self.invariant (sym c.in-Some.ensures) (sym c.in_mesh.ensures ∙ c.if-in_mesh.true)),
  refl,
)

pub returns-then-not-is_empty-clause-refused : goal.returns-then-not-is_empty-clause-refused
returns-then-not-is_empty-clause-refused c = (
  subst (λ (g : PageHeap). sweep (table_in g) c.args.n ≡ Err NotEmpty) c.self.view_is
      (sweeps_filled _ c.args.n c.in-Some.group.now c.self.invariant (sym c.in-Some.ensures) (sym c.in_mesh.ensures ∙ c.if-in_mesh.false)
      (sym c.is_empty.ensures ∙ c.if-not-is_empty.true)),
  refl,
)

-- the page heap after the sweep
abbrev after : After-retire → PageHeap
after c = record (seen_of c.self.inside) { arena = c.give_pages.new.arena; map = c.unmap_group.new.map; index = c.retire.new.self }

-- what the sweep leaves
left : (c : After-retire) → IsPageHeap (after c).arena (after c).map (after c).index (after c).next_page (after c).meshes
    × HasGone (seen_of c.self.inside) (after c) c.args.n (pages_of c.in-Some.group.now.class)
left c =
    swept (seen_of c.self.inside) (after c) c.args.n c.in-Some.group.now c.give_pages.new.arena c.unmap_group.new.map c.retire.new.self c.sound.ensures c.self.invariant
    (sym c.in-Some.ensures) (sym c.in_mesh.ensures ∙ c.if-in_mesh.false) (sym c.is_empty.ensures ∙ c.if-not-is_empty.false)
    (subst (λ (ps : List ℕ). GivesFirst c.self.inside.store.arena c.give_pages.new.arena ps (length ps)) c.pages.ensures.value c.give_pages.ensures.gives)
    c.unmap_group.ensures c.retire.ensures.spans c.retire.ensures.groups c.retire.ensures.table refl

pub give_pages-requires : goal.give_pages-requires
give_pages-requires c =
    rw c.pages.ensures.value (can_give (seen_of c.self.inside) c.args.n c.in-Some.group.now c.sound.ensures c.self.invariant (sym c.in-Some.ensures) (sym c.in_mesh.ensures ∙ c.if-in_mesh.false))

pub unmap_group-requires : goal.unmap_group-requires
unmap_group-requires c = can_unmap (seen_of c.self.inside) _ c.in-Some.group.now c.sound.ensures c.self.invariant (sym c.in-Some.ensures)

pub invariant_of-self : goal.invariant_of-self
invariant_of-self c = (left c).0

pub returns-clause-swept : goal.returns-clause-swept
returns-clause-swept c =
    rw (← c.self.view_is, c.pages-count.ensures.value, c.class.ensures) (left c).1
