use Rattle.std.proofs.Common.{◌≡◌, ℕ, ◌≤◌, sym, subst}
use Rattle.mesh_page_heap.proofs.PageHeapBytes.{slot_backed}
use Rattle.model_heap.specs.Sound.{IsSound}
use Rattle.mesh_spans.specs.Index.{span_at}
use Rattle.mesh_page_heap.specs.PageHeap.{IsFreeSlot, PageHeap, table_with_object}
use Rattle.mesh_page_heap.proofs.Insides.{seen_of}
use Rattle.mesh_page_heap.proofs.Slots.{IsPut, free_covered, free_open, put_keeps, put_paged, put_saved}
use Rattle.mesh_page_heap.proofs.page_heap.PageHeap.put.Goals as goal
use Rattle.mesh_page_heap.proofs.page_heap.PageHeap.put.Goals.{After-sound-2}

-- a slot that is free in what is seen of a page heap is free inside
free_inside : (seen inside : PageHeap) (span k : ℕ) → inside ≡ seen → IsFreeSlot seen.index (span_at seen.index.spans span).class span k
    → IsFreeSlot inside.index (span_at inside.index.spans span).class span k
free_inside seen inside span k same free = subst (λ (g : PageHeap). IsFreeSlot g.index (span_at g.index.spans span).class span k) (sym same) free

-- and what fits there fits inside
fits_inside : (seen inside : PageHeap) (span len : ℕ) → inside ≡ seen → len ≤ (span_at seen.index.spans span).class
    → len ≤ (span_at inside.index.spans span).class
fits_inside seen inside span len same fits = subst (λ (g : PageHeap). len ≤ (span_at g.index.spans span).class) (sym same) fits

pub clear-requires-clause-backed : goal.clear-requires-clause-backed
clear-requires-clause-backed c =
    slot_backed _ _ _ _ _ _ _ _ _ _ c.sound.ensures c.self.invariant (free_covered _ _ _ _ _ _
    c.sound.ensures (free_inside _ _ c.args.span c.args.slot c.self.view_is c.requires.free) c.address-addr.ensures.value
    (fits_inside _ _ _ _ c.self.view_is c.requires.fits))

pub clear-requires-clause-writable : goal.clear-requires-clause-writable
clear-requires-clause-writable c =
    free_open _ _ _ _ _ _ c.sound.ensures c.self.invariant (free_inside _ _ _ _ c.self.view_is c.requires.free) c.address-addr.ensures.value
    (fits_inside _ _ _ _ c.self.view_is c.requires.fits)

-- what was put
stands : (c : After-sound-2) → IsPut (seen_of c.self.inside) c.clear.new.store.arena c.occupy.new.self (span_at c.self.inside.spans.spans c.args.span).class c.args.span
    c.args.slot c.args.serial c.args.len c.address-addr.result
stands c = record {
  before = c.sound.ensures;
  after = c.sound-2.ensures;
  paged = c.self.invariant;
  free = free_inside _ _ c.args.span c.args.slot c.self.view_is c.requires.free;
  at = c.address-addr.ensures.value;
  fits = fits_inside _ _ c.args.span c.args.len c.self.view_is c.requires.fits;
  occupied = record { spans = c.occupy.ensures.spans; groups = c.occupy.ensures.groups; table = c.occupy.ensures.table; closed = c.occupy.ensures.closed };
  table = subst (λ (g : PageHeap). IsSound (table_with_object g c.args.span c.args.slot c.args.serial c.args.len)) (sym c.self.view_is) c.requires.sound;
  saves = c.clear.ensures.saves;
}

pub invariant_of-self : goal.invariant_of-self
invariant_of-self c = rw c.clear.ensures.map (put_paged _ _ _ _ _ _ _ _ _ (stands (goal.at.invariant_of-self c).After-sound-2))

pub returns-clause-table : goal.returns-clause-table
returns-clause-table c =
    rw (← c.self.view_is) (put_saved (seen_of c.self.inside) c.clear.new.store.arena c.occupy.new.self c.args.span c.args.slot c.args.serial c.args.len
    (stands (goal.at.returns-clause-table c).After-sound-2).occupied c.clear.ensures.saves.same_free)

pub returns-clause-others : goal.returns-clause-others
returns-clause-others c = rw (← c.self.view_is, c.clear.ensures.map) (put_keeps _ _ _ _ _ _ _ _ _ (stands (goal.at.returns-clause-others c).After-sound-2))
