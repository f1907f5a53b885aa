use Rattle.std.proofs.Common.{ℕ, ◌<◌, ◌∙◌, subst, sym, arith}
use Rattle.mesh_page_heap.proofs.Loops.{UnmapsFirst}
use Rattle.mesh_page_heap.specs.Indexes.{layout_of}
use Rattle.mesh_page_heap.specs.Layout.{IsPageOf, Layout}
use Rattle.mesh_pagemap.specs.Entries.{Entries, IsMapped}
use Rattle.mesh_page_heap.specs.Sweeps.{CanUnmap}
use Rattle.mesh_page_heap.proofs.page_heap.sweep.unmap_group.Goals as goal

-- a page of the group that was not reached is mapped
still_mapped : (l : Layout) (m m' : Entries) (n i v : ℕ) → CanUnmap l m n → UnmapsFirst l m m' n i → IsPageOf l n i v → IsMapped m' v
still_mapped l m m' n i v can so_far at =
    so_far.mapped v (λ j below there. omega (arith, can.once j i v there at, below)) ∙ can.mapped i v at

pub unmap-requires-clause-mapped : goal.unmap-requires-clause-mapped
unmap-requires-clause-mapped c =
    still_mapped (layout_of c.args.spans.now) c.args.map.now c.pages.map c.args.n c.pages.i c.virtual_page.result c.requires c.pages.invariant record {
      within = subst (λ (n : ℕ). c.pages.i < n) c.order_of-total.ensures.of.total c.pages-test.true;
      at = sym c.virtual_page.ensures.value;
    }

pub pages-preserved : goal.pages-preserved
pages-preserved c = grind arith
