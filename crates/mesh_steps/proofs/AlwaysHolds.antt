-- What always holds of a heap.
use Rattle.std.proofs.Common.{◌≡◌, ℕ, zero, suc, ◌+◌, ◌/◌, ◌<◌, ◌≤◌, Bool, true, false, ◌||◌, nat_eq, subst, sym, ◌∙◌, arith, inl, inr}
use Rattle.std.specs.List.{list_any, range_with_len}
use Rattle.std.proofs.lemmas.Bool.Decides.{eqb_tells}
use Rattle.mesh_arena.specs.Pages.{IsTaken}
use Rattle.mesh_page_heap.proofs.LiveObjects.{page_taken}
use Rattle.mesh_page_heap.specs.PageHeapInvariant.{IsPageHeap, targets_of}
use Rattle.model_heap.proofs.Holders.{objects_apart}
use Rattle.model_heap.specs.Places.{place_of}
use Rattle.mesh_pagemap.specs.Entries.{Entries, page_of}
use Rattle.mesh_spans.specs.Index.{IsIndex}
use Rattle.mesh_steps.proofs.Objects.{has_in, live_found}
use Rattle.mesh_steps.specs.Always.{HasHeldPagesTaken, HasObjectsApart}
use Rattle.mesh_steps.specs.Heap.{Heap, IsHeap}
use Rattle.mesh_page_heap.specs.PageHeap.{PageHeap}

-- no two live objects have an address in common
pub heap_objects_apart : (h : Heap) → IsHeap h → HasObjectsApart h
heap_objects_apart h heap i j x r q is is' apart in_r in_q =
    let none = objects_apart _ _ _ _ _ _ heap.sound heap.tied (live_found _ _ _ heap is) (live_found _ _ _ heap is') apart x (has_in h r _ in_r) in
    let two : false ≡ true = sym none ∙ has_in h q _ in_q in cc two

-- an address of a range whose virtual page leads to the physical page
pub record LeadsTo (m : Entries) (page from len : ℕ) : Type 0 where
  pub x : ℕ
  pub low : from ≤ x
  pub high : x < from + len
  pub leads : page_of m (x / 4096) ≡ page

leads_to : (m : Entries) (page from len : ℕ)
    → list_any (λ address. nat_eq (place_of (targets_of m) address).page page) (range_with_len from len) ≡ true → LeadsTo m page from len
leads_to m page from zero some = absurd (let two : false ≡ true = some in cc two)
leads_to m page from (suc len) some = elim (eqb_tells (page_of m (from / 4096)) page) [
  | inl here ↦ record { x = from; low = omega arith; high = omega arith; leads = here.1 }
  | inr not_here ↦ let later = leads_to m page (from + 1) len (subst (λ (b : Bool). (b || list_any (λ address. nat_eq (place_of (targets_of m) address).page page) (range_with_len (from + 1) len)) ≡ true) not_here.0 some) in
      record { x = later.x; low = omega (arith, later.low); high = omega (arith, later.high); leads = later.leads }
]

-- each physical page that holds a live object is taken
pub heap_held_taken : (g : PageHeap) (next : ℕ) → IsIndex g.index.spans g.index.groups → IsPageHeap g.arena g.map g.index g.next_page g.meshes
    → HasHeldPagesTaken (record { pages = g; next_serial = next })
heap_held_taken g next index paged serial page r is held =
    let at = leads_to _ _ _ _ held in
    subst (λ (p : ℕ). IsTaken g.arena p) at.leads (page_taken _ _ _ g.next_page g.meshes index paged _ _ _ is (at.low, at.high))
