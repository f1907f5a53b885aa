-- What each step of a mesh changes of arena and page map is its effect.
use Rattle.std.proofs.Common.{◌≡◌, ℕ, zero, suc, ◌+◌, ◌*◌, ◌/◌, ◌%◌, ◌<◌, ◌≤◌, Bool, true, false, nat_eq, not, List, slice_index, slice_index_or, Option, Some, None, ap, subst, refl, sym, ◌∙◌, arith, inl, inr}
use Rattle.std.proofs.lemmas.Bool.{cases_Bool, eq-eqb, eqb-true}
use Rattle.std.proofs.lemmas.Bool.Decides.{eqb_tells}
use Rattle.mesh_arena.specs.Pages.{Pages, byte_at, is_taken}
use Rattle.mesh_class.specs.Classes.{pages_of, slots_of}
use Rattle.model_heap.specs.Places.{Place, Target, with_protection}
use Rattle.model_heap.specs.StepEffects.{Sides, effect, is_place, place_at, step_effect, with_copied, with_page, with_slot_copied}
use Rattle.model_heap.specs.Table.{Group, Made, Mesh, Progress, Slot, Unwinding}
use Rattle.model_words.proofs.Tests.{both_hold}
use Rattle.model_words.specs.declared.commands.StepKind.{StepKind}
use Rattle.model_words.specs.declared.commands.StepKind.TheVariants.{Copy, Protect, Release, Remap, Unprotect}
use Rattle.mesh_pagemap.specs.Entries.{Entries, Protects, Remaps, is_read_only, prot_of, reads_only}
use Rattle.mesh_spans.specs.Groups.{table_group}
use Rattle.mesh_spans.specs.Index.{GroupEntry, Index, group_at}
use Rattle.mesh_page_heap.specs.Effects.{HasEffect, IsUnder, under_of}
use Rattle.mesh_page_heap.specs.Indexes.{class_in, layout_of, pages_in, slots_in}
use Rattle.mesh_page_heap.specs.Layout.{Layout, page_total, virtual_page}
use Rattle.mesh_page_heap.specs.PageHeapInvariant.{bytes_in, targets_of}
use Rattle.mesh_page_heap.specs.StepChanges.{CopiesSlot, IsStepAt, Makes}
use Rattle.mesh_page_heap.proofs.Groups.{entry_in_table, pages_counted}
use Rattle.mesh_page_heap.proofs.NextSteps.{kind_is}
pub use Rattle.mesh_page_heap.proofs.Groups.{page_is}

-- targets with the same parts are one
same_target : {p q : ℕ} {a b : Bool} → p ≡ q → a ≡ b → ◌≡◌ {A = Target} (record { page = p; read_only = a }) (record { page = q; read_only = b })
same_target page lock = cc

-- a protection given to one page
protected_is : (m m' : Entries) (v w : ℕ) (on : Bool) → Protects m m' v (prot_of on) → targets_of m' w ≡ with_protection (targets_of m) v on w
protected_is m m' v w on protects = elim (eqb_tells w v) [
  | inl same ↦ rw same.0 (same_target (protects.same_pages w) (ap (λ (x : ℕ). is_read_only m' x) same.1 ∙ protects.read_only ∙ told on))
  | inr other ↦ rw other.0 (same_target (protects.same_pages w) (protects.other_read_only w other.1))
]
  where
    told : (on : Bool) → reads_only (prot_of on) ≡ on
    told true = refl
    told false = refl

-- a page led to another physical page
remapped_is : (m m' : Entries) (v w to : ℕ) → Remaps m m' v to → targets_of m' w ≡ with_page (targets_of m) v to w
remapped_is m m' v w to remaps = grind arith

-- the bytes copied one after another
copied_is : (from into : List ℕ) (offset len : ℕ) (bytes : Place → ℕ) (place : Place) (value : ℕ)
    → ((x : ℕ) → offset ≤ x → x < offset + len → slice_index into (x / 4096) ≡ place.page → x % 4096 ≡ place.offset → value ≡ bytes (place_at from x))
    → (((x : ℕ) → offset ≤ x → x < offset + len → slice_index into (x / 4096) ≡ place.page → x % 4096 ≡ place.offset → ⊥) → value ≡ bytes place)
    → value ≡ with_copied from into offset len bytes place
copied_is from into offset zero bytes place value inside outside = outside (λ x low high page at. omega (arith, low, high))
copied_is from into offset (suc len) bytes place value inside outside = elim (cases_Bool (is_place place (place_at into offset))) [
  | inl here ↦
      let both = both_hold (nat_eq place.page (slice_index into (offset / 4096))) (nat_eq place.offset (offset % 4096)) here in
      rw here (inside offset (omega arith) (omega arith) (sym (eqb-true place.page (slice_index into (offset / 4096)) both.0)) (sym (eqb-true place.offset (offset % 4096) both.1)))
  | inr apart ↦ rw apart (copied_is from into (offset + 1) len bytes place value
      (λ x low high same at. inside x (omega (arith, low)) (omega (arith, high)) same at)
      (λ none. outside (λ x low high same at. elim (eqb_tells x offset) [
        | inl first ↦ absurd (let two : true ≡ false = sym (rw (
          eq-eqb place.page (slice_index into (offset / 4096)) (sym (rw first.1 at same)),
          eq-eqb place.offset (offset % 4096) (sym (rw first.1 at at)),
        ) refl) ∙ apart in cc two)
        | inr later ↦ none x (omega (arith, low, later.1)) (omega (arith, high)) same at
      ])))
]

-- the sides of a mesh between two groups of the index
abbrev sides_of : Index → ℕ → ℕ → GroupEntry → Sides
sides_of index n d a =
    record { source = table_group index.spans n a; from = pages_in (group_at index.groups n); into = pages_in (group_at index.groups d) }

-- where the page map alone changes, what it leads to is told by each virtual page
map_made : (arena arena' : Pages) (m m' : Entries) (targets : ℕ → Target) → arena' ≡ arena → ((w : ℕ) → targets_of m' w ≡ targets w)
    → IsUnder arena' m' (record (under_of arena m) { targets = targets })
map_made arena arena' m m' targets same is = grind arith

-- what a step of a kind makes is the kind's effect
made_is : (index : Index) (n d i : ℕ) (kind : StepKind) (a : GroupEntry) (arena arena' : Pages) (m m' : Entries) → group_at index.groups n ≡ Some a → (made : ℕ)
    → IsStepAt (page_total (layout_of index) n) (slots_of ((layout_of index).class n)) (pages_of ((layout_of index).class n)) made kind i
    → Makes (layout_of index) kind n d i arena arena' m m' → IsUnder arena' m' (effect kind (sides_of index n d a) i (under_of arena m))
made_is index n d i Protect a arena arena' m m' there made step_at makes = map_made arena arena' m m' _ makes.0 (λ w. rw (page_is index n i a there step_at.1)
    (protected_is m m' (virtual_page (layout_of index) n i) w true makes.1))
made_is index n d i Unprotect a arena arena' m m' there made step_at makes = map_made arena arena' m m' _ makes.0 (λ w. rw (page_is index n i a there step_at.1)
    (protected_is m m' (virtual_page (layout_of index) n i) w false makes.1))
made_is index n d i Remap a arena arena' m m' there made step_at makes = map_made arena arena' m m' _ makes.0 (λ w. rw (page_is index n i a there step_at.1)
    (remapped_is m m' (virtual_page (layout_of index) n i) w ((layout_of index).page d (i % pages_of ((layout_of index).class n))) makes.1
    ∙ ap (λ (c : ℕ). with_page (targets_of m) (virtual_page (layout_of index) n i) ((layout_of index).page d (i % pages_of c)) w) (ap class_in there)))
made_is index n d j Release a arena arena' m m' there made step_at makes = record {
  targets = λ w. ap (λ (x : Entries). targets_of x w) makes.0;
  bytes = λ place taken. makes.1.other_bytes place.page place.offset
      (λ same. let two : true ≡ false = sym taken ∙ ap (is_taken arena') same ∙ makes.1.free in cc two);
  is_free = λ page. elim (eqb_tells page ((layout_of index).page n j)) [
    | inl same ↦ rw same.0 (ap not (ap (is_taken arena') same.1 ∙ makes.1.free))
    | inr other ↦ rw other.0 (ap not (makes.1.other_pages page other.1))
  ];
}
made_is index n d k Copy a arena arena' m m' there made step_at makes = record {
  targets = λ w. ap (λ (x : Entries). targets_of x w) makes.0;
  bytes = λ place taken. copied place ((layout_of index).slot n k) refl makes.1;
  is_free = λ page. ap not (kept page ((layout_of index).slot n k) makes.1);
}
  where
    slot_is : slice_index_or a.slots k None ≡ (layout_of index).slot n k
    slot_is = sym (ap (λ (o : Option GroupEntry). slice_index_or (slots_in o) k None) there)

    begins : k * a.class ≡ k * (layout_of index).class n
    begins = ap (λ (c : ℕ). k * c) (sym (ap class_in there))

    kept : (page : ℕ) (o : Option Slot) → CopiesSlot (layout_of index) arena arena' n d k o → is_taken arena' page ≡ is_taken arena page
    kept page None same = ap (λ (x : Pages). is_taken x page) same
    kept page (Some slot) copies = copies.0.same_taken page

    copied : (place : Place) (o : Option Slot) → (layout_of index).slot n k ≡ o → CopiesSlot (layout_of index) arena arena' n d k o
        → bytes_in arena' place ≡ with_slot_copied (sides_of index n d a) k (slice_index_or a.slots k None) (bytes_in arena) place
    copied place None none same = rw (slot_is ∙ none) (ap (λ (x : Pages). bytes_in x place) same)
    copied place (Some slot) filled copies = rw (slot_is ∙ filled)
        (copied_is (pages_in (group_at index.groups n)) (pages_in (group_at index.groups d)) (k * a.class) slot.len (bytes_in arena) place (bytes_in arena' place)
        (λ x low high page at. ap (λ (p : ℕ). byte_at arena' p place.offset) (sym page) ∙ ap (λ (o : ℕ). byte_at arena' ((layout_of index).page d (x / 4096)) o) (sym at)
        ∙ copies.0.inside x (omega (arith, low, begins)) (omega (arith, high, begins)))
        (λ none. copies.0.outside place.page place.offset
        (λ x low high page at. none x (omega (arith, low, begins)) (omega (arith, high, begins)) page at)))

-- a step has its effect
pub step_has_effect : (index : Index) (this : Mesh) (d i : ℕ) (kind : StepKind) (a : GroupEntry) (arena arena' : Pages) (m m' : Entries)
    → group_at index.groups this.source ≡ Some a → this.progress ≡ Made d
    → IsStepAt (page_total (layout_of index) this.source) (slots_of ((layout_of index).class this.source)) (pages_of ((layout_of index).class this.source)) d kind i
    → Makes (layout_of index) kind this.source this.destination i arena arena' m m' → HasEffect index this arena arena' m m'
step_has_effect index this d i kind a arena arena' m m' there at step_at makes =
    let g : Group = table_group index.spans this.source a in
    let is = kind_is g (page_total (layout_of index) this.source) (slots_of ((layout_of index).class this.source)) (pages_of ((layout_of index).class this.source)) d i kind
    (pages_counted index this.source a there) (ap slots_of (sym (ap class_in there))) step_at in
    let under = made_is index this.source this.destination i kind a arena arena' m m' there d step_at makes in
    record {
      sides = sides_of index this.source this.destination a;
      sides_are = record { source = entry_in_table index this.source a there; from = refl; into = refl };
      under = rw (at, is.0, is.1) under;
    }

-- so has an unprotect of a cancelled mesh
pub unwinding_has_effect : (index : Index) (this : Mesh) (q u : ℕ) (a : GroupEntry) (arena : Pages) (m m' : Entries) → group_at index.groups this.source ≡ Some a
    → this.progress ≡ Unwinding q u → u < page_total (layout_of index) this.source → Protects m m' (virtual_page (layout_of index) this.source u) (prot_of false)
    → HasEffect index this arena arena m m'
unwinding_has_effect index this q u a arena m m' there at below protects =
    let l : Layout = layout_of index in
    record {
      sides = sides_of index this.source this.destination a;
      sides_are = record { source = entry_in_table index this.source a there; from = refl; into = refl };
      under = subst (λ (p : Progress). IsUnder arena m' (step_effect (sides_of index this.source this.destination a) p (under_of arena m))) (sym at)
          (made_is index this.source this.destination u Unprotect a arena arena m m' there
          (2 * page_total l this.source + slots_of (l.class this.source) + u) (refl, below) (refl, protects));
    }
