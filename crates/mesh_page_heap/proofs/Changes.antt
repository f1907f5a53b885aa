-- How changes of the index are seen as changes of the layout, and what the flags of groups say of stages.
use Rattle.std.proofs.lemmas.Bool.{eq-eqb}
use Rattle.std.proofs.Common.{◌≡◌, ◌≢◌, ℕ, ◌<◌, Bool, true, false, ◌||◌, nat_eq, List, [], ◌∷◌, ◌++◌, Option, Some, None, length, slice_index, slice_index_or, ap, refl, sym, ◌∙◌, arith, inl, inr}
use Rattle.std.specs.List.{list_any}
use Rattle.std.proofs.Math.ListN.{get_or-append, length-append}
use Rattle.std.proofs.Math.Seq.{get_or-append_seam}
use Rattle.std.proofs.lemmas.List.{get_or_append_left, get_or-append-add, get_or_past}
use Rattle.mesh_arena.specs.Pages.{Pages}
use Rattle.mesh_class.specs.Classes.{slots_of}
use Rattle.model_heap.proofs.ListPlaces.{found_passes, none_passes}
use Rattle.model_heap.proofs.UnitedSlots.{united_slot}
use Rattle.model_heap.specs.Mesh.{united}
use Rattle.model_heap.specs.Table.{Mesh, takes_part}
use Rattle.mesh_pagemap.specs.Entries.{Entries}
use Rattle.mesh_spans.specs.Index.{GroupEntry, Index, IsIndex, SpanEntry, group_at, new_group, new_span, span_at}
use Rattle.mesh_spans.proofs.IndexLemmas.{span_new, span_old}
use Rattle.mesh_spans.proofs.SlotLemmas.{none_in}
use Rattle.mesh_page_heap.specs.Indexes.{class_in, layout_of, members_in, pages_in, slots_in}
use Rattle.mesh_page_heap.specs.Layout.{IsHeldBy, IsLaidOut, Layout, Stage}
use Rattle.mesh_page_heap.specs.MeshLayouts.{mesh_from, stage_of, stage_with}
use Rattle.mesh_page_heap.specs.StepChanges.{Drops, Grows, Merges}
use Rattle.mesh_page_heap.proofs.Orderly.{IsFrom, mesh_of}
use Rattle.mesh_page_heap.proofs.Pages.{held_was}
use Rattle.mesh_page_heap.proofs.Stores.{IsAlike}

-- the stages are told by class and members
pub stage_same : (l l' : Layout) (ms : List Mesh) (n : ℕ) → l'.class n ≡ l.class n → l'.members n ≡ l.members n → stage_of l' ms n ≡ stage_of l ms n
stage_same l l' ms n class members = go (mesh_from n ms)
  where
    go : (o : Option Mesh) → stage_with l' n o ≡ stage_with l n o
    go None = refl
    go (Some mesh) = rw (class, members) refl

-- where no mesh is from a group, its stage is idle in every layout
pub stage_none : (l l' : Layout) (ms : List Mesh) (n : ℕ) → mesh_from n ms ≡ None → stage_of l' ms n ≡ stage_of l ms n
stage_none l l' ms n none = ap (stage_with l' n) none ∙ sym (ap (stage_with l n) none)

-- stages that agree
pub laid_stages : (l : Layout) (f f' : ℕ → Stage) (m : Entries) (arena : Pages) → ((n : ℕ) → f' n ≡ f n) → IsLaidOut l f m arena → IsLaidOut l f' m arena
laid_stages l f f' m arena same laid = record {
  each = λ n i v page. rw (same n) (laid.each n i v page);
  only = laid.only;
  taken = λ n j held. laid.taken n j (was n j held);
  apart = λ n j n' j' held held'. laid.apart n j n' j' (was n j held) (was n' j' held');
  copies = λ n k o slot filled within below. rw (same n) (laid.copies n k o slot filled within (rw (same n) at below));
}
  where
    was : (n j : ℕ) → IsHeldBy l f' n j → IsHeldBy l f n j
    was n j = held_was l l f f' n j refl refl (omega (arith, ap (λ (c : Stage). c.released) (same n)))

-- a group that takes part in no mesh takes part in none from any group
no_part : (l : Layout) (ms : List Mesh) (g n : ℕ) → list_any (takes_part g) ms ≡ false → (h : IsFrom l ms n) → takes_part g h.mesh ≡ true → ⊥
no_part l ms g n none h part = grind (arith, found_passes, none_passes)

-- so no mesh is from it
pub none_from_open : (l : Layout) (ms : List Mesh) (g : ℕ) → list_any (takes_part g) ms ≡ false → mesh_from g ms ≡ None
none_from_open l ms g none = elim (mesh_of l ms g) [
  | inl no_ ↦ no_
  | inr h ↦ absurd (no_part l ms g g none h (rw (eq-eqb h.mesh.source g h.source) refl))
]

-- and it is no source, and no destination
pub open_calm : (l : Layout) (ms : List Mesh) (g : ℕ) → list_any (takes_part g) ms ≡ false
    → ((stage_of l ms g).into ≡ g) × ((n : ℕ) → n ≢ g → (stage_of l ms n).into ≢ g)
open_calm l ms g none = (
  ap (λ (o : Option Mesh). (stage_with l g o).into) (none_from_open l ms g none),
  λ n other same. elim (mesh_of l ms n) [
    | inl no_ ↦ other (sym (ap (λ (o : Option Mesh). (stage_with l n o).into) no_) ∙ same)
    | inr h ↦ no_part l ms g n none h (rw (eq-eqb h.mesh.destination g (sym h.into ∙ same)) (either (nat_eq h.mesh.source g)))
  ],
)
  where
    either : (b : Bool) → (b || true) ≡ true
    either true = refl
    either false = refl

-- the two groups of the index with the source's members after the destination's
pub record MergesIndex (old new : Index) (s d : ℕ) : Type 0 where
  pub a : GroupEntry
  pub b : GroupEntry
  pub source : group_at old.groups s ≡ Some a
  pub destination : group_at old.groups d ≡ Some b
  pub gone : group_at new.groups s ≡ None
  pub merged : group_at new.groups d
      ≡ Some (record { class = b.class; members = b.members ++ a.members; pages = b.pages; slots = united b.slots a.slots; in_mesh = false })
  pub others : (n : ℕ) → n ≢ s → n ≢ d → group_at new.groups n ≡ group_at old.groups n
  pub firsts : (i : ℕ) → (span_at new.spans i).first ≡ (span_at old.spans i).first

pub index_merges : (old new : Index) (s d : ℕ) → MergesIndex old new s d → s ≢ d → Merges (layout_of old) (layout_of new) s d
index_merges old new s d is two = grind (arith, length-append, get_or_append_left, get_or-append-add, united_slot)

-- a group taken out of the index
pub record DropsIndex (old new : Index) (g : ℕ) : Type 0 where
  pub gone : group_at new.groups g ≡ None
  pub others : (n : ℕ) → n ≢ g → group_at new.groups n ≡ group_at old.groups n
  pub spans : new.spans ≡ old.spans

pub index_drops : (old new : Index) (g : ℕ) → DropsIndex old new g → Drops (layout_of old) (layout_of new) g
index_drops old new g is = grind arith

-- groups of the same class, members and pages
pub record SameGroups (old new : Index) : Type 0 where
  pub class : (n : ℕ) → class_in (group_at new.groups n) ≡ class_in (group_at old.groups n)
  pub members : (n : ℕ) → members_in (group_at new.groups n) ≡ members_in (group_at old.groups n)
  pub pages : (n : ℕ) → pages_in (group_at new.groups n) ≡ pages_in (group_at old.groups n)
  pub spans : new.spans ≡ old.spans

pub index_alike : (old new : Index) → SameGroups old new → IsAlike (layout_of old) (layout_of new)
index_alike old new is = grind arith

-- a span and its group added at the end
module _ (old new : Index) (next class : ℕ) (pages : List ℕ) (sound : IsIndex old.spans old.groups)
    (spans : new.spans ≡ old.spans ++ new_span next class (length old.spans) ∷ [])
    (groups : new.groups ≡ old.groups ++ Some (new_group class (length old.spans) pages) ∷ []) where
  new_there : group_at new.groups (length old.groups) ≡ Some (new_group class (length old.spans) pages)
  new_there = rw groups (get_or-append_seam old.groups (Some (new_group class (length old.spans) pages)) [] None)

  new_span_there : span_at new.spans (length old.spans) ≡ new_span next class (length old.spans)
  new_span_there = rw spans (span_new old.spans (new_span next class (length old.spans)))

  others_there : (n : ℕ) → n ≢ length old.groups → group_at new.groups n ≡ group_at old.groups n
  others_there n other = grind (arith, get_or-append, length-append, get_or_past)

  old_span_there : (i : ℕ) → i < length old.spans → span_at new.spans i ≡ span_at old.spans i
  old_span_there i below = rw spans (span_old old.spans (new_span next class (length old.spans)) i below)

  pub index_grows : Grows (layout_of old) (layout_of new) (length old.groups) class next pages
  index_grows = record {
    none = ap (λ (o : Option GroupEntry). length (members_in o)) (get_or_past old.groups (length old.groups) None (omega arith));
    class_is = ap class_in new_there;
    one = ap (λ (o : Option GroupEntry). length (members_in o)) new_there;
    at = ap (λ (o : Option GroupEntry). (span_at new.spans (slice_index (members_in o) 0)).first) new_there ∙ ap (λ (s : SpanEntry). s.first) new_span_there;
    pages_are = λ j. ap (λ (o : Option GroupEntry). slice_index (pages_in o) j) new_there;
    empty = λ k. ap (λ (o : Option GroupEntry). slice_index_or (slots_in o) k None) new_there ∙ none_in (slots_of class) k;
    class = λ n other. ap class_in (others_there n other);
    members = λ n other. ap (λ (o : Option GroupEntry). length (members_in o)) (others_there n other);
    first = λ n place other below. ap (λ (o : Option GroupEntry). (span_at new.spans (slice_index (members_in o) place)).first) (others_there n other)
        ∙ ap (λ (s : SpanEntry). s.first) (old_span_there (slice_index (members_in (group_at old.groups n)) place) (old_member n place below));
    page = λ n j other. ap (λ (o : Option GroupEntry). slice_index (pages_in o) j) (others_there n other);
    slot = λ n k other. ap (λ (o : Option GroupEntry). slice_index_or (slots_in o) k None) (others_there n other);
  }
    where
      old_member : (n place : ℕ) → place < length (members_in (group_at old.groups n)) → slice_index (members_in (group_at old.groups n)) place < length old.spans
      old_member n place below = go (group_at old.groups n) refl below
        where
          go : (o : Option GroupEntry) → group_at old.groups n ≡ o → place < length (members_in o) → slice_index (members_in o) place < length old.spans
          go None at below = absurd (omega (arith, below))
          go (Some group) at below = (sound.members n place group at below).below
