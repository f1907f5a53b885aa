-- Each step that changes pages leaves groups, map and arena laid out, and the bytes of live objects.
use Rattle.std.proofs.Common.{◌≡◌, ◌≢◌, ℕ, ◌+◌, ◌-◌, ◌*◌, ◌/◌, ◌<◌, ◌≤◌, Option, Some, None, ap, refl, subst, sym, ◌∙◌, arith, ◌⊎◌, inl, inr}
use Rattle.std.proofs.Math.Nat.{mul-le-mul_right}
use Rattle.std.proofs.lemmas.Bool.Decides.{eqb_tells, leb_tells}
use Rattle.mesh_arena.specs.Pages.{Pages}
use Rattle.mesh_class.specs.Classes.{pages_of}
use Rattle.model_heap.specs.Table.{Slot}
use Rattle.mesh_pagemap.specs.Entries.{Entries}
use Rattle.mesh_page_heap.specs.Layout.{IsHeldBy, IsLaidOut, IsOrderly, IsSource, Layout, LiesAt, Stage, byte_in, idle}
use Rattle.mesh_page_heap.specs.StepChanges.{Copies, Keeps, Moves}
use Rattle.mesh_page_heap.proofs.Homes.{dest_held, live_byte, live_home, slot_page}
use Rattle.mesh_page_heap.proofs.MapSteps.{after_move}
use Rattle.mesh_page_heap.proofs.Pages.{held_was}

-- what is copied of a group is copied by a mesh from it
pub copied_source : (l : Layout) (f : ℕ → Stage) (n k : ℕ) → IsOrderly l f → k < (f n).copied → IsSource f n
copied_source l f n k orderly below same = let none : (f n).copied ≡ 0 = ap (λ (c : Stage). c.copied) (orderly.idle n same) in omega (arith, none, below)

-- while something counts as copied, no page is given back
pub copied_kept : (l : Layout) (f : ℕ → Stage) (n k j : ℕ) → IsOrderly l f → k < (f n).copied → (f n).released ≤ j
copied_kept l f n k j orderly below = grind arith

-- a source is no destination
pub source_apart : (l : Layout) (f : ℕ → Stage) (n m : ℕ) → IsOrderly l f → IsSource f n → IsSource f m → n ≢ (f m).into
source_apart l f n m orderly source other same =
    let quiet : f n ≡ idle n = subst (λ (x : ℕ). f x ≡ idle x) (sym same) (orderly.pair m other).quiet in source (ap (λ (c : Stage). c.into) quiet)

-- where a copied object's bytes are: in pages that its group and the destination hold
pub record HasCopy (l : Layout) (f : ℕ → Stage) (n y : ℕ) : Type 0 where
  pub source : IsSource f n
  pub here : IsHeldBy l f n (y / 4096)
  pub there : IsHeldBy l f (f n).into (y / 4096)

pub has_copy : (l : Layout) (f : ℕ → Stage) (n k o : ℕ) (slot : Slot) → IsOrderly l f → l.slot n k ≡ Some slot → o < slot.len → k < (f n).copied
    → HasCopy l f n (k * l.class n + o)
has_copy l f n k o slot orderly filled within below =
    let placed = orderly.placed n k slot filled in
    let source = copied_source l f n k orderly below in
    let some : 0 < l.members n = (let member = placed.member in omega (arith, member)) in
    let inside = slot_page l f n k o orderly some placed.below (let fits = placed.fits in omega (arith, fits, within)) in
    record {
      source = source;
      here = record { group = some; within = inside; kept = copied_kept l f n k ((k * l.class n + o) / 4096) orderly below };
      there = dest_held l f n ((k * l.class n + o) / 4096) orderly source inside;
    }

-- a byte outside of a copied range is as it was
copy_others : (l : Layout) (f : ℕ → Stage) (m : Entries) (arena arena' : Pages) (s d from len b y : ℕ) → IsLaidOut l f m arena → Copies l arena arena' s d from len
    → IsHeldBy l f b (y / 4096) → ((x : ℕ) → from ≤ x → x < from + len → IsHeldBy l f d (x / 4096))
    → ((b ≡ d) → (y < from) ⊎ (from + len ≤ y)) → byte_in l arena' b y ≡ byte_in l arena b y
copy_others l f m arena arena' s d from len b y laid copies held all other = grind arith

-- pages lie as they did where the stages differ in what is copied
pub lies_moved : (l : Layout) (f f' : ℕ → Stage) (m : Entries) (s : ℕ) (c : Stage) → Moves f f' s c
    → ((i v : ℕ) → LiesAt l m s (f s) i v → LiesAt l m s c i v) → (n i v : ℕ) → LiesAt l m n (f n) i v → LiesAt l m n (f' n) i v
lies_moved l f f' m s c moves same n i v was = after_move f f' s c (λ k x. LiesAt l m k x i v) moves n (λ e. same i v (rw e at was)) (λ e. was)

-- what is held after a step was held before
pub held_before : (l : Layout) (f f' : ℕ → Stage) (s : ℕ) (c : Stage) → Moves f f' s c → (f s).released ≤ c.released → (n j : ℕ) → IsHeldBy l f' n j → IsHeldBy l f n j
held_before l f f' s c moves more n j =
    held_was l l f f' n j refl refl (after_move f f' s c (λ k x. (f k).released ≤ x.released) moves n (λ e. more) (λ e. omega arith))

-- slot `k` has no object: nothing is copied but the count
pub skip_laid : (l : Layout) (f f' : ℕ → Stage) (m : Entries) (arena : Pages) (s k : ℕ) → IsLaidOut l f m arena → (f s).copied ≡ k → l.slot s k ≡ None
    → Moves f f' s (record (f s) { copied = k + 1 }) → IsLaidOut l f' m arena
skip_laid l f f' m arena s k laid at none moves = record {
  each = λ n i v page. lies_moved l f f' m s (record (f s) { copied = k + 1 }) moves (λ i v was. assumption) n i v (laid.each n i v page);
  only = laid.only;
  taken = λ n j held. laid.taken n j (before n j held);
  apart = λ n j n' i held held'. laid.apart n j n' i (before n j held) (before n' i held');
  copies = λ n k' o slot filled within.
      after_move f f' s (record (f s) { copied = k + 1 }) (λ x c. k' < c.copied → byte_in l arena c.into (k' * l.class x + o) ≡ byte_in l arena x (k' * l.class x + o)) moves n
      (λ e below. elim (eqb_tells k' k) [
        | inl last ↦ absurd (let two : ◌≡◌ {A = Option Slot} None (Some slot) = sym none ∙ ap (l.slot s) (sym last.1) ∙ (rw e at filled) in cc two)
        | inr earlier ↦ laid.copies s k' o slot (rw e at filled) within (omega (arith, below, earlier.1, at))
      ])
      (λ e. laid.copies n k' o slot filled within);
}
  where
    before : (n j : ℕ) → IsHeldBy l f' n j → IsHeldBy l f n j
    before = held_before l f f' s (record (f s) { copied = k + 1 }) moves (omega arith)

-- the object of slot `k` is copied
module _ (l : Layout) (f f' : ℕ → Stage) (m : Entries) (arena arena' : Pages) (s k : ℕ) (slot : Slot) (orderly : IsOrderly l f)
    (laid : IsLaidOut l f m arena) (source : IsSource f s) (at : (f s).copied ≡ k) (home : (f s).remapped ≡ 0) (filled : l.slot s k ≡ Some slot)
    (copied : Copies l arena arena' s (f s).into (k * l.class s) slot.len) (moves : Moves f f' s (record (f s) { copied = k + 1 })) where
  fits : slot.len ≤ l.class s
  fits = (orderly.placed s k slot filled).fits

  there : (x : ℕ) → k * l.class s ≤ x → x < k * l.class s + slot.len → IsHeldBy l f (f s).into (x / 4096)
  there x low high =
      let placed = orderly.placed s k slot filled in
      let inside = slot_page l f s k (x - k * l.class s) orderly (omega (arith, placed.member)) placed.below (omega (arith, high, low, fits)) in
      dest_held l f s (x / 4096) orderly source (subst (λ (y : ℕ). y / 4096 < pages_of (l.class s)) (omega (arith, low)) inside)

  other_byte : (b y : ℕ) → IsHeldBy l f b (y / 4096) → ((b ≡ (f s).into) → (y < k * l.class s) ⊎ (k * l.class s + slot.len ≤ y))
      → byte_in l arena' b y ≡ byte_in l arena b y
  other_byte b y held apart = copy_others l f m arena arena' s (f s).into (k * l.class s) slot.len b y laid copied held there apart

  copy_is : (n k' o : ℕ) (slot' : Slot) → l.slot n k' ≡ Some slot' → o < slot'.len → k' < (f n).copied
      → byte_in l arena' (f n).into (k' * l.class n + o) ≡ byte_in l arena' n (k' * l.class n + o)
  copy_is n k' o slot' filled' within below =
      let has = has_copy l f n k' o slot' orderly filled' within below in
      let y : ℕ = k' * l.class n + o in
      let left : byte_in l arena' (f n).into y ≡ byte_in l arena (f n).into y = other_byte (f n).into y has.there (λ same.
      let one = orderly.one n s has.source source same in
      let class : l.class n ≡ l.class s = ap l.class one in
      let few : k' < k = (let count : (f n).copied ≡ (f s).copied = ap (λ (x : ℕ). (f x).copied) one in omega (arith, below, count, at)) in
      let less : (k' + 1) * l.class s ≤ k * l.class s = mul-le-mul_right (l.class s) (omega (arith, few)) in
      let product : k' * l.class n ≡ k' * l.class s = ap (λ (c : ℕ). k' * c) class in
      inl (omega (arith, less, within, (orderly.placed n k' slot' filled').fits, class, product))) in
      let right : byte_in l arena' n y ≡ byte_in l arena n y = other_byte n y has.here (λ same. absurd (source_apart l f n s orderly has.source source same)) in
      left ∙ laid.copies n k' o slot' filled' within below ∙ sym right

  copy_last : (o : ℕ) → o < slot.len → byte_in l arena' (f s).into (k * l.class s + o) ≡ byte_in l arena' s (k * l.class s + o)
  copy_last o within = grind (arith, fits)

  pub copy_laid : IsLaidOut l f' m arena'
  copy_laid = record {
    each = λ n i v page. lies_moved l f f' m s (record (f s) { copied = k + 1 }) moves (λ i v was. assumption) n i v (laid.each n i v page);
    only = laid.only;
    taken = λ n j held. copied.same_taken (l.page n j) ∙ laid.taken n j (before n j held);
    apart = λ n j n' i held held'. laid.apart n j n' i (before n j held) (before n' i held');
    copies = λ n k' o slot' filled' within.
        after_move f f' s (record (f s) { copied = k + 1 }) (λ x c. k' < c.copied → byte_in l arena' c.into (k' * l.class x + o) ≡ byte_in l arena' x (k' * l.class x + o)) moves n
        (λ e below. elim (eqb_tells k' k) [
          | inl last ↦
              let one : slot' ≡ slot = (let both : Some slot' ≡ Some slot = sym (rw e at filled') ∙ ap (l.slot s) last.1 ∙ filled in cc both) in
              rw last.1 (copy_last o (rw one at within))
          | inr earlier ↦ copy_is s k' o slot' (rw e at filled') within (omega (arith, below, earlier.1, at))
        ])
        (λ e. copy_is n k' o slot' filled' within);
  }
    where
      before : (n j : ℕ) → IsHeldBy l f' n j → IsHeldBy l f n j
      before = held_before l f f' s (record (f s) { copied = k + 1 }) moves (omega arith)

  pub copy_keeps : Keeps l arena arena' m m
  copy_keeps = record {
    each = λ n k' o x slot' live.
        let home_ = live_home _ _ _ _ _ _ _ _ _ orderly laid live in
        let y : ℕ = k' * l.class n + o in
        let same = other_byte _ _ home_.held (λ into. elim home_.whose [
          | inl own ↦ away n k' o slot' live.filled ((live_byte l f n k' _ x slot' orderly live).within) (sym own.0 ∙ into)
          | inr moved ↦ absurd (let one = orderly.one n s moved.1 source (sym moved.0 ∙ into) in
              let some : 0 < (f s).remapped = subst (λ (z : ℕ). 0 < (f z).remapped) one moved.2 in omega (arith, some, home))
        ]) in
        rw (home_.page, home_.offset) same;
    same_length = copied.same_length;
  }
    where
      away : (n k' o : ℕ) (slot' : Slot) → l.slot n k' ≡ Some slot' → o < l.class n → n ≡ (f s).into
          → (k' * l.class n + o < k * l.class s) ⊎ (k * l.class s + slot.len ≤ k' * l.class n + o)
      away n k' o slot' filled' in_slot into =
          let pair = orderly.pair s source in
          let class : l.class n ≡ l.class s = ap l.class into ∙ pair.same_class in
          let product : k' * l.class n ≡ k' * l.class s = ap (λ (c : ℕ). k' * c) class in
          elim (leb_tells k k') [
            | inr less ↦ let below : (k' + 1) * l.class s ≤ k * l.class s = mul-le-mul_right (l.class s) (let e = less.1 in omega (arith, e)) in
                inl (omega (arith, below, in_slot, class, product))
            | inl from ↦ elim (eqb_tells k k') [
              | inl same ↦ absurd (pair.apart k slot slot' filled (ap (λ (d : ℕ). l.slot d k) (sym into) ∙ ap (l.slot n) same.1 ∙ filled'))
              | inr other ↦ let above : (k + 1) * l.class s ≤ k' * l.class s = mul-le-mul_right (l.class s) (let e = from.1 in let o' = other.1 in omega (arith, e, o')) in
                  inr (omega (arith, above, fits, product))
            ]
          ]
