-- A store in a live object, and a change of what stands in slots.
use Rattle.std.proofs.Common.{◌≡◌, ◌≢◌, ℕ, ◌+◌, ◌-◌, ◌*◌, ◌/◌, ◌%◌, ◌<◌, ◌≤◌, true, false, List, Some, length, ap, subst, sym, ◌∙◌, arith, ◌⊎◌, inl, inr}
use Rattle.std.proofs.lemmas.Bool.Decides.{eqb_tells}
use Rattle.mesh_arena.specs.Pages.{Pages, IsTaken, byte_at}
use Rattle.model_heap.specs.Table.{Slot, slot_address}
use Rattle.mesh_pagemap.specs.Entries.{Entries, is_read_only, page_of}
use Rattle.mesh_store.specs.Places.{IsOpen, Saves}
use Rattle.mesh_page_heap.specs.Layout.{IsHeldBy, IsLaidOut, IsLiveAt, IsOrderly, IsPageOf, Layout, Stage, byte_in}
use Rattle.mesh_page_heap.proofs.Homes.{HasHome, byte_page, live_byte, live_home, one_place, same_offset, slot_of}
use Rattle.mesh_page_heap.proofs.Merges.{lies_same}
use Rattle.mesh_page_heap.proofs.Pages.{held_was, page_same, page_same_back}
use Rattle.mesh_page_heap.proofs.PageSteps.{has_copy, source_apart}

-- bytes are stored in a part of the object in slot `k` of a group, and no page that they touch is read-only
module _ (l : Layout) (f : ℕ → Stage) (m : Entries) (arena arena' : Pages) (n k off addr : ℕ) (slot : Slot) (bytes : List ℕ) (orderly : IsOrderly l f)
    (laid : IsLaidOut l f m arena) (filled : l.slot n k ≡ Some slot) (fits : off + length bytes ≤ slot.len)
    (at : slot_address slot.member (l.class n) k + off ≡ addr) (may : IsOpen m addr (length bytes)) (saves : Saves arena arena' m addr bytes) where
  -- an address that is stored to
  stored_live : (z : ℕ) → addr ≤ z → z < addr + length bytes → IsLiveAt l n k (off + (z - addr)) z slot
  stored_live z low high = record { filled = filled; within = omega (arith, low, high, fits); at = omega (arith, at, low) }

  -- no byte that is stored to is one of a group from which slots are copied
  not_copied : (z : ℕ) → addr ≤ z → z < addr + length bytes → 0 < (f n).copied → ⊥
  not_copied z low high copied =
      let live = stored_live z low high in
      let byte = live_byte l f n k (off + (z - addr)) z slot orderly live in
      let has = byte_page l f n (orderly.placed n k slot live.filled).place k (off + (z - addr)) z orderly byte in
      let all = (orderly.stage n).guarded copied in
      let locked : is_read_only m (z / 4096) ≡ true = (laid.each n has.i (z / 4096) has.page).locked (omega (arith, all.0)) (omega (arith, all.1, has.page.within)) in
      let two : true ≡ false = sym locked ∙ may.each z low high in absurd (cc two)

  -- a byte of a group's pages at which none is stored is as it was
  other_byte : (b y : ℕ) → IsHeldBy l f b (y / 4096)
      → ((z : ℕ) → addr ≤ z → z < addr + length bytes → (h : HasHome l f m n (k * l.class n + (off + (z - addr))) z) → h.a ≡ b
      → k * l.class n + (off + (z - addr)) ≡ y → ⊥)
      → byte_in l arena' b y ≡ byte_in l arena b y
  other_byte b y held none = saves.outside (l.page b (y / 4096)) (y % 4096) (λ z low high page offset.
      let h = live_home l f m arena n k (off + (z - addr)) z slot orderly laid (stored_live z low high) in
      let one = same_offset l f m arena n (k * l.class n + (off + (z - addr))) z b y laid h held page offset in
      none z low high h one.0 one.1)

  copy_kept : (n' k' o' : ℕ) (slot' : Slot) → l.slot n' k' ≡ Some slot' → o' < slot'.len → k' < (f n').copied
      → byte_in l arena' (f n').into (k' * l.class n' + o') ≡ byte_in l arena' n' (k' * l.class n' + o')
  copy_kept n' k' o' slot' filled' within below =
      let has = has_copy l f n' k' o' slot' orderly filled' within below in
      let y : ℕ = k' * l.class n' + o' in
      let some : 0 < (f n').copied = omega (arith, below) in
      let fits' = (orderly.placed n' k' slot' filled').fits in
      let left : byte_in l arena' (f n').into y ≡ byte_in l arena (f n').into y = other_byte (f n').into y has.there (λ z low high h to same.
      elim h.whose [
        | inr away ↦ let one = orderly.one n n' away.1 has.source (sym away.0 ∙ to) in
            not_copied z low high (subst (λ (x : ℕ). 0 < (f x).copied) (sym one) some)
        | inl own ↦
            let here : n ≡ (f n').into = sym own.0 ∙ to in
            let class : l.class n ≡ l.class n' = ap l.class here ∙ (orderly.pair n' has.source).same_class in
            let in_slot = (live_byte l f n k (off + (z - addr)) z slot orderly (stored_live z low high)).within in
            let slots = slot_of k (off + (z - addr)) k' o' (l.class n') (omega (arith, in_slot, class)) (omega (arith, within, fits'))
            (ap (λ (c : ℕ). k * c + (off + (z - addr))) (sym class) ∙ same) in
            (orderly.pair n' has.source).apart k' slot' slot filled' (ap (λ (a : ℕ). l.slot a k') (sym here) ∙ ap (l.slot n) (sym slots.0) ∙ filled)
      ]) in
      let right : byte_in l arena' n' y ≡ byte_in l arena n' y = other_byte n' y has.here (λ z low high h to same.
      elim h.whose [
        | inl own ↦ not_copied z low high (subst (λ (x : ℕ). 0 < (f x).copied) (sym to ∙ own.0) some)
        | inr away ↦ source_apart l f n' n orderly has.source away.1 (sym to ∙ away.0)
      ]) in
      left ∙ laid.copies n' k' o' slot' filled' within below ∙ sym right

  pub store_laid : IsLaidOut l f m arena'
  store_laid = let taken : (n' j : ℕ) → IsHeldBy l f n' j → IsTaken arena' (l.page n' j) = λ n' j held. saves.same_taken (l.page n' j) ∙ laid.taken n' j held in
      assumption copy_kept

  -- every other live byte is as it was
  pub store_others : (n' k' o' x : ℕ) (slot' : Slot) → IsLiveAt l n' k' o' x slot' → (x < addr) ⊎ (addr + length bytes ≤ x)
      → byte_at arena' (page_of m (x / 4096)) (x % 4096) ≡ byte_at arena (page_of m (x / 4096)) (x % 4096)
  store_others n' k' o' x slot' live outside = saves.outside (page_of m (x / 4096)) (x % 4096) (λ z low high page offset.
      let same = one_place l f m arena n k (off + (z - addr)) z n' k' o' x slot slot' orderly laid (stored_live z low high) live page offset in
      elim outside [ inl h ↦ omega (arith, h, low, same) | inr h ↦ omega (arith, h, high, same) ])

-- the groups have the same classes, members and pages
pub record IsAlike (l l' : Layout) : Type 0 where
  pub class : (n : ℕ) → l'.class n ≡ l.class n
  pub members : (n : ℕ) → l'.members n ≡ l.members n
  pub first : (n place : ℕ) → l'.first n place ≡ l.first n place
  pub page : (n j : ℕ) → l'.page n j ≡ l.page n j

-- slots change that are not copied
pub slots_laid : (l l' : Layout) (f : ℕ → Stage) (m : Entries) (arena : Pages) → IsLaidOut l f m arena → IsAlike l l'
    → ((n k : ℕ) (slot : Slot) → l'.slot n k ≡ Some slot → k < (f n).copied → l.slot n k ≡ Some slot) → IsLaidOut l' f m arena
slots_laid l l' f m arena laid alike was = record {
  each = λ n i v page. lies_same l l' m n (f n) i v (alike.class n) (alike.page n) (alike.page (f n).into)
      (laid.each n i v (page_same l l' n i v (alike.class n) (alike.members n) (λ place below. alike.first n place) page));
  only = λ v mapped. let page = laid.only v mapped in record {
    n = page.n;
    i = page.i;
    is = page_same_back l l' page.n page.i v (alike.class page.n) (alike.members page.n) (λ place below. alike.first page.n place) page.is;
  };
  taken = λ n j held. subst (λ (p : ℕ). IsTaken arena p) (sym (alike.page n j)) (laid.taken n j (held_before n j held));
  apart = λ n j n' j' held held' same. laid.apart n j n' j' (held_before n j held) (held_before n' j' held') (sym (alike.page n j) ∙ same ∙ alike.page n' j');
  copies = λ n k o slot filled within below.
      subst (λ (c : ℕ). byte_in l' arena (f n).into (k * c + o) ≡ byte_in l' arena n (k * c + o)) (sym (alike.class n))
      (let y : ℕ = k * l.class n + o in
      ap (λ (q : ℕ). byte_at arena q (y % 4096)) (alike.page (f n).into (y / 4096)) ∙ laid.copies n k o slot (was n k slot filled below) within below
      ∙ sym (ap (λ (q : ℕ). byte_at arena q (y % 4096)) (alike.page n (y / 4096))));
}
  where
    held_before : (n j : ℕ) → IsHeldBy l' f n j → IsHeldBy l f n j
    held_before n j = held_was l l' f f n j (alike.members n) (alike.class n) (omega arith)

-- an object taken out of a slot
pub free_laid : (l l' : Layout) (f : ℕ → Stage) (m : Entries) (arena : Pages) → IsLaidOut l f m arena → IsAlike l l'
    → ((n k : ℕ) (slot : Slot) → l'.slot n k ≡ Some slot → l.slot n k ≡ Some slot) → IsLaidOut l' f m arena
free_laid l l' f m arena laid alike was = slots_laid l l' f m arena laid alike (λ n k slot filled below. was n k slot filled)

-- an object put into a slot of a group that is no source
pub put_laid : (l l' : Layout) (f : ℕ → Stage) (m : Entries) (arena : Pages) (g : ℕ) → IsOrderly l f → IsLaidOut l f m arena → IsAlike l l' → (f g).into ≡ g
    → ((n k : ℕ) (slot : Slot) → n ≢ g → l'.slot n k ≡ Some slot → l.slot n k ≡ Some slot) → IsLaidOut l' f m arena
put_laid l l' f m arena g orderly laid alike calm was = slots_laid l l' f m arena laid alike (λ n k slot filled below. elim (eqb_tells n g) [
  | inr other ↦ was n k slot other.1 filled
  | inl same ↦ absurd (let none : (f n).copied ≡ 0 = ap (λ (x : ℕ). (f x).copied) same.1 ∙ ap (λ (c : Stage). c.copied) (orderly.idle g calm) in
      omega (arith, none, below))
])

-- no page of a group that is no source is read-only
pub calm_writable : (l : Layout) (f : ℕ → Stage) (m : Entries) (arena : Pages) (g i v : ℕ) → IsOrderly l f → IsLaidOut l f m arena → (f g).into ≡ g
    → IsPageOf l g i v → is_read_only m v ≡ false
calm_writable l f m arena g i v orderly laid calm page =
    (laid.each g i v page).writable (inr (let none : (f g).locked_to ≡ 0 = ap (λ (c : Stage). c.locked_to) (orderly.idle g calm) in omega (arith, none)))
