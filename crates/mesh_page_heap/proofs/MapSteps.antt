-- Each step that changes the page map alone, or nothing, leaves groups, map and arena laid out, and the bytes of live
-- objects.
use Rattle.std.proofs.Common.{◌≡◌, ◌≢◌, ℕ, ◌+◌, ◌*◌, ◌/◌, ◌%◌, ◌<◌, ◌≤◌, true, false, ap, subst, refl, sym, ◌∙◌, arith, ◌⊎◌, inl, inr}
use Rattle.std.proofs.lemmas.Bool.Decides.{eqb_tells}
use Rattle.mesh_arena.specs.Pages.{Pages, byte_at}
use Rattle.mesh_class.specs.Classes.{pages_of, slots_of}
use Rattle.model_heap.specs.Table.{Slot}
use Rattle.mesh_pagemap.specs.Entries.{Entries, Protects, Remaps, is_mapped, is_read_only, page_of, prot_of}
use Rattle.mesh_page_heap.specs.Layout.{IsHeldBy, IsLaidOut, IsLiveAt, IsOrderly, IsPageOf, Layout, LiesAt, Stage, byte_in, idle, virtual_page}
use Rattle.mesh_page_heap.specs.StepChanges.{Keeps, Moves}
use Rattle.mesh_page_heap.proofs.Homes.{byte_page, live_byte}
use Rattle.mesh_page_heap.proofs.Pages.{held_was}

-- every entry but one is as it was
pub record OthersKept (m m' : Entries) (v : ℕ) : Type 0 where
  mapped : (w : ℕ) → w ≢ v → is_mapped m' w ≡ is_mapped m w
  pages : (w : ℕ) → w ≢ v → page_of m' w ≡ page_of m w
  locks : (w : ℕ) → w ≢ v → is_read_only m' w ≡ is_read_only m w

-- a page whose entry is as it was lies as it did
pub lies_entry : (l : Layout) (m m' : Entries) (n : ℕ) (c : Stage) (i w : ℕ) → is_mapped m' w ≡ is_mapped m w → page_of m' w ≡ page_of m w
    → is_read_only m' w ≡ is_read_only m w → LiesAt l m n c i w → LiesAt l m' n c i w
lies_entry l m m' n c i w mapped page lock lies = grind arith

-- what holds of the moved group at its new stage, and of every other at its own, holds after the move
pub after_move : (f f' : ℕ → Stage) (s : ℕ) (c : Stage) (P : ℕ → Stage → Type 0) → Moves f f' s c → (n : ℕ) → (n ≡ s → P s c) → (n ≢ s → P n (f n)) → P n (f' n)
after_move f f' s c P moves n here others = grind arith

-- a stage after a step of the map: nothing more counts as copied, and as much is given back
pub record IsNoMore (old new : Stage) : Type 0 where
  pub into : 0 < new.copied → new.into ≡ old.into
  pub copied : new.copied ≤ old.copied
  pub released : new.released ≡ old.released

-- what a stage says that no such step changes
same_copies : (c c' : Stage) → c'.into ≡ c.into → c'.copied ≤ c.copied → c'.released ≡ c.released → IsNoMore c c'
same_copies c c' into fewer same = record { into = λ h. into; copied = fewer; released = same }

module _ (l : Layout) (f f' : ℕ → Stage) (m m' : Entries) (arena : Pages) (s : ℕ) (c : Stage) (laid : IsLaidOut l f m arena) (moves : Moves f f' s c)
    (less : IsNoMore (f s) c) where
  -- where the pages lie as they should, the rest is laid out as it was
  laid_map : ((n i v : ℕ) → IsPageOf l n i v → LiesAt l m' n (f' n) i v) → ((v : ℕ) → is_mapped m' v ≡ is_mapped m v) → IsLaidOut l f' m' arena
  laid_map each same = record {
    each = each;
    only = λ v mapped. laid.only v (sym (same v) ∙ mapped);
    taken = λ n j held. laid.taken n j (was n j held);
    apart = λ n j k i held held'. laid.apart n j k i (was n j held) (was k i held');
    copies = λ n k o slot filled within below. ap (λ (d : ℕ). byte_in l arena d (k * l.class n + o)) ((no_more n).into (omega (arith, below)))
        ∙ laid.copies n k o slot filled within (omega (arith, below, (no_more n).copied));
  }
    where
      no_more : (n : ℕ) → IsNoMore (f n) (f' n)
      no_more n = after_move f f' s c (λ k x. IsNoMore (f k) x) moves n (λ e. less) (λ e. same_copies (f n) (f n) refl (omega arith) refl)

      was : (n j : ℕ) → IsHeldBy l f' n j → IsHeldBy l f n j
      was n j = held_was l l f f' n j refl refl (omega (arith, (no_more n).released))

  -- one page changes, and the stage says the same of all others
  laid_page : (i v : ℕ) → IsOrderly l f → IsPageOf l s i v → OthersKept m m' v → LiesAt l m' s c i v
      → ((i' w : ℕ) → i' ≢ i → LiesAt l m' s (f s) i' w → LiesAt l m' s c i' w) → IsLaidOut l f' m' arena
  laid_page i v orderly page kept changed others = laid_map
      (λ n i' w is. elim (eqb_tells w v) [
        | inl same ↦ let one = orderly.once n i' s i v (rw same.1 at is) page in rw (same.1, one.1, one.0, moves.here) changed
        | inr other ↦
            let was = lies_entry l m m' n (f n) i' w (kept.mapped w other.1) (kept.pages w other.1) (kept.locks w other.1) (laid.each n i' w is) in
            after_move f f' s c (λ k x. LiesAt l m' k x i' w) moves n
            (λ e. others i' w (λ e'. other.1 (sym is.at ∙ ap (virtual_page l n) e' ∙ ap (λ (x : ℕ). virtual_page l x i) e ∙ page.at)) (rw e at was)) (λ e. was)
      ])
      (λ w. elim (eqb_tells w v) [
        | inl same ↦ rw same.1 (changed.mapped ∙ sym (laid.each s i v page).mapped)
        | inr other ↦ kept.mapped w other.1
      ])

-- the bytes of live objects are kept where every page leads where it led
keeps_pages : (l : Layout) (m m' : Entries) (arena : Pages) → ((v : ℕ) → page_of m' v ≡ page_of m v) → Keeps l arena arena m m'
keeps_pages l m m' arena same =
    record { each = λ n k o x slot live. ap (λ (p : ℕ). byte_at arena p (x % 4096)) (same (x / 4096)); same_length = refl }

pub protects_all : (m m' : Entries) (v : ℕ) (on : _) → Protects m m' v (prot_of on) → (w : ℕ) → is_mapped m' w ≡ is_mapped m w
protects_all m m' v on protects w = grind arith

protects_others : (m m' : Entries) (v : ℕ) (on : _) → Protects m m' v (prot_of on) → OthersKept m m' v
protects_others m m' v on protects = grind arith

-- page `i` becomes read-only
pub protect_laid : (l : Layout) (f f' : ℕ → Stage) (m m' : Entries) (arena : Pages) (s i v : ℕ) → IsOrderly l f → IsLaidOut l f m arena
    → IsPageOf l s i v → Protects m m' v (prot_of true) → (f s).locked_from ≤ i → (f s).locked_to ≡ i
    → Moves f f' s (record (f s) { locked_to = i + 1 }) → IsLaidOut l f' m' arena × Keeps l arena arena m m'
protect_laid l f f' m m' arena s i v orderly laid page protects low high moves =
    let lies = laid.each s i v page in
    let c : Stage = record (f s) { locked_to = i + 1 } in (
      laid_page l f f' m m' arena s c laid moves (same_copies (f s) c refl (omega arith) refl) i v orderly page (protects_others m m' v true protects)
          (record {
            mapped = protects.mapped;
            home = λ h. protects.same_pages v ∙ lies.home h;
            away = λ h. protects.same_pages v ∙ lies.away h;
            locked = λ from to. protects.read_only;
            writable = λ h. absurd (elim h [ inl x ↦ omega (arith, x, low) | inr y ↦ omega (arith, y) ]);
          })
          (λ i' w other was.
          let locked : (f s).locked_from ≤ i' → i' < i + 1 → is_read_only m' w ≡ true = λ from to. was.locked from (omega (arith, to, other, high)) in
          let writable : (i' < (f s).locked_from) ⊎ (i + 1 ≤ i') → is_read_only m' w ≡ false
          = λ h. was.writable (elim h [ inl x ↦ inl x | inr y ↦ inr (omega (arith, y, high)) ]) in assumption),
      keeps_pages l m m' arena protects.same_pages,
    )

-- page `i` may be written again, and nothing counts as copied any more
pub unprotect_laid : (l : Layout) (f f' : ℕ → Stage) (m m' : Entries) (arena : Pages) (s i v : ℕ) → IsOrderly l f → IsLaidOut l f m arena
    → IsPageOf l s i v → Protects m m' v (prot_of false) → (f s).locked_from ≡ i
    → Moves f f' s (record (f s) { locked_from = i + 1; copied = 0 }) → IsLaidOut l f' m' arena × Keeps l arena arena m m'
unprotect_laid l f f' m m' arena s i v orderly laid page protects low moves =
    let lies = laid.each s i v page in
    let c : Stage = record (f s) { locked_from = i + 1; copied = 0 } in (
      laid_page l f f' m m' arena s c laid moves (same_copies (f s) c refl (omega arith) refl) i v orderly page (protects_others m m' v false protects)
          (record {
            mapped = protects.mapped;
            home = λ h. protects.same_pages v ∙ lies.home h;
            away = λ h. protects.same_pages v ∙ lies.away h;
            locked = λ from to. absurd (omega (arith, from));
            writable = λ h. protects.read_only;
          })
          (λ i' w other was.
          let locked : i + 1 ≤ i' → i' < (f s).locked_to → is_read_only m' w ≡ true = λ from to. was.locked (omega (arith, from, low)) to in
          let writable : (i' < i + 1) ⊎ ((f s).locked_to ≤ i') → is_read_only m' w ≡ false
          = λ h. was.writable (elim h [ inl x ↦ inl (omega (arith, x, other, low)) | inr y ↦ inr y ]) in assumption),
      keeps_pages l m m' arena protects.same_pages,
    )

-- nothing changes but the stage, which says the same of the pages
pub stage_laid : (l : Layout) (f f' : ℕ → Stage) (m : Entries) (arena : Pages) (s : ℕ) (c : Stage) → IsLaidOut l f m arena → Moves f f' s c
    → ((i v : ℕ) → IsPageOf l s i v → LiesAt l m s (f s) i v → LiesAt l m s c i v) → IsNoMore (f s) c → IsLaidOut l f' m arena
stage_laid l f f' m arena s c laid moves same less = laid_map l f f' m m arena s c laid moves less
    (λ n i v page. after_move f f' s c (λ k x. LiesAt l m k x i v) moves n (λ e. same i v (rw e at page) (rw e at (laid.each n i v page)))
    (λ e. laid.each n i v page)) (λ v. refl)

-- a mesh begins
pub begin_laid : (l : Layout) (f f' : ℕ → Stage) (m : Entries) (arena : Pages) (s d : ℕ) → IsLaidOut l f m arena → f s ≡ idle s
    → Moves f f' s (record (idle s) { into = d }) → IsLaidOut l f' m arena
begin_laid l f f' m arena s d laid none moves =
    stage_laid _ _ _ _ _ _ _ laid moves (λ i v page was.
    let lies : LiesAt l m s (idle s) i v = rw none at was in
    let away : i < 0 → page_of m v ≡ l.page d (i % pages_of (l.class s)) = λ h. absurd (omega (arith, h)) in assumption)
    (rw none (record { into = λ h. absurd (omega (arith, h)); copied = omega arith; released = refl }))

-- a mesh is cancelled: nothing counts as copied any more
pub cancel_laid : (l : Layout) (f f' : ℕ → Stage) (m : Entries) (arena : Pages) (s : ℕ) → IsLaidOut l f m arena
    → Moves f f' s (record (f s) { copied = 0 }) → IsLaidOut l f' m arena
cancel_laid l f f' m arena s laid moves = grind (arith, stage_laid l f f' m arena s (record (f s) { copied = 0 }) laid moves)

-- a mesh ends with nothing remapped and no page read-only
pub end_laid : (l : Layout) (f f' : ℕ → Stage) (m : Entries) (arena : Pages) (s : ℕ) → IsLaidOut l f m arena → (f s).locked_to ≤ (f s).locked_from
    → (f s).remapped ≡ 0 → (f s).released ≡ 0 → Moves f f' s (idle s) → IsLaidOut l f' m arena
end_laid l f f' m arena s laid unlocked home kept moves = grind (arith, stage_laid l f f' m arena s (idle s) laid moves)

pub remaps_all : (m m' : Entries) (v to : ℕ) → Remaps m m' v to → (w : ℕ) → is_mapped m' w ≡ is_mapped m w
remaps_all m m' v to remaps w = grind arith

-- page `i` leads to the destination, once all slots are copied
pub remap_laid : (l : Layout) (f f' : ℕ → Stage) (m m' : Entries) (arena : Pages) (s i v : ℕ) → IsOrderly l f → IsLaidOut l f m arena
    → IsPageOf l s i v → Remaps m m' v (l.page (f s).into (i % pages_of (l.class s))) → (f s).remapped ≡ i → slots_of (l.class s) ≤ (f s).copied
    → Moves f f' s (record (f s) { remapped = i + 1 }) → IsLaidOut l f' m' arena × Keeps l arena arena m m'
remap_laid l f f' m m' arena s i v orderly laid page remaps at all moves =
    let lies = laid.each s i v page in
    let c : Stage = record (f s) { remapped = i + 1 } in (
      laid_page l f f' m m' arena s c laid moves (same_copies (f s) c refl (omega arith) refl) i v orderly page
          (record { mapped = remaps.other_mapped; pages = remaps.other_pages; locks = λ w other. remaps.same_read_only w })
          (record {
            mapped = remaps.mapped;
            home = λ h. absurd (omega (arith, h));
            away = λ h. remaps.page;
            locked = λ from to. remaps.same_read_only v ∙ lies.locked from to;
            writable = λ h. remaps.same_read_only v ∙ lies.writable h;
          })
          (λ i' w other was.
          let home : i + 1 ≤ i' → page_of m' w ≡ l.page s (i' % pages_of (l.class s)) = λ h. was.home (omega (arith, h, at)) in
          let away : i' < i + 1 → page_of m' w ≡ l.page (f s).into (i' % pages_of (l.class s)) = λ h. was.away (omega (arith, h, other, at)) in assumption),
      record {
        each = λ n k o x slot live. elim (eqb_tells (x / 4096) v) [
          | inl here ↦ moved n k o x slot live here.1
          | inr other ↦ ap (λ (p : ℕ). byte_at arena p (x % 4096)) (remaps.other_pages (x / 4096) other.1)
        ];
        same_length = refl;
      },
    )
  where
    moved : (n k o x : ℕ) (slot : Slot) → IsLiveAt l n k o x slot → x / 4096 ≡ v
        → byte_at arena (page_of m' (x / 4096)) (x % 4096) ≡ byte_at arena (page_of m (x / 4096)) (x % 4096)
    moved n k o x slot live here =
        let byte = live_byte l f n k o x slot orderly live in
        let has = byte_page l f n (orderly.placed n k slot live.filled).place k o x orderly byte in
        let one = orderly.once n has.i s i v (subst (λ (w : ℕ). IsPageOf l n has.i w) here has.page) page in
        let y : ℕ = k * l.class s + o in
        let class : l.class n ≡ l.class s = ap l.class one.0 in
        let number : i % pages_of (l.class s) ≡ y / 4096
        = ap (λ (a : ℕ). a % pages_of (l.class s)) (sym one.1) ∙ ap (λ (c : ℕ). has.i % pages_of c) (sym class) ∙ has.number
        ∙ ap (λ (c : ℕ). (k * c + o) / 4096) class in
        let lies = laid.each s i v page in
        let old : page_of m (x / 4096) ≡ l.page s (y / 4096) = ap (page_of m) here ∙ lies.home (omega (arith, at)) ∙ ap (l.page s) number in
        let copied = laid.copies s k o slot (ap (λ (a : ℕ). l.slot a k) (sym one.0) ∙ live.filled) live.within
        (omega (arith, byte.below, all, ap slots_of class)) in
        rw (ap (page_of m') here ∙ remaps.page ∙ ap (l.page (f s).into) number, old, (has.offset ∙ ap (λ (c : ℕ). (k * c + o) % 4096) class)) copied
