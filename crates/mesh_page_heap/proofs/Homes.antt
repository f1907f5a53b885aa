-- Where the bytes of live objects are.
use Rattle.std.proofs.Common.{◌≡◌, ℕ, ◌+◌, ◌-◌, ◌*◌, ◌/◌, ◌%◌, ◌<◌, ◌≤◌, Some, ap, refl, sym, ◌∙◌, arith, ◌⊎◌, inl, inr}
use Rattle.std.proofs.Math.Nat.{mul-le-mul_right}
use Rattle.std.proofs.lemmas.Bool.Decides.{leb_tells}
use Rattle.std.proofs.lemmas.Nat.{div-mul-add, mod-mul-add}
use Rattle.mesh_arena.specs.Pages.{Pages, IsTaken}
use Rattle.mesh_class.specs.Classes.{pages_of, slots_of}
use Rattle.model_heap.specs.Table.{Slot, slot_address}
use Rattle.mesh_pagemap.specs.Entries.{Entries, IsMapped, page_of}
use Rattle.mesh_page_heap.specs.Layout.{IsByteAt, IsCovered, IsHeldBy, IsLaidOut, IsLiveAt, IsOrderly, IsPageOf, IsSource, Layout, Stage, page_total}
use Rattle.mesh_page_heap.proofs.Pages.{page_end}

-- a slot ends within the pages that the slots fill
pub slot_end : (k slots size pages : ℕ) → k < slots → slots * size ≡ pages * 4096 → k * size + size ≤ pages * 4096
slot_end k slots size pages h full = let below : (k + 1) * size ≤ slots * size = mul-le-mul_right size (omega (arith, h)) in omega (arith, below, full)

-- a byte of a slot is in a page of its group
pub slot_page : (l : Layout) (f : ℕ → Stage) (n k o : ℕ) → IsOrderly l f → 0 < l.members n → k < slots_of (l.class n) → o < l.class n
    → (k * l.class n + o) / 4096 < pages_of (l.class n)
slot_page l f n k o orderly some below within = grind arith

-- the page of a byte among its group's pages
pub record HasPage (l : Layout) (n y x : ℕ) : Type 0 where
  pub i : ℕ
  pub page : IsPageOf l n i (x / 4096)
  pub number : i % pages_of (l.class n) ≡ y / 4096
  pub within : y / 4096 < pages_of (l.class n)
  pub offset : x % 4096 ≡ y % 4096

-- each byte of a slot is in a page of the group
pub byte_page : (l : Layout) (f : ℕ → Stage) (n place k o x : ℕ) → IsOrderly l f → IsByteAt l n place k o x → HasPage l n (k * l.class n + o) x
byte_page l f n place k o x orderly byte = record {
  i = place * pages_of (l.class n) + y / 4096;
  page = record {
    within = page_end place (l.members n) (pages_of (l.class n)) (y / 4096) byte.member inside;
    at = rw (div-mul-add place (pages_of (l.class n)) (y / 4096) inside, mod-mul-add place (pages_of (l.class n)) (y / 4096) inside)
        (let at = byte.at in omega (arith, at));
  };
  number = mod-mul-add place (pages_of (l.class n)) (y / 4096) inside;
  within = inside;
  offset = let at = byte.at in omega (arith, at);
}
  where
    y : ℕ
    y = k * l.class n + o

    inside : y / 4096 < pages_of (l.class n)
    inside = slot_page l f n k o orderly (omega (arith, byte.member)) byte.below byte.within

-- an address of those in one slot is a byte of it
pub covered_byte : (l : Layout) (n place k addr len x : ℕ) → IsCovered l n place k addr len → addr ≤ x → x < addr + len
    → IsByteAt l n place k (x - slot_address (l.first n place) (l.class n) k) x
covered_byte l n place k addr len x covered low high = grind arith

-- the group whose physical page a byte of a slot is in: its own, or once remapped the destination's
pub record HasHome (l : Layout) (f : ℕ → Stage) (m : Entries) (n y x : ℕ) : Type 0 where
  pub a : ℕ
  pub whose : ((a ≡ n) × ((f n).remapped < page_total l n)) ⊎ ((a ≡ (f n).into) × (IsSource f n) × (0 < (f n).remapped))
  pub held : IsHeldBy l f a (y / 4096)
  pub mapped : IsMapped m (x / 4096)
  pub page : page_of m (x / 4096) ≡ l.page a (y / 4096)
  pub offset : x % 4096 ≡ y % 4096

-- nothing of a group is remapped that is no source
pub moved_source : (l : Layout) (f : ℕ → Stage) (n i : ℕ) → IsOrderly l f → i < (f n).remapped → IsSource f n
moved_source l f n i orderly below same = let none : (f n).remapped ≡ 0 = ap (λ (c : Stage). c.remapped) (orderly.idle n same) in omega (arith, none, below)

-- while a page of a group is home, no physical page of the group is given back
pub home_kept : (l : Layout) (f : ℕ → Stage) (n i j : ℕ) → IsOrderly l f → i < page_total l n → (f n).remapped ≤ i → (f n).released ≤ j
home_kept l f n i j orderly within home = grind arith

-- a destination's pages are all its own
pub dest_held : (l : Layout) (f : ℕ → Stage) (n j : ℕ) → IsOrderly l f → IsSource f n → j < pages_of (l.class n) → IsHeldBy l f (f n).into j
dest_held l f n j orderly source within = grind arith

-- home: each byte of a slot is in a page that its group holds, or its mesh's destination
pub byte_home : (l : Layout) (f : ℕ → Stage) (m : Entries) (arena : Pages) (n place k o x : ℕ) → IsOrderly l f → IsLaidOut l f m arena
    → IsByteAt l n place k o x → HasHome l f m n (k * l.class n + o) x
byte_home l f m arena n place k o x orderly laid byte =
    let y : ℕ = k * l.class n + o in
    let has = byte_page l f n place k o x orderly byte in
    let lies = laid.each n has.i (x / 4096) has.page in
    elim (leb_tells (f n).remapped has.i) [
      | inl home ↦ record {
        a = n;
        whose = inl (refl, let within = has.page.within in omega (arith, within, home.1));
        held = record {
          group = let some = byte.member in omega (arith, some);
          within = has.within;
          kept = home_kept l f n has.i (y / 4096) orderly has.page.within home.1;
        };
        mapped = lies.mapped;
        page = lies.home home.1 ∙ ap (l.page n) has.number;
        offset = has.offset;
      }
      | inr away ↦ let source = moved_source l f n has.i orderly away.1 in record {
        a = (f n).into;
        whose = inr (refl, source, omega (arith, away.1));
        held = dest_held l f n (y / 4096) orderly source has.within;
        mapped = lies.mapped;
        page = lies.away away.1 ∙ ap (l.page (f n).into) has.number;
        offset = has.offset;
      }
    ]

-- a byte's home has the class of its group
pub home_class : (l : Layout) (f : ℕ → Stage) (m : Entries) (n y x : ℕ) → IsOrderly l f → (h : HasHome l f m n y x) → l.class h.a ≡ l.class n
home_class l f m n y x orderly h = grind arith

-- a byte of a slot lies at one offset of one group
pub same_offset : (l : Layout) (f : ℕ → Stage) (m : Entries) (arena : Pages) (n y x b z : ℕ) → IsLaidOut l f m arena → (h : HasHome l f m n y x)
    → IsHeldBy l f b (z / 4096) → page_of m (x / 4096) ≡ l.page b (z / 4096) → x % 4096 ≡ z % 4096 → (h.a ≡ b) × (y ≡ z)
same_offset l f m arena n y x b z laid h held page offset = grind arith

-- a slot and an offset in it are told by the offset among the group's bytes
pub slot_of : (k o k' o' size : ℕ) → o < size → o' < size → k * size + o ≡ k' * size + o' → (k ≡ k') × (o ≡ o')
slot_of k o k' o' size below below' same = grind (arith, div-mul-add k size o below)

-- an object's byte is one of its slot
pub live_byte : (l : Layout) (f : ℕ → Stage) (n k o x : ℕ) (slot : Slot) → (orderly : IsOrderly l f) → (live : IsLiveAt l n k o x slot)
    → IsByteAt l n (orderly.placed n k slot live.filled).place k o x
live_byte l f n k o x slot orderly live =
    let placed = orderly.placed n k slot live.filled in
    record {
      member = placed.member;
      below = placed.below;
      within = let fits = placed.fits in let within = live.within in omega (arith, fits, within);
      at = ap (λ (v : ℕ). slot_address v (l.class n) k + o) placed.first ∙ live.at;
    }

pub live_home : (l : Layout) (f : ℕ → Stage) (m : Entries) (arena : Pages) (n k o x : ℕ) (slot : Slot) → IsOrderly l f → IsLaidOut l f m arena
    → IsLiveAt l n k o x slot → HasHome l f m n (k * l.class n + o) x
live_home l f m arena n k o x slot orderly laid live = byte_home _ _ _ _ _ _ _ _ _ orderly laid (live_byte _ f _ _ _ _ slot orderly live)

-- a live byte's page is taken
pub live_taken : (l : Layout) (f : ℕ → Stage) (m : Entries) (arena : Pages) (n k o x : ℕ) (slot : Slot) → IsOrderly l f → IsLaidOut l f m arena
    → IsLiveAt l n k o x slot → IsMapped m (x / 4096) × IsTaken arena (page_of m (x / 4096))
live_taken l f m arena n k o x slot orderly laid live = grind (arith, live_home l f m arena n k o x slot orderly laid live)

-- two groups one of which holds a byte of the other are one, or one is the source of the other, or both go into one
shared_home : (l : Layout) (f : ℕ → Stage) (m : Entries) (n n' y y' x x' k : ℕ) (slot slot' : Slot) → IsOrderly l f
    → (h : HasHome l f m n y x) (h' : HasHome l f m n' y' x') → h.a ≡ h'.a → l.slot n k ≡ Some slot → l.slot n' k ≡ Some slot' → n ≡ n'
shared_home l f m n n' y y' x x' k slot slot' orderly h h' same filled filled' = grind arith

-- two live bytes of one place are one
pub one_place : (l : Layout) (f : ℕ → Stage) (m : Entries) (arena : Pages) (n k o x n' k' o' x' : ℕ) (slot slot' : Slot) → IsOrderly l f
    → IsLaidOut l f m arena → IsLiveAt l n k o x slot → IsLiveAt l n' k' o' x' slot' → page_of m (x / 4096) ≡ page_of m (x' / 4096)
    → x % 4096 ≡ x' % 4096 → x ≡ x'
one_place l f m arena n k o x n' k' o' x' slot slot' orderly laid live live' page offset =
    let h = live_home l f m arena n k o x slot orderly laid live in
    let h' = live_home l f m arena n' k' o' x' slot' orderly laid live' in
    let one = same_offset l f m arena n (k * l.class n + o) x h'.a (k' * l.class n' + o') laid h h'.held (page ∙ h'.page) (offset ∙ h'.offset) in
    let class : l.class n' ≡ l.class n = sym (home_class l f m n' (k' * l.class n' + o') x' orderly h') ∙ ap l.class (sym one.0)
    ∙ home_class l f m n (k * l.class n + o) x orderly h in
    let in_slot = (live_byte l f n k o x slot orderly live).within in
    let in_slot' = (live_byte l f n' k' o' x' slot' orderly live').within in
    let same = slot_of k o k' o' (l.class n) in_slot (omega (arith, in_slot', class)) (one.1 ∙ ap (λ (c : ℕ). k' * c + o') class) in
    let filled' : l.slot n' k ≡ Some slot' = ap (l.slot n') same.0 ∙ live'.filled in
    let group = shared_home l f m n n' (k * l.class n + o) (k' * l.class n' + o') x x' k slot slot' orderly h h' one.0 live.filled filled' in
    let slots : slot ≡ slot' = (let both : Some slot ≡ Some slot' = sym live.filled ∙ ap (λ (g : ℕ). l.slot g k) group ∙ filled' in cc both) in
    sym live.at ∙ (rw (slots, ← class, same.0, same.1) live'.at)
