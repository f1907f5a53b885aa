-- A span added, and an empty group given back.
use Rattle.std.proofs.Common.{◌≡◌, ◌≢◌, ℕ, ◌+◌, ◌-◌, ◌*◌, ◌/◌, ◌%◌, ◌<◌, ◌≤◌, true, false, List, Some, length, slice_index, ap, subst, sym, ◌∙◌, arith, inl, inr}
use Rattle.std.proofs.lemmas.Bool.Decides.{eqb_tells, leb_tells}
use Rattle.std.proofs.lemmas.Nat.{div-mul-add}
use Rattle.mesh_arena.specs.Pages.{Pages, IsTaken, byte_at}
use Rattle.mesh_class.specs.Classes.{pages_of}
use Rattle.model_heap.specs.Table.{Slot}
use Rattle.mesh_pagemap.specs.Entries.{Entries, IsMapped, is_mapped, page_of}
use Rattle.mesh_page_heap.specs.Growth.{MapsFirst, TakesAll}
use Rattle.mesh_page_heap.specs.Layout.{IsHeldBy, IsLaidOut, IsOrderly, IsPageOf, Layout, LiesAt, Stage, byte_in, idle}
use Rattle.mesh_page_heap.specs.StepChanges.{Drops, GivesGroup, Grows, Keeps, UnmapsGroup}
use Rattle.mesh_page_heap.proofs.Homes.{byte_page, live_byte, live_home, live_taken}
use Rattle.mesh_page_heap.proofs.MapSteps.{lies_entry}
use Rattle.mesh_page_heap.proofs.Merges.{lies_same}
use Rattle.mesh_page_heap.proofs.Pages.{held_was, no_page, page_join, page_same, page_same_back}
use Rattle.mesh_page_heap.proofs.PageSteps.{has_copy}

-- a number without members is no destination
into_group : (l : Layout) (f : ℕ → Stage) (n g : ℕ) → IsOrderly l f → l.members g ≡ 0 → n ≢ g → (f n).into ≢ g
into_group l f n g orderly none other into = grind arith

-- and no source
pub no_source : (l : Layout) (f : ℕ → Stage) (g : ℕ) → IsOrderly l f → l.members g ≡ 0 → f g ≡ idle g
no_source l f g orderly none = grind arith

-- a span added on unused virtual pages, over pages that were free
module _ (l l' : Layout) (f : ℕ → Stage) (m m' : Entries) (arena arena' : Pages) (g class next : ℕ) (pages : List ℕ) (orderly : IsOrderly l f)
    (laid : IsLaidOut l f m arena) (grows : Grows l l' g class next pages) (fresh : (v : ℕ) → next ≤ v → is_mapped m v ≡ false)
    (count : length pages ≡ pages_of class) (takes : TakesAll arena arena' pages) (maps : MapsFirst m m' next pages (length pages)) where
  low_page : (v : ℕ) → IsMapped m v → v < next
  low_page v mapped = grind arith

  was_page : (n i v : ℕ) → n ≢ g → IsPageOf l' n i v → IsPageOf l n i v
  was_page n i v other page = page_same l l' n i v (grows.class n other) (grows.members n other) (λ place below. grows.first n place other below) page

  idle_g : f g ≡ idle g
  idle_g = no_source l f g orderly grows.none

  p_is : pages_of (l'.class g) ≡ length pages
  p_is = ap pages_of grows.class_is ∙ sym count

  -- the pages of the new group
  grown_page : (i v : ℕ) → IsPageOf l' g i v → (i < length pages) × (next + i ≡ v) × (i % pages_of (l'.class g) ≡ i)
  grown_page i v page = grind (arith, div-mul-add 0 (pages_of (l'.class g)) i)

  grown_lies : (i v : ℕ) → IsPageOf l' g i v → LiesAt l' m' g (idle g) i v
  grown_lies i v page = let at = grown_page i v page in record {
    mapped = maps.mapped i v at.0 at.1;
    home = λ h. maps.page i v at.0 at.1 ∙ sym (grows.pages_are i) ∙ ap (l'.page g) (sym at.2);
    away = λ h. absurd (omega (arith, h));
    locked = λ low high. absurd (omega (arith, high));
    writable = λ h. maps.writable i v at.0 at.1;
  }

  held_before : (n j : ℕ) → n ≢ g → IsHeldBy l' f n j → IsHeldBy l f n j
  held_before n j other = held_was l l' f f n j (grows.members n other) (grows.class n other) (omega arith)

  new_page : (n j : ℕ) → n ≡ g → IsHeldBy l' f n j → (j < length pages) × (l'.page n j ≡ slice_index pages j)
  new_page n j is held = let here : IsHeldBy l' f g j = rw is at held in (omega (arith, here.within, p_is), rw is (grows.pages_are j))

  not_new : (n j k : ℕ) → n ≢ g → IsHeldBy l' f n j → k < length pages → l'.page n j ≢ slice_index pages k
  not_new n j k other held below same = grind arith

  pub grow_laid : IsLaidOut l' f m' arena'
  grow_laid = record {
    each = λ n i v page. elim (eqb_tells n g) [
      | inl same ↦ rw (same.1, idle_g) (grown_lies i v (rw same.1 at page))
      | inr other ↦
          let was = laid.each n i v (was_page n i v other.1 page) in
          let low = low_page v was.mapped in
          lies_entry l' m m' n (f n) i v (maps.below v low) (maps.below_page v low) (maps.below_writable v low)
          (lies_same l l' m n (f n) i v (grows.class n other.1) (λ j. grows.page n j other.1)
          (λ j. grows.page (f n).into j (into_group l f n g orderly grows.none other.1)) was)
    ];
    only = λ v mapped. elim (leb_tells next v) [
      | inr low ↦ let page = laid.only v (sym (maps.below v low.1) ∙ mapped) in
          let other : page.n ≢ g = (λ same. no_page l page.n page.i v (ap l.members same ∙ grows.none) page.is) in
          record {
            n = page.n;
            i = page.i;
            is = page_same_back l l' page.n page.i v (grows.class page.n other) (grows.members page.n other)
                (λ place below. grows.first page.n place other below) page.is;
          }
      | inl high ↦ elim (leb_tells (next + length pages) v) [
        | inl above ↦ absurd (let two : true ≡ false = sym mapped ∙ maps.above v above.1 in cc two)
        | inr within ↦ record {
          n = g;
          i = 0 * pages_of (l'.class g) + (v - next);
          is = page_join l' g 0 (v - next) v (let one = grows.one in omega (arith, one)) (let in_new = within.1 in let from = high.1 in omega (arith, in_new, from, p_is))
              (let at = grows.at in let from = high.1 in omega (arith, at, from));
        }
      ]
    ];
    taken = λ n j held. elim (eqb_tells n g) [
      | inl same ↦ let is = new_page n j same.1 held in rw is.1 (takes.taken j is.0)
      | inr other ↦ subst (λ (p : ℕ). IsTaken arena' p) (sym (grows.page n j other.1)) (takes.kept (l.page n j) (laid.taken n j (held_before n j other.1 held)))
    ];
    apart = λ n j n' j' held held' same. elim (eqb_tells n g) [
      | inr other ↦ elim (eqb_tells n' g) [
        | inr other' ↦ laid.apart n j n' j' (held_before n j other.1 held) (held_before n' j' other'.1 held')
            (sym (grows.page n j other.1) ∙ same ∙ grows.page n' j' other'.1)
        | inl new' ↦ let is = new_page n' j' new'.1 held' in absurd (not_new n j j' other.1 held is.0 (same ∙ is.1))
      ]
      | inl new ↦ let is = new_page n j new.1 held in elim (eqb_tells n' g) [
        | inr other' ↦ absurd (not_new n' j' j other'.1 held' is.0 (sym same ∙ is.1))
        | inl new' ↦ let is' = new_page n' j' new'.1 held' in elim (eqb_tells j j') [
          | inl one ↦ (new.1 ∙ sym new'.1, one.1)
          | inr two ↦ absurd (takes.apart j j' is.0 is'.0 two.1 (sym is.1 ∙ same ∙ is'.1))
        ]
      ]
    ];
    copies = λ n k o slot filled within below. elim (eqb_tells n g) [
      | inl same ↦ absurd (let few : k < 0 = subst (λ (c : Stage). k < c.copied) idle_g (subst (λ (x : ℕ). k < (f x).copied) same.1 below) in omega (arith, few))
      | inr other ↦
          subst (λ (c : ℕ). byte_in l' arena' (f n).into (k * c + o) ≡ byte_in l' arena' n (k * c + o)) (sym (grows.class n other.1))
          (let y : ℕ = k * l.class n + o in
          let filled' : l.slot n k ≡ Some slot = sym (grows.slot n k other.1) ∙ filled in
          let has = has_copy l f n k o slot orderly filled' within below in
          ap (λ (q : ℕ). byte_at arena' q (y % 4096)) (grows.page (f n).into (y / 4096) (into_group l f n g orderly grows.none other.1))
          ∙ takes.same_bytes (l.page (f n).into (y / 4096)) (y % 4096) (laid.taken (f n).into (y / 4096) has.there)
          ∙ laid.copies n k o slot filled' within below
          ∙ sym (ap (λ (q : ℕ). byte_at arena' q (y % 4096)) (grows.page n (y / 4096) other.1)
          ∙ takes.same_bytes (l.page n (y / 4096)) (y % 4096) (laid.taken n (y / 4096) has.here)))
    ];
  }

  pub grow_keeps : Keeps l arena arena' m m'
  grow_keeps = record {
    each = λ n k o x slot live.
        let was = live_taken l f m arena n k o x slot orderly laid live in
        ap (λ (p : ℕ). byte_at arena' p (x % 4096)) (maps.below_page (x / 4096) (low_page (x / 4096) was.0))
        ∙ takes.same_bytes (page_of m (x / 4096)) (x % 4096) was.1;
    same_length = takes.same_length;
  }

-- an empty group that is in no mesh given back, with all its virtual pages
module _ (l l' : Layout) (f : ℕ → Stage) (m m' : Entries) (arena arena' : Pages) (g : ℕ) (orderly : IsOrderly l f) (laid : IsLaidOut l f m arena)
    (some : 0 < l.members g) (empty : (k : ℕ) (slot : Slot) → l.slot g k ≡ Some slot → ⊥) (own : (f g).into ≡ g)
    (calm : (n : ℕ) → n ≢ g → (f n).into ≢ g) (drops : Drops l l' g) (unmaps : UnmapsGroup l m m' g) (gives : GivesGroup l arena arena' g) where
  page_was : (n i v : ℕ) → n ≢ g → IsPageOf l' n i v → IsPageOf l n i v
  page_was n i v other page = page_same l l' n i v (drops.class n other) (drops.members n other) (λ place below. drops.first n place other) page

  not_swept : (n i v : ℕ) → n ≢ g → IsPageOf l n i v → (i' : ℕ) → IsPageOf l g i' v → ⊥
  not_swept n i v other page i' page' = other (orderly.once n i g i' v page page').0

  was_held : (n j : ℕ) → IsHeldBy l' f n j → (n ≢ g) × IsHeldBy l f n j
  was_held n j held = grind arith

  -- a page that another group holds is none of those given back
  not_given : (n i : ℕ) → n ≢ g → IsHeldBy l f n i → (j : ℕ) → j < pages_of (l.class g) → l.page g j ≢ l.page n i
  not_given n i other held j within same = grind arith

  pub sweep_laid : IsLaidOut l' f m' arena'
  sweep_laid = record {
    each = λ n i v page. elim (eqb_tells n g) [
      | inl same ↦ absurd (no_page _ _ _ _ drops.gone (rw same.1 at page))
      | inr other ↦
          let was = page_was _ _ _ other.1 page in
          let none = not_swept _ _ _ other.1 was in
          lies_entry _ _ _ _ _ _ _ (unmaps.mapped v none) (unmaps.pages v none) (unmaps.locks v none)
          (lies_same _ _ _ _ _ _ _ (drops.class n other.1) (λ j. drops.page n j other.1) (λ j. drops.page (f n).into j (calm n other.1)) (laid.each n i v was))
    ];
    only = λ v mapped. let page = laid.only v (unmaps.none v mapped) in
        let other : page.n ≢ g = (λ same. let none = unmaps.gone page.i v (subst (λ (x : ℕ). IsPageOf l x page.i v) same page.is) in
        let two : true ≡ false = sym mapped ∙ none in cc two) in
        record {
          n = page.n;
          i = page.i;
          is = page_same_back _ _ _ _ _ (drops.class page.n other) (drops.members page.n other) (λ place below. drops.first page.n place other) page.is;
        };
    taken = λ n j held. let was = was_held _ _ held in
        subst (λ (p : ℕ). IsTaken arena' p) (sym (drops.page n j was.0)) (gives.kept (l.page n j) (not_given _ _ was.0 was.1) ∙ laid.taken n j was.1);
    apart = λ n j n' j' held held' same. let was = was_held _ _ held in let was' = was_held _ _ held' in
        laid.apart n j n' j' was.1 was'.1 (sym (drops.page n j was.0) ∙ same ∙ drops.page n' j' was'.0);
    copies = λ n k o slot filled within below. elim (eqb_tells n g) [
      | inl same ↦ absurd (let few : k < 0 = subst (λ (c : Stage). k < c.copied) (orderly.idle g own) (subst (λ (x : ℕ). k < (f x).copied) same.1 below) in
          omega (arith, few))
      | inr other ↦
          subst (λ (c : ℕ). byte_in l' arena' (f n).into (k * c + o) ≡ byte_in l' arena' n (k * c + o)) (sym (drops.class n other.1))
          (let y : ℕ = k * l.class n + o in
          let filled' : l.slot n k ≡ Some slot = sym (drops.slot n k other.1) ∙ filled in
          let has = has_copy _ _ _ _ _ _ orderly filled' within below in
          ap (λ (q : ℕ). byte_at arena' q (y % 4096)) (drops.page (f n).into (y / 4096) (calm n other.1))
          ∙ gives.bytes (l.page (f n).into (y / 4096)) (y % 4096) (not_given _ _ (calm n other.1) has.there) ∙ laid.copies n k o slot filled' within below
          ∙ sym (ap (λ (q : ℕ). byte_at arena' q (y % 4096)) (drops.page n (y / 4096) other.1)
          ∙ gives.bytes (l.page n (y / 4096)) (y % 4096) (not_given _ _ other.1 has.here)))
    ];
  }

  pub sweep_keeps : Keeps l arena arena' m m'
  sweep_keeps = record {
    each = λ n k o x slot live.
        let other : n ≢ g = (λ same. empty k slot (ap (λ (a : ℕ). l.slot a k) (sym same) ∙ live.filled)) in
        let has = byte_page l f n (orderly.placed n k slot live.filled).place k o x orderly (live_byte l f n k o x slot orderly live) in
        let h = live_home l f m arena n k o x slot orderly laid live in
        let away : h.a ≢ g = elim h.whose [ inl here ↦ λ e. other (sym here.0 ∙ e) | inr there ↦ λ e. calm n other (sym there.0 ∙ e) ] in
        ap (λ (p : ℕ). byte_at arena' p (x % 4096)) (unmaps.pages (x / 4096) (not_swept n has.i (x / 4096) other has.page))
        ∙ gives.bytes (page_of m (x / 4096)) (x % 4096) (λ j within same. not_given h.a ((k * l.class n + o) / 4096) away h.held j within (same ∙ h.page));
    same_length = gives.same_length;
  }
