-- The merge of two groups whose mesh has made all its steps.
use Rattle.std.proofs.Common.{◌≡◌, ◌≢◌, ℕ, ◌+◌, ◌-◌, ◌*◌, ◌/◌, ◌%◌, ◌<◌, ◌≤◌, ap, subst, refl, sym, ◌∙◌, arith, inl, inr}
use Rattle.std.proofs.lemmas.Bool.Decides.{eqb_tells, leb_tells}
use Rattle.std.proofs.lemmas.Nat.{div-add-mod', div-mul-add, mod-mul-add}
use Rattle.mesh_arena.specs.Pages.{Pages, IsTaken, byte_at}
use Rattle.mesh_class.specs.Classes.{pages_of}
use Rattle.mesh_pagemap.specs.Entries.{Entries}
use Rattle.mesh_page_heap.specs.Layout.{IsHeldBy, IsLaidOut, IsOrderly, IsPageOf, IsPair, IsSource, Layout, LiesAt, Stage, byte_in, idle, page_total, virtual_page}
use Rattle.mesh_page_heap.specs.StepChanges.{Merges, Moves}
use Rattle.mesh_page_heap.proofs.MapSteps.{after_move}
use Rattle.mesh_page_heap.proofs.Pages.{member_of, no_page, page_same, page_same_back}

-- a page that lies as a group's stage has it does so in another layout with the same pages
pub lies_same : (l l' : Layout) (m : Entries) (n : ℕ) (c : Stage) (i v : ℕ) → l'.class n ≡ l.class n → ((j : ℕ) → l'.page n j ≡ l.page n j)
    → ((j : ℕ) → l'.page c.into j ≡ l.page c.into j) → LiesAt l m n c i v → LiesAt l' m n c i v
lies_same l l' m n c i v class page into was = grind arith

-- once all pages of the source are given back, its members follow the destination's
module _ (l l' : Layout) (f f' : ℕ → Stage) (m : Entries) (arena : Pages) (s d : ℕ) (orderly : IsOrderly l f) (laid : IsLaidOut l f m arena)
    (to : (f s).into ≡ d) (two : d ≢ s) (all : page_total l s ≤ (f s).remapped) (unlocked : page_total l s ≤ (f s).locked_from)
    (merges : Merges l l' s d) (moves : Moves f f' s (idle s)) where
  source : IsSource f s
  source own = two (sym to ∙ own)

  apart_s : (n : ℕ) → n ≢ s → (f n).into ≢ s
  apart_s n other into = grind arith

  pair : IsPair l f s d
  pair = subst (λ (x : ℕ). IsPair l f s x) to (orderly.pair s source)

  class_d : l'.class d ≡ l.class d
  class_d = merges.class d two

  -- the pages of another group
  other_page : (n i v : ℕ) → n ≢ s → n ≢ d → IsPageOf l' n i v → IsPageOf l n i v
  other_page n i v not_s not_d page =
      page_same l l' n i v (merges.class n not_s) (merges.members n not_s not_d) (λ place below. merges.first n place not_s not_d) page

  other_page_back : (n i v : ℕ) → n ≢ s → n ≢ d → IsPageOf l n i v → IsPageOf l' n i v
  other_page_back n i v not_s not_d page =
      page_same_back l l' n i v (merges.class n not_s) (merges.members n not_s not_d) (λ place below. merges.first n place not_s not_d) page

  total_is : page_total l' d ≡ page_total l d + page_total l s
  total_is = rw (merges.more, class_d, pair.same_class) (omega (arith, (ap (λ (c : ℕ). l.members d * pages_of c) pair.same_class)))

  -- the first pages of the merged group are the destination's
  front_page : (i : ℕ) → i < page_total l d → virtual_page l' d i ≡ virtual_page l d i
  front_page i below = rw (class_d, merges.front (i / pages_of (l.class d)) (member_of (l.members d) (pages_of (l.class d)) i below)) refl

  some_page : (i : ℕ) → i % pages_of (l.class s) < pages_of (l.class s)
  some_page i = let class = (orderly.class s pair.source).some_page in omega (arith, class)

  -- its other pages are the source's
  back_number : (i : ℕ) → ((page_total l d + i) / pages_of (l.class s) ≡ l.members d + i / pages_of (l.class s))
      × ((page_total l d + i) % pages_of (l.class s) ≡ i % pages_of (l.class s))
  back_number i =
      let sum : (l.members d + i / pages_of (l.class s)) * pages_of (l.class s) + i % pages_of (l.class s) ≡ page_total l d + i
      = omega (arith, div-add-mod' i (pages_of (l.class s)), (ap (λ (c : ℕ). l.members d * pages_of c) pair.same_class)) in (
        ap (λ (x : ℕ). x / pages_of (l.class s)) (sym sum) ∙ div-mul-add (l.members d + i / pages_of (l.class s)) (pages_of (l.class s)) (i % pages_of (l.class s)) (some_page i),
        ap (λ (x : ℕ). x % pages_of (l.class s)) (sym sum) ∙ mod-mul-add (l.members d + i / pages_of (l.class s)) (pages_of (l.class s)) (i % pages_of (l.class s)) (some_page i),
      )

  class_s : l'.class d ≡ l.class s
  class_s = class_d ∙ pair.same_class

  back_page : (i : ℕ) → i < page_total l s → virtual_page l' d (page_total l d + i) ≡ virtual_page l s i
  back_page i below = rw (
    class_s,
    (back_number i).0,
    (back_number i).1,
    merges.back (i / pages_of (l.class s)) (member_of (l.members s) (pages_of (l.class s)) i below),
  ) refl

  -- the pages of the merged group lie home
  merged_lies : (i v : ℕ) → IsPageOf l' d i v → LiesAt l' m d (idle d) i v
  merged_lies i v page = elim (leb_tells (page_total l d) i) [
    | inr own ↦ let was = subst (λ (c : Stage). LiesAt l m d c i v) pair.quiet
        (laid.each d i v (record { within = own.1; at = sym (front_page i own.1) ∙ page.at })) in
        lies_same l l' m d (idle d) i v class_d (λ j. merges.page d j two) (λ j. merges.page d j two) was
    | inl from ↦
        let k : ℕ = i - page_total l d in
        let sum : page_total l d + k ≡ i = (let low = from.1 in omega (arith, low)) in
        let below : k < page_total l s = (let within = page.within in omega (arith, within, total_is, sum)) in
        let at : virtual_page l s k ≡ v = sym (back_page k below) ∙ ap (virtual_page l' d) sum ∙ page.at in
        let was = laid.each s k v (record { within = below; at = at }) in
        record {
          mapped = was.mapped;
          home = λ h. was.away (omega (arith, below, all)) ∙ ap (λ (x : ℕ). l.page x (k % pages_of (l.class s))) to
              ∙ sym (merges.page d (k % pages_of (l.class s)) two)
              ∙ ap (l'.page d) (sym (ap (λ (c : ℕ). i % pages_of c) class_s ∙ ap (λ (x : ℕ). x % pages_of (l.class s)) (sym sum) ∙ (back_number k).1));
          away = λ h. absurd (omega (arith, h));
          locked = λ low high. absurd (omega (arith, high));
          writable = λ h. was.writable (inl (omega (arith, below, unlocked)));
        }
  ]

  held_before : (n j : ℕ) → IsHeldBy l' f' n j → (n ≢ s) × IsHeldBy l f n j
  held_before n j held = grind arith

  pub merge_laid : IsLaidOut l' f' m arena
  merge_laid = record {
    each = λ n i v page. after_move f f' s (idle s) (λ k c. LiesAt l' m k c i v) moves n (λ e. absurd (no_page l' s i v merges.gone (rw e at page)))
        (λ not_s. elim (eqb_tells n d) [
          | inl same ↦ rw (same.1, pair.quiet) (merged_lies i v (rw same.1 at page))
          | inr not_d ↦ lies_same l l' m n (f n) i v (merges.class n not_s) (λ j. merges.page n j not_s) (λ j. merges.page (f n).into j (apart_s n not_s))
              (laid.each n i v (other_page n i v not_s not_d.1 page))
        ]);
    only = λ v mapped. let page = laid.only v mapped in elim (eqb_tells page.n s) [
      | inl same ↦ let is : IsPageOf l s page.i v = subst (λ (x : ℕ). IsPageOf l x page.i v) same.1 page.is in
          record {
            n = d;
            i = page_total l d + page.i;
            is = record { within = let within = is.within in omega (arith, within, total_is); at = back_page page.i is.within ∙ is.at };
          }
      | inr not_s ↦ elim (eqb_tells page.n d) [
        | inl same ↦ let is : IsPageOf l d page.i v = subst (λ (x : ℕ). IsPageOf l x page.i v) same.1 page.is in
            record {
              n = d;
              i = page.i;
              is = record { within = let within = is.within in omega (arith, within, total_is); at = front_page page.i is.within ∙ is.at };
            }
        | inr not_d ↦ record { n = page.n; i = page.i; is = other_page_back page.n page.i v not_s.1 not_d.1 page.is }
      ]
    ];
    taken = λ n j held. let was = held_before n j held in subst (λ (p : ℕ). IsTaken arena p) (sym (merges.page n j was.0)) (laid.taken n j was.1);
    apart = λ n j n' j' held held' same. let was = held_before n j held in let was' = held_before n' j' held' in
        laid.apart n j n' j' was.1 was'.1 (sym (merges.page n j was.0) ∙ same ∙ merges.page n' j' was'.0);
    copies = λ n k o slot filled within.
        after_move f f' s (idle s) (λ x c. k < c.copied → byte_in l' arena c.into (k * l'.class x + o) ≡ byte_in l' arena x (k * l'.class x + o)) moves n
        (λ e below. absurd (omega (arith, below)))
        (λ not_s below. elim (eqb_tells n d) [
          | inl same ↦ absurd (let few : k < 0 = rw (same.1, pair.quiet) at below in omega (arith, few))
          | inr not_d ↦ rw (merges.class n not_s)
              (let y : ℕ = k * l.class n + o in
              ap (λ (q : ℕ). byte_at arena q (y % 4096)) (merges.page (f n).into (y / 4096) (apart_s n not_s))
              ∙ laid.copies n k o slot (sym (merges.slot n k not_s not_d.1) ∙ filled) within below
              ∙ sym (ap (λ (q : ℕ). byte_at arena q (y % 4096)) (merges.page n (y / 4096) not_s)))
        ]);
  }
