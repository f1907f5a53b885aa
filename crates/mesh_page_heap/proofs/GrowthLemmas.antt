-- One page more taken, given or mapped.
use Rattle.std.proofs.Common.{◌≡◌, ◌≢◌, ℕ, suc, ◌+◌, ◌<◌, ◌≤◌, true, false, List, [], ◌∷◌, ◌++◌, Option, Some, None, drop, length, set, slice_index, slice_index_or, ap, refl, sym, ◌∙◌, arith, inl, inr}
use Rattle.std.proofs.Math.ListN.{get_or-append, length-append}
use Rattle.std.proofs.Math.Seq.{drop-cons, get_or-append_seam}
use Rattle.std.proofs.lemmas.Bool.Decides.{eqb_tells, leb_tells}
use Rattle.std.proofs.lemmas.List.{get_or-set_other, set-get_or, set-set, set_comm}
use Rattle.mesh_arena.specs.Pages.{Pages, is_taken, IsTaken, Takes, Gives}
use Rattle.mesh_pagemap.specs.Entries.{Entries, Maps}
use Rattle.mesh_pagemap.specs.declared.prot.Prot.TheVariants.{ReadWrite}
use Rattle.mesh_page_heap.specs.Growth.{TakesAll, MapsFirst, AreTaken, given_back}

different : (a : Pages) (p q : ℕ) → IsTaken a p → is_taken a q ≡ false → p ≢ q
different a p q taken free same = let at : is_taken a p ≡ false = ap (λ (n : ℕ). is_taken a n) same ∙ free in cc

-- one page more taken
pub TakesAll_more : (old mid new : Pages) (pages : List ℕ) (page : ℕ) → TakesAll old mid pages → Takes mid new page
    → TakesAll old new (pages ++ page ∷ [])
TakesAll_more old mid new pages page were takes = record {
  were_free = λ k h. elim (leb_tells (length pages) k) [
    | inr before ↦ rw (at_old k before.1) (were.were_free k before.1)
    | inl last ↦ rw (at_new k h last.1) page_free
  ];
  taken = λ k h. elim (leb_tells (length pages) k) [
    | inr before ↦ rw (at_old k before.1) (takes.other_pages (slice_index pages k)
        (different _ _ _ (were.taken k before.1) takes.was_free) ∙ were.taken k before.1)
    | inl last ↦ rw (at_new k h last.1) takes.taken
  ];
  apart = λ k l h h' other. elim (leb_tells (length pages) k) [
    | inr before ↦ elim (leb_tells (length pages) l) [
      | inr before' ↦ rw (at_old k before.1, at_old l before'.1) (were.apart k l before.1 before'.1 other)
      | inl last' ↦ rw (at_old k before.1, at_new l h' last'.1) (different _ _ _ (were.taken k before.1) takes.was_free)
    ]
    | inl last ↦ elim (leb_tells (length pages) l) [
      | inr before' ↦ rw (at_new k h last.1, at_old l before'.1) (λ e. different _ _ _ (were.taken l before'.1) takes.was_free (sym e))
      | inl last' ↦ absurd (other (omega (arith, is_last k h last.1, is_last l h' last'.1)))
    ]
  ];
  kept = λ p h. takes.other_pages p (different _ _ _ (were.kept p h) takes.was_free) ∙ were.kept p h;
  others = λ p none. takes.other_pages p (λ e. none (length pages) (rw (length-append pages (page ∷ [])) (omega arith))
      (get_or-append_seam pages page [] 0 ∙ sym e))
      ∙ were.others p (λ k below e. none k (rw (length-append pages (page ∷ [])) (omega (arith, below))) (at_old k below ∙ e));
  same_bytes = λ p o h. takes.other_bytes p o (different _ _ _ (were.kept p h) takes.was_free) ∙ were.same_bytes p o h;
  fewer = rw (length-append pages (page ∷ [])) (omega (arith, were.fewer, takes.fewer));
  same_length = takes.same_length ∙ were.same_length;
}
  where
    at_old : (k : ℕ) → k < length pages → slice_index (pages ++ page ∷ []) k ≡ slice_index pages k
    at_old k h = get_or-append pages (page ∷ []) 0 k h

    is_last : (k : ℕ) → k < length (pages ++ page ∷ []) → length pages ≤ k → k ≡ length pages
    is_last k h last = omega (arith, h, last, length-append pages (page ∷ []))

    at_new : (k : ℕ) → k < length (pages ++ page ∷ []) → length pages ≤ k → slice_index (pages ++ page ∷ []) k ≡ page
    at_new k h last = rw (is_last k h last) (get_or-append_seam pages page [] 0)

    page_free : is_taken old page ≡ false
    page_free = elim (is_taken old page) as (λ b. is_taken old page ≡ b → b ≡ false) [
      | true ↦ λ e. let clash : true ≡ false = sym (were.kept page e) ∙ takes.was_free in clash
      | false ↦ λ e. refl
    ] refl

-- a page that isn't taken has no bytes
free_content : (a : Pages) (p : ℕ) → is_taken a p ≡ false → slice_index_or a p None ≡ None
unfolding is_taken
free_content a p h = grind arith

-- a free page that is freed stays as it is
freed_again : (a : Pages) (p : ℕ) (x : Option (List ℕ)) → slice_index_or a p None ≡ None → set (set a p x) p None ≡ a
freed_again a p x free = set-set a p x None ∙ ap (λ (o : Option (List ℕ)). set a p o) (sym free) ∙ set-get_or a p None

-- a page that was free, whatever it became, is free again after it was given back last
given_last : (a : Pages) (pages : List ℕ) (page : ℕ) (x : Option (List ℕ)) → slice_index_or a page None ≡ None
    → given_back (set a page x) (pages ++ page ∷ []) ≡ given_back a pages
given_last a [] page x free = freed_again a page x free
given_last a (p ∷ pages) page x free = elim (eqb_tells p page) [
  | inl same ↦ rw same.1 (ap (λ (b : Pages). given_back b (pages ++ page ∷ [])) (set-set a page x None)
      ∙ given_last a pages page None free
      ∙ ap (λ (b : Pages). given_back b pages) (sym (freed_again a page None free) ∙ set-set a page None None))
  | inr other ↦ ap (λ (b : Pages). given_back b (pages ++ page ∷ [])) (set_comm a page p x None (λ e. other.1 (sym e)))
      ∙ given_last (set a p None) pages page x (get_or-set_other a p page None None (λ e. other.1 (sym e)) ∙ free)
]

-- one page more is given back as the others are
pub given_back_more : (old mid new : Pages) (pages : List ℕ) (page : ℕ) (bytes : List ℕ) → given_back mid pages ≡ old → is_taken mid page ≡ false
    → new ≡ set mid page (Some bytes) → given_back new (pages ++ page ∷ []) ≡ old
given_back_more old mid new pages page bytes back free is =
    ap (λ (a : Pages). given_back a (pages ++ page ∷ [])) is ∙ given_last mid pages page (Some bytes) (free_content mid page free) ∙ back

-- the pages from the n-th on are taken
pub record AreTakenFrom (a : Pages) (pages : List ℕ) (n : ℕ) : Type 0 where
  pub each : (k : ℕ) → n ≤ k → k < length pages → IsTaken a (slice_index pages k)

-- the others stay taken where one of them is given
pub taken_after : (old mid new : Pages) (pages : List ℕ) (n page : ℕ) → AreTaken old pages → slice_index pages n ≡ page → n < length pages
    → AreTakenFrom mid pages n → Gives mid new page → AreTakenFrom new pages (n + 1)
taken_after old mid new pages n page taken at below were gives = grind arith

-- what is left to give after one page more
pub given_step : (mid new : Pages) (pages : List ℕ) (n page : ℕ) → n < length pages → slice_index pages n ≡ page → new ≡ set mid page None
    → given_back new (drop (n + 1) pages) ≡ given_back mid (drop n pages)
given_step mid new pages n page below at is =
    ap (λ (a : Pages). given_back a (drop (n + 1) pages)) (is ∙ ap (λ (p : ℕ). set mid p None) (sym at))
    ∙ ap (λ (k : ℕ). given_back (set mid (slice_index pages n) None) (drop k pages)) next
    ∙ ap (λ (ps : List ℕ). given_back mid ps) (sym (drop-cons pages n 0 below))
  where
    next : n + 1 ≡ suc n
    next = omega arith

-- one page more mapped
pub MapsFirst_more : (old mid new : Entries) (first : ℕ) (pages : List ℕ) (n vpage page : ℕ) → slice_index pages n ≡ page → first + n ≡ vpage
    → MapsFirst old mid first pages n → Maps mid new vpage page ReadWrite → MapsFirst old new first pages (n + 1)
MapsFirst_more old mid new first pages n vpage page at here were maps = record {
  mapped = λ k v h e. elim (eqb_tells v vpage) [
    | inl same ↦ rw same.1 maps.mapped
    | inr other ↦ let o = other.1 in maps.other_mapped v o ∙ were.mapped k v (earlier k v h e o) e
  ];
  page = λ k v h e. elim (eqb_tells v vpage) [
    | inl same ↦ let last : k ≡ n = omega (arith, same.1, e, here) in rw (same.1, last) (maps.page ∙ sym at)
    | inr other ↦ let o = other.1 in maps.other_pages v o ∙ were.page k v (earlier k v h e o) e
  ];
  writable = λ k v h e. elim (eqb_tells v vpage) [
    | inl same ↦ rw same.1 maps.read_only
    | inr other ↦ let o = other.1 in maps.other_read_only v o ∙ were.writable k v (earlier k v h e o) e
  ];
  above = λ v h. let o : v ≢ vpage = omega (arith, h, here) in maps.other_mapped v o ∙ were.above v (omega (arith, h));
  above_writable = λ v h. let o : v ≢ vpage = omega (arith, h, here) in maps.other_read_only v o ∙ were.above_writable v (omega (arith, h));
  below = λ v h. let o : v ≢ vpage = omega (arith, h, here) in maps.other_mapped v o ∙ were.below v h;
  below_page = λ v h. let o : v ≢ vpage = omega (arith, h, here) in maps.other_pages v o ∙ were.below_page v h;
  below_writable = λ v h. let o : v ≢ vpage = omega (arith, h, here) in maps.other_read_only v o ∙ were.below_writable v h;
}
  where
    earlier : (k v : ℕ) → k < n + 1 → first + k ≡ v → v ≢ vpage → k < n
    earlier k v h e o = omega (arith, h, e, o, here)
