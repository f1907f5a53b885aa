-- A release, and the merge of two groups whose mesh has made all its steps.
use Rattle.std.proofs.Common.{◌≡◌, ◌≢◌, ℕ, ◌+◌, ◌*◌, ◌/◌, ◌%◌, ◌<◌, ◌≤◌, ap, subst, refl, sym, ◌∙◌, arith, inl, inr}
use Rattle.mesh_arena.specs.Pages.{Gives, Pages}
use Rattle.mesh_class.specs.Classes.{pages_of, slots_of}
use Rattle.mesh_pagemap.specs.Entries.{Entries, page_of}
use Rattle.mesh_page_heap.specs.Layout.{idle, IsHeldBy, IsLaidOut, IsOrderly, IsSource, IsStage, Layout, Stage, byte_in, page_total}
use Rattle.mesh_page_heap.specs.StepChanges.{Keeps, Moves}
use Rattle.mesh_page_heap.proofs.Homes.{live_home}
use Rattle.mesh_page_heap.proofs.MapSteps.{after_move}
use Rattle.mesh_page_heap.proofs.PageSteps.{has_copy, held_before, lies_moved, source_apart}

-- a stage of a source stays in order
pub orderly_moves : (l : Layout) (f f' : ℕ → Stage) (s : ℕ) (c : Stage) → IsOrderly l f → IsSource f s → Moves f f' s c → c.into ≡ (f s).into
    → IsStage (page_total l s) (slots_of (l.class s)) c → IsOrderly l f'
orderly_moves l f f' s c orderly source moves same stage = record {
  class = orderly.class;
  once = orderly.once;
  placed = orderly.placed;
  idle = λ n. after_move f f' s c (λ x d. d.into ≡ x → d ≡ idle x) moves n (λ e own. absurd (source (sym same ∙ own))) (λ e. orderly.idle n);
  stage = λ n. after_move f f' s c (λ x d. IsStage (page_total l x) (slots_of (l.class x)) d) moves n (λ e. stage) (λ e. orderly.stage n);
  pair = λ n running.
      let was : IsSource f n = was_source n running in
      let pair = orderly.pair n was in
      rw (into n) (record {
        source = pair.source;
        destination = pair.destination;
        same_class = pair.same_class;
        apart = pair.apart;
        quiet = moves.others (f n).into (λ e. source_apart l f s n orderly source was (sym e)) ∙ pair.quiet;
      });
  one = λ n m running running' same_into. orderly.one n m (was_source n running) (was_source m running') (sym (into n) ∙ same_into ∙ into m);
}
  where
    into : (n : ℕ) → (f' n).into ≡ (f n).into
    into n = after_move f f' s c (λ x d. d.into ≡ (f x).into) moves n (λ e. same) (λ e. refl)

    was_source : (n : ℕ) → IsSource f' n → IsSource f n
    was_source n running own = running (into n ∙ own)

-- physical page `j` is given back
module _ (l : Layout) (f f' : ℕ → Stage) (m : Entries) (arena arena' : Pages) (s j : ℕ) (orderly : IsOrderly l f) (laid : IsLaidOut l f m arena)
    (source : IsSource f s) (within : j < pages_of (l.class s)) (at : (f s).released ≡ j) (all : page_total l s ≤ (f s).remapped)
    (none : (f s).copied ≡ 0) (gives : Gives arena arena' (l.page s j)) (moves : Moves f f' s (record (f s) { released = j + 1 })) where
  given_held : IsHeldBy l f s j
  given_held = record { group = (orderly.pair s source).source; within = within; kept = omega (arith, at) }

  before : (n i : ℕ) → IsHeldBy l f' n i → IsHeldBy l f n i
  before = held_before l f f' s (record (f s) { released = j + 1 }) moves (omega (arith, at))

  other_page : (n i : ℕ) → IsHeldBy l f n i → n ≢ s → l.page n i ≢ l.page s j
  other_page n i held other same = other (laid.apart n i s j held given_held same).0

  pub release_laid : IsLaidOut l f' m arena'
  release_laid = record {
    each = λ n i v page. lies_moved l f f' m s (record (f s) { released = j + 1 }) moves
        (λ i' w was. assumption)
        n i v (laid.each n i v page);
    only = laid.only;
    taken = λ n i held. gives.other_pages (l.page n i) (λ same.
        let one = laid.apart n i s j (before n i held) given_held same in
        let i_is = one.1 in omega (arith, held.kept, (ap (λ (x : ℕ). (f' x).released) one.0 ∙ ap (λ (c : Stage). c.released) moves.here), i_is))
        ∙ laid.taken n i (before n i held);
    apart = λ n i n' i' held held'. laid.apart n i n' i' (before n i held) (before n' i' held');
    copies = λ n k o slot filled inside.
        after_move f f' s (record (f s) { released = j + 1 }) (λ x c. k < c.copied → byte_in l arena' c.into (k * l.class x + o) ≡ byte_in l arena' x (k * l.class x + o)) moves n
        (λ e below. absurd (omega (arith, below, none)))
        (λ other below.
        let y : ℕ = k * l.class n + o in
        let has = has_copy l f n k o slot orderly filled inside below in
        gives.other_bytes (l.page (f n).into (y / 4096)) (y % 4096) (other_page (f n).into (y / 4096) has.there (λ e. source_apart l f s n orderly source has.source (sym e)))
        ∙ laid.copies n k o slot filled inside below
        ∙ sym (gives.other_bytes (l.page n (y / 4096)) (y % 4096) (other_page n (y / 4096) has.here other)));
  }

  pub release_keeps : Keeps l arena arena' m m
  release_keeps = record {
    each = λ n k o x slot live.
        let home = live_home _ _ _ _ _ _ _ _ _ orderly laid live in
        let y : ℕ = k * l.class n + o in
        gives.other_bytes (page_of m (x / 4096)) (x % 4096) (λ same. other_page _ _ home.held (elim home.whose [
          | inl own ↦ λ e. (let one : n ≡ s = sym own.0 ∙ e in
              let few : (f s).remapped < page_total l s = subst (λ (z : ℕ). (f z).remapped < page_total l z) one own.1 in omega (arith, few, all))
          | inr away ↦ λ e. source_apart _ _ _ _ orderly source away.1 (sym e ∙ away.0)
        ]) (sym home.page ∙ same));
    same_length = gives.same_length;
  }
