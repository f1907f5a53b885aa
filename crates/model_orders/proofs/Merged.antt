-- The facts of the rule, read as a statement on a page, and what moves keep of it.
use Rattle.std.proofs.Common.{◌≡◌, ℕ, inl, inr, Bool, true, false, ◌&&◌, ◌||◌, not, if◌then◌else◌, nat_eq, List, [], ◌∷◌, ap, refl, sym, subst, ◌∙◌}
use Rattle.std.proofs.lemmas.Bool.{and_left, and_parts, both_ways, cases_Bool, eqb-true}
use Rattle.model_orders.specs.declared.facts.Side.{Side}
use Rattle.model_orders.specs.declared.facts.Side.TheVariants.{Source, Destination}
use Rattle.model_orders.specs.Pages.{is_read_write, is_source, stored, with_at}
use Rattle.model_orders.specs.declared.facts.Truth.{Truth}
use Rattle.model_orders.specs.declared.facts.Truth.TheVariants.{InSource, InBoth, InDestination}
use Rattle.model_orders.specs.Rule.{is_settled, may_copy, truth_copied, truth_unprotected}
use Rattle.model_orders.proofs.Points.{Agree, by_test, copy_agrees, load_right, over_moved, release_agrees, released_target, reuse_agrees, store_agrees, unprotect_agrees}
use Rattle.model_orders.specs.Merging.{Facts, Page, Step, Move, Protect, Hide, Copy, Remap, Unprotect, Release, Look, Merge, Store, StoreOwn, Free, New, Reuse, Make, after, after_all, after_first, after_free, after_new, after_own_store, after_reuse, after_step, after_store, facts_after, is_copied, is_right, is_right_between, is_right_from, is_vacant, may_make, IsAtStart, IsLoadedRight, IsMoved}

abbrev pub facts_of : Page → Truth → Facts
facts_of page t = record { protection = page.protection; target = page.target; truth = t; released = page.released; looked = page.looked; merged = page.merged }

pub record IsExplained (page : Page) : Type 0 where
  pub truth : Truth
  pub agrees : (offset : ℕ) → page.live offset ≡ true → Agree truth (page.source offset) (page.destination offset) (page.memory offset)
  pub own : (offset : ℕ) → page.own offset ≡ true → page.destination offset ≡ page.memory offset
  pub apart : (offset : ℕ) → page.live offset ≡ true → page.own offset ≡ false
  pub seen : page.looked ≡ true → (offset : ℕ) → page.live offset ≡ true → page.seen offset ≡ true
  pub seen_apart : page.looked ≡ true → page.merged ≡ false → (offset : ℕ) → page.own offset ≡ true → page.seen offset ≡ false
  pub settled : is_settled page.protection page.target truth ≡ true
  pub kept : page.released ≡ true → (truth ≡ InDestination) × (page.target ≡ Destination)
  pub right : is_right_from (facts_of page truth) page.left ≡ true

-- ---- steps

no_copy : (t : Truth) → may_copy t ≡ true → t ≡ InDestination → ⊥
no_copy InSource may is = cc is
no_copy InBoth may is = cc is
no_copy InDestination may is = cc may

copied_true : (looked seen live : Bool) → (looked ≡ true → live ≡ true → seen ≡ true) → live ≡ true → (if looked then seen else live) ≡ true
copied_true true seen live h is_live = h refl is_live
copied_true false seen live h is_live = is_live

copied_false : (looked seen live : Bool) → (looked ≡ true → seen ≡ false) → live ≡ false → (if looked then seen else live) ≡ false
copied_false true seen live h is_live = h refl
copied_false false seen live h is_live = is_live

not_live : (live own : Bool) → (live ≡ true → own ≡ false) → own ≡ true → live ≡ false
not_live false own h is_own = refl
not_live true own h is_own = absurd (both_ways own (h refl) is_own)

not_merged : (looked merged : Bool) → not (looked && merged) ≡ true → looked ≡ true → merged ≡ false
not_merged true false may is = refl
not_merged true true may is = cc may
not_merged false merged may is = cc is

uncopied : (copied : Bool) (s d m : ℕ) → copied ≡ false → d ≡ m → (if copied then s else d) ≡ m
uncopied false s d m is h = h
uncopied true s d m is h = cc is

step_explained : (step : Step) (rest : List Step) (page : Page) (e : IsExplained page) → may_make step (facts_of page e.truth) ≡ true
    → is_right_between (facts_after step (facts_of page e.truth)) ≡ true → is_right_from (facts_after step (facts_of page e.truth)) rest ≡ true
    → IsExplained (record (after_step step page) { left = rest })
step_explained Protect rest page e may between right =
    record { truth = e.truth; agrees = e.agrees; own = e.own; apart = e.apart; seen = e.seen; seen_apart = e.seen_apart; settled = between; kept = e.kept; right = right }
step_explained Hide rest page e may between right =
    record { truth = e.truth; agrees = e.agrees; own = e.own; apart = e.apart; seen = e.seen; seen_apart = e.seen_apart; settled = between; kept = e.kept; right = right }
step_explained Copy rest page e may between right =
    let both = and_parts (may_copy e.truth) (not (page.looked && page.merged)) may in
    record {
      truth = truth_copied page.protection e.truth;
      agrees = λ x live. copy_agrees page.protection e.truth (is_copied page x) (page.source x) (page.destination x) (page.memory x)
          (copied_true page.looked (page.seen x) (page.live x) (λ looked here. e.seen looked x here) live) both.0 (e.agrees x live);
      own = λ x own. uncopied (is_copied page x) (page.source x) (page.destination x) (page.memory x)
          (copied_false page.looked (page.seen x) (page.live x) (λ looked. e.seen_apart looked (not_merged page.looked page.merged both.1 looked) x own)
          (not_live (page.live x) (page.own x) (e.apart x) own)) (e.own x own);
      apart = e.apart;
      seen = e.seen;
      seen_apart = e.seen_apart;
      settled = between;
      kept = λ released. absurd (no_copy e.truth both.0 (e.kept released).0);
      right = right;
    }
step_explained Remap rest page e may between right = record {
  truth = e.truth;
  agrees = e.agrees;
  own = e.own;
  apart = e.apart;
  seen = e.seen;
  seen_apart = e.seen_apart;
  settled = between;
  kept = λ released. ((e.kept released).0, refl);
  right = right;
}
step_explained Unprotect rest page e may between right = record {
  truth = truth_unprotected page.target e.truth;
  agrees = λ x live. unprotect_agrees page.target e.truth (page.source x) (page.destination x) (page.memory x) (e.agrees x live);
  own = e.own;
  apart = e.apart;
  seen = e.seen;
  seen_apart = e.seen_apart;
  settled = between;
  kept = λ released. (ap (truth_unprotected page.target) (e.kept released).0, (e.kept released).1);
  right = right;
}
step_explained Release rest page e may between right = record {
  truth = InDestination;
  agrees = λ x live. release_agrees page.target e.truth (page.source x) (page.destination x) (page.memory x) (and_parts _ _ may).0 (e.agrees x live);
  own = e.own;
  apart = e.apart;
  seen = e.seen;
  seen_apart = e.seen_apart;
  settled = between;
  kept = λ released. (refl, released_target page.target e.truth (and_parts _ _ may).0);
  right = right;
}
step_explained Look rest page e may between right = record {
  truth = e.truth;
  agrees = e.agrees;
  own = e.own;
  apart = e.apart;
  seen = λ looked x live. live;
  seen_apart = λ looked merged x own. not_live (page.live x) (page.own x) (e.apart x) own;
  settled = between;
  kept = e.kept;
  right = right;
}
step_explained Merge rest page e may between right = record {
  truth = e.truth;
  agrees = e.agrees;
  own = e.own;
  apart = e.apart;
  seen = e.seen;
  seen_apart = λ looked merged. absurd (cc merged);
  settled = between;
  kept = e.kept;
  right = right;
}

first_explained : (left : List Step) (page : Page) → page.left ≡ left → IsExplained page → IsExplained (after_first left page)
first_explained [] page same e = e
first_explained (step ∷ rest) page same e =
    let right = subst (λ steps. is_right_from (facts_of page e.truth) steps ≡ true) same e.right in
    let parts = and_parts _ _ right in
    let more = and_parts _ _ parts.1 in
    step_explained step rest page e parts.0 more.0 more.1

-- ---- commands

elsewhere : (here : Bool) (offset byte x : ℕ) (f g : ℕ → ℕ) → nat_eq x offset ≡ false → f x ≡ g x → stored here offset byte f x ≡ with_at g offset byte x
elsewhere true offset byte x f g apart h = rw apart h
elsewhere false offset byte x f g apart h = rw apart h

-- two bytes of which only one is the destination's are apart
offsets_apart : (page : Page) (x offset : ℕ) → page.own x ≡ false → page.own offset ≡ true → nat_eq x offset ≡ false
offsets_apart page x offset none some = elim (cases_Bool (nat_eq x offset)) [
  | inl same ↦ absurd (both_ways (page.own offset) (subst (λ y. page.own y ≡ false) (eqb-true x offset same) none) some)
  | inr apart ↦ apart
]

live_apart : (page : Page) (x offset : ℕ) → page.own x ≡ true → page.own offset ≡ false → nat_eq x offset ≡ false
live_apart page x offset some none = elim (cases_Bool (nat_eq x offset)) [
  | inl same ↦ absurd (both_ways (page.own offset) none (subst (λ y. page.own y ≡ true) (eqb-true x offset same) some))
  | inr apart ↦ apart
]

other_agrees : (t : Truth) (offset byte x s : ℕ) (d m : ℕ → ℕ) → nat_eq x offset ≡ false → Agree t s (d x) (m x) → Agree t s (with_at d offset byte x) (with_at m offset byte x)
other_agrees t offset byte x s d m apart h = rw apart h

store_explained : (offset byte : ℕ) (page : Page) → IsExplained page → IsExplained (after_store offset byte page)
store_explained offset byte page e = by_test (λ p. IsExplained p) (is_read_write page.protection && page.live offset) _ page
    (λ may.
    let parts = and_parts (is_read_write page.protection) (page.live offset) may in
    record {
      truth = e.truth;
      agrees = λ x live. store_agrees page.protection page.target e.truth offset byte x page.source page.destination page.memory parts.0 e.settled (e.agrees x live);
      own = λ x own. elsewhere (not (is_source page.target)) offset byte x page.destination page.memory (live_apart page x offset own (e.apart offset parts.1)) (e.own x own);
      apart = e.apart;
      seen = e.seen;
      seen_apart = e.seen_apart;
      settled = e.settled;
      kept = e.kept;
      right = e.right;
    })
    (λ blocked. e)

own_store_explained : (offset byte : ℕ) (page : Page) → IsExplained page → IsExplained (after_own_store offset byte page)
own_store_explained offset byte page e = by_test (λ p. IsExplained p) (page.own offset) _ page
    (λ mine. record {
      truth = e.truth;
      agrees = λ x live. other_agrees e.truth offset byte x (page.source x) page.destination page.memory (offsets_apart page x offset (e.apart x live) mine) (e.agrees x live);
      own = λ x own. ap (λ v. if nat_eq x offset then byte else v) (e.own x own);
      apart = e.apart;
      seen = e.seen;
      seen_apart = e.seen_apart;
      settled = e.settled;
      kept = e.kept;
      right = e.right;
    })
    (λ blocked. e)

free_explained : (freed : ℕ → Bool) (page : Page) → IsExplained page → IsExplained (after_free freed page)
free_explained freed page e = record {
  truth = e.truth;
  agrees = λ x live. e.agrees x (and_parts (page.live x) (not (freed x)) live).0;
  own = λ x own. e.own x (and_parts (page.own x) (not (freed x)) own).0;
  apart = λ x live. and_left (page.own x) (not (freed x)) (e.apart x (and_parts (page.live x) (not (freed x)) live).0);
  seen = λ looked x live. e.seen looked x (and_parts (page.live x) (not (freed x)) live).0;
  seen_apart = λ looked merged x own. e.seen_apart looked merged x (and_parts (page.own x) (not (freed x)) own).0;
  settled = e.settled;
  kept = e.kept;
  right = e.right;
}

not_vacant : (made live own : Bool) → live ≡ true → (made && not (live || own)) ≡ false
not_vacant true live own is = rw is refl
not_vacant false live own is = refl

unmade_agrees : (t : Truth) (vacant : Bool) (s d m : ℕ) → vacant ≡ false → Agree t s d m → Agree t s (if vacant then 0 else d) (if vacant then 0 else m)
unmade_agrees t false s d m is h = h
unmade_agrees t true s d m is h = cc is

own_made : (vacant own : Bool) (d m : ℕ) → (own ≡ true → d ≡ m) → (own || vacant) ≡ true → (if vacant then 0 else d) ≡ (if vacant then 0 else m)
own_made true own d m h is = refl
own_made false true d m h is = h refl
own_made false false d m h is = cc is

neither : (own vacant : Bool) → own ≡ false → vacant ≡ false → (own || vacant) ≡ false
neither own vacant x y = rw (x, y) refl

new_explained : (made : ℕ → Bool) (page : Page) → IsExplained page → IsExplained (after_new made page)
new_explained made page e = by_test (λ p. IsExplained p) page.merged _ page
    (λ merged. record {
      truth = e.truth;
      agrees = λ x live. unmade_agrees e.truth (is_vacant made page x) (page.source x) (page.destination x) (page.memory x) (not_vacant (made x) (page.live x) (page.own x) live)
          (e.agrees x live);
      own = λ x own. own_made (is_vacant made page x) (page.own x) (page.destination x) (page.memory x) (e.own x) own;
      apart = λ x live. neither (page.own x) (is_vacant made page x) (e.apart x live) (not_vacant (made x) (page.live x) (page.own x) live);
      seen = e.seen;
      seen_apart = λ looked unmerged. absurd (both_ways page.merged unmerged merged);
      settled = e.settled;
      kept = e.kept;
      right = e.right;
    })
    (λ closed. e)

reuse_explained : (offset byte : ℕ) (page : Page) → IsExplained page → IsExplained (after_reuse offset byte page)
reuse_explained offset byte page e = record {
  truth = e.truth;
  agrees = λ x live. reuse_agrees page.released e.truth offset byte x page.source (page.destination x) (page.memory x) (λ released. (e.kept released).0) (e.agrees x live);
  own = e.own;
  apart = e.apart;
  seen = e.seen;
  seen_apart = e.seen_apart;
  settled = e.settled;
  kept = e.kept;
  right = e.right;
}

at_explained : (pages : ℕ → Page) (place : ℕ) (page : Page) → IsExplained page → ((x : ℕ) → IsExplained (pages x)) → (x : ℕ) → IsExplained (with_at pages place page x)
at_explained pages place page e all x = by_test (λ p. IsExplained p) (nat_eq x place) page (pages x) (λ here. e) (λ other. all x)

move_explained : (move : Move) (pages : ℕ → Page) → ((x : ℕ) → IsExplained (pages x)) → (x : ℕ) → IsExplained (after move pages x)
move_explained (Store place offset byte) pages all = at_explained pages place _ (store_explained offset byte (pages place) (all place)) all
move_explained (StoreOwn place offset byte) pages all = at_explained pages place _ (own_store_explained offset byte (pages place) (all place)) all
move_explained (Free freed) pages all = λ x. free_explained (freed x) (pages x) (all x)
move_explained (New made) pages all = λ x. new_explained (made x) (pages x) (all x)
move_explained (Reuse place offset byte) pages all = at_explained pages place _ (reuse_explained offset byte (pages place) (all place)) all
move_explained (Make place) pages all = at_explained pages place _ (first_explained (pages place).left (pages place) refl (all place)) all

pub moves_explained : (moves : List Move) (pages : ℕ → Page) → ((x : ℕ) → IsExplained (pages x)) → (x : ℕ) → IsExplained (after_all moves pages x)
moves_explained [] pages all = all
moves_explained (move ∷ moves) pages all = moves_explained moves (after move pages) (move_explained move pages all)

-- ---- the first state, and loads

pub start_explained : (steps : List Step) (page : Page) → is_right steps ≡ true → IsAtStart steps page → IsExplained page
start_explained steps page right start = record {
  truth = InSource;
  agrees = start.bytes;
  own = start.own;
  apart = start.apart;
  seen = λ looked. absurd (both_ways page.looked start.looked looked);
  seen_apart = λ looked. absurd (both_ways page.looked start.looked looked);
  settled = rw (start.protection, start.target) refl;
  kept = λ released. absurd (both_ways page.released start.released released);
  right = rw (start.protection, start.target, start.released, start.looked, start.merged, start.left) right;
}

held : (released : Bool) (side : Side) → (released ≡ true → side ≡ Destination) → side ≡ Source → released ≡ false
held false side kept source = refl
held true side kept source = let both : Source ≡ Destination = sym source ∙ kept refl in absurd (cc both)

pub explained_right : (page : Page) → IsExplained page → IsLoadedRight page
explained_right page e = record {
  bytes = λ x live open_page. load_right page.protection page.target e.truth (page.source x) (page.destination x) (page.memory x) e.settled open_page (e.agrees x live);
  own = e.own;
  held = held page.released page.target (λ released. (e.kept released).1);
}

pub explained_moved : (page : Page) → IsExplained page → page.left ≡ [] → IsMoved page
explained_moved page e over =
    let moved = over_moved page.protection page.target page.released (subst (λ steps. is_right_from (facts_of page e.truth) steps ≡ true) over e.right) in
    record { protection = moved.0; target = moved.1; released = moved.2 }
