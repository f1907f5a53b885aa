-- If all calls are sorted by keys within them, and each cell's calls can be taken in this order, it is an order that
-- explains them.
use Rattle.std.proofs.Common.{◌≡◌, ℕ, ◌+◌, ◌*◌, ◌<◌, ◌≤◌, true, List, arith, refl, sym, subst, ◌∙◌, inl, inr, Some}
use Rattle.std.specs.List.Sorted.{IsPermutation}
use Rattle.std.proofs.lemmas.List.Sorted.{IsPermutation-sym}
use Rattle.model_intervals.specs.Intervals.{Call, Explains, RespectsTime}
use Rattle.model_intervals.specs.KeyedOrders.{Keyed, calls_of}
use Rattle.model_intervals.specs.Objects.{Object as NewObject, IsExplainedByObject, IsFairNew, IsFreedBy}
use Rattle.model_intervals.specs.OverlappingCalls.{IsHistory}
use Rattle.model_intervals.proofs.FreedBetween.{IsBetween, IsParted, all_go}
use Rattle.model_intervals.proofs.ByObject.{OneIsFreed, nothing, starts_unmade, ready_first}
use Rattle.model_intervals.proofs.AfterStep.{frees_from, frees_own}
use Rattle.model_intervals.proofs.AccessKeys.{IsWithin}
use Rattle.model_intervals.proofs.MiddleForm.{GiveApart, IsFresh, IsLegalFrom, frees, made_by, of_cell}
use Rattle.model_intervals.proofs.CellKeys.{HasOwnKey}
use Rattle.model_intervals.proofs.Lists.{Every, Has, Pairs, every_both, every_true, every_unmap, every_weaker, has_every, has_out, has_unmap, pairs_join, pairs_map, pairs_unmap, pairs_weaker}
use Rattle.model_intervals.proofs.Places.{all_pairs_from, every_from, has_from_place, mutual_from_places}
use Rattle.model_intervals.proofs.Merged.{Rises}
use Rattle.model_intervals.proofs.CellParts.{so_free, so_new}
use Rattle.model_intervals.proofs.Permuted.{every_permuted, has_permuted, mutual_permuted}
use Rattle.model_intervals.proofs.CellStates.{Leads, Live, CellState, Unmade, nothing_is_named, state_of}
use Rattle.model_intervals.proofs.StepFacts.{made_is_new, made_so, new_is_no_free}
use Rattle.model_intervals.proofs.FormToRun.{legal_runs}
use Rattle.model_intervals.proofs.CellTimes.{IsOneOf, all_one_of, before_free}

-- if the second call frees the object that the first call made, it begins after the first has ended
abbrev EndsBefore : Call → Call → Type 0
EndsBefore a f = (x : NewObject) → made_by a ≡ Some x → frees x.cell f ≡ true → a.end < f.begin

-- a list of all calls, sorted by keys within them, in which each cell's calls can be taken
pub record AreSorted (calls : List Call) (keyed : List Keyed) : Type 0 where
  pub same : IsPermutation (calls_of keyed) calls
  pub rise : Pairs Rises keyed
  pub within : Every IsWithin keyed
  pub keys : Every HasOwnKey keyed
  pub taken : (c : ℕ) → (t : CellState) × Leads Unmade (of_cell c (calls_of keyed)) t

-- calls that are sorted by keys within them respect time
pub keys_in_time : (keyed : List Keyed) → Pairs Rises keyed → Every IsWithin keyed → Pairs (λ front back. back.end < front.begin → ⊥) (calls_of keyed)
keys_in_time keyed rise within = pairs_map (λ (p : Keyed). p.call) IsWithin Rises (λ front back. back.end < front.begin → ⊥) keyed
    (λ p q le p_in q_in early. let low = p_in.0 in let high = q_in.1 in omega (arith, le, low, high, early)) rise within

module _ (calls : List Call) (history : IsHistory calls) (explained : IsExplainedByObject calls) (keyed : List Keyed) (sorted : AreSorted calls keyed) where
  back : IsPermutation calls (calls_of keyed)
  back = IsPermutation-sym (calls_of keyed) calls sorted.same

  in_time : RespectsTime (calls_of keyed)
  in_time = all_pairs_from (λ front back. back.end < front.begin → ⊥) (calls_of keyed) (keys_in_time keyed sorted.rise sorted.within)

  -- each `free` begins after its object's `new` has ended
  ends_before : Every (λ a. Every (EndsBefore a) calls) calls
  ends_before = every_weaker (IsOneOf calls history) (λ a. Every (EndsBefore a) calls) calls (λ a one. every_weaker (IsOneOf calls history) (EndsBefore a) calls
      (λ f one' x makes freed. before_free calls history x.cell a f one one' (new_is_no_free a.entry.command a.entry.reply x makes)
      (sym (made_so a.entry.command a.entry.reply x makes).0) freed) (all_one_of calls history)) (all_one_of calls history)

  keyed_ends : Every (λ (p : Keyed). Every (λ (f : Keyed). EndsBefore p.call f.call) keyed) keyed
  keyed_ends = every_weaker (λ (p : Keyed). Every (EndsBefore p.call) calls) (λ p. Every (λ (f : Keyed). EndsBefore p.call f.call) keyed) keyed
      (λ p h. every_unmap (λ (f : Keyed). f.call) (EndsBefore p.call) keyed (every_permuted (EndsBefore p.call) calls (calls_of keyed) back h))
      (every_unmap (λ (p : Keyed). p.call) (λ a. Every (EndsBefore a) calls) keyed (every_permuted (λ a. Every (EndsBefore a) calls) calls (calls_of keyed) back ends_before))

  -- if the ranges of two objects meet, one is freed no later than the other's `new` ends
  one_is_freed : Pairs (λ (p q : Keyed). OneIsFreed calls p.call q.call × OneIsFreed calls q.call p.call) keyed
  one_is_freed = pairs_unmap (λ (p : Keyed). p.call) (λ a b. OneIsFreed calls a b × OneIsFreed calls b a) keyed
      (mutual_permuted (OneIsFreed calls) calls (calls_of keyed) back
      (mutual_from_places (OneIsFreed calls) calls (λ i j a b apart at_i at_j x y makes_x makes_y meet. explained.apart i j a b x y apart (at_i, makes_x) (at_j, makes_y) meet)))

  -- that `free` is one of the sorted calls
  freed_among : (cell moment : ℕ) → IsFreedBy calls cell moment → Has (λ (f : Keyed). (frees cell f.call ≡ true) × (f.call.begin ≤ moment)) keyed
  freed_among cell moment freed = has_unmap (λ (f : Keyed). f.call) (λ f. (frees cell f ≡ true) × (f.begin ≤ moment)) keyed
      (has_permuted (λ f. (frees cell f ≡ true) × (f.begin ≤ moment)) calls (calls_of keyed) back
      (has_from_place (λ f. (frees cell f ≡ true) × (f.begin ≤ moment)) calls freed.place freed.free freed.there
      (frees_from cell freed.free (so_free freed.free.entry.command freed.frees) freed.names, freed.begun)))

  -- the facts of a keyed call that `parted` uses
  abbrev Known : Keyed → Type 0
  Known p = HasOwnKey p × Every (λ (f : Keyed). EndsBefore p.call f.call) keyed

  known : Every Known keyed
  known = every_both HasOwnKey (λ p. Every (λ (f : Keyed). EndsBefore p.call f.call) keyed) Known keyed (λ p own ends. (own, ends)) sorted.keys keyed_ends

  made_key : (p : Keyed) (x : NewObject) → HasOwnKey p → made_by p.call ≡ Some x → p.key ≡ 3 * p.call.end + 2
  made_key p x own makes = own.0 (so_new p.call.entry.command (made_is_new p.call.entry.command p.call.entry.reply x makes))

  freed_key : (cell : ℕ) (f : Keyed) → HasOwnKey f → frees cell f.call ≡ true → f.key ≡ 3 * f.call.begin
  freed_key cell f own freed = own.1 (frees_own cell f.call freed).0

  parted : (p q : Keyed) → Rises p q × (OneIsFreed calls p.call q.call × OneIsFreed calls q.call p.call) → Known p → Known q → IsParted keyed p q
  parted p q both p_is q_is x y makes_x makes_y meet = elim (both.1.0 x y makes_x makes_y meet) [
    | inl freed ↦ has_every (λ f. (frees x.cell f.call ≡ true) × (f.call.begin ≤ q.call.end)) (λ f. HasOwnKey f × EndsBefore p.call f.call) (IsBetween x.cell p.key q.key) keyed
        (λ f is known_f.
        let p_key = made_key p x p_is.0 makes_x in
        let q_key = made_key q y q_is.0 makes_y in
        let f_key = freed_key x.cell f known_f.0 is.0 in
        let ended = known_f.1 x makes_x is.0 in
        let begun = is.1 in
        (is.0, omega (arith, p_key, f_key, ended), omega (arith, q_key, f_key, begun)))
        (freed_among x.cell q.call.end freed)
        (every_both HasOwnKey (λ f. EndsBefore p.call f.call) (λ f. HasOwnKey f × EndsBefore p.call f.call) keyed (λ f own ends. (own, ends)) sorted.keys p_is.1)
    | inr freed ↦ absurd (has_out (λ (f : Keyed). ⊥) ⊥ keyed (λ f h. h)
        (has_every (λ f. (frees y.cell f.call ≡ true) × (f.call.begin ≤ p.call.end)) (λ f. EndsBefore q.call f.call) (λ f. ⊥) keyed
        (λ f is ends.
        let p_key = made_key p x p_is.0 makes_x in
        let q_key = made_key q y q_is.0 makes_y in
        let ended = ends y makes_y is.0 in
        let begun = is.1 in
        let le = both.0 in
        omega (arith, p_key, q_key, ended, begun, le))
        (freed_among y.cell p.call.end freed) q_is.1))
  ]

  all_parted : Pairs (IsParted keyed) keyed
  all_parted = pairs_weaker Known (λ p q. Rises p q × (OneIsFreed calls p.call q.call × OneIsFreed calls q.call p.call)) (IsParted keyed) keyed parted
      (pairs_join Rises (λ p q. OneIsFreed calls p.call q.call × OneIsFreed calls q.call p.call) keyed sorted.rise one_is_freed) known

  -- the calls of each cell can be taken in this order
  each_leads : (c : ℕ) → (t : CellState) × Leads (state_of nothing.memory c) (of_cell c (calls_of keyed)) t
  each_leads c = subst (λ s. (t : CellState) × Leads s (of_cell c (calls_of keyed)) t) (sym (starts_unmade c)) (sorted.taken c)

  legal : IsLegalFrom nothing (calls_of keyed)
  legal = record {
    each = each_leads;
    fair = every_permuted (λ call. IsFairNew call.entry.command call.entry.reply) calls (calls_of keyed) back
        (every_from (λ call. IsFairNew call.entry.command call.entry.reply) calls explained.fair);
    fresh = every_true (IsFresh nothing.serials) (calls_of keyed) (λ call x makes. refl);
    once = pairs_weaker (λ call. Unit {0}) (λ a b. GiveApart a b × GiveApart b a) GiveApart (calls_of keyed) (λ a b both u v. both.0)
        (mutual_permuted GiveApart calls (calls_of keyed) back
        (mutual_from_places GiveApart calls (λ i j a b apart at_i at_j x y makes_x makes_y. explained.serials_once i j a b x y apart (at_i, makes_x) (at_j, makes_y))))
        (every_true (λ call. Unit {0}) (calls_of keyed) (λ call. tt));
    live = λ c o is. absurd (let clash : Unmade ≡ Live o = sym (starts_unmade c) ∙ is in cc clash);
    clear = all_go keyed sorted.rise all_parted;
  }

  pub sorted_explains : Explains calls (calls_of keyed)
  sorted_explains =
      let run = legal_runs nothing (calls_of keyed) nothing_is_named (ready_first calls (calls_of keyed) history back) legal in
      record { same = sorted.same; in_time = in_time; end = run.0; legal = run.1 }
