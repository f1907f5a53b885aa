-- Where no group is empty, a sweep of all groups changes nothing.
use Rattle.std.proofs.Common.{◌≡◌, ℕ, ◌+◌, ◌≤◌, Bool, true, false, nat_lt, find, map, sum_by, List, [], ◌∷◌, Option, Some, None, Err, IsSome, ap, refl, subst, sym, ◌∙◌, arith, inl, inr}
use Rattle.std.proofs.lemmas.Bool.{lt-ltb}
use Rattle.std.proofs.lemmas.Bool.Decides.{eqb_tells, nat_tests}
use Rattle.std.proofs.lemmas.List.Sums.{sum_by-cons}
use Rattle.model_heap.specs.Sound.{AreSoundGroups}
use Rattle.model_heap.specs.Table.{Group, group_of, has_number, object_count, sweep}
use Rattle.model_words.specs.Classes.{pages_of, row_of}
use Rattle.model_words.specs.declared.refusals.Refusal.TheVariants.{NoGroup, NotEmpty}
use Rattle.mesh_spans.specs.Groups.{groups_of}
use Rattle.savings_replay.specs.ClassCounts.{empty_of, empty_pages}
use Rattle.savings_replay.specs.Placement.{IsPlacement, IsSwept, Placement, table_of}
use Rattle.savings_replay.specs.Sweeps.{sweep_each, table_after}

-- each group has an object
abbrev pub AreFilled : List Group → Type 0
AreFilled [] = Unit {0}
AreFilled (g ∷ groups) = (nat_lt 0 (object_count g) ≡ true) × AreFilled groups

-- so has each that is found among them
filled_found : (p : Group → Bool) (groups : List Group) (g : Group) → AreFilled groups → find p groups ≡ Some g → nat_lt 0 (object_count g) ≡ true
filled_found p [] g filled found = absurd (cc found)
filled_found p (x ∷ xs) g filled found = go (p x) refl (filled_found p xs g filled.1)
  where
    go : (b : Bool) → p x ≡ b → (find p xs ≡ Some g → nat_lt 0 (object_count g) ≡ true) → nat_lt 0 (object_count g) ≡ true
    go true is later = let same : Some x ≡ Some g = rw is at found in let this : x ≡ g = cc same in subst (λ y. nat_lt 0 (object_count y) ≡ true) this filled.0
    go false is later = later (rw is at found)

-- a class has a page
some_page : (class : ℕ) → IsSome (row_of class) → 1 ≤ pages_of class
unfolding pages_of
some_page class some = grind (arith, nat_tests)

-- where the empty groups have no pages
filled_groups : (groups : List Group) → AreSoundGroups groups → sum_by empty_of groups ≡ 0 → AreFilled groups
filled_groups [] sound none = tt
filled_groups (g ∷ groups) sound none =
    let split : sum_by empty_of (g ∷ groups) ≡ empty_of g + sum_by empty_of groups = sum_by-cons empty_of g groups in
    let rest : AreFilled groups = filled_groups groups sound.1 (omega (arith, split, none)) in
    let here : empty_of g ≡ 0 = omega (arith, split, none) in
    elim (eqb_tells (object_count g) 0) [
      | inl empty ↦ let pages : pages_of g.class ≡ 0 = rw empty.0 at here in absurd (omega (arith, pages, some_page g.class sound.0.class))
      | inr filled ↦ (lt-ltb 0 (object_count g) (omega (arith, filled.1)), rest)
    ]

module _ (p : Placement) (filled : AreFilled (groups_of p.index)) where
  sweep_stays : (n : ℕ) → table_after (table_of p) (sweep (table_of p) n) ≡ table_of p
  sweep_stays n = go (group_of (table_of p) n) refl
    where
      go : (o : Option Group) → group_of (table_of p) n ≡ o → table_after (table_of p) (sweep (table_of p) n) ≡ table_of p
      go None none = let refused : sweep (table_of p) n ≡ Err NoGroup = rw none refl in ap (table_after (table_of p)) refused
      go (Some g) found =
          let some : nat_lt 0 (object_count g) ≡ true = filled_found (has_number n) (groups_of p.index) g filled found in
          let refused : sweep (table_of p) n ≡ Err NotEmpty = rw (found, some) refl in ap (table_after (table_of p)) refused

  each_stays : (numbers : List ℕ) → sweep_each numbers (table_of p) ≡ table_of p
  each_stays [] = refl
  each_stays (n ∷ numbers) = ap (sweep_each numbers) (sweep_stays n) ∙ each_stays numbers

pub none_swept : (p : Placement) → IsPlacement p → empty_pages (table_of p) ≡ 0 → IsSwept p p
none_swept p kept none =
    let filled = filled_groups (groups_of p.index) kept.sound.groups none in record {
      table = sym (each_stays p filled (map (λ g. g.number) (groups_of p.index)));
      serial = refl;
      records = λ span k. refl;
      addresses = λ span k below. refl;
    }
