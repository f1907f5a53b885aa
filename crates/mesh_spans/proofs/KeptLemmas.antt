-- What the keeper of the groups keeps, as one of them is taken out, put back or changed.
use Rattle.std.proofs.Common.{◌≡◌, ◌≢◌, ℕ, zero, suc, ◌<◌, List, [], ◌∷◌, ◌++◌, Option, Some, None, length, slice_set, IfSome, ap, subst, refl, sym, ◌∙◌, arith, inl, inr}
use Rattle.std.proofs.Math.ListN.{length-append, length-set}
use Rattle.std.proofs.lemmas.Bool.Decides.{eqb_tells}
use Rattle.std.proofs.lemmas.List.{get_or-set_other, get_or-set_same, set-set}
use Rattle.std.specs.FinSet.{FinSet, empty}
use Rattle.std.specs.Option.{option_map}
use Rattle.std.specs.Ordering.{nat_cmp}
use Rattle.mesh_spans.specs.Counts.{IsCounted, counts_of, with_group, without_group}
use Rattle.mesh_spans.specs.GroupBins.{AreMoved, bin_at, file_of, filed, is_at, unfiled}
use Rattle.mesh_spans.specs.Index.{GroupEntry, IsGroup, group_at}
use Rattle.mesh_spans.specs.Kept.{AreKept}
use Rattle.mesh_spans.specs.declared.totals.Totals.{Totals}
use Rattle.mesh_spans.proofs.CountLemmas.{IsCounted_back, IsCounted_changed, IsCounted_none, IsCounted_taken, counted_none}
use Rattle.mesh_spans.proofs.BinLemmas.{IsFiled_empty, IsFiled_moved}

-- no group
pub AreKept_empty : (bins : List (FinSet nat_cmp)) → length bins ≡ 30 → ((place : ℕ) → bin_at bins place ≡ empty) → AreKept [] bins (counts_of None)
AreKept_empty bins sized none = record {
  few = omega arith;
  each = λ n group at. cc at;
  filed = IsFiled_empty bins sized none;
  counted = counted_none;
}

-- one of the groups is another one, or none, that is in its bin and counted
AreKept_set : (groups : List (Option GroupEntry)) (bins after : List (FinSet nat_cmp)) (totals now : Totals) (n : ℕ) (x : Option GroupEntry) → n < length groups
    → IfSome x (λ group. IsGroup group) → AreMoved bins after n (file_of (group_at groups n)) (file_of x) → IsCounted (slice_set groups n x) now → AreKept groups bins totals
    → AreKept (slice_set groups n x) after now
AreKept_set groups bins after totals now n x below sound moves counted is = record {
  few = omega (arith, length-set groups n x, is.few);
  each = λ m group at. elim (eqb_tells m n) [
    | inl same ↦ subst (λ (o : Option GroupEntry). IfSome o (λ g. IsGroup g)) (sym here ∙ ap (group_at (slice_set groups n x)) (sym same.1) ∙ at) sound
    | inr other ↦ is.each m group (sym (there m other.1) ∙ at)
  ];
  filed = IsFiled_moved groups (slice_set groups n x) bins after n is.filed (rw here moves) there;
  counted = counted;
}
  where
    here : group_at (slice_set groups n x) n ≡ x
    here = get_or-set_same groups n x None below

    there : (m : ℕ) → m ≢ n → group_at (slice_set groups n x) m ≡ group_at groups m
    there m apart = get_or-set_other groups n m x None apart

-- a group is taken out
pub AreKept_taken : (groups : List (Option GroupEntry)) (bins : List (FinSet nat_cmp)) (totals : Totals) (n : ℕ) → n < length groups → AreKept groups bins totals
    → AreKept (slice_set groups n None) (unfiled bins n (file_of (group_at groups n))) (without_group totals (counts_of (group_at groups n)))
AreKept_taken groups bins totals n below is = AreKept_set _ _ _ _ _ _ _ below tt (inr refl) (IsCounted_taken _ _ _ below is.counted) is

-- a number that is none is a group
pub AreKept_back : (groups : List (Option GroupEntry)) (bins : List (FinSet nat_cmp)) (totals : Totals) (n : ℕ) (x : Option GroupEntry) → n < length groups
    → group_at groups n ≡ None → IfSome x (λ group. IsGroup group) → AreKept groups bins totals
    → AreKept (slice_set groups n x) (filed bins n (file_of x)) (with_group totals (counts_of x))
AreKept_back groups bins totals n x below none sound is =
    AreKept_set groups bins _ totals _ n x below sound (rw none (inr refl)) (IsCounted_back groups n x totals below none is.counted) is

-- a group is another one
pub AreKept_changed : (groups : List (Option GroupEntry)) (bins after : List (FinSet nat_cmp)) (totals : Totals) (n : ℕ) (x : Option GroupEntry) → n < length groups
    → IfSome x (λ group. IsGroup group) → AreMoved bins after n (file_of (group_at groups n)) (file_of x) → AreKept groups bins totals
    → AreKept (slice_set groups n x) after (with_group (without_group totals (counts_of (group_at groups n))) (counts_of x))
AreKept_changed groups bins after totals n x below sound moves is =
    AreKept_set groups bins after totals _ n x below sound moves (IsCounted_changed groups n x totals below is.counted) is

-- a number more that is no group
pub AreKept_none : (groups : List (Option GroupEntry)) (bins : List (FinSet nat_cmp)) (totals : Totals) → length groups < 65536 → AreKept groups bins totals
    → AreKept (groups ++ None ∷ []) bins totals
AreKept_none groups bins totals room is = record {
  few = omega (arith, length-append groups (None ∷ []), room);
  each = λ n group at. is.each n group (sym (none_more groups n) ∙ at);
  filed = record {
    sized = is.filed.sized;
    each = λ place n below. is.filed.each place n below ∙ ap (λ (o : Option GroupEntry). is_at (file_of o) place) (sym (none_more groups n));
  };
  counted = IsCounted_none groups totals is.counted;
}
  where
    none_more : (groups : List (Option GroupEntry)) (n : ℕ) → group_at (groups ++ None ∷ []) n ≡ group_at groups n
    none_more [] zero = refl
    none_more [] (suc n) = refl
    none_more (x ∷ groups) zero = refl
    none_more (x ∷ groups) (suc n) = none_more groups n

-- a group that was taken out is back, changed
pub changed_back : (old mid new : List (Option GroupEntry)) (n : ℕ) (group : GroupEntry) (change : GroupEntry → GroupEntry) → mid ≡ slice_set old n None
    → group_at old n ≡ Some group → new ≡ slice_set mid n (Some (change group)) → new ≡ slice_set old n (option_map change (group_at old n))
changed_back old mid new n group change taken at back = rw (back, taken, at) (set-set old n None (Some (change group)))
