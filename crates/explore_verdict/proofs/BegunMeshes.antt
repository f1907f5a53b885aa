-- The phases of a listing have a mesh that has begun exactly if it has begun in some listed state.
use Rattle.std.proofs.Common.{◌≡◌, ◌&&◌, ℕ, Bool, true, false, List, Some, nat_eq, slice_get, subst, ap, ◌∙◌, refl, ◌++◌, append_assoc}
use Rattle.std.proofs.lemmas.Bool.{eq-eqb, eqb-true}
use Rattle.std.proofs.lemmas.List.Folds.{Any-from_list_any}
use Rattle.std.proofs.lemmas.Map.Keys.{any_passes_from_place}
use Rattle.std.proofs.lemmas.Option.{slice_get-get_or}
use Rattle.std.specs.Cmp.Derive.{both_true}
use Rattle.explore_interleavings.specs.ExploreStates.{ExploreState, Setting, move_after, move_count}
use Rattle.explore_report.specs.Listings.{IsListing, IsOfSome}
use Rattle.explore_report.specs.Phases.{phase_at}
use Rattle.explore_report.specs.declared.listing.Listing.{Listing}
use Rattle.explore_report.specs.declared.notes.PhaseAt.{PhaseAt}
use Rattle.states_reach.specs.Reach.{IsReachable}
use Rattle.explore_verdict.specs.Begun.{BegunMeshesAreListed, IsBegunAt, begins_in, has_begun, is_begun_at}

-- two tests that are both passed
and_true : (a b : Bool) → (a && b) ≡ true → (a ≡ true) × (b ≡ true)
and_true true b is = (refl, is)
and_true false b is = absurd (let no : false ≡ true = is in cc no)

module _ (x : Setting) (states : List ExploreState) (IsMeant : ExploreState → Type 0) (listing : Listing) (lists : IsListing x states IsMeant listing) (mesher : ℕ) where
  -- what is listed
  begun_in : begins_in listing.phases.items mesher ≡ true → IsOfSome IsMeant (IsBegunAt x mesher)
  begun_in is =
      let any = Any-from_list_any (is_begun_at mesher) listing.phases.items is in
      let at = any.1 in
      let both = and_true (nat_eq at.mesher mesher) (has_begun at.phase) any.4 in
      let there : slice_get listing.phases.items any.0 ≡ Some at = slice_get-get_or listing.phases.items any.0 at any.2 ∙ ap Some any.3 in
      let seen = (lists.phases at).0 (any.0, there) in (
        seen.0,
        (
          seen.1.0,
          record {
            phase = at.phase;
            is = subst (λ n. phase_at x seen.0 n ≡ Some at.phase) (eqb-true at.mesher mesher both.0) seen.1.1;
            begun = both.1;
          },
        ),
      )

  -- what has begun
  listed_in : IsOfSome IsMeant (IsBegunAt x mesher) → begins_in listing.phases.items mesher ≡ true
  listed_in seen =
      let begun = seen.1.1 in
      let at : PhaseAt = record { mesher = mesher; phase = begun.phase } in
      let kept = (lists.phases at).1 (seen.0, (seen.1.0, begun.is)) in
      any_passes_from_place (is_begun_at mesher) listing.phases.items kept.0 at kept.1 (both_true (eq-eqb mesher mesher refl) begun.begun)

pub begun_are_listed : BegunMeshesAreListed
begun_are_listed x states listing all mesher =
    let IsMeant = IsReachable (move_after x) (move_count x) all.start in
    (begun_in x states IsMeant listing all.lists mesher, listed_in x states IsMeant listing all.lists mesher)

-- five texts, one behind another
pub five_written : (t words a colon b end t1 t2 t3 t4 t5 : List ℕ) → t1 ≡ t ++ words → t2 ≡ t1 ++ a → t3 ≡ t2 ++ colon → t4 ≡ t3 ++ b → t5 ≡ t4 ++ end
    → t5 ≡ t ++ ((words ++ a ++ colon ++ b) ++ end)
five_written t words a colon b end t1 t2 t3 t4 t5 h1 h2 h3 h4 h5 = rw (h5, h4, h3, h2, h1) (simp append_assoc refl)
