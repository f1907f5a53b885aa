-- Which meshes begin in no interleaving, and what a verdict says of them. This project's own choice.
use Rattle.std.specs.Prelude.{◌≡◌, ◌↔◌, ℕ, ◌+◌, Bool, true, false, ◌&&◌, if◌then◌else◌, nat_eq, List, [], ◌∷◌, ◌++◌, Some, codes, decimal}
use Rattle.std.specs.List.{list_any}
use Rattle.model_jobs.specs.Texts.{ended}
use Rattle.explore_interleavings.specs.ExploreStates.{ExploreState, Setting, move_after, move_count}
use Rattle.explore_interleavings.specs.declared.pair.MeshPair.{MeshPair}
use Rattle.explore_report.specs.Listings.{IsOfSome, ListsAll}
use Rattle.explore_report.specs.Phases.{phase_at}
use Rattle.explore_report.specs.declared.listing.Listing.{Listing}
use Rattle.explore_report.specs.declared.notes.PhaseAt.{PhaseAt}
use Rattle.states_reach.specs.Reach.{IsReachable}
use Rattle.explore_report.specs.declared.phase.LastStep.{LastStep}
use Rattle.explore_report.specs.declared.phase.LastStep.TheVariants.{Before, Begun, Stepped, Over, Cancelled, Unwound, Refused}

-- whether a mesh in this phase has begun
abbrev pub has_begun : LastStep → Bool
has_begun Before = false
has_begun Begun = true
has_begun (Stepped kind n) = true
has_begun Over = true
has_begun (Cancelled n) = true
has_begun Unwound = true
has_begun Refused = false

-- whether this is a phase of this mesher in which its mesh has begun
abbrev pub is_begun_at : ℕ → PhaseAt → Bool
is_begun_at mesher at = nat_eq at.mesher mesher && has_begun at.phase

-- whether the mesh of this mesher has begun in one of the phases
abbrev pub begins_in : List PhaseAt → ℕ → Bool
begins_in phases mesher = list_any (is_begun_at mesher) phases

-- the line for a mesh that never begins
abbrev pub unbegun_line : MeshPair → List ℕ
unbegun_line pair = ended (codes "no interleaving begins mesh " ++ decimal pair.source ++ codes ":" ++ decimal pair.destination)

-- the line for a mesh that begins in none of the phases. No line for another mesh
abbrev pub unbegun_at : List PhaseAt → ℕ → MeshPair → List ℕ
unbegun_at phases mesher pair = if begins_in phases mesher then [] else unbegun_line pair

-- the lines for the meshes that begin in none of the phases, in the order of the meshers. The first mesh is that of
-- this mesher
abbrev pub unbegun_from : List PhaseAt → ℕ → List MeshPair → List ℕ
unbegun_from phases mesher [] = []
unbegun_from phases mesher (pair ∷ pairs) = unbegun_at phases mesher pair ++ unbegun_from phases (mesher + 1) pairs

abbrev pub unbegun_text : List PhaseAt → List MeshPair → List ℕ
unbegun_text phases pairs = unbegun_from phases 0 pairs

-- the meshes that must begin: all, or none
abbrev pub must_begin : Bool → List MeshPair → List MeshPair
must_begin must pairs = if must then pairs else []

-- in this state the mesh of this mesher has begun
pub record IsBegunAt (x : Setting) (mesher : ℕ) (s : ExploreState) : Type 0 where
  pub phase : LastStep
  pub is : phase_at x s mesher ≡ Some phase
  pub begun : has_begun phase ≡ true

-- some interleaving begins the mesh of this mesher: it has begun in a state that moves can reach
abbrev pub IsBegunSomewhere : Setting → ExploreState → ℕ → Type 0
IsBegunSomewhere x start mesher = IsOfSome (IsReachable (move_after x) (move_count x) start) (IsBegunAt x mesher)

-- the phases of a listing have a mesh that has begun exactly if some interleaving begins this mesh
abbrev pub BegunMeshesAreListed : Type 0
BegunMeshesAreListed = (x : Setting) (states : List ExploreState) (listing : Listing) (lists : ListsAll x states listing) (mesher : ℕ)
    → (begins_in listing.phases.items mesher ≡ true) ↔ IsBegunSomewhere x lists.start mesher
