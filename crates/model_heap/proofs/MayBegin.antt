-- What holds of two groups whose mesh may begin.
use Rattle.std.proofs.Common.{◌≡◌, ℕ, ◌+◌, ◌≤◌, Bool, false, nat_eq, [], ◌∷◌, ◌++◌, length, Some, Ok, refl, sym, arith}
use Rattle.std.proofs.lemmas.Bool.Decides.{nat_tests}
use Rattle.model_heap.specs.Mesh.{Pair, begin, do_overlap, may_begin, merged, mesh_whole, step_count}
use Rattle.model_heap.specs.Sound.{IsSoundMesh, IsWithinSteps}
use Rattle.model_heap.specs.Table.{Counted, Made, Progress, Table, group_of}
use Rattle.model_words.specs.Classes.{pages_of}
use Rattle.model_words.specs.Words.{◌>>=◌}
use Rattle.model_words.proofs.Chains.{went_on}

-- what holds of the two groups of a mesh that may begin
pub record MayBegin (busy : Table → ℕ → Bool) (t : Table) (source destination : ℕ) (pair : Pair) : Type 0 where
  pub source_is : group_of t source ≡ Some pair.source
  pub destination_is : group_of t destination ≡ Some pair.destination
  pub two : nat_eq source destination ≡ false
  pub class : pair.source.class ≡ pair.destination.class
  pub idle : busy t pair.source.class ≡ false
  pub apart : do_overlap pair.source.slots pair.destination.slots ≡ false
  pub few : length pair.source.members + length pair.destination.members ≤ 8

-- a mesh that is not refused may begin
pub may_begin_gives : (busy : Table → ℕ → Bool) (t : Table) (source destination : ℕ) (pair : Pair) → may_begin busy t source destination ≡ Ok pair
    → MayBegin busy t source destination pair
may_begin_gives busy t source destination pair h = grind arith

-- a mesh that may begin is sound at any progress within its steps
pub may_begin_sound : (busy : Table → ℕ → Bool) (t : Table) (source destination : ℕ) (pair : Pair) (progress : Progress)
    → MayBegin busy t source destination pair → IsWithinSteps pair.source progress
    → IsSoundMesh t (record { class = pair.source.class; source = source; destination = destination; progress = progress })
may_begin_sound busy t source destination pair progress may within = record {
  source = pair.source;
  destination = pair.destination;
  source_is = may.source_is;
  destination_is = may.destination_is;
  two = may.two;
  source_class = refl;
  destination_class = sym may.class;
  apart = may.apart;
  few_members = may.few;
  within = within;
}

-- what a mesh that begins comes to
abbrev pub begun_of : Table → ℕ → ℕ → Pair → Counted
begun_of t source destination pair = record {
  count = step_count pair.source;
  table = record t {
    meshes = t.meshes ++ record { class = pair.source.class; source = source; destination = destination; progress = Made 0 } ∷ [];
  };
}

-- and one that is made whole
abbrev pub whole_of : Table → ℕ → ℕ → Pair → Counted
whole_of t source destination pair = record {
  count = pages_of pair.source.class;
  table = record t { free_pages = t.free_pages + pages_of pair.source.class; groups = merged t.groups pair.source destination };
}

-- a call that came to this, of two groups whose mesh may begin
pub record CameTo (busy : Table → ℕ → Bool) (t : Table) (source destination : ℕ) (of_pair : Pair → Counted) (x : Counted) : Type 0 where
  pub pair : Pair
  pub may : MayBegin busy t source destination pair
  pub is : of_pair pair ≡ x

came_to : (busy : Table → ℕ → Bool) (t : Table) (source destination : ℕ) (of_pair : Pair → Counted) (x : Counted)
    → (may_begin busy t source destination >>= λ pair. Ok (of_pair pair)) ≡ Ok x → CameTo busy t source destination of_pair x
came_to busy t source destination of_pair x h =
    grind (arith, nat_tests, went_on (may_begin busy t source destination) _ x h, may_begin_gives busy t source destination)

pub began : (busy : Table → ℕ → Bool) (t : Table) (source destination : ℕ) (begun : Counted) → begin busy t source destination ≡ Ok begun
    → CameTo busy t source destination (begun_of t source destination) begun
began busy t source destination = came_to busy t source destination (begun_of t source destination)

pub meshed : (busy : Table → ℕ → Bool) (t : Table) (source destination : ℕ) (whole : Counted) → mesh_whole busy t source destination ≡ Ok whole
    → CameTo busy t source destination (whole_of t source destination) whole
meshed busy t source destination = came_to busy t source destination (whole_of t source destination)
