-- Which groups of a table a search may pair, which pairs a search finds, and how many tries are made.
use Rattle.std.specs.Prelude.{◌≡◌, ℕ, ◌+◌, ◌*◌, ◌<◌, ◌≤◌, ◌/◌, ◌%◌, min, true, if◌then◌else◌, nat_eq, length, slice_index_or, List, [], ◌∷◌, Option, map, All, not, is_some, ◌↔◌, false, Some, slice_get}
use Rattle.std.specs.List.{Contains}
use Rattle.mesh_bits.specs.Bits.{are_meshable}
use Rattle.model_heap.specs.Mesh.{do_overlap}
use Rattle.model_search.specs.Search.{Candidate, Pairing, shuffle, split_search, tries, view_of}
use Rattle.model_heap.specs.Sound.{times_in, IsSound}
use Rattle.model_heap.specs.Table.{Slot, Group, Table, group_of}
use Rattle.model_heap.specs.RefusalLaws.{IsOfMesh}

-- the candidate is a group of the table and of the class, in no running mesh, with an occupied slot and a free slot;
-- `occupied` lists for each slot of the group whether the slot is occupied
pub record IsCandidateOf (t : Table) (class : ℕ) (candidate : Candidate) : Type 0 where
  pub group : Group
  pub there : group_of t candidate.number ≡ Some group
  pub class_is : group.class ≡ class
  pub outside : ¬ IsOfMesh t candidate.number
  pub occupied : candidate.occupied ≡ map is_some group.slots
  pub filled : (k : ℕ) × (slice_get candidate.occupied k ≡ Some true)
  pub free : (k : ℕ) × (slice_get candidate.occupied k ≡ Some false)

-- in a sound table, a candidate is in the view of a class if and only if `IsCandidateOf` holds
abbrev pub CandidatesAreExact : Type 0
CandidatesAreExact = (t : Table) (class : ℕ) (candidate : Candidate) → IsSound t
    → ((i : ℕ) × (slice_get (view_of t class).candidates i ≡ Some candidate)) ↔ IsCandidateOf t class candidate

-- in a sound table, the numbers of a view's candidates ascend strictly, so each candidate occurs once
abbrev pub CandidatesAscend : Type 0
CandidatesAscend = (t : Table) (class i j : ℕ) (x y : Candidate) → IsSound t → slice_get (view_of t class).candidates i ≡ Some x
    → slice_get (view_of t class).candidates j ≡ Some y → i < j → x.number < y.number

-- the pair is of two candidates in the order that have no occupied slot number in common
abbrev pub IsMeshableIn : List Candidate → Pairing → Type 0
IsMeshableIn order pair =
    (x y : Candidate) × Contains order x × Contains order y × (x.number ≡ pair.source) × (y.number ≡ pair.destination)
    × (are_meshable x.occupied y.occupied ≡ true)

-- each pair that a search finds is of two candidates in the order that have no occupied slot number in common
abbrev pub PairsAreMeshable : Type 0
PairsAreMeshable = (order : List Candidate) (t : ℕ) → All (IsMeshableIn order) (split_search order t).pairs

-- two groups overlap if and only if their lists of occupied slots aren't meshable
abbrev pub OverlapIsBySets : Type 0
OverlapIsBySets = (xs ys : List (Option Slot)) → do_overlap xs ys ≡ not (are_meshable (map is_some xs) (map is_some ys))

-- how often the number is a source or a destination in the pairs
abbrev pub times_paired : ℕ → List Pairing → ℕ
times_paired n [] = 0
times_paired n (pair ∷ pairs) =
    (if nat_eq pair.source n then 1 else 0) + (if nat_eq pair.destination n then 1 else 0) + times_paired n pairs

-- no group is in two pairs: a number is at most as often in the pairs as in the order
abbrev pub GroupsPairOnce : Type 0
GroupsPairOnce = (order : List Candidate) (t n : ℕ) → times_paired n (split_search order t).pairs ≤ times_in n (map (λ candidate. candidate.number) order)

-- a shuffle doesn't change how often a number occurs in the list
abbrev pub ShufflesKeepNumbers : Type 0
ShufflesKeepNumbers = (list words : List ℕ) (n : ℕ) → times_in n (shuffle list words) ≡ times_in n list

-- each candidate of a shuffled list is a candidate of the list before the shuffle
abbrev pub ShufflesPick : Type 0
ShufflesPick = (list : List Candidate) (words : List ℕ) → All (Contains list) (shuffle list words)

-- the number of a search's tries is at most `t`, the number of rounds, for each candidate of the first half
abbrev pub ProbesAreFew : Type 0
ProbesAreFew = (order : List Candidate) (t : ℕ) → (split_search order t).probes ≤ t * (length order / 2)

-- if both lists have an element `j`, try `j` of round `i` is the first list's element `j` with the second list's
-- element (`j` + `i`) modulo the second list's length
abbrev pub TriesAreIndexed : Type 0
TriesAreIndexed = (i j : ℕ) (left right : List Candidate) (d : Candidate) → j < length left → j < length right
    → slice_index_or (tries i left right) j (d, d) ≡ (slice_index_or left j d, slice_index_or right ((j + i) % length right) d)

-- the number of a round's tries is the length of the shorter list
abbrev pub TriesAreOfBoth : Type 0
TriesAreOfBoth = (i : ℕ) (left right : List Candidate) → length (tries i left right) ≡ min (length left) (length right)
