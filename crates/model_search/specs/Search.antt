-- The split search: which groups of a class a mesher may pair. The split into two lists follows the publication
-- ("Mesh", 2019). The shift, the order of the tries, and the removal at the end of a round are this project's own
-- choice.
use Rattle.std.specs.Prelude.{ℕ, zero, suc, ◌+◌, ◌/◌, ◌%◌, Bool, ◌&&◌, ◌||◌, not, if◌then◌else◌, nat_eq, nat_lt, List, [], ◌∷◌, ◌++◌, length, map, filter, take, drop, slice_index_or, remove}
use Rattle.std.specs.List.{list_any, zip}
use Rattle.mesh_bits.specs.Bits.{are_meshable, member_count}
use Rattle.model_words.specs.Classes.{slots_of, table}
use Rattle.model_heap.specs.Table.{Group, Table, is_meshing, object_count, occupied_of}

-- whether the group may be paired: it is of the class, its number is not closed, and it is neither empty nor full
abbrev pub may_be_paired : (ℕ → Bool) → ℕ → Group → Bool
may_be_paired closed class group =
    nat_eq group.class class && not (closed group.number) && nat_lt 0 (object_count group) && nat_lt (object_count group) (slots_of class)

-- whether the group may be paired, if the groups in running meshes are closed
abbrev pub is_candidate : Table → ℕ → Group → Bool
is_candidate t class group = may_be_paired (is_meshing t) class group

-- the groups of a class that may be paired, in the table's order, ascending by number
abbrev pub candidate_groups : Table → ℕ → List Group
candidate_groups t class = filter (is_candidate t class) t.groups

-- a group that may be paired: its number, and whether each of its slots is occupied
pub record Candidate : Type 0 where
  pub number : ℕ
  pub occupied : List Bool

-- the candidate of a group
abbrev pub candidate_of : Group → Candidate
candidate_of group = record { number = group.number; occupied = occupied_of group }

-- what a search reads of a class: its slot size, and its candidates, ascending by number
pub record View : Type 0 where
  pub class : ℕ
  pub candidates : List Candidate

-- the view of a class with these groups as candidates
abbrev pub viewed : ℕ → List Group → View
viewed class groups = record { class = class; candidates = map candidate_of groups }

-- the view of a class with all its candidates in the table
abbrev pub view_of : Table → ℕ → View
view_of t class = viewed class (candidate_groups t class)

-- the views of all classes, ascending by size
abbrev pub views : Table → List View
views t = map (λ row. view_of t row.size) table

-- the first word, or 0 if there is no word
abbrev pub first_word : List ℕ → ℕ
first_word [] = 0
first_word (w ∷ ws) = w

-- `n` elements of the list, picked and removed one after another, each by the next word modulo the number of elements
-- left
abbrev pub picked : {A : Type 0} → A → ℕ → List A → List ℕ → List A
picked d zero xs words = []
picked d (suc n) xs words =
    let place = first_word words % length xs in slice_index_or xs place d ∷ picked d n (remove xs place) (drop 1 words)

-- the list shuffled by picking: each word, modulo the number of elements left, picks the next element. A missing word
-- counts as 0
abbrev pub shuffle : {A : Type 0} → List A → List ℕ → List A
shuffle [] words = []
shuffle (x ∷ xs) words = picked x (length (x ∷ xs)) (x ∷ xs) words

-- a pair of groups, by the numbers of the source and the destination
pub record Pairing : Type 0 where
  pub source : ℕ
  pub destination : ℕ

-- the list from a place on, followed by its beginning up to that place
abbrev pub rotated : {A : Type 0} → ℕ → List A → List A
rotated i xs = drop i xs ++ take i xs

-- the tries of round `i`: the first list's element `j` with the second list's element (`j` + `i`) modulo the second
-- list's length
abbrev pub tries : ℕ → List Candidate → List Candidate → List (Candidate × Candidate)
tries i left right = zip left (rotated (i % length right) right)

-- whether no slot number is occupied in both candidates
abbrev pub meshes : Candidate × Candidate → Bool
meshes pair = are_meshable pair.0.occupied pair.1.occupied

-- the pair as source and destination: the candidate with fewer objects is the source; on a tie, the candidate of the
-- second list
abbrev pub turned : Candidate × Candidate → Pairing
turned pair =
    if nat_lt (member_count pair.0.occupied) (member_count pair.1.occupied)
    then record { source = pair.0.number; destination = pair.1.number }
    else record { source = pair.1.number; destination = pair.0.number }

-- whether the candidate is in the pairing
abbrev pub pairs_group : Candidate → Pairing → Bool
pairs_group candidate pair = nat_eq pair.source candidate.number || nat_eq pair.destination candidate.number

-- the candidates that are in none of the pairings
abbrev pub unpaired : List Pairing → List Candidate → List Candidate
unpaired pairs candidates = filter (λ c. not (list_any (pairs_group c) pairs)) candidates

-- the result of a search: the pairs in the order of their tries, and the number of tries
pub record Found : Type 0 where
  pub pairs : List Pairing
  pub probes : ℕ

-- the pairs that round `i` finds
abbrev pub pairs_of_round : ℕ → List Candidate → List Candidate → List Pairing
pairs_of_round i left right = map turned (filter meshes (tries i left right))

-- the result of a round and of the later rounds together: the round's pairs and tries come first
abbrev pub followed_by : List Pairing → ℕ → Found → Found
followed_by pairs probes later = record { pairs = pairs ++ later.pairs; probes = probes + later.probes }

-- the result of at most `rounds` rounds, from round `i` on. Each round leaves its unpaired candidates in both lists to
-- the next round
abbrev pub rounds_from : ℕ → ℕ → List Candidate → List Candidate → Found
rounds_from zero i left right = record { pairs = []; probes = 0 }
rounds_from (suc rounds) i [] right = record { pairs = []; probes = 0 }
rounds_from (suc rounds) i (x ∷ left) right =
    let pairs = pairs_of_round i (x ∷ left) right in
    followed_by pairs (length (x ∷ left)) (rounds_from rounds (i + 1) (unpaired pairs (x ∷ left)) (unpaired pairs right))

-- the split search in at most `t` rounds: the first list is the first half of the order, and the second list is the
-- second half. Of an odd number of candidates, the last is in neither list
abbrev pub split_search : List Candidate → ℕ → Found
split_search order t =
    let half = length order / 2 in rounds_from t 0 (take half order) (take half (drop half order))

-- the search of a view: the split search over the candidates, shuffled by the words
abbrev pub search : View → List ℕ → ℕ → Found
search view words t = split_search (shuffle view.candidates words) t
