-- What meshers do in a run, and what they report.
use Rattle.std.specs.Prelude.{◌≡◌, ℕ, suc, ◌*◌, ◌%◌, ◌<◌, ◌≤◌, ◌==◌, if◌then◌else◌, List, [], ◌∷◌, Option, Some, None, drop, length, map, slice_index_or, take}
use Rattle.model_search.specs.Search.{Found, View, search, views}
use Rattle.model_heap.specs.Table.{Table}
use Rattle.mesh_shared.specs.Counts.{closed_meshes, tried_pairs}
use Rattle.mesh_shared.specs.declared.counts.MeshCounts.{MeshCounts}
use Rattle.mesh_shared.specs.declared.mesher.Meshed.{Meshed}
use Rattle.mesh_shared.specs.declared.plan.MeshPlan.{MeshPlan}
use Rattle.mesh_shared.specs.declared.stops.EarlyExit.{EarlyExit}

-- the words of a round: 256 words from index 256 times the round on, or fewer if there are fewer
abbrev pub words_in : List ℕ → ℕ → List ℕ
words_in words round = take 256 (drop (256 * round) words)

-- the views whose place, counted from `place`, has the remainder `number` when divided by the number of meshers
abbrev pub own_from : ℕ → ℕ → ℕ → List View → List View
own_from meshers number place [] = []
own_from meshers number place (view ∷ rest) =
    if place % meshers == number then view ∷ own_from meshers number (suc place) rest else own_from meshers number (suc place) rest

-- the views of a mesher's own classes
abbrev pub own_views : ℕ → ℕ → List View → List View
own_views meshers number all = own_from meshers number 0 all

-- the views are those of a mesher's own classes in some table
pub record AreOwn (plan : MeshPlan) (number : ℕ) (own : List View) : Type 0 where
  pub table : Table
  pub is_own : own ≡ own_views plan.meshers number (views table)

-- a mesher's own classes, as some table has them, were searched with the words of this round
pub record HasSearched (plan : MeshPlan) (number round : ℕ) (own : List View) (found : List Found) : Type 0 where
  pub of_classes : AreOwn plan number own
  pub by_words : found ≡ map (λ view. search view (words_in plan.words.items round) plan.t) own

-- what a mesher counted. It searched in no more than all rounds, began no more pairs than its searches found, and ended
-- no more meshes than it began. Unless its calls are used up, each pair that was found was begun or refused, and each
-- mesh that was begun ended, or a step of it was refused. If it wasn't stopped either, it searched in all rounds
pub record HasCounted (rounds : ℕ) (most : Option ℕ) (calls : ℕ) (stop : Option EarlyExit) (counts : MeshCounts) : Type 0 where
  pub searched : counts.searches ≤ rounds
  pub all_searched : (most ≡ Some calls → ⊥) → stop ≡ None → counts.searches ≡ rounds
  pub tried : tried_pairs counts ≤ counts.pairs
  pub all_tried : (most ≡ Some calls → ⊥) → tried_pairs counts ≡ counts.pairs
  pub closed : closed_meshes counts ≤ counts.begun
  pub all_closed : (most ≡ Some calls → ⊥) → closed_meshes counts ≡ counts.begun

-- a mesher reports its number, and all rounds, unless its calls are used up or it was stopped. If its calls are
-- limited, no more than the limit were answered
pub record HasMeshed (rounds number : ℕ) (most : Option ℕ) (told : Meshed) (stop : Option EarlyExit) : Type 0 where
  pub named : told.number ≡ number
  pub whole : (most ≡ Some told.calls → ⊥) → stop ≡ None → told.rounds ≡ rounds
  pub few : (n : ℕ) → most ≡ Some n → told.calls ≤ n
  pub counted : HasCounted rounds most told.calls stop told.counts

-- each mesher of the plan reports this, with its own number, and none was stopped
pub record AreMeshed (plan : MeshPlan) (most : Option ℕ) (told : List Meshed) : Type 0 where
  pub many : length told ≡ plan.meshers
  pub each : (q : ℕ) (d : Meshed) → q < plan.meshers → HasMeshed plan.rounds q most (slice_index_or told q d) None
