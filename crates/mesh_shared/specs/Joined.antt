-- What holds of threads that were joined, by the promises that their handles carry.
use Rattle.std.specs.Prelude.{◌≡◌, ℕ, ◌<◌, List, ◌∷◌, ◌++◌, Option, length, map, slice_index_or}
use Rattle.std.specs.declared.thread.PromisedHandle.{PromisedHandle}
use Rattle.mesh_shared.specs.MesherRuns.{HasMeshed}
use Rattle.mesh_shared.specs.Runs.{HasWorked, script_of}
use Rattle.model_words.specs.declared.commands.Command.{Command}
use Rattle.mesh_shared.specs.declared.plan.MeshPlan.{MeshPlan}
use Rattle.mesh_shared.specs.declared.mesher.MesherEnd.{MesherEnd}
use Rattle.mesh_shared.specs.declared.mesher.Meshes.{Meshes}
use Rattle.mesh_shared.specs.declared.stops.EarlyExit.{EarlyExit}
use Rattle.mesh_shared.specs.declared.worker.Served.{Served}
use Rattle.mesh_shared.specs.declared.worker.Works.{Works}

-- a thread was started for each script, and its promise has this script and this limit of tries
pub record AreAtWork (tries : Option ℕ) (scripts : List (List Command)) (handles : List (PromisedHandle Served Works)) : Type 0 where
  pub many : length handles ≡ length scripts
  pub each : (w : ℕ) (h : PromisedHandle Served Works) → w < length handles
      → ((slice_index_or handles w h).promise.tries ≡ tries) × ((slice_index_or handles w h).promise.script.now ≡ script_of scripts w)

-- a thread was started for each mesher of the plan, and its promise has the plan's rounds, its own number and the limit
-- of calls
pub record AreMeshing (plan : MeshPlan) (most : Option ℕ) (handles : List (PromisedHandle MesherEnd Meshes)) : Type 0 where
  pub many : length handles ≡ plan.meshers
  pub each : (q : ℕ) (h : PromisedHandle MesherEnd Meshes) → q < length handles
      → (slice_index_or handles q h).promise ≡ record { rounds = plan.rounds; number = q; most = most }

-- each worker's thread returned what it promised
pub record HaveServed (handles : List (PromisedHandle Served Works)) (served : List Served) : Type 0 where
  pub many : length served ≡ length handles
  pub kept : (w : ℕ) (h : PromisedHandle Served Works) (d : Served) → w < length handles
      → HasWorked (slice_index_or handles w h).promise.tries (slice_index_or handles w h).promise.script.now (slice_index_or served w d).seat.calls (slice_index_or served w d).worked (slice_index_or served w d).stop

-- each mesher's thread returned what it promised
pub record HaveMeshed (handles : List (PromisedHandle MesherEnd Meshes)) (ends : List MesherEnd) : Type 0 where
  pub many : length ends ≡ length handles
  pub kept : (q : ℕ) (h : PromisedHandle MesherEnd Meshes) (d : MesherEnd) → q < length handles
      → HasMeshed (slice_index_or handles q h).promise.rounds (slice_index_or handles q h).promise.number (slice_index_or handles q h).promise.most (slice_index_or ends q d).meshed (slice_index_or ends q d).stop

-- what stopped the threads of a run: first why a thread could not be started, if so, then the stops of the meshers,
-- then those of the workers
abbrev pub stops_of : Option EarlyExit → List MesherEnd → List Served → List (Option EarlyExit)
stops_of refused ends served = refused ∷ map (λ one. one.stop) ends ++ map (λ one. one.stop) served
