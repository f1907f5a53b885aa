-- The answer of a run, by what its threads returned.
use Rattle.std.specs.Prelude.{◌≡◌, List, Option, Some, None, Result, Err, IfErr, IfOk, OnOk, map}
use Rattle.mesh_shared.specs.Joined.{stops_of}
use Rattle.mesh_shared.specs.Stops.{error_of, first_stop}
use Rattle.mesh_shared.specs.declared.joining.Service.{Service}
use Rattle.mesh_shared.specs.declared.mesher.MesherEnd.{MesherEnd}
use Rattle.mesh_shared.specs.declared.stops.RunError.{RunError}
use Rattle.mesh_shared.specs.declared.stops.RunError.TheVariants.{Memory}
use Rattle.mesh_shared.specs.declared.stops.EarlyExit.{EarlyExit}
use Rattle.mesh_shared.specs.declared.worker.Served.{Served}

-- if something stopped a thread, the error of the stop that comes first is returned. Otherwise the answer is what the
-- threads did, or out of memory
pub record IsAnswer (refused : Option EarlyExit) (ends : List MesherEnd) (served : List Served) (answer : Result Service RunError) : Type 0 where
  pub stopped : (stop : EarlyExit) → first_stop (stops_of refused ends served) ≡ Some stop → answer ≡ Err (error_of stop)
  pub unstopped : OnOk answer (first_stop (stops_of refused ends served) ≡ None)
  pub memory : first_stop (stops_of refused ends served) ≡ None → IfErr answer (λ error. error ≡ Memory)
  pub seats : IfOk answer (λ service. service.seats.items ≡ map (λ one. one.seat) served)
  pub workers : IfOk answer (λ service. service.workers.items ≡ map (λ one. one.worked) served)
  pub meshers : IfOk answer (λ service. service.meshers.items ≡ map (λ one. one.meshed) ends)
