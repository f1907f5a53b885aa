-- What the answer of a run tells of its threads.
use Rattle.std.proofs.Common.{◌≡◌, ℕ, List, Option, None, Result, Ok, Err, IfErr, IfOk, subst, sym}
use Rattle.std.specs.declared.alloc.AllocError.{AllocError}
use Rattle.std.specs.declared.thread.PromisedHandle.{PromisedHandle}
use Rattle.model_words.specs.declared.commands.Command.{Command}
use Rattle.mesh_shared.specs.Joined.{AreAtWork, AreMeshing, HaveMeshed, HaveServed}
use Rattle.mesh_shared.specs.MesherRuns.{AreMeshed}
use Rattle.mesh_shared.specs.Runs.{AreServed}
use Rattle.mesh_shared.specs.Services.{IsAnswer}
use Rattle.mesh_shared.specs.declared.joining.Joined.{Joined}
use Rattle.mesh_shared.specs.declared.joining.Service.{Service}
use Rattle.mesh_shared.specs.declared.mesher.MesherEnd.{MesherEnd}
use Rattle.mesh_shared.specs.declared.mesher.Meshes.{Meshes}
use Rattle.mesh_shared.specs.declared.plan.MeshPlan.{MeshPlan}
use Rattle.mesh_shared.specs.declared.stops.RunError.{RunError}
use Rattle.mesh_shared.specs.declared.stops.RunError.TheVariants.{Memory}
use Rattle.mesh_shared.specs.declared.stops.EarlyExit.{EarlyExit}
use Rattle.mesh_shared.specs.declared.worker.Served.{Served}
use Rattle.mesh_shared.specs.declared.worker.Works.{Works}
use Rattle.mesh_shared.proofs.JoinedThreads.{all_meshed, all_served, if_ok_both, if_ok_three, none_of_all}

-- an answer that is an error tells nothing of threads
untold : (P : Service → Type 0) (answer : Result Service RunError) → answer ≡ Err Memory → IfOk answer P
untold P answer is = subst (λ (a : Result Service RunError). IfOk a P) (sym is) tt

-- an answer that is no error tells that all scripts were served
pub answer_served : (tries : Option ℕ) (scripts : List (List Command)) (handles : List (PromisedHandle Served Works)) (refused : Option EarlyExit)
    (joined : Result Joined AllocError) (answer : Result Service RunError) → IfErr joined (λ _. answer ≡ Err Memory)
    → IfOk joined (λ threads. IsAnswer refused threads.ends.items threads.served.items answer) → IfOk joined (λ threads. HaveServed handles threads.served.items)
    → (refused ≡ None → AreAtWork tries scripts handles) → IfOk answer (λ service. AreServed tries scripts service.seats.items service.workers.items)
answer_served tries scripts handles refused (Err e) answer failed is have work = untold _ answer failed
answer_served tries scripts handles refused (Ok threads) answer failed is have work =
    if_ok_three _ _ _ _ answer
    (λ service none seats workers.
    let all = none_of_all refused threads.ends.items threads.served.items none in
    all_served tries scripts handles threads.served.items service.seats.items service.workers.items have (work all.0) all.2 seats workers)
    is.unstopped is.seats is.workers

-- and that all meshers meshed
pub answer_meshed : (plan : MeshPlan) (most : Option ℕ) (handles : List (PromisedHandle MesherEnd Meshes)) (refused : Option EarlyExit)
    (joined : Result Joined AllocError) (answer : Result Service RunError) → IfErr joined (λ _. answer ≡ Err Memory)
    → IfOk joined (λ threads. IsAnswer refused threads.ends.items threads.served.items answer) → IfOk joined (λ threads. HaveMeshed handles threads.ends.items)
    → (refused ≡ None → AreMeshing plan most handles) → IfOk answer (λ service. AreMeshed plan most service.meshers.items)
answer_meshed plan most handles refused (Err e) answer failed is have meshing = untold _ answer failed
answer_meshed plan most handles refused (Ok threads) answer failed is have meshing =
    if_ok_both _ _ _ answer
    (λ service none meshers.
    let all = none_of_all refused threads.ends.items threads.served.items none in
    all_meshed plan most handles threads.ends.items service.meshers.items have (meshing all.0) all.1 meshers)
    is.unstopped is.meshers
