use Rattle.std.proofs.Common.{Result, IfOk, subst, sym}
use Rattle.std.specs.declared.alloc.AllocError.{AllocError}
use Rattle.mesh_shared.specs.Services.{IsAnswer}
use Rattle.mesh_shared.specs.declared.joining.Joined.{Joined}
use Rattle.mesh_shared.proofs.joining.answer_of.Goals as goal

pub returns-clause-joined : goal.returns-clause-joined
returns-clause-joined c =
    let threads = c.in_ok-threads.threads in
    let is : IsAnswer c.args.refused threads.ends.items threads.served.items c.service_of.result = record {
      stopped = c.service_of.ensures.stopped;
      unstopped = c.service_of.ensures.unstopped;
      memory = c.service_of.ensures.memory;
      seats = c.service_of.ensures.seats;
      workers = c.service_of.ensures.workers;
      meshers = c.service_of.ensures.meshers;
    } in
    subst (λ (j : Result Joined AllocError). IfOk j (λ threads. IsAnswer c.args.refused threads.ends.items threads.served.items c.service_of.result)) (sym c.in_ok-threads.was) is
