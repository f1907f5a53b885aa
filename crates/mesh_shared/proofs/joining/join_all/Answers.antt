use Rattle.std.proofs.Common.{arith}
use Rattle.mesh_shared.proofs.JoinedThreads.{have_meshed, have_served}
use Rattle.mesh_shared.proofs.joining.join_all.Goals as goal

pub returns-clause-served : goal.returns-clause-served
returns-clause-served g c =
    let long = c.in-Ok.served.ok.0 in
    let joined = c.in-Ok.ensures.len in
    let handles = c.args.workers.ok.0 in
    have_served c.args.workers.items c.in-Ok.served.items (omega (arith, long, joined, handles))
    (λ w d below. let kept = (c.in-Ok.ensures.each w d (omega (arith, handles, below))).1 in (kept.handle, kept.handle_is, kept.kept))

pub returns-clause-meshed : goal.returns-clause-meshed
returns-clause-meshed g c =
    let joined = c.in-Ok-join_promised.ensures.len in
    let handles = c.args.meshers.ok.0 in
    have_meshed c.args.meshers.items c.in-Ok-join_promised.ends.items (omega (arith, c.in-Ok-join_promised.ends.ok.0, joined, handles))
    (λ q d below. let kept = (c.in-Ok-join_promised.ensures.each q d (omega (arith, handles, below))).1 in (kept.handle, kept.handle_is, kept.kept))
