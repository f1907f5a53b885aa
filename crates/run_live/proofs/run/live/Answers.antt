use Rattle.run_live.proofs.Stops.{none_stopped, on_error}
use Rattle.run_live.proofs.run.live.Goals as goal

pub returns-in_err-session-clause-stopped : goal.returns-in_err-session-clause-stopped
returns-in_err-session-clause-stopped g c = on_error _ c.from_residual.result (none_stopped c.args.sizes.now _ _)
