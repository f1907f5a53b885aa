use Rattle.std.proofs.Common.{refl, subst}
use Rattle.std.proofs.lemmas.Result.{on_ok_weaker}
use Rattle.std.specs.Io.KnownBytes.{Appends}
use Rattle.run_live.specs.Runs.{told_rest}
use Rattle.run_live.specs.Sessions.{sizes_of}
use Rattle.run_live.proofs.Runs.{lived, nothing_written}
use Rattle.text_devices.specs.Transfer.{AppendsBeginning}
use Rattle.run_live.proofs.Stops.{none_stopped, on_error, on_error_weaker, part_stopped, rest_stopped}
use Rattle.run_live.proofs.run.live_on.Goals as goal

pub returns-then-branch-clause-lived : goal.returns-then-branch-clause-lived
returns-then-branch-clause-lived g c =
    lived _ _ _ _ _ c.feed.new.line.items _ _ _ _ _ refl c.requires.initial_state c.if-branch.true c.in_ok-feed.ensures.fed (nothing_written (g.O.Sink.written c.feed.new.output))

pub returns-clause-lived : goal.returns-clause-lived
returns-clause-lived g c =
    let wrote = g.O.Sink.written in
    on_ok_weaker c.write_rest.result
    (λ rest. lived _ _ _ _ _ c.feed.new.line.items _ _ _ _ _ refl c.requires.initial_state c.if-branch.false c.in_ok-feed.ensures.fed
    (subst (λ bytes. Appends (wrote c.feed.new.output) (wrote c.write_rest.new.output) (told_rest bytes)) c.as_slice.ensures.value rest)) c.write_rest.ensures.wrote

pub returns-in_err-buffer-clause-stopped : goal.returns-in_err-buffer-clause-stopped
returns-in_err-buffer-clause-stopped g c =
    on_error _ _ (none_stopped (sizes_of c.args.session.now) (g.I.Source.remaining c.args.input.now) (g.O.Sink.written c.args.output.now))

pub returns-in_err-feed-clause-stopped : goal.returns-in_err-feed-clause-stopped
returns-in_err-feed-clause-stopped g c = on_error _ _ (part_stopped _ _ _ _ c.requires.initial_state c.in_err-feed.ensures.stopped)

pub returns-clause-stopped : goal.returns-clause-stopped
returns-clause-stopped g c =
    let wrote = g.O.Sink.written in
    on_error_weaker c.write_rest.result
    (λ part. rest_stopped _ _ _ _ _ _ _ _ _ c.requires.initial_state c.if-branch.false c.in_ok-feed.ensures.fed
    (subst (λ bytes. AppendsBeginning (wrote c.feed.new.output) (wrote c.write_rest.new.output) (told_rest bytes)) c.as_slice.ensures.value part)) c.write_rest.ensures.begun
