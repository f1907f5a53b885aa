use Rattle.std.proofs.Common.{◌≡◌, false, length}
use Rattle.run_live.specs.Sessions.{IsSession}
use Rattle.run_live.proofs.Runs.{HasReadOn}
use Rattle.run_live.proofs.run.feed.Given as goal

abbrev pub invariant-loop-read : goal.invariant-loop-read
invariant-loop-read g l = record {
  sound : IsSession l.session;
  room : length l.buffer ≡ length l.initial.buffer;
  input : g.I.Source.has_failed l.input ≡ false;
  output : g.O.Sink.has_failed l.output ≡ false;
  read : HasReadOn l._read l.initial.session l.session l.line.items (g.I.Source.remaining l.initial.input) (g.I.Source.remaining l.input)
      (g.O.Sink.written l.initial.output) (g.O.Sink.written l.output);
}
