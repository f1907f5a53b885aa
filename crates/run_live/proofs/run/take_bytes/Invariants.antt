use Rattle.std.proofs.Common.{◌≡◌, false, take}
use Rattle.run_live.specs.Runs.{Takes}
use Rattle.run_live.specs.Sessions.{IsSession}
use Rattle.run_live.proofs.run.take_bytes.Given as goal

abbrev pub invariant-loop-byte : goal.invariant-loop-byte
invariant-loop-byte g l = record {
  sound : IsSession l.session;
  fresh : g.O.Sink.has_failed l.output ≡ false;
  taken : Takes false l.initial.session l.session l.initial.line.items l.line.items (take l.byte-index l.bytes) (g.O.Sink.written l.initial.output) (g.O.Sink.written l.output);
}
