use Rattle.std.proofs.Common.{◌≡◌, ◌-◌, ◌≤◌, false, length, take}
use Rattle.text_job.proofs.Pieces.{HasCounted}
use Rattle.text_job.proofs.device.read_pieces.Given as goal

abbrev pub invariant-loop-count : goal.invariant-loop-count
invariant-loop-count g l = record {
  room : length l.buffer ≡ 17408;
  few : l.held ≤ 1024;
  most : l.count ≤ 1048577;
  fresh : g.I.Source.has_failed l.input ≡ false;
  counted : HasCounted (g.I.Source.remaining l.initial.input) (g.I.Source.remaining l.input) l.reading (take l.held l.buffer) l.count;
}

abbrev pub decreases-loop-count : goal.decreases-loop-count
decreases-loop-count g l = 1048577 - l.count
