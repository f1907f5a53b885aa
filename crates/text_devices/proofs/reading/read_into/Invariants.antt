use Rattle.std.proofs.Common.{◌≡◌, false, length}
use Rattle.std.specs.Io.KnownBytes.{Consumes}
use Rattle.text_devices.proofs.reading.read_into.Given as goal

abbrev pub invariant-loop-read : goal.invariant-loop-read
invariant-loop-read g l = record {
  room : length l.room ≡ length l.initial.room;
  input : g.I.Source.has_failed l.input ≡ false;
  taken : Consumes (g.I.Source.remaining l.initial.input) (g.I.Source.remaining l.input) l.text.items;
}
