use Rattle.std.proofs.Common.{ap, arith}
use Rattle.text_fields.specs.declared.faults.ReadFault.TheVariants.{Text}
use Rattle.history_reading.proofs.Readings.{long_kept}
use Rattle.history_reading.proofs.reading.EntryReader.keep.Goals as goal

pub returns-then-bytes-room-clause-fault : goal.returns-then-bytes-room-clause-fault
returns-then-bytes-room-clause-fault c =
    long_kept c.args.self.now c.args.bytes.now (Text c.long_line.result) c.requires.unended (omega (arith, c.if-bytes-room.true, c.room.ensures))
    (ap Text c.long_line.ensures)
