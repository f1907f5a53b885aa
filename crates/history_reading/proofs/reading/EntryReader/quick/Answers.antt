use Rattle.std.proofs.Common.{◌≡◌, ◌<◌, [], rules, refl}
use Rattle.history_reading.specs.Readers.{begun_of, lines_of}
use Rattle.history_reading.proofs.Readings.{quick_read}
use Rattle.history_reading.proofs.reading.EntryReader.quick.Goals as goal

pub returns-clause-entry : goal.returns-clause-entry
returns-clause-entry c =
    let none : begun_of c.args.self.now ≡ [] = search rules in
    let few : lines_of c.args.self.now < 4294967295 = search rules in
    quick_read c.args.self.now _ c.args.piece.now c.in_ok-entry.entry c.in_ok-entry.rest.now c.in_ok-entry.ensures none c.requires.later few refl none
