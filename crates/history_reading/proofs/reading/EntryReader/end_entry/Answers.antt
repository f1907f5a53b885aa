use Rattle.std.proofs.Common.{◌≡◌, ◌+◌, [], rules, refl, sym, ◌∙◌}
use Rattle.history_reading.specs.Readers.{begun_of}
use Rattle.history_reading.proofs.Readings.{entry_ended, line_stops, next_kept, next_whole}
use Rattle.history_reading.proofs.reading.EntryReader.end_entry.Goals as goal

pub returns-in_err-entry-clause-fault : goal.returns-in_err-entry-clause-fault
returns-in_err-entry-clause-fault c =
    let none : begun_of c.args.self.now ≡ [] = search rules in
    line_stops c.from_residual.result c.args.self.now c.args.last.now c.in_err-entry.field-0.0 _ c.requires.unended c.from_residual.ensures.1
    (next_whole c.args.self.now c.args.last.now none) c.in_err-entry.ensures.fault

pub returns-then-is_empty-clause-entry : goal.returns-then-is_empty-clause-entry
returns-then-is_empty-clause-entry c =
    let none : begun_of c.args.self.now ≡ [] = search rules in
    entry_ended c.args.self.now _ c.args.last.now c.in_ok-entry.entry c.requires.unended (sym (next_whole c.args.self.now c.args.last.now none) ∙ c.in_ok-entry.ensures.ok)
    c.requires.later refl none c.in_ok-entry.ensures.in_range c.in_ok-entry.ensures.sized c.in_ok-entry.ensures.narrow

pub returns-in_err-entry-2-clause-fault : goal.returns-in_err-entry-2-clause-fault
returns-in_err-entry-2-clause-fault c =
    let line = next_kept c.args.self.now c.keep.new.self c.args.last.now c.as_slice.result.now c.in_ok-keep.ensures.begun c.in_ok-keep.ensures.lines c.as_slice.ensures in
    line_stops c.from_residual-in_err-entry-2.result c.args.self.now c.args.last.now c.in_err-entry-2.field-0.0 _ c.requires.unended
    c.from_residual-in_err-entry-2.ensures.1 line c.in_err-entry-2.ensures.fault

pub returns-clause-entry : goal.returns-clause-entry
returns-clause-entry c =
    let line = next_kept c.args.self.now c.keep.new.self c.args.last.now c.as_slice.result.now c.in_ok-keep.ensures.begun c.in_ok-keep.ensures.lines c.as_slice.ensures in
    let next : c.keep.new.self.lines + 1 ≡ c.args.self.now.lines + 1 = search rules in
    entry_ended c.args.self.now _ c.args.last.now c.in_ok-entry-2.entry c.requires.unended (sym line ∙ c.in_ok-entry-2.ensures.ok)
    c.requires.later next c.clear.ensures c.in_ok-entry-2.ensures.in_range c.in_ok-entry-2.ensures.sized c.in_ok-entry-2.ensures.narrow
