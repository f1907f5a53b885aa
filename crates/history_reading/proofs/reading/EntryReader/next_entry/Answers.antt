use Rattle.std.proofs.Common.{◌≡◌, ◌++◌, ◌∷◌, [], refl, subst}
use Rattle.text_fields.proofs.KeptLines.{cut_unended, rest_unended}
use Rattle.history_reading.specs.Readers.{HasFault, HasRead}
use Rattle.history_reading.specs.declared.reading.EntryReader.{EntryReader}
use Rattle.history_reading.proofs.Readings.{cut_whole, fault_in_piece, handed_on, read_in_piece}
use Rattle.history_reading.proofs.reading.EntryReader.next_entry.Goals as goal

pub keep-requires : goal.keep-requires
keep-requires c = record { unended = rest_unended c.args.piece.now (c.in_default-cut.ensures.none refl) }

pub end_entry-requires-clause-unended : goal.end_entry-requires-clause-unended
end_entry-requires-clause-unended c = cut_unended c.args.piece.now c.in-Some-cut.last.now c.in-Some-cut.rest.now c.in-Some-cut.ensures.some

pub returns-in_err-entry-clause-fault : goal.returns-in_err-entry-clause-fault
returns-in_err-entry-clause-fault c =
    let same : c.quick.new.self ≡ c.args.self.now = c.in_default.ensures.none refl in
    let whole = cut_whole c.args.piece.now c.in-Some-cut.last.now c.in-Some-cut.rest.now c.in-Some-cut.ensures.some in
    let fault = c.in_err-entry.field-0.0 in
    handed_on c.from_residual-in_err-entry.result fault (HasFault c.args.self.now c.args.piece.now) c.from_residual-in_err-entry.ensures.1
    (subst (λ (old : EntryReader). HasFault old c.args.piece.now fault) same
    (fault_in_piece c.quick.new.self c.args.piece.now (c.in-Some-cut.last.now ++ 10 ∷ []) c.in-Some-cut.rest.now fault c.in_err-entry.ensures.fault whole))

pub returns-clause-entry : goal.returns-clause-entry
returns-clause-entry c =
    let same : c.quick.new.self ≡ c.args.self.now = c.in_default.ensures.none refl in
    let whole = cut_whole c.args.piece.now c.in-Some-cut.last.now c.in-Some-cut.rest.now c.in-Some-cut.ensures.some in
    subst (λ (old : EntryReader). HasRead old c.end_entry.new.self c.args.piece.now c.in_ok-entry.entry c.in-Some-cut.rest.now) same
    (read_in_piece c.quick.new.self c.end_entry.new.self c.args.piece.now (c.in-Some-cut.last.now ++ 10 ∷ []) c.in-Some-cut.rest.now c.in_ok-entry.entry
    c.in_ok-entry.ensures.entry whole)
