use Rattle.std.proofs.Common.{◌++◌, ◌∷◌, [], refl}
use Rattle.text_fields.proofs.KeptLines.{cut_unended, rest_unended}
use Rattle.history_reading.specs.Readers.{HasFault, HasRead, HasTaken}
use Rattle.history_reading.proofs.Readings.{cut_whole, err_weaker, fault_in_piece, handed_on, none_weaker, read_weaker, taken_then_fault, taken_then_read, taken_then_taken}
use Rattle.history_reading.proofs.reading.EntryReader.next.Goals as goal

pub keep-requires : goal.keep-requires
keep-requires c = record { unended = rest_unended c.args.piece.now (c.in_default.ensures.none refl) }

pub end_head-requires-clause-unended : goal.end_head-requires-clause-unended
end_head-requires-clause-unended c = cut_unended c.args.piece.now c.in-Some.last.now c.in-Some.rest.now c.in-Some.ensures.some

pub returns-in_err-end_head-clause-fault : goal.returns-in_err-end_head-clause-fault
returns-in_err-end_head-clause-fault c =
    let whole = cut_whole c.args.piece.now c.in-Some.last.now c.in-Some.rest.now c.in-Some.ensures.some in
    let fault = c.in_err-end_head.field-0.0 in
    handed_on c.from_residual-in_err-end_head.result fault (HasFault c.args.self.now c.args.piece.now) c.from_residual-in_err-end_head.ensures.1
    (fault_in_piece c.args.self.now c.args.piece.now (c.in-Some.last.now ++ 10 ∷ []) c.in-Some.rest.now fault c.in_err-end_head.ensures.fault whole)

pub returns-clause-entry : goal.returns-clause-entry
returns-clause-entry c =
    let whole = cut_whole c.args.piece.now c.in-Some.last.now c.in-Some.rest.now c.in-Some.ensures.some in
    read_weaker c.next_entry-2.result (HasRead c.end_head.new.self c.next_entry-2.new.self c.in-Some.rest.now) (HasRead c.args.self.now c.next_entry-2.new.self c.args.piece.now)
    (λ entry rest read. taken_then_read c.args.self.now c.end_head.new.self c.next_entry-2.new.self c.args.piece.now (c.in-Some.last.now ++ 10 ∷ []) c.in-Some.rest.now rest entry
    c.in_ok-end_head.ensures.taken whole read) c.next_entry-2.ensures.entry

pub returns-clause-used_up : goal.returns-clause-used_up
returns-clause-used_up c =
    let whole = cut_whole c.args.piece.now c.in-Some.last.now c.in-Some.rest.now c.in-Some.ensures.some in
    none_weaker c.next_entry-2.result (HasTaken c.end_head.new.self c.next_entry-2.new.self c.in-Some.rest.now) (HasTaken c.args.self.now c.next_entry-2.new.self c.args.piece.now)
    (λ taken. taken_then_taken c.args.self.now c.end_head.new.self c.next_entry-2.new.self c.args.piece.now (c.in-Some.last.now ++ 10 ∷ []) c.in-Some.rest.now
    c.in_ok-end_head.ensures.taken whole taken) c.next_entry-2.ensures.used_up

pub returns-clause-fault : goal.returns-clause-fault
returns-clause-fault c =
    let whole = cut_whole c.args.piece.now c.in-Some.last.now c.in-Some.rest.now c.in-Some.ensures.some in
    err_weaker c.next_entry-2.result (HasFault c.end_head.new.self c.in-Some.rest.now) (HasFault c.args.self.now c.args.piece.now)
    (λ fault found. taken_then_fault c.args.self.now c.end_head.new.self c.args.piece.now (c.in-Some.last.now ++ 10 ∷ []) c.in-Some.rest.now fault
    c.in_ok-end_head.ensures.taken whole found) c.next_entry-2.ensures.fault
