use Rattle.model_heap.proofs.Records.{tied_below, slot_record, record_slot}
use Rattle.model_heap.proofs.meaning_laws.records_are_of_slots.Goals as goal

pub returns-clause-below : goal.returns-clause-below
returns-clause-below c = tied_below

pub returns-clause-slot : goal.returns-clause-slot
returns-clause-slot c = slot_record

pub returns-clause-record : goal.returns-clause-record
returns-clause-record c = record_slot
