use Rattle.model_heap.proofs.KeptRecords.{begin_records, cancel_records, step_records, sweep_records, whole_records}
use Rattle.model_heap.proofs.SameRecords.{same_records}
use Rattle.model_heap.proofs.record_laws.mesher_keeps_records.Goals as goal

pub returns-clause-tied : goal.returns-clause-tied
returns-clause-tied c = same_records

pub returns-clause-begin : goal.returns-clause-begin
returns-clause-begin c = begin_records

pub returns-clause-step : goal.returns-clause-step
returns-clause-step c = step_records

pub returns-clause-cancel : goal.returns-clause-cancel
returns-clause-cancel c = cancel_records

pub returns-clause-whole : goal.returns-clause-whole
returns-clause-whole c = whole_records

pub returns-clause-sweep : goal.returns-clause-sweep
returns-clause-sweep c = sweep_records
