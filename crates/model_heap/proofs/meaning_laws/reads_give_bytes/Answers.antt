use Rattle.model_heap.proofs.Meanings.{bytes_read, byte_read}
use Rattle.model_heap.proofs.meaning_laws.reads_give_bytes.Goals as goal

pub returns-clause-range : goal.returns-clause-range
returns-clause-range c = bytes_read

pub returns-clause-byte : goal.returns-clause-byte
returns-clause-byte c = byte_read
