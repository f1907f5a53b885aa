use Rattle.model_jobs.proofs.Fields.{number_back, address_back, byte_back, bytes_back}
use Rattle.model_jobs.proofs.text_laws.fields_read_back.Goals as goal

pub returns-clause-number : goal.returns-clause-number
returns-clause-number c least most n small low high = number_back least most n small low high

pub returns-clause-address : goal.returns-clause-address
returns-clause-address c address most = address_back address most

pub returns-clause-byte : goal.returns-clause-byte
returns-clause-byte c byte most = byte_back byte most

pub returns-clause-bytes : goal.returns-clause-bytes
returns-clause-bytes c bytes some most all = bytes_back bytes some most all
