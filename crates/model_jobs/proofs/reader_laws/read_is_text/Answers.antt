use Rattle.model_jobs.proofs.TextReadings.{text_told, text_exactly}
use Rattle.model_jobs.proofs.reader_laws.read_is_text.Goals as goal

pub returns-clause-converse : goal.returns-clause-converse
returns-clause-converse c bytes job h = text_told bytes job h

pub returns-clause-exactly : goal.returns-clause-exactly
returns-clause-exactly c = text_exactly
