use Rattle.model_jobs.proofs.FieldReadings.{number_told, address_told, byte_told, bytes_told, class_told, words_told}
use Rattle.model_jobs.proofs.reader_laws.fields_are_spelt.Goals as goal

pub returns-clause-number : goal.returns-clause-number
returns-clause-number c least most field n h = number_told least most field n h

pub returns-clause-address : goal.returns-clause-address
returns-clause-address c field address h = address_told field address h

pub returns-clause-byte : goal.returns-clause-byte
returns-clause-byte c field byte h = byte_told field byte h

pub returns-clause-bytes : goal.returns-clause-bytes
returns-clause-bytes c field bytes h = bytes_told field bytes h

pub returns-clause-class : goal.returns-clause-class
returns-clause-class c field class h = class_told field class h

pub returns-clause-words : goal.returns-clause-words
returns-clause-words c fields words h = words_told fields words h
