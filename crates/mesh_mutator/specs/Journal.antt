-- The journal: the answered commands in their order of effect, and its capacity.
use Rattle.std.specs.Prelude.{ℕ, List, refl}
use Rattle.std.specs.Coded.{Coded, code_by, coded×, coded_list, coded_ℕ}
use Rattle.model_memory.specs.Plain.{Entry}
use Rattle.mesh_mutator.specs.Codes.{entry_code}

pub record Journal : Type 0 where
  pub entries : List Entry
  pub room : ℕ

-- a journal is stored as its parts
abbrev pub journal_code : Coded Journal
journal_code = code_by (List Entry × ℕ) (coded× (coded_list entry_code) coded_ℕ) (λ j. (j.entries, j.room)) (λ p. record { entries = p.0; room = p.1 }) (λ _. refl)
