-- What was found of the history that a device gave.
use Rattle.std.specs.Prelude.{ℕ, ◌⊎◌, List, ◌++◌, Option}
use Rattle.std.specs.Io.KnownBytes.{Consumes, IsAtEnd}
use Rattle.history_in_order.specs.Outcomes.{Faulty, IsVerdict, Outcome}
use Rattle.text_devices.specs.declared.faults.ReplayError.{ReplayError}
use Rattle.text_devices.specs.declared.faults.ReplayError.TheVariants.{Read, Write, Text, Memory}

-- this outcome is found of the text that was read: either whatever follows, or because the input ended there
pub record HasJudged (left left' : Option (List ℕ)) (o : Outcome) : Type 0 where
  pub text : List ℕ
  pub taken : Consumes left left' text
  pub found : ((more : List ℕ) → IsVerdict (text ++ more) o) ⊎ (IsVerdict text o × IsAtEnd left')

-- why there is no verdict: the text has this fault. `Read` and `Memory` claim nothing, and no `Write` occurs
abbrev pub HasNotJudged : Option (List ℕ) → Option (List ℕ) → ReplayError → Type 0
HasNotJudged left left' (Text fault) = HasJudged left left' (Faulty fault)
HasNotJudged left left' Read = Unit {0}
HasNotJudged left left' Memory = Unit {0}
HasNotJudged left left' Write = ⊥
