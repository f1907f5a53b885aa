-- What follows from the definition of a legal history.
use Rattle.std.specs.Prelude.{◌≡◌, List, [], ◌∷◌, ◌++◌}
use Rattle.model_memory.specs.Memory.{Memory}
use Rattle.model_memory.specs.Plain.{PlainStep, IsLegal, Entry}

-- if a plain step starts at the end of a legal history, the history with this step's entry added is legal
abbrev pub LegalGoesOn : Type 0
LegalGoesOn = (entries : List Entry) (m n : Memory) (entry : Entry)
    → IsLegal entries m → PlainStep m entry.command entry.reply n → IsLegal (entries ++ entry ∷ []) n

-- a legal history has only one memory as its end
abbrev pub LegalHasOneEnd : Type 0
LegalHasOneEnd = (entries : List Entry) (m n : Memory) → IsLegal entries m → IsLegal entries n → m ≡ n
