-- How the definitions chain a step that may be refused and the step after it.
use Rattle.std.specs.Prelude.{Bool, true, false, Option, Some, None, Result, Ok, Err}

infixl 1 ◌>>=◌
-- passes the value of the first step to the next step, or returns the first step's refusal
abbrev pub ◌>>=◌ : {A B E : Type 0} → Result A E → (A → Result B E) → Result B E
◌>>=◌ (Err e) next = Err e
◌>>=◌ (Ok x) next = next x

-- the value of an option, or this refusal if the option is empty
abbrev pub or_refuse : {A E : Type 0} → E → Option A → Result A E
or_refuse e None = Err e
or_refuse e (Some x) = Ok x

-- this refusal if the test holds, or else success without a value
abbrev pub refuse_if : {E : Type 0} → E → Bool → Result (Unit {0}) E
refuse_if e true = Err e
refuse_if e false = Ok tt
