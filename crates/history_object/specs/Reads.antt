-- Calls that only read.
use Rattle.std.specs.Prelude.{◌≡◌, Bool, true, Option, Some}

-- wherever the call can have its effect, the state stays
abbrev pub OnlyReads : {S C : Type 0} → (S → C → Option S) → C → Type 0
OnlyReads {S} effect call = (s t : S) → effect s call ≡ Some t → t ≡ s

-- where the test passes, the call can have its effect, and it only reads
abbrev pub AreReads : {S C : Type 0} → (S → C → Option S) → (S → C → Bool) → Type 0
AreReads {S} {C} effect reads = (s : S) (call : C) → reads s call ≡ true → (effect s call ≡ Some s) × OnlyReads effect call
