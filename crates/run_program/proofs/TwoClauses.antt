-- A status that is returned under two clauses.
use Rattle.std.proofs.Common.{ℕ, Result, Ok, Err, OnOk, IfOk}

-- what holds of a status that is returned, from two facts
pub of_both : {E : Type 0} (result : Result ℕ E) (P : Type 0) (Q R : ℕ → Type 0) → OnOk result P → IfOk result Q → (P → (status : ℕ) → Q status → R status) → IfOk result R
of_both (Ok status) P Q R p q f = f p status q
of_both (Err error) P Q R p q f = tt
