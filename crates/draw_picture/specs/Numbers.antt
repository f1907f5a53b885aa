-- Numbers of 32 bits.
use Rattle.std.specs.Prelude.{ℕ, ◌+◌, ◌-◌, ◌*◌, ◌/◌, ◌%◌, ◌^◌, ◌∷◌, [], Bool, List, if◌then◌else◌, min, nat_eq}

-- a number, or the greatest number of 32 bits if it is greater
abbrev pub fitting : ℕ → ℕ
fitting n = min n (2 ^ 32 - 1)

-- the sum of two numbers
abbrev pub plus : ℕ → ℕ → ℕ
plus a b = fitting (a + b)

-- the product of two numbers
abbrev pub times : ℕ → ℕ → ℕ
times a b = fitting (a * b)

-- the quotient of two numbers, rounded down
abbrev pub quotient : ℕ → ℕ → ℕ
quotient n whole = if nat_eq whole 0 then 0 else n / whole

-- the remainder of a division
abbrev pub remainder : ℕ → ℕ → ℕ
remainder n whole = if nat_eq whole 0 then 0 else n % whole

-- the part of a length that `part` is of `whole`, rounded down
abbrev pub share : ℕ → ℕ → ℕ → ℕ
share length part whole = quotient (times length part) whole

-- a number, and 1 for each element that passes a test
abbrev pub counted : {A : Type 0} → (A → Bool) → ℕ → List A → ℕ
counted test n [] = n
counted test n (x ∷ xs) = counted test (if test x then plus n 1 else n) xs
