-- Words with numbers in them.
use Rattle.std.specs.Prelude.{ℕ, ◌++◌, ◌∷◌, [], List, decimal, nat_eq, if◌then◌else◌}

-- a template with its numbers: each `#` is replaced by the next number, if there is one
abbrev pub filled : List ℕ → List ℕ → List ℕ
filled [] numbers = []
filled (b ∷ bs) [] = b ∷ filled bs []
filled (b ∷ bs) (n ∷ ns) = if nat_eq b 35 then decimal n ++ filled bs ns else b ∷ filled bs (n ∷ ns)
