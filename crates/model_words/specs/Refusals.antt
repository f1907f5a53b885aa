-- The numbers and names of the refusals, which are this project's own.
use Rattle.std.specs.Prelude.{◌≡◌, ◌↔◌, ◌≤◌, ◌-◌, Result, Ok, Err, ℕ, List, [], ◌∷◌, codes, get_or}
use Rattle.model_words.specs.declared.refusals.Refusal.{Refusal}
use Rattle.model_words.specs.declared.refusals.Refusal.TheVariants.{Zero, TooLarge, NoPages, NoAddresses, Empty, Freed, Outside, Stray, NoGroup, Same, Class, Busy, Overlap, Members, NoMesh, TooLate, NotEmpty}

-- the number of a refusal, as answer lines print it. If several refusals hold, the answer is the one with the lowest
-- number
abbrev pub number_of : Refusal → ℕ
number_of Zero = 1
number_of TooLarge = 2
number_of NoPages = 3
number_of NoAddresses = 4
number_of Empty = 5
number_of Freed = 6
number_of Outside = 7
number_of Stray = 8
number_of NoGroup = 9
number_of Same = 10
number_of Class = 11
number_of Busy = 12
number_of Overlap = 13
number_of Members = 14
number_of NoMesh = 15
number_of TooLate = 16
number_of NotEmpty = 17

-- the names that answer lines print, in the order of the numbers
abbrev pub refusal_names : List (List ℕ)
refusal_names =
    codes "ZERO" ∷ codes "TOO_LARGE" ∷ codes "NO_PAGES" ∷ codes "NO_ADDRESSES" ∷ codes "EMPTY" ∷
    codes "FREED" ∷ codes "OUTSIDE" ∷ codes "STRAY" ∷ codes "NO_GROUP" ∷ codes "SAME" ∷
    codes "CLASS" ∷ codes "BUSY" ∷ codes "OVERLAP" ∷ codes "MEMBERS" ∷
    codes "NO_MESH" ∷ codes "TOO_LATE" ∷ codes "NOT_EMPTY" ∷ []

-- the name of a refusal
abbrev pub name_of : Refusal → List ℕ
name_of refusal = get_or refusal_names (number_of refusal - 1) []

-- this refusal holds, and no refusal with a lower number holds
abbrev pub IsLowest : (Refusal → Type 0) → Refusal → Type 0
IsLowest holds refusal = holds refusal × ((other : Refusal) → holds other → number_of refusal ≤ number_of other)

-- the call is refused with a refusal if and only if that refusal is the lowest that holds, and succeeds if and only if
-- none holds
pub record IsRefusedBy {A : Type 0} (holds : Refusal → Type 0) (result : Result A Refusal) : Type 0 where
  pub refused : (refusal : Refusal) → (result ≡ Err refusal) ↔ IsLowest holds refusal
  pub done : ((x : A) × (result ≡ Ok x)) ↔ ((refusal : Refusal) → ¬ holds refusal)
