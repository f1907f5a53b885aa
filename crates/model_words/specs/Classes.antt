-- The size classes. The sizes, pages and slots are this project's own choice.
use Rattle.std.specs.Prelude.{◌≡◌, ℕ, ◌*◌, ◌≤◌, nat_le, nat_eq, List, [], ◌∷◌, find, Option}
use Rattle.std.specs.Option.{option_map_or, option_map}

-- a size class: the bytes of a slot, the pages of a span, and the slots of a span
pub record Row : Type 0 where
  pub size : ℕ
  pub pages : ℕ
  pub slots : ℕ

-- a row of the table, from its three numbers
abbrev pub row : ℕ → ℕ → ℕ → Row
row size pages slots = record { size = size; pages = pages; slots = slots }

-- the ten size classes, by size
abbrev pub table : List Row
table = row 16 1 256 ∷ row 32 1 128 ∷ row 64 1 64 ∷ row 128 1 32 ∷ row 256 1 16 ∷ row 384 3 32 ∷ row 512 1 8 ∷ row 1024 1 4 ∷ row 1536 3 8 ∷ row 2048 1 2 ∷ []

-- the row of the class with this slot size, if the table has one
abbrev pub row_of : ℕ → Option Row
row_of size = find (λ r. nat_eq r.size size) table

-- the pages of a span of the class with this slot size, or 0 if no class has this size
unfoldable pub pages_of : ℕ → ℕ
pages_of size = option_map_or (λ r. r.pages) (row_of size) 0

-- the slots of a span of the class with this slot size, or 0 if no class has this size
unfoldable pub slots_of : ℕ → ℕ
slots_of size = option_map_or (λ r. r.slots) (row_of size) 0

-- the size of the class for a request of `len` bytes: the smallest class size that is at least `len`, if any
abbrev pub class_for : ℕ → Option ℕ
class_for len = option_map (λ r. r.size) (find (λ r. nat_le len r.size) table)

-- what every size class has in common
pub record IsClass (size : ℕ) : Type 0 where
  pub least : 16 ≤ size
  pub most : size ≤ 2048
  pub some_page : 1 ≤ pages_of size
  pub few_pages : pages_of size ≤ 3
  pub some_slot : 2 ≤ slots_of size
  pub few_slots : slots_of size ≤ 256
  -- the slots fill the pages
  pub full : slots_of size * size ≡ pages_of size * 4096
