-- The first byte by which two answers differ.
use Rattle.std.specs.Prelude.{◌≡◌, ◌≢◌, ℕ, ◌<◌, List, [], ◌∷◌, Option, Some, None, length, slice_index}
use Rattle.model_words.specs.declared.commands.Reply.{Reply}
use Rattle.model_words.specs.declared.commands.Reply.TheVariants.{Bytes, Byte}

-- the bytes that a reply gives
abbrev pub bytes_of : Reply → List ℕ
bytes_of (Bytes bytes) = bytes.items
bytes_of (Byte byte) = byte ∷ []
bytes_of reply = []

-- both lists have this place, have equal bytes before it, and differ at it
pub record DifferAt (xs ys : List ℕ) (place : ℕ) : Type 0 where
  pub in_first : place < length xs
  pub in_second : place < length ys
  pub same : (k : ℕ) → k < place → slice_index xs k ≡ slice_index ys k
  pub differ : slice_index xs place ≢ slice_index ys place

-- the lists differ at no place that both have
abbrev pub DifferNowhere : List ℕ → List ℕ → Type 0
DifferNowhere xs ys = (k : ℕ) → k < length xs → k < length ys → slice_index xs k ≡ slice_index ys k

-- the first place at which the lists differ, among the places that both have, or `None` if they differ at none of these
abbrev pub IsFirst : List ℕ → List ℕ → Option ℕ → Type 0
IsFirst xs ys None = DifferNowhere xs ys
IsFirst xs ys (Some place) = DifferAt xs ys place
