-- Bytes of spots: those of lists that are appended, filtered, moved or spliced.
use Rattle.std.proofs.Common.{◌≡◌, ℕ, zero, suc, ◌+◌, ◌-◌, ◌<◌, ◌≤◌, Bool, true, false, List, [], ◌∷◌, ◌++◌, ◌⊎◌, inl, inr, nat_eq, nat_le, nat_lt, if◌then◌else◌, filter, length, map, slice_index, refl, ◌∙◌, arith}
use Rattle.std.proofs.lemmas.Bool.{le-leb, lt-leb, lt-ltb, le-ltb}
use Rattle.std.proofs.lemmas.Bool.Decides.{nat_tests}
use Rattle.model_otherwise.specs.Spots.{byte_at, is_within, moved, spliced, spots_of}
use Rattle.model_otherwise.specs.declared.spot.Spot.{Spot}

-- whether a spot of the list is at the place
abbrev pub has_spot : List Spot → ℕ → Bool
has_spot [] place = false
has_spot (spot ∷ spots) place = if nat_eq spot.place place then true else has_spot spots place

-- where no spot is, the byte is zero
pub byte_none : (spots : List Spot) (place : ℕ) → has_spot spots place ≡ false → byte_at spots place ≡ 0
byte_none [] place none = refl
byte_none (spot ∷ spots) place none = grind (arith, nat_tests, byte_none spots place)

-- where the first list has no spot, the byte is that of the second
pub byte_second : (xs ys : List Spot) (place : ℕ) → has_spot xs place ≡ false → byte_at (xs ++ ys) place ≡ byte_at ys place
byte_second [] ys place none = refl
byte_second (x ∷ xs) ys place none = grind (arith, nat_tests, byte_second xs ys place)

-- where the second list has a zero, the byte is that of the first
pub byte_first : (xs ys : List Spot) (place : ℕ) → byte_at ys place ≡ 0 → byte_at (xs ++ ys) place ≡ byte_at xs place
byte_first [] ys place none = none
byte_first (x ∷ xs) ys place none = grind (arith, nat_tests, byte_first xs ys place none)

-- where neither list has a spot, both together have none
pub has_neither : (xs ys : List Spot) (place : ℕ) → has_spot xs place ≡ false → has_spot ys place ≡ false → has_spot (xs ++ ys) place ≡ false
has_neither [] ys place none none' = none'
has_neither (x ∷ xs) ys place none none' = grind (arith, nat_tests, has_neither xs ys place)

-- a filter that takes each spot at the place keeps its byte
pub byte_kept : (f : Spot → Bool) (spots : List Spot) (place : ℕ) → ((spot : Spot) → spot.place ≡ place → f spot ≡ true)
    → byte_at (filter f spots) place ≡ byte_at spots place
byte_kept f [] place takes = refl
byte_kept f (spot ∷ spots) place takes = grind (arith, nat_tests, byte_kept f spots place takes, takes spot)

-- a filter that takes no spot at the place leaves none there
pub has_dropped : (f : Spot → Bool) (spots : List Spot) (place : ℕ) → ((spot : Spot) → spot.place ≡ place → f spot ≡ false)
    → has_spot (filter f spots) place ≡ false
has_dropped f [] place drops = refl
has_dropped f (spot ∷ spots) place drops = grind (arith, nat_tests, has_dropped f spots place drops, drops spot)

-- among the places where it stands, the byte is that of the list that is put in
pub byte_inside : (spots inner : List Spot) (start len place : ℕ) → start ≤ place → place < start + len
    → byte_at (spliced spots start len inner) place ≡ byte_at inner place
byte_inside spots inner start len place from below =
    let before = has_dropped (λ spot. nat_lt spot.place start) spots place (λ spot is. le-ltb spot.place start (omega arith)) in
    let after = has_dropped (λ spot. nat_le (start + len) spot.place) spots place (λ spot is. lt-leb (start + len) spot.place (omega arith)) in
    byte_first (filter (λ spot. nat_lt spot.place start) spots ++ inner) (filter (λ spot. nat_le (start + len) spot.place) spots) place
    (byte_none (filter (λ spot. nat_le (start + len) spot.place) spots) place after)
    ∙ byte_second (filter (λ spot. nat_lt spot.place start) spots) inner place before

-- elsewhere it is that of the spots, where the list that is put in has no spot
pub byte_outside : (spots inner : List Spot) (start len place : ℕ) → (place < start) ⊎ (start + len ≤ place) → has_spot inner place ≡ false
    → byte_at (spliced spots start len inner) place ≡ byte_at spots place
byte_outside spots inner start len place (inl below) none =
    let after = has_dropped (λ spot. nat_le (start + len) spot.place) spots place (λ spot is. lt-leb (start + len) spot.place (omega arith)) in
    byte_first (filter (λ spot. nat_lt spot.place start) spots ++ inner) (filter (λ spot. nat_le (start + len) spot.place) spots) place
    (byte_none (filter (λ spot. nat_le (start + len) spot.place) spots) place after)
    ∙ byte_first (filter (λ spot. nat_lt spot.place start) spots) inner place (byte_none inner place none)
    ∙ byte_kept (λ spot. nat_lt spot.place start) spots place (λ spot is. lt-ltb spot.place start (omega arith))
byte_outside spots inner start len place (inr past) none =
    let before = has_dropped (λ spot. nat_lt spot.place start) spots place (λ spot is. le-ltb spot.place start (omega arith)) in
    byte_second (filter (λ spot. nat_lt spot.place start) spots ++ inner) (filter (λ spot. nat_le (start + len) spot.place) spots) place
    (has_neither (filter (λ spot. nat_lt spot.place start) spots) inner place before none)
    ∙ byte_kept (λ spot. nat_le (start + len) spot.place) spots place (λ spot is. le-leb (start + len) spot.place (omega arith))

-- the spots of bytes are at their places only
pub has_bytes_only : (start : ℕ) (bytes : List ℕ) (place : ℕ) → (place < start) ⊎ (start + length bytes ≤ place) → has_spot (spots_of start bytes) place ≡ false
has_bytes_only start [] place out = refl
has_bytes_only start (byte ∷ bytes) place (inl below) = grind (arith, nat_tests, has_bytes_only (start + 1) bytes place (inl (omega arith)))
has_bytes_only start (byte ∷ bytes) place (inr past) = grind (arith, nat_tests, has_bytes_only (start + 1) bytes place (inr (omega arith)))

-- the spot of the byte that is so many further has this byte
byte_further : (start : ℕ) (bytes : List ℕ) (place k : ℕ) → place ≡ start + k → k < length bytes → byte_at (spots_of start bytes) place ≡ slice_index bytes k
byte_further start [] place k is below = absurd (omega arith)
byte_further start (byte ∷ bytes) place zero is below =
    let none = byte_none (spots_of (start + 1) bytes) place (has_bytes_only (start + 1) bytes place (inl (omega arith))) in
    grind (arith, nat_tests, none)
byte_further start (byte ∷ bytes) place (suc k) is below =
    let rest = byte_further (start + 1) bytes place k (omega arith) (omega arith) in
    grind (arith, nat_tests, rest)

-- the spots of bytes have these bytes
pub byte_of_bytes : (start : ℕ) (bytes : List ℕ) (place : ℕ) → start ≤ place → place < start + length bytes
    → byte_at (spots_of start bytes) place ≡ slice_index bytes (place - start)
byte_of_bytes start bytes place from below = byte_further start bytes place (place - start) (omega arith) (omega arith)

-- moved spots are at the places to which they are moved only
pub has_moved_only : (spots : List Spot) (to from len place : ℕ) → (place < to) ⊎ (to + len ≤ place)
    → has_spot (map (moved to from) (filter (is_within from len) spots)) place ≡ false
has_moved_only [] to from len place out = refl
has_moved_only (spot ∷ spots) to from len place out = grind (arith, nat_tests, has_moved_only spots to from len place out)

-- a moved spot has the byte of the place from which it is moved
pub byte_moved : (spots : List Spot) (to from len place : ℕ) → to ≤ place → place < to + len
    → byte_at (map (moved to from) (filter (is_within from len) spots)) place ≡ byte_at spots (from + (place - to))
byte_moved [] to from len place above below = refl
byte_moved (spot ∷ spots) to from len place above below = grind (arith, nat_tests, byte_moved spots to from len place above below)
