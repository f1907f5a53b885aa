-- The pages of an arena, and the effects of its calls by page number and offset.
use Rattle.std.specs.Prelude.{◌≡◌, ◌≢◌, ℕ, ◌+◌, ◌<◌, ◌≤◌, ◌++◌, Bool, false, List, [], Option, None, is_some, is_none, IsTrue, unwrap_or, map, length, replicate, take, drop, slice_index, slice_index_or, slice_range, count_by, position, refl}
use Rattle.std.specs.List.{range_with_len}
use Rattle.std.proofs.lemmas.List.FromFn.{length-map-range_with_len, get_or-map-range_with_len}

-- the pages in the order of their numbers, each its bytes, or `None` if it is free
abbrev pub Pages : Type 0
Pages = List (Option (List ℕ))

-- a page's bytes, or `None` if the page is free or past the last page
abbrev pub content : Pages → ℕ → Option (List ℕ)
content a p = slice_index_or a p None

-- a page's bytes, or no bytes if the page is free or past the last page
abbrev pub bytes_of : Pages → ℕ → List ℕ
bytes_of a p = unwrap_or (content a p) []

-- whether the page is taken
unfoldable pub is_taken : Pages → ℕ → Bool
is_taken a p = is_some (content a p)

-- the page is taken
abbrev pub IsTaken : Pages → ℕ → Type 0
IsTaken a p = IsTrue (is_taken a p)

-- the byte at an offset of a page, or 0 if the offset is past the page's end or the page is free
unfoldable pub byte_at : Pages → ℕ → ℕ → ℕ
byte_at a p o = slice_index (bytes_of a p) o

-- the number of free pages
unfoldable pub free_count : Pages → ℕ
free_count a = count_by is_none a

-- the lowest number of a free page, or None if no page is free
abbrev pub lowest_free : Pages → Option ℕ
lowest_free a = position is_none a

-- a page of zeros
unfoldable pub blank_page : List ℕ
blank_page = replicate 4096 0

-- a page's bytes after a run of bytes was written into it from an offset on
abbrev pub with_run : List ℕ → ℕ → List ℕ → List ℕ
with_run page off run = take off page ++ run ++ drop (off + length run) page

-- a page's bytes after a range of another page's bytes was copied into it
abbrev pub with_copy : List ℕ → ℕ → List ℕ → ℕ → ℕ → List ℕ
with_copy page off from from_off len = with_run page off (slice_range from from_off (from_off + len))

-- the bytes that a function gives at `off`, `off + 1` and so on
unfoldable pub run_of : (ℕ → ℕ) → ℕ → ℕ → List ℕ
run_of f off len = map f (range_with_len off len)

pub length-run_of : (f : ℕ → ℕ) (off len : ℕ) → length (run_of f off len) ≡ len
unfolding run_of
length-run_of f off len = length-map-range_with_len f off len

pub slice_index-run_of : (f : ℕ → ℕ) (off len k : ℕ) → k < len → slice_index (run_of f off len) k ≡ f (off + k)
unfolding run_of
slice_index-run_of f off len k h = get_or-map-range_with_len f off len k (off + k) 0 h refl

-- the lowest free page became taken and holds zeros, and nothing else changed
pub record Takes (old new : Pages) (page : ℕ) : Type 0 where
  pub in_arena : page < length old
  pub was_free : is_taken old page ≡ false
  pub taken : IsTaken new page
  pub zero : (o : ℕ) → byte_at new page o ≡ 0
  pub lowest : (p : ℕ) → p < page → IsTaken old p
  pub other_pages : (p : ℕ) → p ≢ page → is_taken new p ≡ is_taken old p
  pub other_bytes : (p o : ℕ) → p ≢ page → byte_at new p o ≡ byte_at old p o
  pub fewer : free_count new + 1 ≡ free_count old
  pub same_length : length new ≡ length old

-- the taken page became free, and nothing else changed. Its bytes now read as 0
pub record Gives (old new : Pages) (page : ℕ) : Type 0 where
  pub in_arena : page < length old
  pub was_taken : IsTaken old page
  pub free : is_taken new page ≡ false
  pub zero : (o : ℕ) → byte_at new page o ≡ 0
  pub other_pages : (p : ℕ) → p ≢ page → is_taken new p ≡ is_taken old p
  pub other_bytes : (p o : ℕ) → p ≢ page → byte_at new p o ≡ byte_at old p o
  pub more : free_count new ≡ free_count old + 1
  pub same_length : length new ≡ length old

-- the page holds these bytes from the offset on, and nothing else changed
pub record Writes (old new : Pages) (page off : ℕ) (bytes : List ℕ) : Type 0 where
  pub same_taken : (p : ℕ) → is_taken new p ≡ is_taken old p
  pub inside : (k : ℕ) → k < length bytes → byte_at new page (off + k) ≡ slice_index bytes k
  pub before : (o : ℕ) → o < off → byte_at new page o ≡ byte_at old page o
  pub after : (o : ℕ) → off + length bytes ≤ o → byte_at new page o ≡ byte_at old page o
  pub other_bytes : (p o : ℕ) → p ≢ page → byte_at new p o ≡ byte_at old p o
  pub same_free : free_count new ≡ free_count old
  pub same_length : length new ≡ length old
