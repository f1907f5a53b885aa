-- Seats that are made, and one call more.
use Rattle.std.proofs.Common.{◌≡◌, ℕ, zero, suc, ◌+◌, ◌<◌, ◌≤◌, true, List, [], ◌∷◌, ◌++◌, length, take, slice_index, slice_index_or, ap, refl, sym, ◌∙◌, arith, is_some, inl, inr}
use Rattle.std.specs.List.{All}
use Rattle.std.proofs.lemmas.List.{get_or-map, get_or_past, length-append, length-map, map-append, take_more}
use Rattle.std.proofs.lemmas.List.Elements.{All-append}
use Rattle.std.proofs.lemmas.Option.{slice_get_within, get_or_from_slice_get}
use Rattle.model_memory.specs.Plain.{Entry}
use Rattle.model_memory.specs.SeatLaws.{HasStranger}
use Rattle.model_memory.specs.Reads.{Kept, is_marked, kept_by}
use Rattle.mesh_lock.specs.Seat.{IsKept, IsSeat, Seat, calls_of_seats, empty_seats, numbers_of}

-- one seat more
pub seats_more : (counts : List ℕ) (i k n : ℕ) → i < length counts → n ≡ k + i
    → empty_seats k (take (suc i) counts) ≡ empty_seats k (take i counts) ++ record { number = n; calls = []; room = slice_index counts i } ∷ []
seats_more [] i k n below is = absurd (omega (arith, below))
seats_more (c ∷ cs) zero k n below is = let same : k ≡ n = omega (arith, is) in ap (λ (x : ℕ). record { number = x; calls = []; room = c } ∷ []) same
seats_more (c ∷ cs) (suc i) k n below is = ap (λ (seats : List Seat). record { number = k; calls = []; room = c } ∷ seats) (seats_more cs i (suc k) n (omega (arith, below)) (omega (arith, is)))

-- one call more
pub kept_more : (s t : Seat) (kept : Kept) → IsSeat s → length s.calls < s.room → IsKept kept → t.calls ≡ s.calls ++ kept ∷ [] → t.room ≡ s.room → IsSeat t
kept_more s t kept is below good calls room = grind (arith, length-append s.calls (kept ∷ []), All-append IsKept s.calls (kept ∷ []) is.kept)

-- as many
pub calls_many : (seats : List Seat) → length (calls_of_seats seats) ≡ length seats
calls_many seats = length-map seats (λ seat. seat.calls)

pub numbers_many : (seats : List Seat) → length (numbers_of seats) ≡ length seats
numbers_many seats = length-map seats (λ seat. seat.number)

-- the calls of one seat
pub calls_at : (seats : List Seat) (w : ℕ) (d : Seat) → w < length seats → slice_index_or (calls_of_seats seats) w [] ≡ (slice_index_or seats w d).calls
calls_at seats w d below = get_or-map (λ seat. seat.calls) seats w d [] below

-- past the seats there are none
pub calls_past : (seats : List Seat) (w : ℕ) → length seats ≤ w → slice_index_or (calls_of_seats seats) w [] ≡ []
calls_past seats w past = get_or_past (calls_of_seats seats) w [] (let many = calls_many seats in omega (arith, many, past))

-- one seat more
pub calls_more : (seats : List Seat) (k : ℕ) (d : Seat) → k < length seats → calls_of_seats (take (k + 1) seats) ≡ calls_of_seats (take k seats) ++ (slice_index_or seats k d).calls ∷ []
calls_more seats k d below =
    ap (λ (ss : List Seat). calls_of_seats ss) (take_more seats k d below) ∙ map-append (λ seat. seat.calls) (take k seats) (slice_index_or seats k d ∷ [])

pub kept_all : (seats : List Seat) (k : ℕ) → length seats ≤ k → ((w : ℕ) → w < k → All IsKept (kept_by (calls_of_seats seats) w)) → (w : ℕ)
    → All IsKept (kept_by (calls_of_seats seats) w)
kept_all seats k past before w = grind (arith, calls_past)

-- only reads saw a length
pub kept_marked : (calls : List Kept) → All IsKept calls → All is_marked calls
kept_marked calls kept k d below n sees =
    let good = (kept k d below).0 in let some : is_some (slice_index_or calls k d).seen ≡ true = rw sees refl in sym good ∙ some

-- where there are as many seats as the count, and all workers are below it, there is no stranger
pub no_stranger : (count : ℕ) (numbers : List ℕ) (entries : List Entry) → length numbers ≤ count → All (λ entry. entry.worker < count) entries
    → HasStranger count numbers entries → ⊥
no_stranger count numbers entries few known (inl more) = omega (arith, few, more)
no_stranger count numbers entries few known (inr some) =
    grind (arith, slice_get_within entries some.0 some.1 some.2, get_or_from_slice_get entries some.0 some.1 some.1 some.2)
