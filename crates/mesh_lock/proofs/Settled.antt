-- What the checks and the walk have shown at the end.
use Rattle.std.proofs.Common.{◌≡◌, ℕ, zero, suc, ◌<◌, ◌≤◌, List, [], length, slice_index_or, map, ap, subst, sym, ◌∙◌, arith, None}
use Rattle.std.specs.List.{All}
use Rattle.std.proofs.Math.ListN.{get_or-map}
use Rattle.std.proofs.lemmas.Option.{slice_get_within}
use Rattle.model_memory.specs.Memory.{Memory, empty_memory}
use Rattle.model_memory.specs.Plain.{Entry, IsLegal}
use Rattle.model_memory.specs.ReadLaws.{BuiltHasCalls, BuiltHasNoOther, BuiltIsLegal, IsTold}
use Rattle.model_memory.specs.Reads.{AreRight, Kept, built, kept_by, recorded}
use Rattle.model_memory.specs.SeatLaws.{AreSeatedBelow}
use Rattle.model_memory.specs.Seats.{AreSettled, calls_of, missing_seat}
use Rattle.mesh_lock.specs.Seat.{IsKept, Seat, calls_of_seats, numbers_of}
use Rattle.mesh_lock.specs.Settle.{IsEnd, recorded_of}
use Rattle.mesh_lock.specs.Walk.{Walks}
use Rattle.mesh_lock.proofs.MadeSeats.{calls_many, kept_marked}
use Rattle.mesh_lock.proofs.BuiltHistories.{walks_built}

-- the recorded calls of a seat
pub recorded_kept : (calls : List (List Kept)) (w : ℕ) → slice_index_or (map recorded calls) w [] ≡ recorded (kept_by calls w)
recorded_kept calls w = get_or-map recorded calls w []

-- settled seats have their workers' entries
pub settled_own : (count : ℕ) (seats : List Seat) (entries : List Entry) → AreSettled count (recorded_of seats) entries → (w : ℕ) → w < count
    → recorded (kept_by (calls_of_seats seats) w) ≡ calls_of w entries
settled_own count seats entries settled w below = sym (recorded_kept (calls_of_seats seats) w) ∙ settled w below

-- places below the count that have their own seats are all places
pub seated_many : (count : ℕ) (numbers : List ℕ) → AreSeatedBelow numbers count → length numbers ≤ count → length numbers ≡ count
seated_many zero numbers seated few = omega (arith, few)
seated_many (suc n) numbers seated few = let last = slice_get_within numbers n n (seated n (omega arith)) in omega (arith, last, few)

-- what is handed out
pub is_end : (count : ℕ) (seats : List Seat) (entries history : List Entry) (end : Memory) → BuiltIsLegal → BuiltHasCalls → BuiltHasNoOther
    → missing_seat count (numbers_of seats) entries ≡ None → length seats ≡ count → All (λ entry. entry.worker < count) entries → AreSettled count (recorded_of seats) entries
    → ((w : ℕ) → All IsKept (kept_by (calls_of_seats seats) w)) → IsLegal entries end → Walks 0 empty_memory (calls_of_seats seats) entries [] history
    → AreRight (calls_of_seats seats) entries → IsEnd count seats entries history end
is_end count seats entries history end is_legal has_calls has_no_other none many known settled kept legal walks right =
    let calls = calls_of_seats seats in
    let all : length calls ≡ count = calls_many seats ∙ many in
    let whole : history ≡ built calls entries = walks_built entries 0 empty_memory calls [] history walks in
    let told : IsTold calls entries end = record {
      legal = legal;
      marked = λ w. kept_marked (kept_by calls w) (kept w);
      own = λ w below. settled_own count seats entries settled w (omega (arith, below, all));
      known = subst (λ (n : ℕ). All (λ (entry : Entry). entry.worker < n) entries) (sym all) known;
    } in
    record {
      seated = none;
      settled = settled;
      right = right;
      is_built = whole;
      legal = subst (λ (h : List Entry). IsLegal h end) (sym whole) (is_legal calls entries end told right);
      calls = λ w below. ap (λ (h : List Entry). calls_of w h) whole ∙ has_calls calls entries end told right w (omega (arith, below, all));
      no_other = subst (λ (h : List Entry). All (λ (entry : Entry). entry.worker < count) h) (sym whole)
          (subst (λ (n : ℕ). All (λ (entry : Entry). entry.worker < n) (built calls entries)) all (has_no_other calls entries told.known));
    }
