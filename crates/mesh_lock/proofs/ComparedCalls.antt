-- A seat's recorded calls beside its worker's entries.
use Rattle.std.proofs.Common.{◌≡◌, ◌≢◌, ℕ, zero, suc, ◌+◌, ◌<◌, ◌≤◌, true, false, List, [], ◌∷◌, ◌++◌, length, nat_eq, drop, slice_get, slice_index_or, ap, subst, refl, sym, ◌∙◌, arith, inl, inr, None, append_assoc}
use Rattle.std.proofs.lemmas.Bool.Decides.{eqb_tells}
use Rattle.std.proofs.lemmas.List.{length-append}
use Rattle.std.proofs.Math.Seq.{drop-cons}
use Rattle.model_memory.specs.Plain.{Entry}
use Rattle.model_memory.specs.Reads.{Kept, call_of, recorded}
use Rattle.model_memory.specs.Seats.{Call, DifferFirstAt, calls_of}
use Rattle.model_words.specs.declared.commands.Command.TheVariants.{Free}
use Rattle.model_words.specs.declared.commands.Reply.TheVariants.{Done}
use Rattle.model_memory.proofs.WovenCalls.{entry_call}
use Rattle.mesh_lock.specs.RecordedCalls.{IsRecordedFirst}
use Rattle.mesh_lock.specs.Seat.{Seat}
use Rattle.mesh_lock.specs.Settle.{recorded_of}
use Rattle.mesh_lock.proofs.MadeSeats.{calls_at}
use Rattle.mesh_lock.proofs.Settled.{recorded_kept}
use Rattle.mesh_lock.specs.Seat.{calls_of_seats}
use Rattle.mesh_lock.proofs.BuiltHistories.{drop_all, index_any}

-- the calls compared so far are the same
pub record SameSoFar (calls rest : List Kept) (worker : ℕ) (entries : List Entry) (k place : ℕ) : Type 0 where
  pub done : List Call
  pub theirs : recorded calls ≡ done ++ recorded rest
  pub ours : calls_of worker entries ≡ done ++ calls_of worker (drop k entries)
  pub many : length done ≡ place
  pub small : place ≤ k
  pub first : (kept : Kept) (tail : List Kept) → rest ≡ kept ∷ tail → kept.seen ≡ None

-- nothing is compared yet
pub same_first : (calls rest : List Kept) (worker : ℕ) (entries : List Entry) → IsRecordedFirst calls rest → SameSoFar calls rest worker entries 0 0
same_first calls rest worker entries skipped = record { done = []; theirs = sym skipped.same; ours = refl; many = refl; small = omega arith; first = skipped.first }

-- an entry to read where there is none
abbrev pub no_entry : Entry
no_entry = record { worker = 0; command = Free 0; reply = Done }

-- the entry at a place
abbrev pub entry_at : List Entry → ℕ → Entry
entry_at entries k = slice_index_or entries k no_entry

-- it is there whatever is read in its stead
pub entry_there : (entries : List Entry) (k : ℕ) → k < length entries → slice_index_or entries k (entry_at entries k) ≡ entry_at entries k
entry_there entries k below = index_any entries k (entry_at entries k) no_entry below

-- the entry there
cut_at : (entries : List Entry) (k : ℕ) (e : Entry) → k < length entries → slice_index_or entries k e ≡ e → drop k entries ≡ e ∷ drop (suc k) entries
cut_at entries k e below at = drop-cons entries k e below ∙ ap (λ (x : Entry). x ∷ drop (suc k) entries) at

-- another worker's entry
pub same_past : (calls rest : List Kept) (worker : ℕ) (entries : List Entry) (k place : ℕ) (e : Entry) → k < length entries → slice_index_or entries k e ≡ e
    → nat_eq e.worker worker ≡ false → SameSoFar calls rest worker entries k place → SameSoFar calls rest worker entries (k + 1) place
same_past calls rest worker entries k place e below at other same = grind (arith, cut_at)

-- the worker's own entry is the first call that follows of its own
own_call : (worker : ℕ) (entries : List Entry) (k : ℕ) (e : Entry) → k < length entries → slice_index_or entries k e ≡ e → nat_eq e.worker worker ≡ true
    → calls_of worker (drop k entries) ≡ entry_call e ∷ calls_of worker (drop (suc k) entries)
own_call worker entries k e below at own = ap (λ (x : List Entry). calls_of worker x) (cut_at entries k e below at) ∙ rw own refl

-- the first call that is left is recorded
first_call : (calls rest tail : List Kept) (kept : Kept) (worker : ℕ) (entries : List Entry) (k place : ℕ) → rest ≡ kept ∷ tail
    → SameSoFar calls rest worker entries k place → recorded rest ≡ call_of kept ∷ recorded tail
first_call calls rest tail kept worker entries k place head same =
    let bare = same.first kept tail head in ap (λ (x : List Kept). recorded x) head ∙ rw bare refl

-- its own entry, which is the call
pub same_own : (calls rest tail rest' : List Kept) (kept : Kept) (worker : ℕ) (entries : List Entry) (k place : ℕ) (e : Entry) → k < length entries
    → slice_index_or entries k e ≡ e → nat_eq e.worker worker ≡ true → rest ≡ kept ∷ tail → call_of kept ≡ entry_call e → IsRecordedFirst tail rest'
    → SameSoFar calls rest worker entries k place → SameSoFar calls rest' worker entries (k + 1) (place + 1)
same_own calls rest tail rest' kept worker entries k place e below at own head is skipped same =
    let on = own_call worker entries k e below at own in
    let theirs : recorded rest ≡ entry_call e ∷ recorded rest' = first_call calls rest tail kept worker entries k place head same
    ∙ ap (λ (x : Call). x ∷ recorded tail) is ∙ ap (λ (x : List Call). entry_call e ∷ x) (sym skipped.same) in
    let one : suc k ≡ k + 1 = omega arith in
    let small = same.small in
    let many = same.many in
    subst (λ (j : ℕ). SameSoFar calls rest' worker entries j (place + 1)) one (record {
      done = same.done ++ entry_call e ∷ [];
      theirs = same.theirs ∙ ap (λ (x : List Call). same.done ++ x) theirs ∙ sym (append_assoc same.done (entry_call e ∷ []) (recorded rest'));
      ours = same.ours ∙ ap (λ (x : List Call). same.done ++ x) on ∙ sym (append_assoc same.done (entry_call e ∷ []) (calls_of worker (drop (suc k) entries)));
      many = omega (arith, length-append same.done (entry_call e ∷ []), many);
      small = omega (arith, small);
      first = skipped.first;
    })

-- lists that differ after the same calls
front : (done xs ys : List Call) (k : ℕ) → k < length done → slice_get (done ++ xs) k ≡ slice_get (done ++ ys) k
front [] xs ys k below = absurd (omega (arith, below))
front (d ∷ ds) xs ys zero below = refl
front (d ∷ ds) xs ys (suc k) below = front ds xs ys k (omega (arith, below))

-- the first that follows them
seam : (done xs : List Call) → slice_get (done ++ xs) (length done) ≡ slice_get xs 0
seam [] xs = refl
seam (d ∷ ds) xs = seam ds xs

-- what follows of both differs in its first call, and so the two differ there
differ_next : (calls rest : List Kept) (worker : ℕ) (entries : List Entry) (k place : ℕ) (xs ys : List Call) → recorded rest ≡ xs
    → calls_of worker (drop k entries) ≡ ys → slice_get xs 0 ≢ slice_get ys 0 → SameSoFar calls rest worker entries k place
    → DifferFirstAt (recorded calls) (calls_of worker entries) place
differ_next calls rest worker entries k place xs ys theirs ours other same = grind (arith, front, seam)

-- no call is left for its own entry
pub differ_short : (calls rest : List Kept) (worker : ℕ) (entries : List Entry) (k place : ℕ) (e : Entry) → k < length entries → slice_index_or entries k e ≡ e
    → nat_eq e.worker worker ≡ true → rest ≡ [] → SameSoFar calls rest worker entries k place → DifferFirstAt (recorded calls) (calls_of worker entries) place
differ_short calls rest worker entries k place e below at own none same =
    differ_next calls rest worker entries k place [] _ (ap (λ (x : List Kept). recorded x) none) (own_call worker entries k e below at own) (λ clash. cc clash) same

-- the call is not its own entry
pub differ_here : (calls rest tail : List Kept) (kept : Kept) (worker : ℕ) (entries : List Entry) (k place : ℕ) (e : Entry) → k < length entries → slice_index_or entries k e ≡ e
    → nat_eq e.worker worker ≡ true → rest ≡ kept ∷ tail → (call_of kept ≡ entry_call e → ⊥) → SameSoFar calls rest worker entries k place
    → DifferFirstAt (recorded calls) (calls_of worker entries) place
differ_here calls rest tail kept worker entries k place e below at own head differs same =
    differ_next calls rest worker entries k place _ _ (first_call calls rest tail kept worker entries k place head same) (own_call worker entries k e below at own)
    (λ both. let one : call_of kept ≡ entry_call e = cc both in differs one) same

-- after all entries one is left
pub differ_some : (calls rest : List Kept) (worker : ℕ) (entries : List Entry) (k place : ℕ) → length entries ≤ k → (rest ≡ [] → ⊥)
    → SameSoFar calls rest worker entries k place → DifferFirstAt (recorded calls) (calls_of worker entries) place
differ_some calls [] worker entries k place past some same = absurd (some refl)
differ_some calls (kept ∷ tail) worker entries k place past some same =
    differ_next calls (kept ∷ tail) worker entries k place _ [] (first_call calls (kept ∷ tail) tail kept worker entries k place refl same)
    (ap (λ (x : List Entry). calls_of worker x) (drop_all entries k past)) (λ clash. cc clash) same

-- the entry is not the worker's own
pub is_not_own : (a b : ℕ) → (a ≡ b → ⊥) → nat_eq a b ≡ false
is_not_own a b apart = elim (eqb_tells a b) [ inl is ↦ absurd (apart is.1) | inr other ↦ other.0 ]

-- a seat's recorded calls
pub recorded_at : (seats : List Seat) (w : ℕ) (d : Seat) → w < length seats → slice_index_or (recorded_of seats) w [] ≡ recorded (slice_index_or seats w d).calls
recorded_at seats w d below = recorded_kept (calls_of_seats seats) w ∙ ap (λ (l : List Kept). recorded l) (calls_at seats w d below)
