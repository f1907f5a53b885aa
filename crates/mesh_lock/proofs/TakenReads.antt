-- Reads that the walk takes.
use Rattle.std.proofs.Common.{◌≡◌, ℕ, suc, ◌+◌, ◌<◌, ◌≤◌, Bool, true, false, List, [], ◌∷◌, ◌++◌, length, ap, subst, refl, sym, ◌∙◌, arith, slice_set, Option, Some, append_assoc, append-nil}
use Rattle.std.specs.List.{All}
use Rattle.std.proofs.lemmas.Bool.{eq-eqb}
use Rattle.std.proofs.lemmas.List.Elements.{All-append, All-cons}
use Rattle.model_memory.specs.Memory.{Memory}
use Rattle.model_memory.specs.Plain.{Entry}
use Rattle.model_memory.specs.Reads.{Kept, is_length, reads_at}
use Rattle.std.proofs.lemmas.List.{get_or-set_same, get_or-set_other}
use Rattle.mesh_lock.specs.Seat.{IsKept}
use Rattle.mesh_lock.specs.Walk.{IsAnswered, IsLeft, IsTakenTo, StopsAt, left_of}

-- nothing is taken yet
pub taken_none : (n worker : ℕ) (m : Memory) (calls : List Kept) (before : List Entry) → IsTakenTo n worker m calls calls before before
taken_none n worker m calls before = record { taken = []; split = refl; right = λ k d below. absurd (omega (arith, below)); pushed = sym (append-nil before) }

-- the reads of calls in a row
pub reads_append : (n worker : ℕ) (xs ys : List Kept) → reads_at n worker (xs ++ ys) ≡ reads_at n worker xs ++ reads_at n worker ys
reads_append n worker [] ys = refl
reads_append n worker (x ∷ xs) ys = grind (arith, reads_append n worker xs ys)

-- the length is this one
is_it : (n : ℕ) (s : Option ℕ) → s ≡ Some n → is_length n s ≡ true
is_it n s h = rw h (eq-eqb n n refl)

-- one read more is taken
pub taken_more : (n worker : ℕ) (m : Memory) (calls rest tail : List Kept) (kept : Kept) (before after after' : List Entry) → IsTakenTo n worker m calls rest before after
    → rest ≡ kept ∷ tail → IsAnswered n m kept → after' ≡ after ++ record { worker = worker; command = kept.command; reply = kept.reply } ∷ []
    → IsTakenTo n worker m calls tail before after'
taken_more n worker m calls rest tail kept before after after' to head answered more =
    let one : reads_at n worker (kept ∷ []) ≡ record { worker = worker; command = kept.command; reply = kept.reply } ∷ [] =
    let hit = is_it n kept.seen answered.0 in rw hit refl in
    record {
      taken = to.taken ++ kept ∷ [];
      split = to.split ∙ ap (λ (ks : List Kept). to.taken ++ ks) head ∙ sym (append_assoc to.taken (kept ∷ []) tail);
      right = All-append (IsAnswered n m) to.taken (kept ∷ []) to.right (All-cons (IsAnswered n m) kept [] answered (λ k d below. absurd (omega (arith, below))));
      pushed = more ∙ ap (λ (es : List Entry). es ++ record { worker = worker; command = kept.command; reply = kept.reply } ∷ []) to.pushed
          ∙ append_assoc before (reads_at n worker to.taken) (record { worker = worker; command = kept.command; reply = kept.reply } ∷ [])
          ∙ ap (λ (es : List Entry). before ++ es) (ap (λ (es : List Entry). reads_at n worker to.taken ++ es) (sym one) ∙ sym (reads_append n worker to.taken (kept ∷ [])));
    }

-- the calls after the first are kept ones
pub kept_rest : (rest tail : List Kept) (kept : Kept) → rest ≡ kept ∷ tail → All IsKept rest → All IsKept tail
kept_rest rest tail kept head all k d below =
    let whole : All IsKept (kept ∷ tail) = subst (λ (l : List Kept). All IsKept l) head all in whole (suc k) d (omega (arith, below))

-- what was taken of one seat
pub is_left : (n worker : ℕ) (m : Memory) (wrong : Bool) (rest left : List Kept) (before after : List Entry) → IsTakenTo n worker m rest left before after
    → StopsAt n m wrong left → IsLeft n m wrong rest left
is_left n worker m wrong rest left before after to stops = record { taken = to.taken; split = to.split; right = to.right; stops = stops }

-- the seats below this one stand before a call for later, and the others are as they were
pub record LeftBelow (n : ℕ) (m : Memory) (old now : List (List Kept)) (k : ℕ) : Type 0 where
  pub below : (v : ℕ) → v < k → IsLeft n m false (left_of old v) (left_of now v)
  pub others : (v : ℕ) → k ≤ v → left_of now v ≡ left_of old v

pub left_none : (n : ℕ) (m : Memory) (old : List (List Kept)) → LeftBelow n m old old 0
left_none n m old = record { below = λ v none. absurd (omega (arith, none)); others = λ v above. refl }

-- one seat more
pub left_more : (n k : ℕ) (m : Memory) (old now : List (List Kept)) (left : List Kept) → k < length now → LeftBelow n m old now k
    → IsLeft n m false (left_of old k) left → LeftBelow n m old (slice_set now k left) (k + 1)
left_more n k m old now left inside was here = grind (arith, get_or-set_same, get_or-set_other)
