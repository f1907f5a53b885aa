-- A walk that comes to its end has built the history.
use Rattle.std.proofs.Common.{◌≡◌, ℕ, zero, suc, ◌+◌, ◌<◌, ◌≤◌, Bool, true, false, List, [], ◌∷◌, ◌++◌, length, nat_eq, take, drop, slice_index_or, slice_set, ap, subst, refl, sym, ◌∙◌, arith, inl, inr, None, append_assoc, append-nil}
use Rattle.std.specs.List.{All}
use Rattle.std.proofs.lemmas.Bool.Decides.{eqb_tells}
use Rattle.std.proofs.lemmas.List.{get_or-set_same, get_or-set_other, get_or_default, get_or_past, drop-set-lt, length-set, take_all}
use Rattle.std.proofs.lemmas.List as lists
use Rattle.std.proofs.Math.Seq.{drop-cons, take-suc-set}
use Rattle.model_memory.specs.Memory.{Memory, empty_memory}
use Rattle.model_memory.specs.Plain.{Entry}
use Rattle.model_memory.specs.Reads.{Kept, all_reads_at, built_from, is_length, left_by, reads_at}
use Rattle.mesh_lock.specs.Walk.{AreTaken, IsAnswered, IsStepped, IsTakenTo, Walks}
use Rattle.model_words.proofs.Tests.{tells}
use Rattle.mesh_lock.proofs.TakenReads.{reads_append}

-- after the reads: a recorded call where the entry is the worker's own
abbrev pub Next : Bool → List Kept → (List Kept → Type 0) → Type 0
Next true left next = (kept : Kept) × (tail : List Kept) × (left ≡ kept ∷ tail) × (kept.seen ≡ None) × next tail
Next false left next = next left

-- the walk, seen from one seat
abbrev pub Good : ℕ → ℕ → Memory → List Entry → List Kept → Type 0
Good n w m [] rest = All (IsAnswered n m) rest
Good n w m (e ∷ es) rest = (taken : List Kept) × (left : List Kept) × (rest ≡ taken ++ left) × All (IsAnswered n m) taken
    × Next (nat_eq e.worker w) left (λ l. Good (suc n) w (left_by m e.command e.reply) es l)

-- what one seat took
record Took (n : ℕ) (m : Memory) (rest left : List Kept) : Type 0 where
  taken : List Kept
  split : rest ≡ taken ++ left
  right : All (IsAnswered n m) taken

took_at : (rests lefts : List (List Kept)) (n v : ℕ) (m : Memory) (before after : List Entry) (j : ℕ) → AreTaken n v m rests lefts before after
    → Took n m (slice_index_or rests j []) (slice_index_or lefts j [])
took_at [] [] n v m before after j h = record { taken = []; split = refl; right = λ k d b. absurd (omega (arith, b)) }
took_at [] (l ∷ ls) n v m before after j h = absurd h
took_at (r ∷ rs) [] n v m before after j h = absurd h
took_at (r ∷ rs) (l ∷ ls) n v m before after zero h = record { taken = h.1.taken; split = h.1.split; right = h.1.right }
took_at (r ∷ rs) (l ∷ ls) n v m before after (suc j) h = took_at rs ls n (suc v) m h.0 after j h.2

-- the seat of the entry had a call there
inside : (w : ℕ) (old new : List (List Kept)) (s : IsStepped w old new) → w < length old
inside w old new s = grind (arith, get_or_past)

pub stepped_same : (w : ℕ) (old new : List (List Kept)) (s : IsStepped w old new) → slice_index_or new w [] ≡ s.tail
stepped_same w old new s = ap (λ (x : List (List Kept)). slice_index_or x w []) s.set ∙ get_or-set_same old w s.tail [] (inside w old new s)

pub stepped_other : (w j : ℕ) (old new : List (List Kept)) (s : IsStepped w old new) → (w ≡ j → ⊥) → slice_index_or new j [] ≡ slice_index_or old j []
stepped_other w j old new s apart = ap (λ (x : List (List Kept)). slice_index_or x j []) s.set ∙ get_or-set_other old w j s.tail [] (λ e. apart (sym e))

-- the walk is good for each seat
pub walks_good : (entries : List Entry) (n w : ℕ) (m : Memory) (rests : List (List Kept)) (before after : List Entry) → Walks n m rests entries before after
    → Good n w m entries (slice_index_or rests w [])
walks_good [] n w m rests before after h =
    let took = took_at rests h.0 n 0 m before after w h.1 in
    let all : slice_index_or rests w [] ≡ took.taken = took.split ∙ ap (λ (l : List Kept). took.taken ++ l) (h.2 w) ∙ append-nil took.taken in
    subst (λ (l : List Kept). All (IsAnswered n m) l) (sym all) took.right
walks_good (e ∷ es) n w m rests before after h =
    let took = took_at rests h.0 n 0 m before h.2 w h.3 in
    let later = walks_good es (suc n) w (left_by m e.command e.reply) h.1 (h.2 ++ e ∷ []) after h.5 in (
      took.taken,
      slice_index_or h.0 w [],
      took.split,
      took.right,
      elim (eqb_tells e.worker w) [
        | inl own ↦
            let first : slice_index_or h.0 w [] ≡ h.4.kept ∷ h.4.tail = subst (λ (x : ℕ). slice_index_or h.0 x [] ≡ h.4.kept ∷ h.4.tail) own.1 h.4.first in
            let rest : slice_index_or h.1 w [] ≡ h.4.tail = subst (λ (x : ℕ). slice_index_or h.1 x [] ≡ h.4.tail) own.1 (stepped_same e.worker h.0 h.1 h.4) in
            rw own.0 (h.4.kept, h.4.tail, first, h.4.bare, subst (λ (l : List Kept). Good (suc n) w (left_by m e.command e.reply) es l) rest later)
        | inr other ↦ rw other.0 (subst (λ (l : List Kept). Good (suc n) w (left_by m e.command e.reply) es l) (stepped_other e.worker w h.0 h.1 h.4 other.1) later)
      ],
    )

-- no call that saw another length is among the reads
reads_none : (taken : List Kept) (n k v : ℕ) (m : Memory) → All (IsAnswered n m) taken → (k ≡ n → ⊥) → reads_at k v taken ≡ []
reads_none [] n k v m right apart = refl
reads_none (c ∷ cs) n k v m right apart =
    let here = (right 0 c (omega arith)).0 in
    let miss : is_length k c.seen ≡ false = rw here (elim (eqb_tells n k) [ inl same ↦ absurd (apart (sym same.1)) | inr other ↦ other.0 ]) in
    rw miss (reads_none cs n k v m (λ i d b. right (suc i) d (omega (arith, b))) apart)

-- a recorded call is no read
reads_bare : (c : Kept) (cs : List Kept) (k v : ℕ) → c.seen ≡ None → reads_at k v (c ∷ cs) ≡ reads_at k v cs
reads_bare c cs k v h = let miss : is_length k c.seen ≡ false = rw h refl in rw miss refl

-- what is good from `n` on has no earlier read
none_before : (entries : List Entry) (n w k v : ℕ) (m : Memory) (rest : List Kept) → k < n → Good n w m entries rest → reads_at k v rest ≡ []
none_before [] n w k v m rest below good = reads_none rest n k v m good (λ e. absurd (omega (arith, below, e)))
none_before (e ∷ es) n w k v m rest below good =
    let first = reads_none good.0 n k v m good.3 (λ same. absurd (omega (arith, below, same))) in
    let later : reads_at k v good.1 ≡ [] = elim (tells (nat_eq e.worker w)) [
      | inl own ↦
          let next : Next true good.1 (λ x. Good (suc n) w (left_by m e.command e.reply) es x) = rw own at good.4 in
          let tail = none_before es (suc n) w k v (left_by m e.command e.reply) next.1 (omega (arith, below)) next.4 in
          rw next.2 (reads_bare next.0 next.1 k v next.3 ∙ tail)
      | inr other ↦
          none_before es (suc n) w k v (left_by m e.command e.reply) good.1 (omega (arith, below)) (rw other at good.4)
    ] in
    ap (λ (l : List Kept). reads_at k v l) good.2 ∙ reads_append k v good.0 good.1 ∙ rw first later

-- a step takes no read
step_reads : (w : ℕ) (old new : List (List Kept)) (s : IsStepped w old new) (j k v : ℕ) → reads_at k v (slice_index_or old j []) ≡ reads_at k v (slice_index_or new j [])
step_reads w old new s j k v = grind (arith, stepped_same w old new s, stepped_other w j old new s)

-- what was taken has no read that saw another length
took_reads : (n k v : ℕ) (m : Memory) (rest left : List Kept) → Took n m rest left → (k ≡ n → ⊥) → reads_at k v rest ≡ reads_at k v left
took_reads n k v m rest left took apart =
    ap (λ (l : List Kept). reads_at k v l) took.split ∙ reads_append k v took.taken left ∙ rw (reads_none took.taken n k v m took.right apart) refl

-- no seat has a read
all_none : (ys : List (List Kept)) (k v : ℕ) → ((j w : ℕ) → reads_at k w (slice_index_or ys j []) ≡ []) → all_reads_at k v ys ≡ []
all_none [] k v h = refl
all_none (y ∷ ys) k v h = rw (h 0 v) (all_none ys k (suc v) (λ j w. h (suc j) w))

-- seats with the same reads have the same reads together
all_same : (xs ys : List (List Kept)) (k v : ℕ) → ((j w : ℕ) → reads_at k w (slice_index_or xs j []) ≡ reads_at k w (slice_index_or ys j []))
    → all_reads_at k v xs ≡ all_reads_at k v ys
all_same [] ys k v h = sym (all_none ys k v (λ j w. sym (h j w)))
all_same (x ∷ xs) [] k v h = all_none (x ∷ xs) k v h
all_same (x ∷ xs) (y ∷ ys) k v h = let here = h 0 v in let rest = all_same xs ys k (suc v) (λ j w. h (suc j) w) in rw here (rw rest refl)

-- what later reads there are decides what is built
built_same : (entries : List Entry) (k : ℕ) (xs ys : List (List Kept))
    → ((q j w : ℕ) → k ≤ q → reads_at q w (slice_index_or xs j []) ≡ reads_at q w (slice_index_or ys j [])) → built_from k xs entries ≡ built_from k ys entries
built_same [] k xs ys h = all_same xs ys k 0 (λ j w. h k j w (omega arith))
built_same (e ∷ es) k xs ys h =
    rw (all_same xs ys k 0 (λ j w. h k j w (omega arith))) (rw (built_same es (suc k) xs ys (λ q j w above. h q j w (omega (arith, above)))) refl)

-- what is written where all reads of a length are taken
taken_all : (rests lefts : List (List Kept)) (n v : ℕ) (m : Memory) (before after : List Entry) → AreTaken n v m rests lefts before after
    → ((j w : ℕ) → reads_at n w (slice_index_or lefts j []) ≡ []) → after ≡ before ++ all_reads_at n v rests
taken_all [] [] n v m before after h none = h ∙ sym (append-nil before)
taken_all [] (l ∷ ls) n v m before after h none = absurd h
taken_all (r ∷ rs) [] n v m before after h none = absurd h
taken_all (r ∷ rs) (l ∷ ls) n v m before after h none =
    let here : reads_at n v r ≡ reads_at n v h.1.taken =
    ap (λ (x : List Kept). reads_at n v x) h.1.split ∙ reads_append n v h.1.taken l
    ∙ ap (λ (x : List Entry). reads_at n v h.1.taken ++ x) (none 0 v) ∙ append-nil (reads_at n v h.1.taken) in
    let rest = taken_all rs ls n (suc v) m h.0 after h.2 (λ j w. none (suc j) w) in
    rest ∙ ap (λ (x : List Entry). x ++ all_reads_at n (suc v) rs) (h.1.pushed ∙ ap (λ (x : List Entry). before ++ x) (sym here))
    ∙ append_assoc before (reads_at n v r) (all_reads_at n (suc v) rs)

-- the walk writes what is built
pub walks_built : (entries : List Entry) (n : ℕ) (m : Memory) (rests : List (List Kept)) (before after : List Entry) → Walks n m rests entries before after
    → after ≡ before ++ built_from n rests entries
walks_built [] n m rests before after h =
    taken_all rests h.0 n 0 m before after h.1 (λ j w. ap (λ (l : List Kept). reads_at n w l) (h.2 j))
walks_built (e ∷ es) n m rests before after h =
    let lefts = h.0 in
    let next = h.1 in
    let mid = h.2 in
    let none : (j w : ℕ) → reads_at n w (slice_index_or lefts j []) ≡ [] = λ j w.
    step_reads e.worker lefts next h.4 j n w
    ∙ none_before es (suc n) j n w (left_by m e.command e.reply) (slice_index_or next j []) (omega arith)
    (walks_good es (suc n) j (left_by m e.command e.reply) next (mid ++ e ∷ []) after h.5) in
    let wrote = taken_all rests lefts n 0 m before mid h.3 none in
    let later = walks_built es (suc n) (left_by m e.command e.reply) next (mid ++ e ∷ []) after h.5 in
    let same = built_same es (suc n) next rests (λ q j w above.
    sym (step_reads e.worker lefts next h.4 j q w)
    ∙ sym (took_reads n q w m (slice_index_or rests j []) (slice_index_or lefts j []) (took_at rests lefts n 0 m before mid j h.3) (λ eq. absurd (omega (arith, above, eq))))) in
    later ∙ append_assoc mid (e ∷ []) (built_from (suc n) next es) ∙ ap (λ (x : List Entry). x ++ e ∷ built_from (suc n) next es) wrote
    ∙ append_assoc before (all_reads_at n 0 rests) (e ∷ built_from (suc n) next es)
    ∙ ap (λ (x : List Entry). before ++ (all_reads_at n 0 rests ++ e ∷ x)) same

-- nothing is left past a list's end
pub drop_all : {X : Type 0} (xs : List X) (k : ℕ) → length xs ≤ k → drop k xs ≡ []
drop_all xs k past = lists.drop_all k xs past

-- the reads of the first `k` seats are taken
pub record IsTakenUpTo (n k : ℕ) (m : Memory) (rests now : List (List Kept)) (before after : List Entry) : Type 0 where
  pub others : drop k now ≡ drop k rests
  pub many : length now ≡ length rests
  pub goes_on : (end : List Entry) (lefts : List (List Kept)) → AreTaken n k m (drop k rests) lefts after end → AreTaken n 0 m rests (take k now ++ lefts) before end

pub taken_up_to_none : (n : ℕ) (m : Memory) (rests : List (List Kept)) (before : List Entry) → IsTakenUpTo n 0 m rests rests before before
taken_up_to_none n m rests before = record { others = refl; many = refl; goes_on = λ end lefts h. h }

-- one seat more
pub taken_up_to_more : (n k : ℕ) (m : Memory) (rests now : List (List Kept)) (rest left : List Kept) (before mid after : List Entry) → k < length rests
    → IsTakenUpTo n k m rests now before mid → rest ≡ slice_index_or now k [] → IsTakenTo n k m rest left mid after
    → IsTakenUpTo n (k + 1) m rests (slice_set now k left) before after
taken_up_to_more n k m rests now rest left before mid after below to is taken =
    let one : k + 1 ≡ suc k = omega arith in
    let there : k < length now = (let x = to.many in omega (arith, below, x)) in
    let cut_now = drop-cons now k [] there in
    let cut = drop-cons rests k [] below in
    let both : slice_index_or now k [] ∷ drop (suc k) now ≡ slice_index_or rests k [] ∷ drop (suc k) rests = sym cut_now ∙ to.others ∙ cut in
    let front : take (suc k) (slice_set now k left) ≡ take k now ++ left ∷ [] = take-suc-set now k left there in
    rw one (record {
      others = (drop-set-lt (suc k) now k left (omega arith)) ∙ (cc both);
      many = length-set now k left ∙ to.many;
      goes_on = λ end lefts h.
          let began : AreTaken n k m (slice_index_or rests k [] ∷ drop (suc k) rests) (left ∷ lefts) mid end =
          (after, subst (λ (r : List Kept). IsTakenTo n k m r left mid after) (is ∙ (cc both)) taken, h) in
          let first = to.goes_on end (left ∷ lefts) (subst (λ (rs : List (List Kept)). AreTaken n k m rs (left ∷ lefts) mid end) (sym cut) began) in
          let joined : take k now ++ left ∷ lefts ≡ take (suc k) (slice_set now k left) ++ lefts = sym (append_assoc (take k now) (left ∷ []) lefts) ∙ ap (λ (ls : List (List Kept)). ls ++ lefts) (sym front) in
          subst (λ (ls : List (List Kept)). AreTaken n 0 m rests ls before end) joined first;
    })

-- all seats
pub taken_up_to_all : (n k : ℕ) (m : Memory) (rests now : List (List Kept)) (before after : List Entry) → length rests ≤ k → IsTakenUpTo n k m rests now before after
    → AreTaken n 0 m rests now before after
taken_up_to_all n k m rests now before after past to =
    let whole : take k now ++ [] ≡ now = append-nil (take k now) ∙ take_all k now (let x = to.many in omega (arith, past, x)) in
    subst (λ (ls : List (List Kept)). AreTaken n 0 m rests ls before after) whole (to.goes_on after [] (rw (drop_all rests k past) refl))

-- within a list the default has no part
pub index_any : {X : Type 0} (xs : List X) (i : ℕ) (d e : X) → i < length xs → slice_index_or xs i d ≡ slice_index_or xs i e
index_any xs i d e below = get_or_default xs i d e below

-- the walk so far: whatever it comes to from here, it comes to from the beginning
abbrev pub ComesTo : Memory → List (List Kept) → List Entry → ℕ → Memory → List (List Kept) → List Entry → Type 0
ComesTo m rests entries n now lefts history = (after : List Entry) → Walks n now lefts (drop n entries) history after → Walks 0 m rests entries [] after

-- before the first entry
pub comes_first : (now : Memory) (rests seats : List (List Kept)) (entries history after : List Entry) → now ≡ empty_memory → rests ≡ seats → history ≡ []
    → Walks 0 now rests entries history after → Walks 0 empty_memory seats entries [] after
comes_first now rests seats entries history after same_memory same_rests same_history walks = grind arith

-- one entry more
pub comes_more : (m now : Memory) (rests lefts mids next : List (List Kept)) (entries : List Entry) (n : ℕ) (history mid after : List Entry) (entry : Entry) → n < length entries
    → slice_index_or entries n entry ≡ entry → ComesTo m rests entries n now lefts history → AreTaken n 0 now lefts mids history mid → IsStepped entry.worker mids next
    → after ≡ mid ++ entry ∷ [] → ComesTo m rests entries (n + 1) (left_by now entry.command entry.reply) next after
comes_more m now rests lefts mids next entries n history mid after entry below at comes taken stepped more = grind (arith, drop-cons)

-- the journal's end
pub comes_to_end : (m now : Memory) (rests lefts ends : List (List Kept)) (entries : List Entry) (n : ℕ) (history after : List Entry) → length entries ≤ n
    → ComesTo m rests entries n now lefts history → AreTaken n 0 now lefts ends history after → ((w : ℕ) → slice_index_or ends w [] ≡ []) → Walks 0 m rests entries [] after
comes_to_end m now rests lefts ends entries n history after past comes taken none =
    comes after (rw (drop_all entries n past) (ends, taken, none))
