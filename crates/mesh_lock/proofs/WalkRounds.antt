-- One round of the walk, and its end.
use Rattle.std.proofs.Common.{◌≡◌, ℕ, zero, suc, ◌+◌, ◌<◌, ◌≤◌, List, [], ◌∷◌, ◌++◌, length, take, drop, slice_index_or, ap, subst, refl, sym, ◌∙◌, arith, Option, Some, None, Result, Ok, Err, IfOk, IfErr, IfSome, OnOk}
use Rattle.std.proofs.Math.Seq.{drop-cons, take-append_seam}
use Rattle.std.proofs.lemmas.List.{length-drop, length-take}
use Rattle.model_memory.specs.Memory.{Memory, empty_memory}
use Rattle.model_memory.specs.Plain.{Entry}
use Rattle.model_memory.specs.Reads.{AreRight, Kept, left_by, memory_after}
use Rattle.mesh_lock.specs.declared.faults.FinishError.{FinishError}
use Rattle.mesh_lock.specs.declared.faults.FinishError.TheVariants.{ReadDiffers as ReadError}
use Rattle.mesh_lock.specs.Walk.{AreLeft, AreTaken, IsFirstLeft, IsStep, IsStepped, IsWalkFault, Tells, Walks, left_of}
use Rattle.mesh_lock.proofs.WalkPlaces.{Looks, looks_last, looks_right, looks_stepped, looks_taken, looks_wrong}
use Rattle.mesh_lock.proofs.BuiltHistories.{ComesTo, comes_more, comes_to_end, drop_all}

-- the items of a vector whose slice was written
pub written_back : {X : Type 0} (items new : List X) (len : ℕ) → len ≡ length items → length new ≡ length items → take len (new ++ drop (length new) items) ≡ new
written_back {X = X} items new len is same =
    subst (λ (k : ℕ). take k (new ++ drop (length new) items) ≡ new) (omega (arith, is, same)) (take-append_seam new (drop (length new) items))

-- the elements past a place are those that are left
drop_many : {X : Type 0} (xs : List X) (n : ℕ) → n ≤ length xs → length xs ≡ n + length (drop n xs)
drop_many xs n below = let l = length-drop n xs in omega (arith, l, below)

-- the memory after one entry more
after_more : (es : List Entry) (n : ℕ) (e : Entry) (m : Memory) → n < length es → slice_index_or es n e ≡ e
    → memory_after m (take (suc n) es) ≡ left_by (memory_after m (take n es)) e.command e.reply
after_more [] n e m below at = absurd (omega (arith, below))
after_more (x ∷ xs) zero e m below at = ap (λ (y : Entry). left_by m y.command y.reply) at
after_more (x ∷ xs) (suc n) e m below at = after_more xs n e (left_by m x.command x.reply) (omega (arith, below)) at

-- where nothing is told nothing was, and nothing was found
record NothingTold (found : Option ℕ) (old new : List (List Kept)) (told : Option (ℕ × ℕ)) : Type 0 where
  not_found : found ≡ None
  not_told : told ≡ None
  same : new ≡ old

nothing_told : (seats : List (List Kept)) (found : Option ℕ) (old new : List (List Kept)) (told told' : Option (ℕ × ℕ)) → Tells seats found old new told told' → told' ≡ None
    → NothingTold found old new told
nothing_told seats None old new told told' tells none = record { not_found = refl; not_told = sym tells.1 ∙ none; same = tells.0 }
nothing_told seats (Some w) old new told told' tells none = let clash = sym none ∙ tells.1 in absurd (cc clash)

step_none : (worker : ℕ) (old new : List (List Kept)) (found : Option ℕ) → found ≡ None → worker < length old → IsStep worker old new found → IsStepped worker old new
step_none worker old new None none below step = step.0 below
step_none worker old new (Some w) none below step = absurd (cc none)

-- as many of a vector's items as it had are no more than the seats
pub few_taken : {X : Type 0} (items back : List X) (len most many : ℕ) → len ≡ length items → length items ≤ most → most ≡ many → length (take len back) ≤ many
few_taken items back len most many ok few same = omega (arith, length-take len back, ok, few, same)

-- nor are those that are left after a seat was told
pub few_told : (seats items back rests' : List (List Kept)) (found : Option ℕ) (told told' : Option (ℕ × ℕ)) (len most : ℕ) → len ≡ length items → length items ≤ most
    → Tells seats found (take len back) rests' told told' → length rests' ≤ most
few_told seats items back rests' None told told' len most ok few tells =
    omega (arith, ap (λ (l : List (List Kept)). length l) tells.0, few_taken items back len most most ok few refl)
few_told seats items back rests' (Some w) told told' len most ok few tells =
    omega (arith, ap (λ (l : List (List Kept)). length l) tells.0, length-take w (take len back), few_taken items back len most most ok few refl)

-- a slice of no more items than the seats, of which there are few
pub few_seen : {X : Type 0} (items slice : List X) (most many top : ℕ) → slice ≡ items → length items ≤ most → most ≡ many → many < top → length slice < top
few_seen items slice most many top is few same below = omega (arith, ap (λ (l : List _). length l) is, few, same, below)

-- a seat that was found is one of a vector's items, in whose slice the reads were taken, or the entry's call was
pub found_left : (n : ℕ) (m : Memory) (slice lefts items : List (List Kept)) (len : ℕ) (wrong : Option ℕ) → slice ≡ items → len ≡ length items → length lefts ≡ length slice
    → AreLeft n m slice lefts wrong → IfSome wrong (λ w. w < length (take len (lefts ++ drop (length lefts) items)))
found_left n m slice lefts items len None is ok many left = tt
found_left n m slice lefts items len (Some w) is ok many left = grind (arith, written_back)

pub found_step : (worker : ℕ) (slice mids items : List (List Kept)) (len : ℕ) (early : Option ℕ) → slice ≡ items → len ≡ length items → length mids ≡ length slice
    → IsStep worker slice mids early → IfSome early (λ w. w < length (take len (mids ++ drop (length mids) items)))
found_step worker slice mids items len None is ok many step = tt
found_step worker slice mids items len (Some w) is ok many step = grind (arith, written_back)

-- what holds before each entry
pub record Goes (seats : List (List Kept)) (entries : List Entry) (n : ℕ) (plain : Memory) (rests : List (List Kept)) (history : List Entry) (told : Option (ℕ × ℕ)) : Type 0 where
  pub looks : Looks seats entries n rests told
  pub comes : told ≡ None → ComesTo empty_memory seats entries n plain rests history
  pub memory : plain ≡ memory_after empty_memory (take n entries)

-- the reads of this length are taken
pub record Takes (seats : List (List Kept)) (n : ℕ) (plain : Memory) (rests lefts rests' : List (List Kept)) (history history' : List Entry) (wrong : Option ℕ)
    (told told' : Option (ℕ × ℕ)) : Type 0 where
  pub left : AreLeft n plain rests lefts wrong
  pub taken : wrong ≡ None → AreTaken n 0 plain rests lefts history history'
  pub many : length lefts ≡ length rests
  pub tells : Tells seats wrong lefts rests' told told'

-- reads taken in the slice of a vector, and the seat that was found
pub taken_in : (seats : List (List Kept)) (n : ℕ) (plain : Memory) (rests slice lefts rests' : List (List Kept)) (len : ℕ) (history history' : List Entry) (wrong : Option ℕ)
    (told told' : Option (ℕ × ℕ)) → slice ≡ rests → len ≡ length rests → length lefts ≡ length slice → AreLeft n plain slice lefts wrong
    → (wrong ≡ None → AreTaken n 0 plain slice lefts history history') → Tells seats wrong (take len (lefts ++ drop (length lefts) rests)) rests' told told'
    → Takes seats n plain rests lefts rests' history history' wrong told told'
taken_in seats n plain rests slice lefts rests' len history history' wrong told told' is ok many left taken tells = grind (arith, written_back)

-- one entry more
pub goes_on : (seats : List (List Kept)) (entries : List Entry) (entry : Entry) (n : ℕ) (plain plain' : Memory) (rests lefts rests' mids rests'' : List (List Kept))
    (history history' history'' : List Entry) (wrong early : Option ℕ) (told told' told'' : Option (ℕ × ℕ)) → n < length entries → slice_index_or entries n entry ≡ entry
    → entry.worker < length seats → Goes seats entries n plain rests history told → Takes seats n plain rests lefts rests' history history' wrong told told'
    → IsStep entry.worker rests' mids early → length mids ≡ length rests' → Tells seats early mids rests'' told' told''
    → plain' ≡ left_by plain entry.command entry.reply → history'' ≡ history' ++ entry ∷ [] → Goes seats entries (n + 1) plain' rests'' history'' told''
goes_on seats entries entry n plain plain' rests lefts rests' mids rests'' history history' history'' wrong early told told' told'' below at known goes takes step many tells applied pushed =
    let one : suc n ≡ n + 1 = omega arith in
    let all = drop_many entries n (omega (arith, below)) in
    let cut : drop n entries ≡ entry ∷ drop (suc n) entries = drop-cons entries n entry below ∙ ap (λ (e : Entry). e ∷ drop (suc n) entries) at in
    let here = looks_taken seats entries n plain rests lefts rests' wrong told told' all goes.memory takes.many goes.looks takes.left takes.tells in
    let next : Looks seats entries (suc n) rests'' told'' = looks_stepped seats entries (drop (suc n) entries) entry n plain rests' mids rests'' early told' told'' cut refl all
    (omega (arith, below)) many here.0 here.1 step tells in
    let memory : plain' ≡ memory_after empty_memory (take (suc n) entries) =
    applied ∙ ap (λ (m : Memory). left_by m entry.command entry.reply) goes.memory ∙ sym (after_more entries n entry empty_memory below at) in
    record {
      looks = subst (λ (k : ℕ). Looks seats entries k rests'' told'') one next;
      comes = λ none.
          let late = nothing_told seats early mids rests'' told' told'' tells none in
          let soon = nothing_told seats wrong lefts rests' told told' takes.tells late.not_told in
          let whole : length rests ≡ length seats = looks_whole goes.looks soon.not_told in
          let inside : entry.worker < length rests' = (let l = ap (λ (x : List (List Kept)). length x) soon.same in let m = takes.many in omega (arith, l, m, whole, known)) in
          let stepped : IsStepped entry.worker lefts mids = subst (λ (x : List (List Kept)). IsStepped entry.worker x mids) soon.same (step_none entry.worker rests' mids early late.not_found inside step) in
          let moved = comes_more empty_memory plain seats rests lefts mids entries n history history' history'' entry below at (goes.comes soon.not_told) (takes.taken soon.not_found) stepped pushed in
          let there : ComesTo empty_memory seats entries (n + 1) plain' mids history'' =
          subst (λ (m : Memory). ComesTo empty_memory seats entries (n + 1) m mids history'') (sym applied) moved in
          subst (λ (x : List (List Kept)). ComesTo empty_memory seats entries (n + 1) plain' x history'') (sym late.same) there;
      memory = subst (λ (k : ℕ). plain' ≡ memory_after empty_memory (take k entries)) one memory;
    }
  where
    looks_whole : Looks seats entries n rests told → told ≡ None → length rests ≡ length seats
    looks_whole looks none = let t = subst (λ (x : Option (ℕ × ℕ)). Looks seats entries n rests x) none looks in t.telling

-- what holds at the end
pub record Ends (seats : List (List Kept)) (entries : List Entry) (n : ℕ) (rests : List (List Kept)) (history : List Entry) (told : Option (ℕ × ℕ)) : Type 0 where
  pub looks : Looks seats entries n rests told
  pub none_left : (v : ℕ) → left_of rests v ≡ []
  pub walks : told ≡ None → Walks 0 empty_memory seats entries [] history

-- after the last entry
pub goes_to_end : (seats : List (List Kept)) (entries : List Entry) (n k : ℕ) (plain : Memory) (rests lefts rests' rests'' : List (List Kept)) (history history' : List Entry)
    (wrong late : Option ℕ) (told told' told'' : Option (ℕ × ℕ)) → length entries ≡ n → k ≡ n → Goes seats entries n plain rests history told
    → Takes seats k plain rests lefts rests' history history' wrong told told' → IsFirstLeft rests' late → Tells seats late rests' rests'' told' told''
    → Ends seats entries n rests'' history' told''
goes_to_end seats entries n k plain rests lefts rests' rests'' history history' wrong late told told' told'' end same goes takes' first tells =
    let takes = subst (λ (x : ℕ). Takes seats x plain rests lefts rests' history history' wrong told told') same takes' in
    let none : drop n entries ≡ [] = drop_all entries n (omega (arith, end)) in
    let here = looks_taken seats entries n plain rests lefts rests' wrong told told' (drop_many entries n (omega (arith, end))) goes.memory takes.many goes.looks takes.left takes.tells in
    let last = looks_last seats entries n plain rests' rests'' late told' told'' none end here.0 here.1 first tells in
    record {
      looks = last.0;
      none_left = last.1;
      walks = λ nothing.
          let after = nothing_told seats late rests' rests'' told' told'' tells nothing in
          let soon = nothing_told seats wrong lefts rests' told told' takes.tells after.not_told in
          comes_to_end empty_memory plain seats rests lefts entries n history history' (omega (arith, end)) (goes.comes soon.not_told) (takes.taken soon.not_found)
          (λ w. ap (λ (x : List (List Kept)). left_of x w) (sym soon.same ∙ sym after.same) ∙ last.1 w);
    }

-- what the end hands out: the history, or the read that was told
pub ended : {A : Type 0} (items : A → List Entry) (seats : List (List Kept)) (entries : List Entry) (n : ℕ) (rests : List (List Kept)) (history : List Entry)
    (told : Option (ℕ × ℕ)) (r : Result A FinishError) → Ends seats entries n rests history told
    → IfOk r (λ whole. (told ≡ None) × (items whole ≡ history)) → IfErr r (λ error. (w i : ℕ) × ((told ≡ Some (w, i)) × (error ≡ ReadError w i)))
    → IfOk r (λ whole. Walks 0 empty_memory seats entries [] (items whole)) × (OnOk r (AreRight seats entries) × IfErr r (IsWalkFault seats entries))
ended items seats entries n rests history told (Ok whole) ends ok fault = (
  subst (λ (es : List Entry). Walks 0 empty_memory seats entries [] es) (sym ok.1) (ends.walks ok.0),
  (looks_right seats entries n rests (subst (λ (t : Option (ℕ × ℕ)). Looks seats entries n rests t) ok.0 ends.looks) ends.none_left, tt),
)
ended items seats entries n rests history told (Err error) ends ok (w, i, (is, same)) =
    let differs = looks_wrong seats entries n w i rests (subst (λ (t : Option (ℕ × ℕ)). Looks seats entries n rests t) is ends.looks) ends.none_left in
    (tt, (tt, subst (λ (e : FinishError). IsWalkFault seats entries e) (sym same) differs))
