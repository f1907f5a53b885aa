-- Where a read may stand after some calls of its seat, and where not.
use Rattle.std.proofs.Common.{◌≡◌, ℕ, suc, ◌+◌, ◌<◌, ◌≤◌, Bool, true, false, ◌||◌, List, [], ◌∷◌, ◌++◌, length, nat_lt, nat_le, take, drop, slice_get, ap, subst, refl, sym, ◌∙◌, arith, Some, None, append-nil}
use Rattle.std.specs.List.{list_any}
use Rattle.std.proofs.Math.Seq.{take-suc}
use Rattle.std.proofs.lemmas.Bool.{le-leb, le-ltb, lt-leb, lt-ltb}
use Rattle.std.proofs.lemmas.List.Folds.{list_any-append}
use Rattle.std.proofs.lemmas.Option.{get_or_from_slice_get, slice_get_past, slice_get_within}
use Rattle.std.proofs.lemmas.List.{length-append}
use Rattle.model_memory.specs.Plain.{Entry}
use Rattle.model_memory.specs.Seats.{Call}
use Rattle.model_memory.specs.Reads.{Kept, is_out_of_place, is_passed, lengths_seen, places_from, recorded}
use Rattle.model_memory.proofs.FittingCalls.{drop_at, drop_none, recorded_append, seen_append}
use Rattle.model_memory.proofs.WovenCalls.{first_or}

-- the places ascend, and end below the total
abbrev pub Ascend : ℕ → List ℕ → Type 0
Ascend total [] = Unit {0}
Ascend total (p ∷ ps) = (suc p ≤ first_or total ps) × Ascend total ps

first_at : (es : List Entry) (k w total : ℕ) → total ≡ k + length es → k ≤ first_or total (places_from k w es)
first_at [] k w total is = omega (arith, is)
first_at (e ∷ es) k w total is = grind (arith, first_at es (suc k) w total (omega (arith, is)))

pub places_ascend : (es : List Entry) (k w total : ℕ) → total ≡ k + length es → Ascend total (places_from k w es)
places_ascend [] k w total is = tt
places_ascend (e ∷ es) k w total is = grind (arith, first_at, places_ascend es (suc k) w total (omega (arith, is)))

-- a disjunction of two that fail
both_false : (a b : Bool) → a ≡ false → b ≡ false → (a || b) ≡ false
both_false true b h g = cc
both_false false b h g = g

-- nor does an element of two lists pass, where none of either does
any_append : {X : Type 0} (p : X → Bool) (xs ys : List X) → list_any p xs ≡ false → list_any p ys ≡ false → list_any p (xs ++ ys) ≡ false
any_append p xs ys h g = list_any-append p xs ys ∙ both_false (list_any p xs) (list_any p ys) h g

-- one place more before the cut
take_more : (xs : List ℕ) (i p : ℕ) → slice_get xs i ≡ Some p → take (suc i) xs ≡ take i xs ++ p ∷ []
take_more xs i p h = take-suc xs i p (slice_get_within xs i p h) ∙ ap (λ (x : ℕ). take i xs ++ x ∷ []) (get_or_from_slice_get xs i p p h)

-- the calls before leave room from `low` on
pub record Leaves (places : List ℕ) (total : ℕ) (before : List Kept) (low : ℕ) (ps : List ℕ) : Type 0 where
  pub cut : drop (length (recorded before)) places ≡ ps
  pub seen : (q : ℕ) → low ≤ q → list_any (λ m. nat_lt q m) (lengths_seen before) ≡ false
  pub after : (q : ℕ) → low ≤ q → list_any (λ place. nat_le q place) (take (length (recorded before)) places) ≡ false
  pub next : low ≤ first_or total ps

none_there : (xs : List ℕ) (i : ℕ) → drop i xs ≡ [] → slice_get xs i ≡ None
none_there xs i h = slice_get_past xs i (drop_none xs i h)

first_below : (total : ℕ) (ps : List ℕ) → Ascend total ps → first_or total ps ≤ total
first_below total [] ascend = omega arith
first_below total (p ∷ ps) ascend = let rest = first_below total ps ascend.1 in let a = ascend.0 in omega (arith, rest, a)

-- a length between them is in place
pub in_place : (places : List ℕ) (total : ℕ) (before : List Kept) (low n : ℕ) (ps : List ℕ) → Ascend total ps → Leaves places total before low ps → low ≤ n → n ≤ first_or total ps
    → is_out_of_place places total before n ≡ false
in_place places total before low n ps ascend room below fine =
    both_false _ _ (both_false _ _ (both_false _ _ (room.seen n below) (room.after n below)) (passed ps room.cut fine)) (le-ltb total n (let f = first_below total ps ascend in omega (arith, f, fine)))
  where
    passed : (qs : List ℕ) → drop (length (recorded before)) places ≡ qs → n ≤ first_or total qs → is_passed (slice_get places (length (recorded before))) n ≡ false
    passed [] cut small = let none = none_there places (length (recorded before)) cut in rw none refl
    passed (q ∷ qs) cut small = let there = drop_at places (length (recorded before)) q qs cut in rw there.0 (le-ltb q n small)

-- after a read that stands between them there is room from its length on
pub leaves_read : (places : List ℕ) (total : ℕ) (before : List Kept) (c : Kept) (low n : ℕ) (ps : List ℕ) → Leaves places total before low ps → c.seen ≡ Some n → low ≤ n
    → n ≤ first_or total ps → Leaves places total (before ++ c ∷ []) n ps
leaves_read places total before c low n ps room sees above fine =
    let none : recorded (c ∷ []) ≡ [] = rw sees refl in
    let same_rec : recorded (before ++ c ∷ []) ≡ recorded before = recorded_append before (c ∷ []) ∙ rw none (append-nil (recorded before)) in
    record {
      cut = subst (λ (l : List Call). drop (length l) places ≡ ps) (sym same_rec) room.cut;
      seen = λ q above_q. subst (λ (ns : List ℕ). list_any (λ m. nat_lt q m) ns ≡ false) (sym (seen_append before (c ∷ []) ∙ rw sees refl))
          (any_append (λ m. nat_lt q m) (lengths_seen before) (n ∷ []) (room.seen q (omega (arith, above, above_q))) (both_false (nat_lt q n) false (le-ltb q n above_q) refl));
      after = λ q above_q. subst (λ (l : List Call). list_any (λ place. nat_le q place) (take (length l) places) ≡ false) (sym same_rec)
          (room.after q (omega (arith, above, above_q)));
      next = fine;
    }

-- a recorded call is one more
one_recorded : (before : List Kept) (c : Kept) → c.seen ≡ None → length (recorded (before ++ c ∷ [])) ≡ suc (length (recorded before))
one_recorded before c bare = grind (arith, recorded_append, length-append)

-- after a recorded call there is room from the one after its index on
pub leaves_recorded : (places : List ℕ) (total : ℕ) (before : List Kept) (c : Kept) (low p : ℕ) (qs : List ℕ) → Ascend total (p ∷ qs)
    → Leaves places total before low (p ∷ qs) → c.seen ≡ None → Leaves places total (before ++ c ∷ []) (suc p) qs
leaves_recorded places total before c low p qs ascend room bare =
    let len = one_recorded before c bare in
    let same_seen : lengths_seen (before ++ c ∷ []) ≡ lengths_seen before = seen_append before (c ∷ []) ∙ rw bare (append-nil (lengths_seen before)) in
    let there = drop_at places (length (recorded before)) p qs room.cut in
    let small : low ≤ p = room.next in
    let longer : take (length (recorded (before ++ c ∷ []))) places ≡ take (length (recorded before)) places ++ p ∷ [] =
    ap (λ (k : ℕ). take k places) len ∙ take_more places (length (recorded before)) p there.0 in
    record {
      cut = ap (λ (k : ℕ). drop k places) len ∙ there.1;
      seen = λ q above_q. subst (λ (ns : List ℕ). list_any (λ m. nat_lt q m) ns ≡ false) (sym same_seen) (room.seen q (omega (arith, small, above_q)));
      after = λ q above_q. subst (λ (l : List ℕ). list_any (λ place. nat_le q place) l ≡ false) (sym longer)
          (any_append (λ place. nat_le q place) (take (length (recorded before)) places) (p ∷ []) (room.after q (omega (arith, small, above_q))) (both_false (nat_le q p) false (lt-leb q p above_q) refl));
      next = ascend.0;
    }

either_true : (a b : Bool) → a ≡ true → (a || b) ≡ true
either_true true b h = refl
either_true false b h = cc

or_true : (a b : Bool) → b ≡ true → (a || b) ≡ true
or_true true b h = refl
or_true false b h = h

-- an element passes where the last one does
any_last : {X : Type 0} (p : X → Bool) (xs : List X) (x : X) → p x ≡ true → list_any p (xs ++ x ∷ []) ≡ true
any_last p xs x h = list_any-append p xs (x ∷ []) ∙ or_true (list_any p xs) (p x || false) (either_true (p x) false h)

-- a read that saw less than the read before it is out of place
pub wrong_after_read : (places : List ℕ) (total : ℕ) (before : List Kept) (c : Kept) (n q : ℕ) → c.seen ≡ Some n → q < n
    → is_out_of_place places total (before ++ c ∷ []) q ≡ true
wrong_after_read places total before c n q sees less = grind (arith, seen_append, any_last)

-- one that saw no more than the index of the recorded call before it is
pub wrong_after_recorded : (places : List ℕ) (total : ℕ) (before : List Kept) (c : Kept) (p q : ℕ) → c.seen ≡ None
    → slice_get places (length (recorded before)) ≡ Some p → q ≤ p → is_out_of_place places total (before ++ c ∷ []) q ≡ true
wrong_after_recorded places total before c p q bare at small =
    let longer : take (length (recorded (before ++ c ∷ []))) places ≡ take (length (recorded before)) places ++ p ∷ [] =
    ap (λ (k : ℕ). take k places) (one_recorded before c bare) ∙ take_more places (length (recorded before)) p at in
    either_true _ _ (either_true _ _ (or_true _ _ (subst (λ (l : List ℕ). list_any (λ place. nat_le q place) l ≡ true) (sym longer)
    (any_last (λ place. nat_le q place) (take (length (recorded before)) places) p (le-leb q p small)))))

-- one that saw more than the index of the next recorded call is
pub wrong_before_recorded : (places : List ℕ) (total : ℕ) (before : List Kept) (p q : ℕ) → slice_get places (length (recorded before)) ≡ Some p → p < q
    → is_out_of_place places total before q ≡ true
wrong_before_recorded places total before p q at less =
    let passed : is_passed (slice_get places (length (recorded before))) q ≡ true = rw at (lt-ltb p q less) in either_true _ _ (or_true _ _ passed)

-- one that saw more than the journal has is
pub wrong_past_end : (places : List ℕ) (total : ℕ) (before : List Kept) (q : ℕ) → total < q → is_out_of_place places total before q ≡ true
wrong_past_end places total before q less = or_true _ _ (lt-ltb total q less)
