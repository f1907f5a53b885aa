-- Where all reads of a seat are in their places, its calls fit.
use Rattle.std.proofs.Common.{◌≡◌, ℕ, zero, suc, ◌<◌, ◌≤◌, Bool, true, false, ◌||◌, List, [], ◌∷◌, ◌++◌, length, nat_lt, nat_le, take, drop, slice_get, ap, subst, refl, sym, ◌∙◌, arith, inl, inr, Some, append_assoc}
use Rattle.std.specs.List.{list_any}
use Rattle.std.proofs.lemmas.Bool.Decides.{nat_tests, leb_tells}
use Rattle.std.proofs.Math.Seq.{take-append_seam}
use Rattle.std.proofs.lemmas.List.{length-append}
use Rattle.model_memory.specs.Plain.{Entry}
use Rattle.model_memory.specs.Seats.{Call, calls_of}
use Rattle.model_memory.specs.Reads.{Kept, call_of, is_out_of_place, is_passed, lengths_seen, places_from, recorded}
use Rattle.model_memory.proofs.WovenCalls.{AfterFirst, Fits, first_or, looks}

-- the parts of a disjunction that fails
or_false : (a b : Bool) → (a || b) ≡ false → (a ≡ false) × (b ≡ false)
or_false true b h = cc
or_false false b h = (refl, h)

-- no element passes a test that none passes
any_false : {X : Type 0} (p : X → Bool) (xs : List X) (i : ℕ) (x : X) → list_any p xs ≡ false → slice_get xs i ≡ Some x → p x ≡ false
any_false p [] zero x h at = absurd (cc at)
any_false p [] (suc i) x h at = absurd (cc at)
any_false p (y ∷ ys) zero x h at = let same : y ≡ x = cc at in let parts = or_false (p y) (list_any p ys) h in subst (λ z. p z ≡ false) same parts.0
any_false p (y ∷ ys) (suc i) x h at = let parts = or_false (p y) (list_any p ys) h in any_false p ys i x parts.1 at

-- an element just before the cut
get_take : {X : Type 0} (xs : List X) (i : ℕ) → slice_get (take (suc i) xs) i ≡ slice_get xs i
get_take [] zero = refl
get_take [] (suc i) = refl
get_take (x ∷ xs) zero = refl
get_take (x ∷ xs) (suc i) = get_take xs i

-- the element after a list
pub get_seam : {X : Type 0} (xs ys : List X) (x : X) → slice_get (xs ++ x ∷ ys) (length xs) ≡ Some x
get_seam [] ys x = refl
get_seam (y ∷ xs) ys x = get_seam xs ys x

-- what is left after a cut begins with the element there
pub drop_at : {X : Type 0} (xs : List X) (i : ℕ) (x : X) (rest : List X) → drop i xs ≡ x ∷ rest → (slice_get xs i ≡ Some x) × (drop (suc i) xs ≡ rest)
drop_at [] zero x rest h = cc
drop_at [] (suc i) x rest h = cc
drop_at (y ∷ ys) zero x rest h = let first : y ≡ x = cc h in let others : ys ≡ rest = cc h in (ap (λ z. Some z) first, others)
drop_at (y ∷ ys) (suc i) x rest h = drop_at ys i x rest h

pub drop_none : {X : Type 0} (xs : List X) (i : ℕ) → drop i xs ≡ [] → length xs ≤ i
drop_none [] i h = omega arith
drop_none (y ∷ ys) zero h = cc
drop_none (y ∷ ys) (suc i) h = let rest = drop_none ys i h in omega (arith, rest)

pub recorded_append : (xs ys : List Kept) → recorded (xs ++ ys) ≡ recorded xs ++ recorded ys
recorded_append [] ys = refl
recorded_append (x ∷ xs) ys = grind (arith, nat_tests, recorded_append xs ys, looks x.seen)

pub seen_append : (xs ys : List Kept) → lengths_seen (xs ++ ys) ≡ lengths_seen xs ++ lengths_seen ys
seen_append [] ys = refl
seen_append (x ∷ xs) ys = grind (arith, nat_tests, seen_append xs ys, looks x.seen)

-- what a read in its place meets
pub record InPlace (places : List ℕ) (total : ℕ) (before : List Kept) (n : ℕ) : Type 0 where
  pub seen : list_any (λ m. nat_lt n m) (lengths_seen before) ≡ false
  pub after : list_any (λ place. nat_le n place) (take (length (recorded before)) places) ≡ false
  pub next : is_passed (slice_get places (length (recorded before))) n ≡ false
  pub inside : nat_lt total n ≡ false

parts_of : (places : List ℕ) (total : ℕ) (before : List Kept) (n : ℕ) → is_out_of_place places total before n ≡ false → InPlace places total before n
parts_of places total before n h = grind arith

not_less : (m n : ℕ) → nat_lt n m ≡ false → m ≤ n
not_less m n h = elim (leb_tells (suc n) m) [ inl below ↦ let clash : true ≡ false = sym below.0 ∙ h in absurd (cc clash) | inr above ↦ omega (arith, above.1) ]

not_most : (m n : ℕ) → nat_le n m ≡ false → m < n
not_most m n h = elim (leb_tells n m) [ inl below ↦ let clash : true ≡ false = sym below.0 ∙ h in absurd (cc clash) | inr above ↦ above.1 ]

-- a read in its place is not past the next place
before_next : (places : List ℕ) (total : ℕ) (before : List Kept) (n : ℕ) (ps : List ℕ) → drop (length (recorded before)) places ≡ ps → InPlace places total before n
    → n ≤ first_or total ps
before_next places total before n [] at fine = not_less n total fine.inside
before_next places total before n (p ∷ ps) at fine = grind (arith, nat_tests, drop_at places (length (recorded before)) p ps at, not_less n p)

-- the calls after some fit, where each read is in its place
pub fits_after : (places : List ℕ) (total : ℕ) (rest before : List Kept) (low : ℕ) (ps : List ℕ) → drop (length (recorded before)) places ≡ ps
    → length (recorded (before ++ rest)) ≤ length places → ((n : ℕ) → InPlace places total before n → low ≤ n)
    → ((i n : ℕ) (kept : Kept) → slice_get (before ++ rest) i ≡ Some kept → kept.seen ≡ Some n → is_out_of_place places total (take i (before ++ rest)) n ≡ false)
    → Fits low ps total rest
fits_after places total [] before low ps at enough above right = tt
fits_after places total (c ∷ cs) before low ps at enough above right =
    let whole : (before ++ c ∷ []) ++ cs ≡ before ++ c ∷ cs = append_assoc before (c ∷ []) cs in
    let right_on : (i n : ℕ) (kept : Kept) → slice_get ((before ++ c ∷ []) ++ cs) i ≡ Some kept → kept.seen ≡ Some n
    → is_out_of_place places total (take i ((before ++ c ∷ []) ++ cs)) n ≡ false
    = subst (λ (calls : List Kept). (i n : ℕ) (kept : Kept) → slice_get calls i ≡ Some kept → kept.seen ≡ Some n → is_out_of_place places total (take i calls) n ≡ false)
    (sym whole) right in
    let enough_on : length (recorded ((before ++ c ∷ []) ++ cs)) ≤ length places
    = subst (λ (calls : List Kept). length (recorded calls) ≤ length places) (sym whole) enough in
    let more = recorded_append before (c ∷ []) in
    let seen_more = seen_append before (c ∷ []) in
    elim (looks c.seen) [
      | inl bare ↦
          let one : recorded (c ∷ []) ≡ call_of c ∷ [] = rw bare refl in
          let len : length (recorded (before ++ c ∷ [])) ≡ suc (length (recorded before)) =
          rw more (rw one (let l = length-append (recorded before) (call_of c ∷ []) in omega (arith, l))) in
          let room : suc (length (recorded before)) ≤ length places =
          let l = length-append (recorded (before ++ c ∷ [])) (recorded cs) in let split : length (recorded (before ++ c ∷ []) ++ recorded cs) ≤ length places = subst (λ (calls : List Call). length calls ≤ length places) (recorded_append (before ++ c ∷ []) cs) enough_on in omega (arith, l, split, len) in
          rw bare (after_recorded ps at room len (λ low' ps' at' above'. fits_after places total cs (before ++ c ∷ []) low' ps' at' enough_on above' right_on))
      | inr some ↦
          let cut : take (length before) (before ++ c ∷ cs) ≡ before = take-append_seam before (c ∷ cs) in
          let here : is_out_of_place places total (take (length before) (before ++ c ∷ cs)) some.0 ≡ false = right (length before) some.0 c (get_seam before cs c) some.1 in
          let fine = parts_of places total before some.0 (subst (λ (calls : List Kept). is_out_of_place places total calls some.0 ≡ false) cut here) in
          let none : recorded (c ∷ []) ≡ [] = rw some.1 refl in
          let same_len : length (recorded (before ++ c ∷ [])) ≡ length (recorded before) =
          rw more (rw none (let l = length-append (recorded before) [] in omega (arith, l))) in
          let one_more : lengths_seen (c ∷ []) ≡ some.0 ∷ [] = rw some.1 refl in
          let at_on : drop (length (recorded (before ++ c ∷ []))) places ≡ ps = rw same_len at in
          let low_on : (n : ℕ) → InPlace places total (before ++ c ∷ []) n → some.0 ≤ n = λ n f.
          let s : list_any (λ m. nat_lt n m) (lengths_seen before ++ some.0 ∷ []) ≡ false = subst (λ (ns : List ℕ). list_any (λ m. nat_lt n m) ns ≡ false) (seen_more ∙ ap (λ (ns : List ℕ). lengths_seen before ++ ns) one_more) f.seen in
          not_less some.0 n (any_false (λ m. nat_lt n m) (lengths_seen before ++ some.0 ∷ []) (length (lengths_seen before)) some.0 s (get_seam (lengths_seen before) [] some.0)) in
          rw some.1 (above some.0 fine, before_next places total before some.0 ps at fine, fits_after places total cs (before ++ c ∷ []) some.0 ps at_on enough_on low_on right_on)
    ]
  where
    after_recorded : (qs : List ℕ) → drop (length (recorded before)) places ≡ qs → suc (length (recorded before)) ≤ length places
        → length (recorded (before ++ c ∷ [])) ≡ suc (length (recorded before))
        → ((low' : ℕ) (ps' : List ℕ) → drop (length (recorded (before ++ c ∷ []))) places ≡ ps' → ((n : ℕ) → InPlace places total (before ++ c ∷ []) n → low' ≤ n) → Fits low' ps' total cs)
        → AfterFirst qs (λ l rest'. Fits l rest' total cs)
    after_recorded [] at' room len goes = let past = drop_none places (length (recorded before)) at' in absurd (omega (arith, past, room))
    after_recorded (p ∷ qs) at' room len goes =
        let there = drop_at places (length (recorded before)) p qs at' in
        goes (suc p) qs (rw len there.1) (λ n fine.
        let passed : list_any (λ place. nat_le n place) (take (suc (length (recorded before))) places) ≡ false =
        subst (λ (k : ℕ). list_any (λ place. nat_le n place) (take k places) ≡ false) len fine.after in
        not_most p n (any_false (λ place. nat_le n place) (take (suc (length (recorded before))) places) (length (recorded before)) p passed
        (get_take places (length (recorded before)) ∙ there.0)))

-- a worker has as many places as entries
pub places_as_calls : (entries : List Entry) (k w : ℕ) → length (calls_of w entries) ≡ length (places_from k w entries)
places_as_calls [] k w = refl
places_as_calls (e ∷ es) k w = grind (arith, nat_tests, places_as_calls es (suc k) w)
