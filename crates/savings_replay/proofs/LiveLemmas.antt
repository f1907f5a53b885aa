-- What is found in a list of places when one of them changes, and when one more comes.
use Rattle.std.proofs.Common.{◌≡◌, ◌≢◌, ◌∙◌, ℕ, zero, suc, ◌+◌, ◌<◌, ◌≤◌, if◌then◌else◌, List, [], ◌∷◌, ◌++◌, Option, Some, None, length, slice_get, slice_index_or, slice_set, ap, refl, subst, sym, arith, inl, inr, eq-eqb, length-append}
use Rattle.std.proofs.Math.ListN.{length-set}
use Rattle.std.proofs.lemmas.Bool.Decides.{eqb_tells}
use Rattle.std.proofs.lemmas.Option.{slice_get_read}
use Rattle.savings_replay.specs.LiveObjects.{AreApart, IsNew, IsSound, LiveObjects, at, first_of, found, object_at, object_with}
use Rattle.savings_replay.specs.Followed.{with_at}
use Rattle.savings_replay.specs.declared.objects.Object.{Object}
use Rattle.savings_replay.specs.declared.live.Place.{Place}
use Rattle.savings_replay.specs.declared.live.Place.TheVariants.{Full, Vacant}

-- a place with an object, asked for its number and for another one
pub full_same : (n : ℕ) (o : Object) → object_with n (Full n o) ≡ Some o
full_same n o = let none : Option Object = None in ap (λ b. if b then Some o else none) (eq-eqb n n refl)

pub full_other : (n m : ℕ) (o : Object) → m ≢ n → object_with m (Full n o) ≡ None
full_other n m o apart = elim (eqb_tells n m) [
  | inl same ↦ absurd (apart (sym same.1))
  | inr other ↦ rw other.0 refl
]

-- a place of which an object is not none has the number
full_some : (n m : ℕ) (o : Object) → object_with m (Full n o) ≢ None → n ≡ m
full_some n m o some = elim (eqb_tells n m) [
  | inl same ↦ same.1
  | inr other ↦ absurd (some (rw other.0 refl))
]

-- the first of two objects

first_left : (a b : Option Object) → first_of a b ≡ None → a ≡ None
first_left None b none = refl
first_left (Some a) b none = absurd (cc none)

first_right : (a b : Option Object) → first_of a b ≡ None → b ≡ None
first_right None b none = none
first_right (Some a) b none = absurd (cc none)

first_none : (a b : Option Object) → a ≡ None → b ≡ None → first_of a b ≡ None
first_none a b left right = rw (left, right) refl

first_alone : (a : Option Object) → first_of a None ≡ a
first_alone None = refl
first_alone (Some a) = refl

first_assoc : (a b c : Option Object) → first_of a (first_of b c) ≡ first_of (first_of a b) c
first_assoc None b c = refl
first_assoc (Some a) b c = refl

-- an object that isn't found is at no place
pub none_at : (n p : ℕ) (list : List Place) → found n list ≡ None → at p n list ≡ None
none_at n p [] none = refl
none_at n zero (x ∷ list) none = first_left (object_with n x) (found n list) none
none_at n (suc p) (x ∷ list) none = none_at n p list (first_right (object_with n x) (found n list) none)

-- where a place changes
module _ (x y : Place) where
  -- nothing is found otherwise at a number for which the old and the new place are alike
  pub found_set : (m p : ℕ) (list : List Place) → slice_get list p ≡ Some x → object_with m y ≡ object_with m x → found m (slice_set list p y) ≡ found m list
  found_set m p [] is same = refl
  found_set m zero (z ∷ list) is same =
      let is_x : z ≡ x = cc is in
      ap (λ a. first_of a (found m list)) (same ∙ ap (object_with m) (sym is_x))
  found_set m (suc p) (z ∷ list) is same = ap (first_of (object_with m z)) (found_set m p list is same)

  pub at_set : (m p q : ℕ) (list : List Place) → slice_get list p ≡ Some x → object_with m y ≡ object_with m x → at q m (slice_set list p y) ≡ at q m list
  at_set m p q [] is same = refl
  at_set m zero zero (z ∷ list) is same =
      let is_x : z ≡ x = cc is in
      same ∙ ap (object_with m) (sym is_x)
  at_set m zero (suc q) (z ∷ list) is same = refl
  at_set m (suc p) zero (z ∷ list) is same = refl
  at_set m (suc p) (suc q) (z ∷ list) is same = at_set m p q list is same

  pub at_same : (m p : ℕ) (list : List Place) → slice_get list p ≡ Some x → at p m (slice_set list p y) ≡ object_with m y
  at_same m p [] is = absurd (cc is)
  at_same m zero (z ∷ list) is = refl
  at_same m (suc p) (z ∷ list) is = at_same m p list is

-- a vacant place is filled

pub fill_here : (n p v : ℕ) (o : Object) (list : List Place) → slice_get list p ≡ Some (Vacant v) → found n list ≡ None
    → found n (slice_set list p (Full n o)) ≡ Some o
fill_here n p v o [] is none = absurd (cc is)
fill_here n zero v o (x ∷ list) is none = ap (λ a. first_of a (found n list)) (full_same n o)
fill_here n (suc p) v o (x ∷ list) is none =
    ap (λ a. first_of a (found n (slice_set list p (Full n o)))) (first_left (object_with n x) (found n list) none)
    ∙ fill_here n p v o list is (first_right (object_with n x) (found n list) none)

-- the number of an object is another than one that isn't found
apart_from : (k n : ℕ) (o : Object) → object_with n (Full k o) ≡ None → k ≢ n
apart_from k n o none same =
    let some : object_with n (Full k o) ≡ Some o = subst (λ j. object_with j (Full k o) ≡ Some o) same (full_same k o) in
    let gone : Option Object = None in
    let clash : gone ≡ Some o = sym none ∙ some in absurd (cc clash)

fill_new : (n p v : ℕ) (o : Object) (x : Place) (list : List Place) → slice_get list p ≡ Some (Vacant v) → object_with n x ≡ None
    → IsNew x list → IsNew x (slice_set list p (Full n o))
fill_new n p v o (Vacant w) list is none new = tt
fill_new n p v o (Full k a) list is none new =
    found_set (Vacant v) (Full n o) k p list is (full_other n k o (apart_from k n a none)) ∙ new

pub fill_apart : (n p v : ℕ) (o : Object) (list : List Place) → slice_get list p ≡ Some (Vacant v) → found n list ≡ None
    → AreApart list → AreApart (slice_set list p (Full n o))
fill_apart n p v o [] is none apart = tt
fill_apart n zero v o (x ∷ list) is none apart = (first_right (object_with n x) (found n list) none, apart.1)
fill_apart n (suc p) v o (x ∷ list) is none apart = (
  fill_new n p v o x list is (first_left (object_with n x) (found n list) none) apart.0,
  fill_apart n p v o list is (first_right (object_with n x) (found n list) none) apart.1,
)

-- a place becomes vacant

pub clear_none : (n p v : ℕ) (list : List Place) → found n list ≡ None → found n (slice_set list p (Vacant v)) ≡ None
clear_none n p v [] none = refl
clear_none n zero v (x ∷ list) none = first_right (object_with n x) (found n list) none
clear_none n (suc p) v (x ∷ list) none =
    first_none (object_with n x) (found n (slice_set list p (Vacant v))) (first_left (object_with n x) (found n list) none)
    (clear_none n p v list (first_right (object_with n x) (found n list) none))

clear_new : (p v : ℕ) (x : Place) (list : List Place) → IsNew x list → IsNew x (slice_set list p (Vacant v))
clear_new p v (Vacant w) list new = tt
clear_new p v (Full k a) list new = clear_none k p v list new

pub clear_apart : (p v : ℕ) (list : List Place) → AreApart list → AreApart (slice_set list p (Vacant v))
clear_apart p v [] apart = tt
clear_apart zero v (x ∷ list) apart = (tt, apart.1)
clear_apart (suc p) v (x ∷ list) apart = (clear_new p v x list apart.0, clear_apart p v list apart.1)

-- the head of a list has no object that a place of the tail has
head_none : (n p : ℕ) (o : Object) (x : Place) (list : List Place) → IsNew x list → slice_get list p ≡ Some (Full n o) → object_with n x ≡ None
head_none n p o (Vacant w) list new is = refl
head_none n p o (Full k a) list new is = elim (eqb_tells k n) [
  | inl same ↦
      let gone : Option Object = None in
      let none : at p n list ≡ None = none_at n p list (subst (λ j. found j list ≡ None) same.1 new) in
      let some : at p n list ≡ Some o = ap (object_at n) is ∙ full_same n o in
      let clash : gone ≡ Some o = sym none ∙ some in absurd (cc clash)
  | inr other ↦ rw other.0 refl
]

pub clear_here : (n p v : ℕ) (o : Object) (list : List Place) → AreApart list → slice_get list p ≡ Some (Full n o)
    → found n (slice_set list p (Vacant v)) ≡ None
clear_here n p v o [] apart is = refl
clear_here n zero v o (x ∷ list) apart is =
    let is_x : x ≡ Full n o = cc is in
    let new : IsNew (Full n o) list = subst (λ z. IsNew z list) is_x apart.0 in new
clear_here n (suc p) v o (x ∷ list) apart is =
    first_none (object_with n x) (found n (slice_set list p (Vacant v))) (head_none n p o x list apart.0 is) (clear_here n p v o list apart.1 is)

-- one more place

found_append : (m : ℕ) (a b : List Place) → found m (a ++ b) ≡ first_of (found m a) (found m b)
found_append m [] b = refl
found_append m (x ∷ a) b = ap (first_of (object_with m x)) (found_append m a b) ∙ first_assoc (object_with m x) (found m a) (found m b)

pub push_other : (m : ℕ) (x : Place) (list : List Place) → object_with m x ≡ None → found m (list ++ (x ∷ [])) ≡ found m list
push_other m x list none =
    found_append m list (x ∷ []) ∙ ap (first_of (found m list)) (first_alone (object_with m x) ∙ none) ∙ first_alone (found m list)

pub push_here : (n : ℕ) (o : Object) (list : List Place) → found n list ≡ None → found n (list ++ (Full n o ∷ [])) ≡ Some o
push_here n o list none =
    found_append n list (Full n o ∷ []) ∙ ap (λ a. first_of a (found n (Full n o ∷ []))) none ∙ first_alone (object_with n (Full n o)) ∙ full_same n o

push_new : (n : ℕ) (o : Object) (x : Place) (list : List Place) → object_with n x ≡ None → IsNew x list → IsNew x (list ++ (Full n o ∷ []))
push_new n o (Vacant w) list none new = tt
push_new n o (Full k a) list none new = push_other k (Full n o) list (full_other n k o (apart_from k n a none)) ∙ new

pub push_apart : (n : ℕ) (o : Object) (list : List Place) → found n list ≡ None → AreApart list → AreApart (list ++ (Full n o ∷ []))
push_apart n o [] none apart = (refl, tt)
push_apart n o (x ∷ list) none apart = (
  push_new n o x list (first_left (object_with n x) (found n list) none) apart.0,
  push_apart n o list (first_right (object_with n x) (found n list) none) apart.1,
)

pub at_push : (m p : ℕ) (x : Place) (list : List Place) → object_with m x ≡ None → at p m (list ++ (x ∷ [])) ≡ at p m list
at_push m zero x [] none = none
at_push m (suc p) x [] none = refl
at_push m zero x (z ∷ list) none = refl
at_push m (suc p) x (z ∷ list) none = at_push m p x list none

pub at_end : (m : ℕ) (x : Place) (list : List Place) → at (length list) m (list ++ (x ∷ [])) ≡ object_with m x
at_end m x [] = refl
at_end m x (z ∷ list) = at_end m x list

-- a place that has an object has its number
held_at : (n : ℕ) (o : Object) (q : Option Place) → object_at n q ≡ Some o → q ≡ Some (Full n o)
held_at n o None some = absurd (cc some)
held_at n o (Some (Vacant v)) some = absurd (cc some)
held_at n o (Some (Full k a)) some = elim (eqb_tells k n) [
  | inl same ↦ let both : Some a ≡ Some o = rw same.0 at some in let is : a ≡ o = cc both in rw (same.1, is) refl
  | inr other ↦ let none : Option Object = None in let clash : none ≡ Some o = rw other.0 at some in absurd (cc clash)
]

pub place_held : (n p : ℕ) (o : Object) (list : List Place) → at p n list ≡ Some o → slice_get list p ≡ Some (Full n o)
place_held n p o list some = held_at n o (slice_get list p) some

-- what is found after a change at a number: the new value there, and what was there at the others
pub record Changes (old new : List Place) (n : ℕ) (value : Option Object) : Type 0 where
  pub here : found n new ≡ value
  pub others : (m : ℕ) → m ≢ n → found m new ≡ found m old
  pub places : (p m : ℕ) → m ≢ n → at p m new ≡ at p m old

pub changed_found : (old new : List Place) (n : ℕ) (value : Option Object) → Changes old new n value
    → (m : ℕ) → found m new ≡ with_at n value (λ k. found k old) m
changed_found old new n value change m = elim (eqb_tells n m) [
  | inl same ↦ rw same.0 (subst (λ k. found k new ≡ value) same.1 change.here)
  | inr other ↦ rw other.0 (change.others m (λ e. other.1 (sym e)))
]

pub changed_others : (old new : List Place) (n : ℕ) (value : Option Object) → Changes old new n value
    → (p m : ℕ) → m ≢ n → at p m old ≡ found m old → at p m new ≡ found m new
changed_others old new n value change p m apart is = change.places p m apart ∙ is ∙ sym (change.others m apart)

-- also at the number if there is no object any more
pub cleared_others : (old new : List Place) (n : ℕ) → Changes old new n None
    → (p m : ℕ) → at p m old ≡ found m old → at p m new ≡ found m new
cleared_others old new n change p m is = elim (eqb_tells m n) [
  | inl same ↦ let none : found m new ≡ None = subst (λ k. found k new ≡ None) (sym same.1) change.here in
      none_at m p new none ∙ sym none
  | inr other ↦ changed_others old new n None change p m other.1 is
]

-- the three changes

pub fill_changes : (n p v : ℕ) (o : Object) (list : List Place) → slice_get list p ≡ Some (Vacant v) → found n list ≡ None
    → Changes list (slice_set list p (Full n o)) n (Some o)
fill_changes n p v o list is none = record {
  here = fill_here n p v o list is none;
  others = λ m apart. found_set (Vacant v) (Full n o) m p list is (full_other n m o apart);
  places = λ q m apart. at_set (Vacant v) (Full n o) m p q list is (full_other n m o apart);
}

pub push_changes : (n : ℕ) (o : Object) (list : List Place) → found n list ≡ None → Changes list (list ++ (Full n o ∷ [])) n (Some o)
push_changes n o list none = record {
  here = push_here n o list none;
  others = λ m apart. push_other m (Full n o) list (full_other n m o apart);
  places = λ q m apart. at_push m q (Full n o) list (full_other n m o apart);
}

pub clear_changes : (n p v : ℕ) (o : Object) (list : List Place) → AreApart list → at p n list ≡ Some o
    → Changes list (slice_set list p (Vacant v)) n None
clear_changes n p v o list apart some =
    let is : slice_get list p ≡ Some (Full n o) = place_held n p o list some in record {
      here = clear_here n p v o list apart is;
      others = λ m other. found_set (Full n o) (Vacant v) m p list is (sym (full_other n m o other));
      places = λ q m other. at_set (Full n o) (Vacant v) m p q list is (sym (full_other n m o other));
    }

-- the list stays sound

added_below : (old new : List Place) (next n : ℕ) (o : Object) → IsSound old next → next ≤ n → Changes old new n (Some o)
    → (k : ℕ) → n + 1 ≤ k → found k new ≡ None
added_below old new next n o sound above change k past =
    let apart : k ≢ n = omega (arith, past) in change.others k apart ∙ sound.below k (omega (arith, past, above))

pub fill_sound : (n p v next : ℕ) (o : Object) (list : List Place) → slice_get list p ≡ Some (Vacant v) → IsSound list next → next ≤ n
    → IsSound (slice_set list p (Full n o)) (n + 1)
fill_sound n p v next o list is sound above =
    let none : found n list ≡ None = sound.below n above in record {
      apart = fill_apart n p v o list is none sound.apart;
      below = added_below list (slice_set list p (Full n o)) next n o sound above (fill_changes n p v o list is none);
      few = let few = sound.few in simp length-set (omega (arith, few, above));
    }

pub push_sound : (n next : ℕ) (o : Object) (list : List Place) → IsSound list next → next ≤ n → IsSound (list ++ (Full n o ∷ [])) (n + 1)
push_sound n next o list sound above =
    let none : found n list ≡ None = sound.below n above in record {
      apart = push_apart n o list none sound.apart;
      below = added_below list (list ++ (Full n o ∷ [])) next n o sound above (push_changes n o list none);
      few = let few = sound.few in simp length-append (omega (arith, few, above));
    }

pub clear_sound : (p v next : ℕ) (list : List Place) → IsSound list next → IsSound (slice_set list p (Vacant v)) next
clear_sound p v next list sound = record {
  apart = clear_apart p v list sound.apart;
  below = λ k past. clear_none k p v list (sound.below k past);
  few = let few = sound.few in simp length-set (omega (arith, few));
}

-- as the contracts state it: `seen` is the list that the contract's value has

pub fill_found : (n p v next : ℕ) (o : Object) (list seen : List Place) → list ≡ seen → slice_get list p ≡ Some (Vacant v) → IsSound list next → next ≤ n
    → (m : ℕ) → found m (slice_set list p (Full n o)) ≡ with_at n (Some o) (λ k. found k seen) m
fill_found n p v next o list seen same is sound above m =
    changed_found list (slice_set list p (Full n o)) n (Some o) (fill_changes n p v o list is (sound.below n above)) m
    ∙ ap (λ (xs : List Place). with_at n (Some o) (λ k. found k xs) m) same

pub fill_others : (n p v next : ℕ) (o : Object) (list seen : List Place) → list ≡ seen → slice_get list p ≡ Some (Vacant v) → IsSound list next → next ≤ n
    → (q m : ℕ) → m ≢ n → at q m seen ≡ found m seen → at q m (slice_set list p (Full n o)) ≡ found m (slice_set list p (Full n o))
fill_others n p v next o list seen same is sound above q m apart old =
    changed_others list (slice_set list p (Full n o)) n (Some o) (fill_changes n p v o list is (sound.below n above)) q m apart
    (subst (λ xs. at q m xs ≡ found m xs) (sym same) old)

pub fill_place : (n p v : ℕ) (o : Object) (list : List Place) → slice_get list p ≡ Some (Vacant v) → at p n (slice_set list p (Full n o)) ≡ Some o
fill_place n p v o list is = at_same (Vacant v) (Full n o) n p list is ∙ full_same n o

pub push_found : (n next : ℕ) (o : Object) (list new seen : List Place) → list ≡ seen → new ≡ list ++ (Full n o ∷ []) → IsSound list next → next ≤ n
    → (m : ℕ) → found m new ≡ with_at n (Some o) (λ k. found k seen) m
push_found n next o list new seen same is sound above m =
    ap (found m) is
    ∙ changed_found list (list ++ (Full n o ∷ [])) n (Some o) (push_changes n o list (sound.below n above)) m
    ∙ ap (λ (xs : List Place). with_at n (Some o) (λ k. found k xs) m) same

pub push_others : (n next : ℕ) (o : Object) (list new seen : List Place) → list ≡ seen → new ≡ list ++ (Full n o ∷ []) → IsSound list next → next ≤ n
    → (q m : ℕ) → m ≢ n → at q m seen ≡ found m seen → at q m new ≡ found m new
push_others n next o list new seen same is sound above q m apart old =
    subst (λ xs. at q m xs ≡ found m xs) (sym is)
    (changed_others list (list ++ (Full n o ∷ [])) n (Some o) (push_changes n o list (sound.below n above)) q m apart
    (subst (λ xs. at q m xs ≡ found m xs) (sym same) old))

pub push_place : (n p : ℕ) (o : Object) (list new : List Place) → p ≡ length list → new ≡ list ++ (Full n o ∷ []) → at p n new ≡ Some o
push_place n p o list new at_length is =
    ap (at p n) is ∙ ap (λ (q : ℕ). at q n (list ++ (Full n o ∷ []))) at_length ∙ at_end n (Full n o) list ∙ full_same n o

pub clear_found : (n p v : ℕ) (o : Object) (list seen : List Place) → list ≡ seen → at p n seen ≡ Some o → AreApart list
    → (m : ℕ) → found m (slice_set list p (Vacant v)) ≡ with_at n None (λ k. found k seen) m
clear_found n p v o list seen same some apart m =
    changed_found list (slice_set list p (Vacant v)) n None
    (clear_changes n p v o list apart (subst (λ xs. at p n xs ≡ Some o) (sym same) some)) m
    ∙ ap (λ (xs : List Place). with_at n None (λ k. found k xs) m) same

pub clear_others : (n p v : ℕ) (o : Object) (list seen : List Place) → list ≡ seen → at p n seen ≡ Some o → AreApart list
    → (q m : ℕ) → at q m seen ≡ found m seen → at q m (slice_set list p (Vacant v)) ≡ found m (slice_set list p (Vacant v))
clear_others n p v o list seen same some apart q m old =
    cleared_others list (slice_set list p (Vacant v)) n
    (clear_changes n p v o list apart (subst (λ xs. at p n xs ≡ Some o) (sym same) some)) q m
    (subst (λ xs. at q m xs ≡ found m xs) (sym same) old)

-- what the code reads at a vacant place
pub vacant_at : (list read : List Place) (p v : ℕ) (x : Place) → read ≡ list → p < length read → x ≡ slice_index_or read p x → x ≡ Vacant v
    → slice_get list p ≡ Some (Vacant v)
vacant_at list read p v x same below is vacant =
    ap (λ (xs : List Place). slice_get xs p) (sym same) ∙ slice_get_read read (length read) p x refl below is ∙ ap Some vacant

-- a number that the contract has above the numbers so far
pub above_numbers : (next number : ℕ) (seen : LiveObjects) → next ≡ seen.next → seen.next ≤ number → next ≤ number
above_numbers next number seen same above = omega (arith, same, above)
