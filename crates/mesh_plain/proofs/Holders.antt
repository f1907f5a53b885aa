-- The object that has an address, by the function from serials to objects.
use Rattle.std.proofs.Common.{◌≡◌, Less, ℕ, zero, suc, ◌+◌, ◌<◌, ◌≤◌, Bool, true, false, cond, if◌then◌else◌, List, [], ◌∷◌, ap, subst, refl, sym, ◌∙◌, arith, Option, Some, None, Ok, Err}
use Rattle.model_memory.specs.Memory.{Object, has_address, holder_from, holder_of, object_of}
use Rattle.model_memory.specs.Plain.{holding}
use Rattle.model_words.specs.declared.refusals.Refusal.TheVariants.{Stray}
use Rattle.std.specs.List.{AllByRecursion}
use Rattle.std.specs.List.Sorted.{IsStrictlySortedBy}
use Rattle.std.specs.Map.{keys_of, lookup}
use Rattle.std.specs.BTreeMap.{BTreeMap, IsOrdered, get, is_at}
use Rattle.std.specs.Ordering.{nat_cmp}
use Rattle.std.proofs.lemmas.Cmp.{ranked}
use Rattle.std.proofs.lemmas.Map.Keys.{sorted_head, sorted_tail}
use Rattle.mesh_plain.specs.Maps.{AreBelow, IsHolder, first_holder, holds_address, memory_of_maps, values_from}
use Rattle.mesh_plain.proofs.Ties.{object_at, other_key, same_key}

-- an object without the address is passed
passed : (k : ℕ) (o : Option Object) (os : List (Option Object)) (address : ℕ) → holds_address o address ≡ false
    → holder_from k (o ∷ os) address ≡ holder_from (k + 1) os address
passed k None os address h = refl
passed k (Some x) os address h = rw h refl

-- the first object has it
first : (k : ℕ) (o : Option Object) (os : List (Option Object)) (address : ℕ) → holds_address o address ≡ true → holder_from k (o ∷ os) address ≡ Some k
first k None os address h = absurd (cc h)
first k (Some x) os address h = rw h refl

none_from : (f : ℕ → Option Object) (k n address : ℕ) → ((q : ℕ) → k ≤ q → q < k + n → holds_address (f q) address ≡ false)
    → holder_from k (values_from f k n) address ≡ None
none_from f k zero address h = refl
none_from f k (suc n) address h =
    let rest = none_from f (suc k) n address (λ q above below. h q (omega (arith, above)) (omega (arith, below))) in
    let one : k + 1 ≡ suc k = omega arith in
    passed k (f k) (values_from f (suc k) n) address (h k (omega arith) (omega arith)) ∙ rw one rest

some_from : (f : ℕ → Option Object) (k n j address : ℕ) → j < n → holds_address (f (k + j)) address ≡ true
    → ((q : ℕ) → k ≤ q → q < k + j → holds_address (f q) address ≡ false) → holder_from k (values_from f k n) address ≡ Some (k + j)
some_from f k zero j address below is h = absurd (omega (arith, below))
some_from f k (suc n) zero address below is h =
    let none : k + 0 ≡ k = omega arith in
    let here : holds_address (f k) address ≡ true = subst (λ (i : ℕ). holds_address (f i) address ≡ true) none is in
    first k (f k) (values_from f (suc k) n) address here ∙ ap (λ (i : ℕ). Some i) (sym none)
some_from f k (suc n) (suc j) address below is h =
    let one : k + 1 ≡ suc k = omega arith in
    let more : k + suc j ≡ suc k + j = omega arith in
    let there : holds_address (f (suc k + j)) address ≡ true = subst (λ (i : ℕ). holds_address (f i) address ≡ true) more is in
    let rest = some_from f (suc k) n j address (omega (arith, below)) there (λ q above under. h q (omega (arith, above)) (omega (arith, under))) in
    passed k (f k) (values_from f (suc k) n) address (h k (omega arith) (omega arith)) ∙ rw (one, more) rest

-- a key at or below `j`, where all keys are above it, is not there
pub absent : {X : Type 0} (j k : ℕ) (entries : List (ℕ × X)) → AllByRecursion (λ y. nat_cmp j y ≡ Less) (keys_of entries) → k ≤ j → lookup (is_at (nat_cmp k)) entries ≡ None
absent j k [] above below = refl
absent j k (entry ∷ entries) above below =
    rw (other_key k entry.0 (λ same. absurd (omega (arith, same, ranked j entry.0 Less (sym above.0), below)))) (absent j k entries above.1 below)

-- what holds of an object that isn't there
holds_none : (o : Option Object) (address : ℕ) → o ≡ None → holds_address o address ≡ false
holds_none o address h = rw h refl

-- the first entry hasn't the address
not_first : (entry : ℕ × Object) (entries : List (ℕ × Object)) (address k : ℕ) → has_address entry.1 address ≡ false
    → holds_address (lookup (is_at (nat_cmp k)) entries) address ≡ false → holds_address (lookup (is_at (nat_cmp k)) (entry ∷ entries)) address ≡ false
not_first entry entries address k h rest = at_key (is_at (nat_cmp k) entry.0)
  where
    at_key : (b : Bool) → holds_address (cond b (Some entry.1) (lookup (is_at (nat_cmp k)) entries)) address ≡ false
    at_key true = h
    at_key false = rest

-- the first entry with the address is the least serial's
first_is : (entries : List (ℕ × Object)) (address : ℕ) → IsStrictlySortedBy nat_cmp (keys_of entries)
    → IsHolder (λ k. lookup (is_at (nat_cmp k)) entries) address (first_holder entries address)
first_is [] address sorted = λ k. refl
first_is (entry ∷ entries) address sorted = go (has_address entry.1 address) refl (first_holder entries address) (first_is entries address (sorted_tail nat_cmp entry.0 (keys_of entries) sorted))
  where
    above : AllByRecursion (λ y. nat_cmp entry.0 y ≡ Less) (keys_of entries)
    above = sorted_head nat_cmp entry.0 (keys_of entries) sorted

    go : (b : Bool) → has_address entry.1 address ≡ b → (r : Option ℕ) → IsHolder (λ k. lookup (is_at (nat_cmp k)) entries) address r
        → IsHolder (λ k. lookup (is_at (nat_cmp k)) (entry ∷ entries)) address (if b then Some entry.0 else r)
    go true h r rest =
        let here = same_key entry.0 in (
          rw here h,
          λ k below. let other = other_key k entry.0 (λ same. absurd (omega (arith, same, below))) in
              rw other (holds_none (lookup (is_at (nat_cmp k)) entries) address (absent entry.0 k entries above (omega (arith, below)))),
        )
    go false h None rest = λ k. not_first entry entries address k h (rest k)
    go false h (Some serial) rest =
        let other = other_key serial entry.0 (λ same.
        let none : lookup (is_at (nat_cmp serial)) entries ≡ None = absent entry.0 serial entries above (omega (arith, same)) in
        let both : true ≡ false = sym rest.0 ∙ (holds_none (lookup (is_at (nat_cmp serial)) entries) address none) in absurd (cc both)) in
        (rw other rest.0, λ k below. not_first entry entries address k h (rest.1 k below))

-- the first entry with the address, in the map
pub holder_is : (m : BTreeMap ℕ Object) (address : ℕ) (r : Option ℕ) → IsOrdered nat_cmp m → r ≡ first_holder m.entries address → IsHolder (get nat_cmp m) address r
holder_is m address r ordered is = subst (λ (x : Option ℕ). IsHolder (get nat_cmp m) address x) (sym is) (first_is m.entries address ordered)

-- no live object has the address
pub not_held : (f : ℕ → Option Object) (n : ℕ) (g : ℕ → Option ℕ) (address : ℕ) → IsHolder f address None
    → holding (memory_of_maps f n g) address ≡ Err Stray
not_held f n g address none =
    let h : holder_of (memory_of_maps f n g) address ≡ None = none_from f 0 n address (λ q above below. none q) in rw h refl

-- the live object that has it
pub held : (f : ℕ → Option Object) (n : ℕ) (g : ℕ → Option ℕ) (address serial : ℕ) (x : Object) → AreBelow f n → IsHolder f address (Some serial)
    → f serial ≡ Some x → holding (memory_of_maps f n g) address ≡ Ok (record { serial = serial; object = x })
held f n g address serial x below first object =
    let zero-more : 0 + serial ≡ serial = omega arith in
    let is : holds_address (f (0 + serial)) address ≡ true = subst (λ (i : ℕ). holds_address (f i) address ≡ true) (sym zero-more) first.0 in
    let h : holder_of (memory_of_maps f n g) address ≡ Some serial =
    some_from f 0 n serial address (below serial x object) is (λ q above under. first.1 q (omega (arith, under))) ∙ ap (λ (i : ℕ). Some i) zero-more in
    let o : object_of (memory_of_maps f n g) serial ≡ Some x = object_at f n g serial below ∙ object in rw h (rw o refl)
