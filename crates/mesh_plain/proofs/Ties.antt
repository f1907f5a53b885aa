-- Two finite maps and the lists of a plain memory.
use Rattle.std.proofs.Common.{◌≡◌, ℕ, zero, suc, ◌+◌, ◌<◌, ◌≤◌, true, false, List, [], ◌∷◌, ◌++◌, length, replicate, slice_index_or, slice_set, ap, subst, refl, sym, ◌∙◌, arith, inl, inr, Option, Some, None, Result, Ok, Err, is_some, OnErr}
use Rattle.std.specs.Ordering.{nat_cmp}
use Rattle.std.specs.BTreeMap.{BTreeMap, Updates, get, is_at}
use Rattle.std.proofs.lemmas.Bool.Decides.{eqb_tells, leb_tells}
use Rattle.std.proofs.lemmas.Grind.{common_steps}
use Rattle.std.proofs.lemmas.List.{get_or_past}
use Rattle.model_memory.specs.Memory.{Object, next_serial, object_of, root_of, with_object, with_root}
use Rattle.model_memory.specs.Plain.{made}
use Rattle.mesh_plain.specs.Maps.{AreBelow, IsSameAt, IsSetAt, memory_of_maps, values_from}

pub values_length : {X : Type 0} (f : ℕ → X) (k n : ℕ) → length (values_from f k n) ≡ n
values_length f k zero = refl
values_length f k (suc n) = ap (λ (x : ℕ). suc x) (values_length f (suc k) n)

value_at : {X : Type 0} (f : ℕ → X) (k n i : ℕ) (d : X) → i < n → slice_index_or (values_from f k n) i d ≡ f (k + i)
value_at f k zero i d below = absurd (omega (arith, below))
value_at f k (suc n) zero d below = ap f (omega arith)
value_at f k (suc n) (suc i) d below = value_at f (suc k) n i d (omega (arith, below)) ∙ ap f (omega arith)

pub values_same : {X : Type 0} (f g : ℕ → X) (k n : ℕ) → ((q : ℕ) → g q ≡ f q) → values_from g k n ≡ values_from f k n
values_same f g k zero h = refl
values_same f g k (suc n) h = rw (h k, values_same f g (suc k) n h) refl

-- from here on both give the same
pub values_same_from : {X : Type 0} (f g : ℕ → X) (k n : ℕ) → ((q : ℕ) → k ≤ q → g q ≡ f q) → values_from g k n ≡ values_from f k n
values_same_from f g k zero h = refl
values_same_from f g k (suc n) h = let here = h k (omega arith) in let rest = values_same_from f g (suc k) n (λ q above. h q (omega (arith, above))) in rw (here, rest) refl

-- another value at one number
values_set : {X : Type 0} (f g : ℕ → X) (v : X) (k n i j : ℕ) → i < n → j ≡ k + i → g j ≡ v → ((q : ℕ) → (q ≡ j → ⊥) → g q ≡ f q)
    → values_from g k n ≡ slice_set (values_from f k n) i v
values_set f g v k zero i j below is at other = absurd (omega (arith, below))
values_set f g v k (suc n) zero j below is at other =
    let same : j ≡ k = omega (arith, is) in
    let here : g k ≡ v = subst (λ (x : ℕ). g x ≡ v) same at in
    let rest = values_same_from f g (suc k) n (λ q above. other q (λ eq. absurd (omega (arith, above, eq, same)))) in rw (here, rest) refl
values_set f g v k (suc n) (suc i) j below is at other =
    let here = other k (λ eq. absurd (omega (arith, eq, is))) in
    let rest = values_set f g v (suc k) n i j (omega (arith, below)) (omega (arith, is)) at other in rw (here, rest) refl

-- one value more
values_snoc : {X : Type 0} (f g : ℕ → X) (v : X) (k n j : ℕ) → j ≡ k + n → g j ≡ v → ((q : ℕ) → (q ≡ j → ⊥) → g q ≡ f q)
    → values_from g k (suc n) ≡ values_from f k n ++ v ∷ []
values_snoc f g v k zero j is at other = let same : j ≡ k = omega (arith, is) in let here : g k ≡ v = subst (λ (x : ℕ). g x ≡ v) same at in rw here refl
values_snoc f g v k (suc n) j is at other =
    let here = other k (λ eq. absurd (omega (arith, eq, is))) in
    let rest = values_snoc f g v (suc k) n j (omega (arith, is)) at other in rw here (ap (λ (xs : List _). f k ∷ xs) rest)

-- a key that isn't the query's
pub other_key : (k q : ℕ) → (q ≡ k → ⊥) → is_at (nat_cmp k) q ≡ false
other_key k q h = grind (arith, common_steps)

-- the key that is the query's
pub same_key : (k : ℕ) → is_at (nat_cmp k) k ≡ true
same_key k = grind (arith, common_steps)

-- what an update changes, by numbers
pub updated : {X : Type 0} (m n : BTreeMap ℕ X) (k : ℕ) (v : Option X) → Updates nat_cmp m n k v
    → (get nat_cmp n k ≡ v) × ((q : ℕ) → (q ≡ k → ⊥) → get nat_cmp n q ≡ get nat_cmp m q)
updated m n k v u = (u.1, λ q h. u.2 q (other_key k q h))

-- nothing is there from the end on
none_past : {X : Type 0} (f : ℕ → Option X) (n k : ℕ) (x : Option X) → AreBelow f n → n ≤ k → f k ≡ x → x ≡ None
none_past f n k None below past h = refl
none_past f n k (Some x) below past h = let there = below k x h in absurd (omega (arith, there, past))

-- what a function gives is the value at the place, or it gives nothing, past the end
pub value_of : {X : Type 0} (f : ℕ → Option X) (n k : ℕ) → AreBelow f n → slice_index_or (values_from f 0 n) k None ≡ f k
value_of f n k below = elim (leb_tells (suc k) n) [
  | inl inside ↦ value_at f 0 n k None inside.1 ∙ ap f (omega arith)
  | inr outside ↦
      let past : n ≤ k = (let o = outside.1 in omega (arith, o)) in
      get_or_past (values_from f 0 n) k None (let l = values_length f 0 n in omega (arith, l, past)) ∙ sym (none_past f n k (f k) below past refl)
]

-- the object of a serial
pub object_at : (f : ℕ → Option Object) (n : ℕ) (g : ℕ → Option ℕ) (serial : ℕ) → AreBelow f n → object_of (memory_of_maps f n g) serial ≡ f serial
object_at f n g serial below = value_of f n serial below

pub root_at : (f : ℕ → Option Object) (n : ℕ) (g : ℕ → Option ℕ) (cell : ℕ) → cell < 256 → root_of (memory_of_maps f n g) cell ≡ g cell
root_at f n g cell below = value_at g 0 256 cell None below ∙ ap g (omega arith)

-- another object at a serial
pub object_set : (f f' : ℕ → Option Object) (n : ℕ) (g : ℕ → Option ℕ) (serial : ℕ) (v : Option Object) → serial < n → IsSetAt f f' serial v
    → memory_of_maps f' n g ≡ with_object (memory_of_maps f n g) serial v
object_set f f' n g serial v below set =
    ap (λ (objects : List (Option Object)). record { objects = objects; roots = values_from g 0 256 })
    (values_set f f' v 0 n serial serial below (omega arith) set.0 set.1)

-- another serial in a cell
pub root_set : (old new : BTreeMap ℕ ℕ) (n : ℕ) (f : ℕ → Option Object) (cell serial : ℕ) → cell < 256 → Updates nat_cmp old new cell (Some serial)
    → memory_of_maps f n (get nat_cmp new) ≡ with_root (memory_of_maps f n (get nat_cmp old)) cell serial
root_set old new n f cell serial below u =
    let up = updated old new cell (Some serial) u in
    ap (λ (roots : List (Option ℕ)). record { objects = values_from f 0 n; roots = roots })
    (values_set (get nat_cmp old) (get nat_cmp new) (Some serial) 0 256 cell cell below (omega arith) up.0 up.1)

-- a new object
pub object_made : (old new : BTreeMap ℕ Object) (roots roots' : BTreeMap ℕ ℕ) (n cell len address : ℕ) → cell < 256
    → Updates nat_cmp old new n (Some (record { address = address; bytes = replicate len 0 })) → Updates nat_cmp roots roots' cell (Some n)
    → memory_of_maps (get nat_cmp new) (n + 1) (get nat_cmp roots') ≡ made (memory_of_maps (get nat_cmp old) n (get nat_cmp roots)) cell len address
object_made old new roots roots' n cell len address small u v =
    let up = updated old new n (Some (record { address = address; bytes = replicate len 0 })) u in
    let vp = updated roots roots' cell (Some n) v in
    let one : n + 1 ≡ suc n = omega arith in
    let objects = values_snoc (get nat_cmp old) (get nat_cmp new) (Some (record { address = address; bytes = replicate len 0 })) 0 n n (omega arith) up.0 up.1 in
    let cells = values_set (get nat_cmp roots) (get nat_cmp roots') (Some n) 0 256 cell cell small (omega arith) vp.0 vp.1 in
    rw (one, values_length (get nat_cmp old) 0 n) (rw (objects, cells) refl)

-- how many serials there are
pub serials : (f : ℕ → Option Object) (n : ℕ) (g : ℕ → Option ℕ) → next_serial (memory_of_maps f n g) ≡ n
serials f n g = values_length f 0 n

-- what is there
pub there : {X : Type 0} (o : Option X) → is_some o ≡ true → (x : X) × (o ≡ Some x)
there None h = absurd (cc h)
there (Some x) h = (x, refl)

none_from : (g : ℕ → Option ℕ) (k n : ℕ) → ((q : ℕ) → g q ≡ None) → values_from g k n ≡ replicate n None
none_from g k zero h = refl
none_from g k (suc n) h = rw (h k, none_from g (suc k) n h) refl

-- no cell holds anything
pub roots_none : (m : BTreeMap ℕ ℕ) → m.entries ≡ [] → values_from (get nat_cmp m) 0 256 ≡ replicate 256 None
roots_none m h = none_from (get nat_cmp m) 0 256 (λ q. rw h refl)

-- nothing has changed
pub memory_same : (old new : BTreeMap ℕ Object) (roots roots' : BTreeMap ℕ ℕ) (n : ℕ) → IsSameAt (get nat_cmp old) (get nat_cmp new)
    → IsSameAt (get nat_cmp roots) (get nat_cmp roots')
    → memory_of_maps (get nat_cmp new) n (get nat_cmp roots') ≡ memory_of_maps (get nat_cmp old) n (get nat_cmp roots)
memory_same old new roots roots' n same same' =
    rw (values_same (get nat_cmp old) (get nat_cmp new) 0 n same, values_same (get nat_cmp roots) (get nat_cmp roots') 0 256 same') refl

pub on_err : {A E P : Type 0} (r : Result A E) → P → OnErr r P
on_err (Ok x) p = tt
on_err (Err e) p = p

-- no cell past the last one
pub cells_below : (old new : BTreeMap ℕ ℕ) (cell : ℕ) (v : Option ℕ) → cell < 256 → AreBelow (get nat_cmp old) 256 → Updates nat_cmp old new cell v
    → AreBelow (get nat_cmp new) 256
cells_below old new cell v small below u k x h = elim (eqb_tells k cell) [
  | inl same ↦ (let s = same.1 in omega (arith, s, small))
  | inr other ↦ below k x (sym ((updated old new cell v u).1 k other.1) ∙ h)
]

-- an object less
pub below_without : (old new : BTreeMap ℕ Object) (n serial : ℕ) → AreBelow (get nat_cmp old) n → Updates nat_cmp old new serial None
    → AreBelow (get nat_cmp new) n
below_without old new n serial below u k x h = elim (eqb_tells k serial) [
  | inl same ↦ (let none : None ≡ Some x = sym u.1 ∙ ap (get nat_cmp new) (sym same.1) ∙ h in absurd (cc none))
  | inr other ↦ below k x (sym ((updated old new serial None u).1 k other.1) ∙ h)
]

-- one serial more
pub below_more : (old new : BTreeMap ℕ Object) (n : ℕ) (v : Option Object) → AreBelow (get nat_cmp old) n → Updates nat_cmp old new n v
    → AreBelow (get nat_cmp new) (n + 1)
below_more old new n v below u k x h = elim (eqb_tells k n) [
  | inl same ↦ (let s = same.1 in omega (arith, s))
  | inr other ↦ let up = updated old new n v u in let l = below k x (sym (up.1 k other.1) ∙ h) in omega (arith, l)
]
