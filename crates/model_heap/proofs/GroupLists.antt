-- What a change of one group leaves of a list of groups.
use Rattle.std.proofs.Common.{◌≡◌, ◌≢◌, ℕ, ◌+◌, ◌<◌, ◌≤◌, Bool, true, false, not, nat_eq, List, [], ◌∷◌, ◌++◌, map, filter, find, refl, sym, arith, ◌⊎◌, inl, inr, Some, None, zero-add}
use Rattle.std.proofs.lemmas.Bool.Decides.{eqb_tells}
use Rattle.model_heap.specs.Mesh.{virtual_pages}
use Rattle.model_heap.specs.Sound.{times_in, all_pages, IsSoundGroup, AreSoundGroups, AscendBetween}
use Rattle.model_heap.specs.Table.{Group, has_number, changed_at}
use Rattle.model_words.proofs.Tests.{tells}

-- the sum of the times in both parts
pub times_in-append : (v : ℕ) (xs ys : List ℕ) → times_in v (xs ++ ys) ≡ times_in v xs + times_in v ys
times_in-append v [] ys = sym (zero-add (times_in v ys))
times_in-append v (x ∷ xs) ys = let rest = times_in-append v xs ys in omega (arith, rest)

-- how often a virtual page is in the groups' members
abbrev pub pages_in : ℕ → List Group → ℕ
pages_in v groups = times_in v (all_pages groups)

-- the first group's pages, and those of the others
pages_in-cons : (v : ℕ) (g : Group) (gs : List Group) → pages_in v (g ∷ gs) ≡ times_in v (virtual_pages g) + pages_in v gs
pages_in-cons v g gs = times_in-append v (virtual_pages g) (all_pages gs)

-- the group found has the number
pub find_number : (n : ℕ) (gs : List Group) (g : Group) → find (has_number n) gs ≡ Some g → g.number ≡ n
find_number n [] g h = cc
find_number n (x ∷ xs) g h = grind (arith, find_number n xs g)

-- the group found passes the test
pub find_passes : (test : Group → Bool) (gs : List Group) (g : Group) → find test gs ≡ Some g → test g ≡ true
find_passes test [] g h = cc
find_passes test (x ∷ xs) g h = grind (arith, find_passes test xs g)

-- the group found is sound
pub find_sound : (test : Group → Bool) (gs : List Group) (g : Group) → find test gs ≡ Some g → AreSoundGroups gs → IsSoundGroup g
find_sound test [] g h sound = absurd (cc)
find_sound test (x ∷ xs) g h sound = grind (arith, find_sound test xs g)

-- the number of the group found is within the bounds
pub find_between : (test : Group → Bool) (low high : ℕ) (gs : List Group) (g : Group) → AscendBetween low gs high → find test gs ≡ Some g
    → (low ≤ g.number) × (g.number < high)
find_between test low high [] g ascend h = absurd (cc)
find_between test low high (x ∷ xs) g ascend h = grind (arith, bounds (x.number + 1) high xs ascend.1, find_between test (x.number + 1) high xs g ascend.1)
  where
    bounds : (low high : ℕ) (gs : List Group) → AscendBetween low gs high → low ≤ high
    bounds low high [] h = h
    bounds low high (g ∷ gs) h = let rest = bounds (g.number + 1) high gs h.1 in omega (arith, rest, h.0)

-- no group has a number below the first bound
none_below : (n low high : ℕ) (gs : List Group) → n < low → AscendBetween low gs high → find (has_number n) gs ≡ None
none_below n low high [] below ascend = refl
none_below n low high (x ∷ xs) below ascend = grind (arith, none_below n (x.number + 1) high xs)

-- the group found is the first one, and no other one has its number, or it is found among the others
pub first_or_later : (n low high : ℕ) (x : Group) (xs : List Group) (g : Group) → AscendBetween low (x ∷ xs) high → find (has_number n) (x ∷ xs) ≡ Some g
    → ((nat_eq x.number n ≡ true) × (x ≡ g) × (find (has_number n) xs ≡ None)) ⊎ ((nat_eq x.number n ≡ false) × (find (has_number n) xs ≡ Some g))
first_or_later n low high x xs g ascend h = grind (arith, none_below n (x.number + 1) high xs)

-- a group found by any test is found by its number
pub find_again : (test : Group → Bool) (low high : ℕ) (gs : List Group) (g : Group) → AscendBetween low gs high → find test gs ≡ Some g
    → find (has_number g.number) gs ≡ Some g
find_again test low high [] g ascend h = absurd (cc)
find_again test low high (x ∷ xs) g ascend h =
    grind (arith, find_between test (x.number + 1) high xs g ascend.1, find_again test (x.number + 1) high xs g ascend.1)

-- where no group has the number, none is changed
changed_none : (n : ℕ) (change : Group → Group) (gs : List Group) → find (has_number n) gs ≡ None → map (changed_at n change) gs ≡ gs
changed_none n change [] h = refl
changed_none n change (x ∷ xs) h = grind (arith, changed_none n change xs)

-- where no group has the number, none is taken out
pub without_none : (n : ℕ) (gs : List Group) → find (has_number n) gs ≡ None → filter (λ g. not (has_number n g)) gs ≡ gs
without_none n [] h = refl
without_none n (x ∷ xs) h = grind (arith, without_none n xs)

-- a changed group's pages take the place of those it had
pub pages_changed : (v n low high : ℕ) (change : Group → Group) (gs : List Group) (g : Group) → AscendBetween low gs high → find (has_number n) gs ≡ Some g
    → pages_in v (map (changed_at n change) gs) + times_in v (virtual_pages g) ≡ pages_in v gs + times_in v (virtual_pages (change g))
pages_changed v n low high change [] g ascend h = absurd (cc)
pages_changed v n low high change (x ∷ xs) g ascend h =
    grind (arith, first_or_later n low high x xs g ascend h, changed_none, pages_in-cons, pages_changed v n (x.number + 1) high change xs g ascend.1)

-- without a group there are its pages less
pub pages_without : (v n low high : ℕ) (gs : List Group) (g : Group) → AscendBetween low gs high → find (has_number n) gs ≡ Some g
    → pages_in v (filter (λ x. not (has_number n x)) gs) + times_in v (virtual_pages g) ≡ pages_in v gs
pages_without v n low high [] g ascend h = absurd (cc)
pages_without v n low high (x ∷ xs) g ascend h =
    grind (arith, first_or_later n low high x xs g ascend h, without_none n xs, pages_in-cons v x, pages_without v n (x.number + 1) high xs g ascend.1)

-- the groups stay sound where the changed one is
pub groups_changed : (n low high : ℕ) (change : Group → Group) (gs : List Group) (g : Group) → AscendBetween low gs high → find (has_number n) gs ≡ Some g
    → IsSoundGroup (change g) → AreSoundGroups gs → AreSoundGroups (map (changed_at n change) gs)
groups_changed n low high change [] g ascend h new sound = tt
groups_changed n low high change (x ∷ xs) g ascend h new sound =
    grind (arith, first_or_later n low high x xs g ascend h, changed_none n change xs, groups_changed n (x.number + 1) high change xs g ascend.1)

-- each group changed to a sound one
pub groups_mapped : (change : Group → Group) (gs : List Group) → ((g : Group) → IsSoundGroup g → IsSoundGroup (change g)) → AreSoundGroups gs
    → AreSoundGroups (map change gs)
groups_mapped change [] keeps sound = tt
groups_mapped change (x ∷ xs) keeps sound = (keeps x sound.0, groups_mapped change xs keeps sound.1)

-- some of sound groups are sound
pub groups_filtered : (test : Group → Bool) (gs : List Group) → AreSoundGroups gs → AreSoundGroups (filter test gs)
groups_filtered test [] sound = tt
groups_filtered test (x ∷ xs) sound = grind (arith, groups_filtered test xs sound.1)

-- a sound group more
pub groups_more : (gs : List Group) (g : Group) → IsSoundGroup g → AreSoundGroups gs → AreSoundGroups (gs ++ g ∷ [])
groups_more [] g new sound = (new, tt)
groups_more (x ∷ xs) g new sound = (sound.0, groups_more xs g new sound.1)

-- where each group keeps its pages, all do
pub pages_mapped : (change : Group → Group) (gs : List Group) → ((g : Group) → virtual_pages (change g) ≡ virtual_pages g)
    → all_pages (map change gs) ≡ all_pages gs
pages_mapped change [] keeps = refl
pages_mapped change (x ∷ xs) keeps = rw (keeps x, pages_mapped change xs keeps) refl

-- a new group's pages come to the others
pub pages_more : (v : ℕ) (gs : List Group) (g : Group) → pages_in v (gs ++ g ∷ []) ≡ pages_in v gs + times_in v (virtual_pages g)
pages_more v [] g = let one = pages_in-cons v g [] in omega (arith, one)
pages_more v (x ∷ xs) g = grind (arith, pages_in-cons v x (xs ++ g ∷ []), pages_in-cons v x xs, pages_more v xs g)

-- a lower first bound
ascend_lower : (low low' high : ℕ) (gs : List Group) → low' ≤ low → AscendBetween low gs high → AscendBetween low' gs high
ascend_lower low low' high [] h ascend = omega (arith, h, ascend)
ascend_lower low low' high (x ∷ xs) h ascend = (omega (arith, h, ascend.0), ascend.1)

-- where each group keeps its number, they ascend as before
pub ascend_mapped : (low high : ℕ) (change : Group → Group) (gs : List Group) → ((g : Group) → (change g).number ≡ g.number) → AscendBetween low gs high
    → AscendBetween low (map change gs) high
ascend_mapped low high change [] keeps ascend = ascend
ascend_mapped low high change (x ∷ xs) keeps ascend = rw (keeps x) (ascend.0, ascend_mapped (x.number + 1) high change xs keeps ascend.1)

-- some of ascending groups ascend
pub ascend_filtered : (low high : ℕ) (test : Group → Bool) (gs : List Group) → AscendBetween low gs high → AscendBetween low (filter test gs) high
ascend_filtered low high test [] ascend = ascend
ascend_filtered low high test (x ∷ xs) ascend = elim (tells (test x)) [
  | inl pass ↦ rw pass (ascend.0, ascend_filtered (x.number + 1) high test xs ascend.1)
  | inr fail ↦ rw fail (ascend_lower (x.number + 1) low high (filter test xs) (omega (arith, ascend.0)) (ascend_filtered (x.number + 1) high test xs ascend.1))
]

-- a group of the next number goes last
pub ascend_more : (low high : ℕ) (gs : List Group) (g : Group) → g.number ≡ high → AscendBetween low gs high → AscendBetween low (gs ++ g ∷ []) (high + 1)
ascend_more low high [] g is ascend = (omega (arith, is, ascend), omega (arith, is))
ascend_more low high (x ∷ xs) g is ascend = (ascend.0, ascend_more (x.number + 1) high xs g is ascend.1)

-- a change of one number keeps the numbers
pub changed_number : (n : ℕ) (change : Group → Group) → ((g : Group) → (change g).number ≡ g.number) → (g : Group) → (changed_at n change g).number ≡ g.number
changed_number n change keeps g = elim (tells (has_number n g)) [ inl pass ↦ rw pass (keeps g) | inr fail ↦ rw fail refl ]

-- a change of one number keeps the group of another
pub find_changed_other : (n m : ℕ) (change : Group → Group) (gs : List Group) → ((g : Group) → (change g).number ≡ g.number) → m ≢ n
    → find (has_number m) (map (changed_at n change) gs) ≡ find (has_number m) gs
find_changed_other n m change [] keeps apart = refl
find_changed_other n m change (x ∷ xs) keeps apart = grind (arith, find_changed_other n m change xs keeps apart)

-- a group of the number is found where it is first
pub head_found : (n : ℕ) (y : Group) (ys : List Group) → y.number ≡ n → find (has_number n) (y ∷ ys) ≡ Some y
head_found n y ys is = elim (eqb_tells y.number n) [ inl same ↦ rw same.0 refl | inr other ↦ absurd (other.1 is) ]

-- where each group keeps its number, the group of a number is the changed one
pub find_mapped : (n : ℕ) (change : Group → Group) (gs : List Group) (g : Group) → ((g : Group) → (change g).number ≡ g.number)
    → find (has_number n) gs ≡ Some g → find (has_number n) (map change gs) ≡ Some (change g)
find_mapped n change [] g keeps h = cc
find_mapped n change (x ∷ xs) g keeps h = grind (arith, find_mapped n change xs g keeps)

-- without one number the group of another is found as before
pub find_without_other : (n m : ℕ) (gs : List Group) → m ≢ n → find (has_number m) (filter (λ g. not (has_number n g)) gs) ≡ find (has_number m) gs
find_without_other n m [] apart = refl
find_without_other n m (x ∷ xs) apart = grind (arith, find_without_other n m xs apart)

-- a group found is found in a longer list
pub find_more : (test : Group → Bool) (gs hs : List Group) (g : Group) → find test gs ≡ Some g → find test (gs ++ hs) ≡ Some g
find_more test [] hs g h = cc
find_more test (x ∷ xs) hs g h = grind (arith, find_more test xs hs g)
