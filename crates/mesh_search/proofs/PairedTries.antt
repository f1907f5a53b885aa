-- Which candidates of a round its pairs have: those whose tries mesh.
use Rattle.std.proofs.Common.{◌≡◌, ℕ, suc, ◌+◌, ◌%◌, ◌≤◌, Bool, true, false, cond, not, ◌||◌, nat_eq, nat_lt, List, [], ◌∷◌, ◌++◌, length, map, filter, take, drop, ap, refl, sym, ◌∙◌, arith, inl, inr, zero, zero-add}
use Rattle.std.specs.List.{list_any, zip}
use Rattle.std.proofs.lemmas.Bool.{true≢false}
use Rattle.std.proofs.lemmas.Bool.Decides.{eqb_tells}
use Rattle.std.proofs.lemmas.List.{length-append}
use Rattle.mesh_bits.specs.Bits.{member_count}
use Rattle.model_heap.specs.Sound.{times_in}
use Rattle.model_words.proofs.Tests.{tells}
use Rattle.model_search.specs.Search.{Candidate, Pairing, meshes, pairs_group, pairs_of_round, rotated, turned, unpaired}
use Rattle.model_search.proofs.Searches.{length-rotated, times, times-append, times-filter, times-split}
use Rattle.mesh_search.specs.Views.{AreOnce, round_answers}

-- the candidate is in one of the pairs
abbrev pub is_paired : List Pairing → Candidate → Bool
is_paired pairs c = list_any (pairs_group c) pairs

-- the pairs of some tries
abbrev pairs_of : List (Candidate × Candidate) → List Pairing
pairs_of ts = map turned (filter meshes ts)

or_comm : (a b : Bool) → (a || b) ≡ (b || a)
or_comm true true = refl
or_comm true false = refl
or_comm false true = refl
or_comm false false = refl

turned_either : (b : Bool) (c x y : Candidate)
    → pairs_group c (cond b (record { source = x.number; destination = y.number }) (record { source = y.number; destination = x.number }))
    ≡ (nat_eq x.number c.number || nat_eq y.number c.number)
turned_either true c x y = refl
turned_either false c x y = or_comm (nat_eq y.number c.number) (nat_eq x.number c.number)

-- a pair has the two candidates of its try
turned_has : (c x y : Candidate) → pairs_group c (turned (x, y)) ≡ (nat_eq x.number c.number || nat_eq y.number c.number)
turned_has c x y = turned_either (nat_lt (member_count x.occupied) (member_count y.occupied)) c x y

same_number : (n : ℕ) → nat_eq n n ≡ true
same_number n = elim (eqb_tells n n) [ inl same ↦ same.0 | inr apart ↦ absurd (apart.1 refl) ]

other_way : (a b : ℕ) → nat_eq a b ≡ false → nat_eq b a ≡ false
other_way a b h = elim (eqb_tells b a) [
  | inl same ↦ absurd (true≢false (sym (same_number a) ∙ ap (λ (n : ℕ). nat_eq a n) (sym same.1) ∙ h))
  | inr apart ↦ apart.0
]

-- a number that no candidate has is not the first one's
absent : (n : ℕ) (x : Candidate) (xs : List Candidate) → times n (x ∷ xs) ≡ 0 → (nat_eq x.number n ≡ false) × (times n xs ≡ 0)
absent n x xs h = elim (tells (nat_eq x.number n)) [
  | inl is ↦ absurd (let one : times n (x ∷ xs) ≡ 1 + times n xs = rw is refl in omega (arith, one, h))
  | inr other ↦ (other, let rest : times n (x ∷ xs) ≡ 0 + times n xs = rw other refl in omega (arith, rest, h))
]

-- a number that is there once is nowhere else
alone : (x : Candidate) (xs ys : List Candidate) → times x.number (x ∷ xs) + times x.number ys ≤ 1 → (times x.number xs ≡ 0) × (times x.number ys ≡ 0)
alone x xs ys h =
    let one : times x.number (x ∷ xs) ≡ 1 + times x.number xs = rw (same_number x.number) refl in (omega (arith, one, h), omega (arith, one, h))

-- a candidate whose number is in no try is in no pair
never_paired : (c : Candidate) (ls rs : List Candidate) → times c.number ls ≡ 0 → times c.number rs ≡ 0 → is_paired (pairs_of (zip ls rs)) c ≡ false
never_paired c [] rs h g = refl
never_paired c (x ∷ ls) [] h g = refl
never_paired c (x ∷ ls) (y ∷ rs) h g =
    let l = absent c.number x ls h in
    let r = absent c.number y rs g in
    let rest : is_paired (pairs_of (zip ls rs)) c ≡ false = never_paired c ls rs l.1 r.1 in
    let apart : pairs_group c (turned (x, y)) ≡ false = turned_has c x y ∙ ap (λ (b : Bool). b || nat_eq y.number c.number) l.0 ∙ r.0 in
    elim (tells (meshes (x, y))) [
      | inl mesh ↦ rw mesh (ap (λ (b : Bool). b || is_paired (pairs_of (zip ls rs)) c) apart ∙ rest)
      | inr other ↦ rw other rest
    ]

-- a pair more changes nothing for the candidates of other numbers
others : (x y : Candidate) (ps : List Pairing) (cs : List Candidate) → times x.number cs ≡ 0 → times y.number cs ≡ 0
    → map (is_paired (turned (x, y) ∷ ps)) cs ≡ map (is_paired ps) cs
others x y ps [] h g = refl
others x y ps (c ∷ cs) h g =
    let l = absent x.number c cs h in
    let r = absent y.number c cs g in
    let apart : pairs_group c (turned (x, y)) ≡ false
    = turned_has c x y ∙ ap (λ (b : Bool). b || nat_eq y.number c.number) (other_way c.number x.number l.0) ∙ other_way c.number y.number r.0 in
    ap (λ (b : Bool). (b || is_paired ps c) ∷ map (is_paired (turned (x, y) ∷ ps)) cs) apart
    ∙ ap (λ (bs : List Bool). is_paired ps c ∷ bs) (others x y ps cs l.1 r.1)

-- place by place, a candidate is in a pair of the tries exactly where its try meshes
tried_paired : (ls rs : List Candidate) → length ls ≡ length rs → ((n : ℕ) → times n ls + times n rs ≤ 1)
    → (map (is_paired (pairs_of (zip ls rs))) ls ≡ map meshes (zip ls rs)) × (map (is_paired (pairs_of (zip ls rs))) rs ≡ map meshes (zip ls rs))
tried_paired [] [] e once = (refl, refl)
tried_paired [] (y ∷ rs) e once = absurd (omega (arith, e))
tried_paired (x ∷ ls) [] e once = absurd (omega (arith, e))
tried_paired (x ∷ ls) (y ∷ rs) e once =
    let ps : List Pairing = pairs_of (zip ls rs) in
    let at_x = alone x ls (y ∷ rs) (once x.number) in
    let at_y = alone y rs (x ∷ ls) (let h = once y.number in omega (arith, h)) in
    let x_right = absent x.number y rs at_x.1 in
    let y_left = absent y.number x ls at_y.1 in
    let rest = tried_paired ls rs (omega (arith, e)) (λ n. let h = once n in omega (arith, h)) in
    let before : List (Candidate × Candidate) = filter meshes (zip ls rs) in
    elim (tells (meshes (x, y))) [
      | inl mesh ↦
          let is : pairs_of (zip (x ∷ ls) (y ∷ rs)) ≡ turned (x, y) ∷ ps = ap (λ (b : Bool). map turned (cond b ((x, y) ∷ before) before)) mesh in
          let told : map meshes (zip (x ∷ ls) (y ∷ rs)) ≡ true ∷ map meshes (zip ls rs) = ap (λ (b : Bool). b ∷ map meshes (zip ls rs)) mesh in
          let has_x : pairs_group x (turned (x, y)) ≡ true = turned_has x x y ∙ ap (λ (b : Bool). b || nat_eq y.number x.number) (same_number x.number) in
          let has_y : pairs_group y (turned (x, y)) ≡ true = turned_has y x y ∙ or_comm (nat_eq x.number y.number) (nat_eq y.number y.number)
          ∙ ap (λ (b : Bool). b || nat_eq x.number y.number) (same_number y.number) in (
            ap (λ (qs : List Pairing). map (is_paired qs) (x ∷ ls)) is ∙ ap (λ (b : Bool). (b || is_paired ps x) ∷ map (is_paired (turned (x, y) ∷ ps)) ls) has_x
                ∙ ap (λ (bs : List Bool). true ∷ bs) (others x y ps ls at_x.0 y_left.1 ∙ rest.0) ∙ sym told,
            ap (λ (qs : List Pairing). map (is_paired qs) (y ∷ rs)) is ∙ ap (λ (b : Bool). (b || is_paired ps y) ∷ map (is_paired (turned (x, y) ∷ ps)) rs) has_y
                ∙ ap (λ (bs : List Bool). true ∷ bs) (others x y ps rs x_right.1 at_y.0 ∙ rest.1) ∙ sym told,
          )
      | inr other ↦
          let is : pairs_of (zip (x ∷ ls) (y ∷ rs)) ≡ ps = ap (λ (b : Bool). map turned (cond b ((x, y) ∷ before) before)) other in
          let told : map meshes (zip (x ∷ ls) (y ∷ rs)) ≡ false ∷ map meshes (zip ls rs) = ap (λ (b : Bool). b ∷ map meshes (zip ls rs)) other in (
            ap (λ (qs : List Pairing). map (is_paired qs) (x ∷ ls)) is ∙ ap (λ (b : Bool). b ∷ map (is_paired ps) ls) (never_paired x ls rs at_x.0 x_right.1)
                ∙ ap (λ (bs : List Bool). false ∷ bs) rest.0 ∙ sym told,
            ap (λ (qs : List Pairing). map (is_paired qs) (y ∷ rs)) is ∙ ap (λ (b : Bool). b ∷ map (is_paired ps) rs) (never_paired y ls rs y_left.1 at_y.0)
                ∙ ap (λ (bs : List Bool). false ∷ bs) rest.1 ∙ sym told,
          )
    ]

-- what stays of two lists is there once where the lists are
pub unpaired_once : (ps : List Pairing) (ls rs : List Candidate) → AreOnce (ls ++ rs) → AreOnce (unpaired ps ls ++ unpaired ps rs)
unpaired_once ps ls rs once n =
    let l : times n (unpaired ps ls) ≤ times n ls = times-filter n (λ c. not (is_paired ps c)) ls in
    let r : times n (unpaired ps rs) ≤ times n rs = times-filter n (λ c. not (is_paired ps c)) rs in
    let h = once n in omega (arith, times-append n ls rs, times-append n (unpaired ps ls) (unpaired ps rs), l, r, h)

-- where no pair is new all stay
pub all_stay : (ps old new : List Pairing) (xs : List Candidate) → new ≡ old ++ ps → length new ≤ length old → xs ≡ unpaired ps xs
all_stay [] old new xs e h = sym (each_stays xs)
  where
    each_stays : (xs : List Candidate) → unpaired [] xs ≡ xs
    each_stays [] = refl
    each_stays (x ∷ xs) = ap (λ (ys : List Candidate). x ∷ ys) (each_stays xs)
all_stay (p ∷ ps) old new xs e h = absurd (let long = ap length e in let both = length-append old (p ∷ ps) in omega (arith, long, both, h))

-- the two halves of an order are there once where the order is
pub halves_once : (half : ℕ) (order : List Candidate) → AreOnce order → AreOnce (take half order ++ take half (drop half order))
halves_once half order once n =
    let rest = times-split n half (drop half order) in
    let h = once n in omega (arith, times-append n (take half order) (take half (drop half order)), times-split n half order, rest, h)

-- by place, a candidate of a round is in one of its pairs exactly where its try meshes
pub round_paired : (i : ℕ) (left right : List Candidate) → length left ≡ length right → AreOnce (left ++ right)
    → (map (is_paired (pairs_of_round i left right)) left ≡ round_answers i left right)
    × (map (is_paired (pairs_of_round i left right)) (rotated (i % length right) right) ≡ round_answers i left right)
round_paired i left right e once =
    let shift : ℕ = i % length right in
    tried_paired left (rotated shift right) (omega (arith, e, length-rotated shift right)) (λ n.
    let h = once n in omega (arith, times-append n left right, times-append n (drop shift right) (take shift right), times-split n shift right, h))
