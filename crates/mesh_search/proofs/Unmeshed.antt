-- What stays in a list after a round: the elements whose answers are false.
use Rattle.std.proofs.Common.{◌≡◌, ℕ, zero, suc, ◌+◌, ◌-◌, ◌%◌, ◌<◌, ◌≤◌, Bool, true, false, cond, not, List, [], ◌∷◌, ◌++◌, length, map, filter, take, drop, slice_index, slice_index_or, ap, refl, sym, ◌∙◌, arith}
use Rattle.std.proofs.lemmas.List.{map-append, length-append, length-take, length-drop, length-map, take-append-drop}
use Rattle.std.proofs.lemmas.List.Elements.{filter-append}
use Rattle.model_search.specs.Search.{Candidate, View, pairs_of_round, rotated, unpaired}
use Rattle.mesh_search.proofs.PairedTries.{is_paired, round_paired}
use Rattle.mesh_search.proofs.RoundTries.{length-answers}
use Rattle.mesh_search.specs.Views.{AreOnce, candidate_at, chosen, round_answers, unmeshed}

-- the elements from place j on
pub unmeshed_more : (bs : List Bool) (xs : List ℕ) (j : ℕ) → j < length bs → j < length xs
    → unmeshed (drop j bs) (drop j xs)
    ≡ cond (slice_index_or bs j false) (unmeshed (drop (j + 1) bs) (drop (j + 1) xs)) (slice_index xs j ∷ unmeshed (drop (j + 1) bs) (drop (j + 1) xs))
unmeshed_more [] xs j h g = absurd (omega (arith, h))
unmeshed_more (b ∷ bs) [] j h g = absurd (omega (arith, g))
unmeshed_more (b ∷ bs) (x ∷ xs) zero h g = refl
unmeshed_more (b ∷ bs) (x ∷ xs) (suc j) h g =
    let next : suc j + 1 ≡ suc (j + 1) = omega arith in rw next (unmeshed_more bs xs j (omega (arith, h)) (omega (arith, g)))

-- two parts of a list, one after the other
pub unmeshed-append : {A : Type 0} (cs bs : List Bool) (xs ys : List A) → length cs ≡ length xs
    → unmeshed (cs ++ bs) (xs ++ ys) ≡ unmeshed cs xs ++ unmeshed bs ys
unmeshed-append [] bs [] ys e = refl
unmeshed-append [] bs (x ∷ xs) ys e = absurd (omega (arith, e))
unmeshed-append (c ∷ cs) bs [] ys e = absurd (omega (arith, e))
unmeshed-append (true ∷ cs) bs (x ∷ xs) ys e = unmeshed-append cs bs xs ys (omega (arith, e))
unmeshed-append (false ∷ cs) bs (x ∷ xs) ys e = ap (λ zs. x ∷ zs) (unmeshed-append cs bs xs ys (omega (arith, e)))

-- no more stay than there are
pub unmeshed_few : (bs : List Bool) (xs : List ℕ) → length (unmeshed bs xs) ≤ length xs
unmeshed_few [] xs = omega arith
unmeshed_few (b ∷ bs) [] = omega arith
unmeshed_few (true ∷ bs) (x ∷ xs) = let rest = unmeshed_few bs xs in omega (arith, rest)
unmeshed_few (false ∷ bs) (x ∷ xs) = let rest = unmeshed_few bs xs in omega (arith, rest)

-- as many stay as answers are false
length-unmeshed : (bs : List Bool) (xs : List ℕ) → length bs ≡ length xs → length (unmeshed bs xs) ≡ length (filter not bs)
length-unmeshed [] [] e = refl
length-unmeshed [] (x ∷ xs) e = absurd (omega (arith, e))
length-unmeshed (b ∷ bs) [] e = absurd (omega (arith, e))
length-unmeshed (true ∷ bs) (x ∷ xs) e = length-unmeshed bs xs (omega (arith, e))
length-unmeshed (false ∷ bs) (x ∷ xs) e = let rest = length-unmeshed bs xs (omega (arith, e)) in omega (arith, rest)

-- the same number stays in two lists whose answers are the same but for their order
pub unmeshed_even : (k : ℕ) (bs : List Bool) (xs ys : List ℕ) → length bs ≡ length xs → length bs ≡ length ys
    → length (unmeshed bs xs) ≡ length (unmeshed (rotated k bs) ys)
unmeshed_even k bs xs ys e f =
    let long : length (rotated k bs) ≡ length bs = (let a = length-append (drop k bs) (take k bs) in let b = length-drop k bs in let d = length-take k bs in omega (arith, a, b, d)) in
    let parts : length (filter not (rotated k bs)) ≡ length (filter not (drop k bs)) + length (filter not (take k bs))
    = ap (λ (cs : List Bool). length cs) (filter-append not (drop k bs) (take k bs)) ∙ length-append (filter not (drop k bs)) (filter not (take k bs)) in
    let whole : length (filter not bs) ≡ length (filter not (take k bs)) + length (filter not (drop k bs))
    = ap (λ (cs : List Bool). length (filter not cs)) (sym (take-append-drop k bs)) ∙ ap (λ (cs : List Bool). length cs) (filter-append not (take k bs) (drop k bs))
    ∙ length-append (filter not (take k bs)) (filter not (drop k bs)) in
    omega (arith, length-unmeshed bs xs e, length-unmeshed (rotated k bs) ys (omega (arith, long, f)), parts, whole)

map-unmeshed : {A B : Type 0} (f : A → B) (bs : List Bool) (xs : List A) → map f (unmeshed bs xs) ≡ unmeshed bs (map f xs)
map-unmeshed f [] xs = refl
map-unmeshed f (b ∷ bs) [] = refl
map-unmeshed f (true ∷ bs) (x ∷ xs) = map-unmeshed f bs xs
map-unmeshed f (false ∷ bs) (x ∷ xs) = ap (λ ys. f x ∷ ys) (map-unmeshed f bs xs)

-- what a test refuses is what its answers leave
filter_unmeshed : {A : Type 0} (test : A → Bool) (xs : List A) → filter (λ x. not (test x)) xs ≡ unmeshed (map test xs) xs
filter_unmeshed test [] = refl
filter_unmeshed test (x ∷ xs) = one (test x) (filter_unmeshed test xs)
  where
    one : (b : Bool) → filter (λ y. not (test y)) xs ≡ unmeshed (map test xs) xs
        → cond (not b) (x ∷ filter (λ y. not (test y)) xs) (filter (λ y. not (test y)) xs) ≡ cond b (unmeshed (map test xs) xs) (x ∷ unmeshed (map test xs) xs)
    one true h = h
    one false h = ap (λ ys. x ∷ ys) h

past_front : (bs cs : List Bool) → drop (length bs) (bs ++ cs) ≡ cs
past_front [] cs = refl
past_front (b ∷ bs) cs = past_front bs cs

in_front : (bs cs : List Bool) → take (length bs) (bs ++ cs) ≡ bs
in_front [] cs = refl
in_front (b ∷ bs) cs = ap (λ (ds : List Bool). b ∷ ds) (in_front bs cs)

-- a list turned by its front has the front behind
swapped : (bs cs : List Bool) → rotated (length bs) (bs ++ cs) ≡ cs ++ bs
swapped bs cs = ap (λ (ds : List Bool). ds ++ take (length bs) (bs ++ cs)) (past_front bs cs) ∙ ap (λ (ds : List Bool). cs ++ ds) (in_front bs cs)

-- the answers of a turned list, turned back
turned_back : {A : Type 0} (f : A → Bool) (k : ℕ) (xs : List A) (bs : List Bool) → map f (rotated k xs) ≡ bs → map f xs ≡ rotated (length xs - k) bs
turned_back {A = A} f k xs bs h =
    let back : List A = drop k xs in
    let front : List A = take k xs in
    let long : length (map f back) ≡ length xs - k = length-map back f ∙ length-drop k xs in
    let cut : bs ≡ map f back ++ map f front = sym h ∙ map-append f back front in
    ap (λ ys. map f ys) (sym (take-append-drop k xs)) ∙ map-append f front back
    ∙ sym (ap (λ (cs : List Bool). rotated (length xs - k) cs) cut ∙ ap (λ (n : ℕ). rotated n (map f back ++ map f front)) (sym long) ∙ swapped (map f back) (map f front))

-- what stays of the first list
pub left_stays : (i : ℕ) (view : View) (left right : List ℕ) (bs : List Bool) → bs ≡ round_answers i (chosen view left) (chosen view right)
    → length left ≡ length right → AreOnce (chosen view left ++ chosen view right)
    → chosen view (unmeshed bs left) ≡ unpaired (pairs_of_round i (chosen view left) (chosen view right)) (chosen view left)
left_stays i view left right bs told e once =
    let ls : List Candidate = chosen view left in
    let rs : List Candidate = chosen view right in
    let test : Candidate → Bool = is_paired (pairs_of_round i ls rs) in
    let answers : map test ls ≡ bs = (round_paired i ls rs (length-map left (candidate_at view) ∙ e ∙ sym (length-map right (candidate_at view))) once).0 ∙ sym told in
    map-unmeshed (candidate_at view) bs left ∙ ap (λ (cs : List Bool). unmeshed cs ls) (sym answers) ∙ sym (filter_unmeshed test ls)

-- what stays of the second list
pub right_stays : (i : ℕ) (view : View) (left right : List ℕ) (bs : List Bool) → bs ≡ round_answers i (chosen view left) (chosen view right)
    → length left ≡ length right → AreOnce (chosen view left ++ chosen view right)
    → chosen view (unmeshed (rotated (length right - i % length right) bs) right) ≡ unpaired (pairs_of_round i (chosen view left) (chosen view right)) (chosen view right)
right_stays i view left right bs told e once =
    let ls : List Candidate = chosen view left in
    let rs : List Candidate = chosen view right in
    let long : length rs ≡ length right = length-map right (candidate_at view) in
    let test : Candidate → Bool = is_paired (pairs_of_round i ls rs) in
    let there : map test (rotated (i % length rs) rs) ≡ bs = (round_paired i ls rs (length-map left (candidate_at view) ∙ e ∙ sym long) once).1 ∙ sym told in
    let answers : map test rs ≡ rotated (length right - i % length right) bs
    = turned_back test (i % length rs) rs bs there ∙ ap (λ (n : ℕ). rotated (n - i % n) bs) long in
    map-unmeshed (candidate_at view) (rotated (length right - i % length right) bs) right ∙ ap (λ (cs : List Bool). unmeshed cs rs) (sym answers) ∙ sym (filter_unmeshed test rs)

-- each place of two even lists has an answer
pub answers_long : (i : ℕ) (view : View) (left right : List ℕ) (bs : List Bool) → bs ≡ round_answers i (chosen view left) (chosen view right)
    → length left ≡ length right → length bs ≡ length left
answers_long i view left right bs told e = let many = length-answers i view left right in let long = ap length told in omega (arith, many, long, e)
