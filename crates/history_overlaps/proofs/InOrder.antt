-- Items at places of a list, in an order.
use Rattle.std.proofs.Common.{◌≡◌, ℕ, ◌+◌, ◌<◌, List, [], ◌∷◌, ◌++◌, Option, Some, None, arith, ap, sym, ◌∙◌, subst, refl, length, map, take, drop, get_or}
use Rattle.std.specs.Prelude.{option_map, slice_get}
use Rattle.std.specs.List.{All, cons_option, range_with_len}
use Rattle.std.specs.List.Sorted.{IsPermutation}
use Rattle.std.proofs.lemmas.List.{append_assoc, map-append, map-id, map_push, nil_from_length, take-append-drop, take_more}
use Rattle.std.proofs.lemmas.List.Elements.{All-head, All-tail, filter_map-append}
use Rattle.std.proofs.lemmas.List.FromFn.{fill_by_all, get_or-range_with_len, length-range_with_len, map-range_with_len_more}
use Rattle.std.proofs.lemmas.List.Sorted.{All-permutation, IsPermutation-map, IsPermutation-refl, IsPermutation-sym, length_permutation}
use Rattle.std.proofs.lemmas.Option.{slice_get-get_or, slice_get-map, slice_get_read}
use Rattle.model_history.specs.Recorded.{IsRecorded, any_allocator}
use Rattle.model_intervals.specs.Intervals.{Call, Explains, RespectsTime}
use Rattle.history_reading.specs.CallWords.{plain_call}
use Rattle.history_reading.specs.declared.words.TimedCall.{TimedCall}
use Rattle.history_overlaps.specs.Orders.{IsLegalOrder, at_places, calls_in_order}

-- one more place
at_more : {X : Type 0} (xs : List X) (places : List ℕ) (place : ℕ) (x : X) → slice_get xs place ≡ Some x
    → at_places xs (places ++ place ∷ []) ≡ at_places xs places ++ x ∷ []
at_more {X} xs places place x is =
    filter_map-append (slice_get xs) places (place ∷ []) ∙ ap (λ (item : Option X). at_places xs places ++ cons_option item []) is

-- one more call
pub in_order_more : (calls : List TimedCall) (order : List ℕ) (i : ℕ) (call : TimedCall) → i < length order → get_or order i 0 < length calls
    → call ≡ get_or calls (get_or order i 0) call
    → calls_in_order calls (take (i + 1) order) ≡ calls_in_order calls (take i order) ++ plain_call call ∷ []
in_order_more calls order i call lt within is =
    ap (λ (some : List ℕ). calls_in_order calls some) (take_more order i 0 lt)
    ∙ ap (λ (some : List TimedCall). map plain_call some) (at_more calls (take i order) (get_or order i 0) call (slice_get_read calls (length calls) (get_or order i 0) call refl within is))
    ∙ map_push plain_call (at_places calls (take i order)) call

-- the calls before a call, the call, and the calls behind it
pub in_order_split : (calls : List TimedCall) (order : List ℕ) (i : ℕ) (call : TimedCall) → i < length order → get_or order i 0 < length calls
    → call ≡ get_or calls (get_or order i 0) call
    → calls_in_order calls order ≡ calls_in_order calls (take i order) ++ plain_call call ∷ calls_in_order calls (drop (i + 1) order)
in_order_split calls order i call lt within is =
    let front = take (i + 1) order in
    let back = drop (i + 1) order in
    ap (λ (some : List ℕ). calls_in_order calls some) (sym (take-append-drop (i + 1) order))
    ∙ ap (λ (some : List TimedCall). map plain_call some) (filter_map-append (slice_get calls) front back)
    ∙ map-append plain_call (at_places calls front) (at_places calls back)
    ∙ ap (λ (some : List Call). some ++ calls_in_order calls back) (in_order_more calls order i call lt within is)
    ∙ append_assoc (calls_in_order calls (take i order)) (plain_call call ∷ []) (calls_in_order calls back)

-- the items of a mapped list
map-cons_option : {X Y : Type 0} (f : X → Y) (item : Option X) (xs : List X) → map f (cons_option item xs) ≡ cons_option (option_map f item) (map f xs)
map-cons_option f None xs = refl
map-cons_option f (Some x) xs = refl

pub at_places-map : {X Y : Type 0} (f : X → Y) (xs : List X) (places : List ℕ) → map f (at_places xs places) ≡ at_places (map f xs) places
at_places-map f xs [] = refl
at_places-map {X} {Y} f xs (place ∷ places) =
    map-cons_option f (slice_get xs place) (at_places xs places)
    ∙ ap (λ (ys : List Y). cons_option (option_map f (slice_get xs place)) ys) (at_places-map f xs places)
    ∙ sym (ap (λ (item : Option Y). cons_option item (at_places (map f xs) places)) (slice_get-map f xs place))

-- the places are within the list
pub at_within : {X : Type 0} (xs : List X) (d : X) (places : List ℕ) → All (λ place. place < length xs) places
    → at_places xs places ≡ map (λ place. get_or xs place d) places
at_within xs d [] within = refl
at_within {X} xs d (place ∷ places) within =
    let here = slice_get-get_or xs place d (All-head (λ (n : ℕ). n < length xs) place places within) in
    let rest = at_within xs d places (All-tail (λ (n : ℕ). n < length xs) place places within) in
    ap (λ (item : Option X). cons_option item (at_places xs places)) here ∙ ap (λ (items : List X). get_or xs place d ∷ items) rest

-- one more number
pub range_more : (count : ℕ) → range_with_len 0 (count + 1) ≡ range_with_len 0 count ++ count ∷ []
range_more count =
    sym (map-id (range_with_len 0 (count + 1))) ∙ map-range_with_len_more (λ (n : ℕ). n) 0 count count (omega arith)
    ∙ ap (λ (front : List ℕ). front ++ count ∷ []) (map-id (range_with_len 0 count))

-- the numbers of sorted keys are an order of all numbers
pub order_sorted : {X : Type 0} (number : X → ℕ) (keys sorted : List X) (count : ℕ) (order : List ℕ) → map number keys ≡ range_with_len 0 count
    → IsPermutation keys sorted → order ≡ map number sorted → IsPermutation (range_with_len 0 count) order
order_sorted number keys sorted count order all permuted is =
    subst (λ (from : List ℕ). IsPermutation from order) all
    (subst (λ (to : List ℕ). IsPermutation (map number keys) to) (sym is) (IsPermutation-map number keys sorted permuted))

-- each number below a count
all_below : (count : ℕ) → All (λ number. number < count) (range_with_len 0 count)
all_below count k d lt =
    let is = get_or-range_with_len 0 count k d (subst (λ (n : ℕ). k < n) (length-range_with_len 0 count) lt) in
    omega (arith, is, lt, length-range_with_len 0 count)

-- an order of all numbers has only numbers of items
pub places_within : (count : ℕ) (order : List ℕ) → IsPermutation (range_with_len 0 count) order → All (λ number. number < count) order
places_within count order permuted = All-permutation (λ (n : ℕ). n < count) (range_with_len 0 count) order permuted (all_below count)

-- an order of all numbers has as many as there are items
pub order_length : (count : ℕ) (order : List ℕ) → IsPermutation (range_with_len 0 count) order → length order ≡ count
order_length count order permuted = length_permutation (range_with_len 0 count) order permuted ∙ length-range_with_len 0 count

-- the items in an order of all places are the items
pub items_permuted : {X : Type 0} (xs : List X) (order : List ℕ) → IsPermutation (range_with_len 0 (length xs)) order → IsPermutation (at_places xs order) xs
items_permuted {X} [] order permuted =
    let none = nil_from_length order (order_length 0 order permuted) in
    let nothing : List X = [] in
    subst (λ (some : List ℕ). IsPermutation {X = X} (at_places nothing some) nothing) (sym none) (IsPermutation-refl nothing)
items_permuted {X} (x ∷ rest) order permuted =
    let xs : List X = x ∷ rest in
    let item = λ (place : ℕ). get_or xs place x in
    let all = fill_by_all item xs (length xs) x refl (λ k lt. refl) in
    let same = at_within xs x order (places_within (length xs) order permuted) in
    let moved = IsPermutation-map item (range_with_len 0 (length xs)) order permuted in
    IsPermutation-sym xs (at_places xs order)
    (subst (λ (from : List X). IsPermutation from (at_places xs order)) (sym all) (subst (λ (to : List X). IsPermutation (map item (range_with_len 0 (length xs))) to) (sym same) moved))

-- an order of all calls that was checked explains them
pub order_explains : (calls : List TimedCall) (order looked_at : List ℕ) → IsPermutation (range_with_len 0 (length calls)) order → looked_at ≡ order
    → IsLegalOrder (calls_in_order calls looked_at) → Explains (map plain_call calls) (calls_in_order calls order)
order_explains calls order looked_at permuted is legal = record {
  same = IsPermutation-map plain_call (at_places calls order) calls (items_permuted calls order permuted);
  in_time = subst (λ (numbers : List ℕ). RespectsTime (calls_in_order calls numbers)) is legal.in_time;
  end = legal.end;
  legal = subst (λ (numbers : List ℕ). IsRecorded any_allocator (map (λ (call : Call). call.entry) (calls_in_order calls numbers)) legal.end) is legal.legal;
}
