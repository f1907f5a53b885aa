-- Pieces of a list: with one more element, and joined in pairs.
use Rattle.std.proofs.Common.{◌≡◌, inl, inr, ℕ, ◌+◌, ◌*◌, ◌/◌, ◌%◌, ◌<◌, ◌≤◌, min, List, [], ◌∷◌, ◌++◌, length, take, drop, set, get_or, refl, sym, ap, add-one, ◌∙◌, subst, arith}
use Rattle.std.specs.Int.{div_ceil}
use Rattle.std.proofs.lemmas.List.{take_all, drop_all, drop-append-le, take-append-le, length-drop, drop-drop, length-take, length_push, get_or_default, get_or-set_same, get_or-set_other}
use Rattle.std.proofs.lemmas.Nat.{div-add-mod', mod_below}
use Rattle.std.proofs.lemmas.Grind.{div_ceil_times}
use Rattle.std.proofs.lemmas.Bool.{cases_lt}
use Rattle.std.proofs.Math.Nat.{lt_of_mul-lt-mul_right, mul-le-mul_left, mul-div_cancel, pow-succ'}
use Rattle.std.proofs.Math.Seq.{take-add}
use Rattle.savings_report.specs.Intervals.{AreOf, interval_of, interval_at, no_interval, piece, IsWidth}
use Rattle.savings_report.specs.declared.plot.intervals.Intervals.{Intervals}
use Rattle.savings_report.specs.declared.plot.readings.Reading.{Reading}
use Rattle.savings_report.specs.declared.plot.spans.Interval.{Interval}

-- a place before a greater one is a whole width before it
pub place_before : (w j k : ℕ) → j < k → j * w + w ≤ k * w
place_before w j k before = let step : w * (j + 1) ≤ w * k = mul-le-mul_left w (omega arith) in omega arith

-- the places that begin within n are those below n / w, rounded up
pub begins_below : (n w k : ℕ) → 0 < w → k < div_ceil n w → k * w < n
begins_below n w k wide below =
    let bounds = div_ceil_times n w wide in
    let high : (n / w + min 1 (n % w)) * w < n + w = bounds.1 in
    let step : k * w + w ≤ div_ceil n w * w = place_before w k (div_ceil n w) below in
    omega arith

pub below_begins : (n w k : ℕ) → 0 < w → k * w < n → k < div_ceil n w
below_begins n w k wide begins =
    let bounds = div_ceil_times n w wide in
    let low : n ≤ (n / w + min 1 (n % w)) * w = bounds.0 in
    let less : k * w < div_ceil n w * w = omega arith in
    lt_of_mul-lt-mul_right w less

-- pieces that are whole stay as they are
pub piece_kept : (w k : ℕ) (rs : List Reading) (r : Reading) → k * w + w ≤ length rs → piece w k (rs ++ r ∷ []) ≡ piece w k rs
piece_kept w k rs r whole =
    ap (take w) (drop-append-le (k * w) rs (r ∷ []) (omega arith))
    ∙ take-append-le w (drop (k * w) rs) (r ∷ []) (omega (arith, length-drop (k * w) rs))

-- the last piece grows
pub piece_grown : (w k : ℕ) (rs : List Reading) (r : Reading) → k * w ≤ length rs → length rs < k * w + w
    → piece w k (rs ++ r ∷ []) ≡ drop (k * w) rs ++ r ∷ []
piece_grown w k rs r begun room =
    ap (take w) (drop-append-le (k * w) rs (r ∷ []) begun)
    ∙ take_all w (drop (k * w) rs ++ r ∷ []) (omega (arith, length_push (drop (k * w) rs) r, length-drop (k * w) rs))

pub piece_last : (w k : ℕ) (rs : List Reading) → length rs < k * w + w → piece w k rs ≡ drop (k * w) rs
piece_last w k rs room = take_all w (drop (k * w) rs) (omega (arith, length-drop (k * w) rs))

-- a piece of twice the width is two pieces
pub piece_twice : (w k : ℕ) (rs : List Reading) → piece (2 * w) k rs ≡ piece w (2 * k) rs ++ piece w (2 * k + 1) rs
piece_twice w k rs =
    let width : 2 * w ≡ w + w = omega arith in
    let first : k * (2 * w) ≡ 2 * k * w = omega arith in
    let second : (2 * k + 1) * w ≡ 2 * k * w + w = omega arith in
    rw (width) (ap (λ (n : ℕ). take (w + w) (drop n rs)) (omega arith)
    ∙ take-add w w (drop (2 * k * w) rs)
    ∙ ap (λ (rest : List Reading). take w (drop (2 * k * w) rs) ++ take w rest) (drop-drop w (2 * k * w) rs ∙ ap (λ (n : ℕ). drop n rs) (sym second)))

-- the least width of no readings, of one more, and of one more than 600 intervals hold
pub width_none : IsWidth 1 0
width_none = record { exponent = 0; power_is = refl; enough = omega arith; no_less = λ e _. omega arith }

pub width_kept : (w n : ℕ) → IsWidth w n → n < 600 * w → IsWidth w (n + 1)
width_kept w n h room =
    record { exponent = h.exponent; power_is = h.power_is; enough = omega arith; no_less = λ e more. h.no_less e (omega arith) }

pub width_doubled : (w n : ℕ) → IsWidth w n → n ≡ 600 * w → 0 < w → IsWidth (2 * w) (n + 1)
width_doubled w n h full wide =
    record {
      exponent = h.exponent + 1;
      power_is = ap (λ (m : ℕ). 2 * m) h.power_is ∙ rw add-one (sym (pow-succ' 2 h.exponent));
      enough = omega arith;
      no_less = λ e more.
          let least : h.exponent ≤ e = h.no_less e (omega arith) in
          elim (cases_lt h.exponent e) [
            | inl less ↦ omega arith
            | inr no_less ↦
                let same : e ≡ h.exponent = omega arith in
                let bound : n + 1 ≤ 600 * w = rw (h.power_is, ← same) more in
                absurd (omega arith)
          ];
    }

-- what isn't full has room
pub has_room : (n w : ℕ) → 0 < w → n ≤ 600 * w → (n / w ≡ 600 → ⊥) → n < 600 * w
has_room n w wide few other =
    elim (cases_lt n (600 * w)) [
      | inl less ↦ less
      | inr no_less ↦ let same : n ≡ 600 * w = omega arith in absurd (other (ap (λ (m : ℕ). m / w) same ∙ mul-div_cancel 600 wide))
    ]

pub is_full : (n w : ℕ) → 0 < w → n ≤ 600 * w → n / w ≡ 600 → n ≡ 600 * w
is_full n w wide few whole =
    let split : n / w * w + n % w ≡ n = div-add-mod' n w in let at_least : n / w * w ≡ 600 * w = ap (λ (m : ℕ). m * w) whole in omega arith

-- what is read at a place that is there
pub at_place : (w n : ℕ) (list : List Interval) (x : Interval) → 0 < w → n < 600 * w → length list ≡ 600 → x ≡ get_or list (n / w) x
    → interval_at list (n / w) ≡ x
at_place w n list x wide space room is =
    let split : n / w * w + n % w ≡ n = div-add-mod' n w in
    let inside : n / w * w < 600 * w = omega arith in
    let place : n / w < length list = omega (arith, room, lt_of_mul-lt-mul_right w inside) in
    get_or_default list (n / w) no_interval x place ∙ sym is

-- joined pairs are of twice the width
pub pieces_joined : (w twice : ℕ) (old new : List Interval) (rs : List Reading) → twice ≡ 2 * w → length rs ≡ 600 * w
    → ((k : ℕ) → k * w < length rs → interval_at old k ≡ interval_of (piece w k rs))
    → ((j : ℕ) → j < 300 → (these those : List Reading) → 0 < length these → 0 < length those
    → interval_at old (2 * j) ≡ interval_of these → interval_at old (2 * j + 1) ≡ interval_of those → interval_at new j ≡ interval_of (these ++ those))
    → (k : ℕ) → k * twice < length rs → interval_at new k ≡ interval_of (piece twice k rs)
pieces_joined w twice old new rs double full each joined k begins =
    let wide : 0 < twice = elim (cases_lt 0 twice) [ inl less ↦ less | inr none ↦ let zero_is : w ≡ 0 = omega arith in absurd (let empty : length rs ≡ 0 = full ∙ ap (λ (m : ℕ). 600 * m) zero_is in omega arith) ] in
    let whole : 600 * w ≡ 300 * twice = omega arith in
    let less : k * twice < 300 * twice = omega arith in
    let below : k < 300 = lt_of_mul-lt-mul_right twice less in
    let first : 2 * k * w + w ≤ 600 * w = place_before w (2 * k) 600 (omega arith) in
    let second : (2 * k + 1) * w + w ≤ 600 * w = place_before w (2 * k + 1) 600 (omega arith) in
    joined k below (piece w (2 * k) rs) (piece w (2 * k + 1) rs)
    (omega (arith, length-take w (drop (2 * k * w) rs), length-drop (2 * k * w) rs))
    (omega (arith, length-take w (drop ((2 * k + 1) * w) rs), length-drop ((2 * k + 1) * w) rs))
    (each (2 * k) (omega arith)) (each (2 * k + 1) (omega arith))
    ∙ sym (ap interval_of (ap (λ (m : ℕ). piece m k rs) double ∙ piece_twice w k rs))

-- one more reading, in the last piece or in a new one
pub pieces_put : (w n : ℕ) (old : List Interval) (x : Interval) (rs : List Reading) (r : Reading) → n ≡ length rs → 0 < w → n < 600 * w → length old ≡ 600
    → ((k : ℕ) → k * w < length rs → interval_at old k ≡ interval_of (piece w k rs))
    → x ≡ interval_of (drop (n / w * w) rs ++ r ∷ [])
    → (k : ℕ) → k * w < length rs + 1 → interval_at (set old (n / w) x) k ≡ interval_of (piece w k (rs ++ r ∷ []))
pieces_put w n old x rs r count wide space room each last k begins =
    let split : n / w * w + n % w ≡ n = div-add-mod' n w in
    let rest : n % w < w = mod_below n w wide in
    let inside : n / w * w < 600 * w = omega arith in
    let place : n / w < 600 = lt_of_mul-lt-mul_right w inside in
    let before : k * w < (n / w + 1) * w = omega arith in
    let low : k < n / w + 1 = lt_of_mul-lt-mul_right w before in
    elim (cases_lt k (n / w)) [
      | inl less ↦
          let whole : k * w + w ≤ n / w * w = place_before w k (n / w) less in
          get_or-set_other old (n / w) k x no_interval (λ same. absurd (omega (arith, same))) ∙ each k (omega arith)
          ∙ sym (ap interval_of (piece_kept w k rs r (omega arith)))
      | inr no_less ↦
          let same : k ≡ n / w = omega arith in
          subst (λ (j : ℕ). interval_at (set old (n / w) x) j ≡ interval_of (piece w j (rs ++ r ∷ []))) (sym same)
          (get_or-set_same old (n / w) x no_interval (omega arith) ∙ last ∙ sym (ap interval_of (piece_grown w (n / w) rs r (omega arith) (omega arith))))
    ]

-- the reading that a new piece begins with
pub put_first : (w n : ℕ) (x : Interval) (rs : List Reading) (r : Reading) → n ≡ length rs → n % w ≡ 0
    → x ≡ interval_of (r ∷ []) → x ≡ interval_of (drop (n / w * w) rs ++ r ∷ [])
put_first w n x rs r count none first =
    let split : n / w * w + n % w ≡ n = div-add-mod' n w in
    let empty : drop (n / w * w) rs ≡ [] = drop_all (n / w * w) rs (omega arith) in
    first ∙ sym (ap (λ (before : List Reading). interval_of (before ++ r ∷ [])) empty)

-- the reading that the last piece takes in
pub put_next : (w n : ℕ) (old : List Interval) (x next : Interval) (rs : List Reading) (r : Reading) → n ≡ length rs → 0 < w → (n % w ≡ 0 → ⊥)
    → ((k : ℕ) → k * w < length rs → interval_at old k ≡ interval_of (piece w k rs)) → next ≡ interval_of (r ∷ [])
    → ((these those : List Reading) → 0 < length these → 0 < length those → interval_at old (n / w) ≡ interval_of these → next ≡ interval_of those
    → x ≡ interval_of (these ++ those))
    → x ≡ interval_of (drop (n / w * w) rs ++ r ∷ [])
put_next w n old x next rs r count wide some each first joined =
    let split : n / w * w + n % w ≡ n = div-add-mod' n w in
    let rest : n % w < w = mod_below n w wide in
    let left : 0 < n % w = elim (cases_lt 0 (n % w)) [ inl less ↦ less | inr none ↦ absurd (some (omega arith)) ] in
    joined (drop (n / w * w) rs) (r ∷ []) (omega (arith, length-drop (n / w * w) rs)) (omega arith)
    (each (n / w) (omega arith) ∙ ap interval_of (piece_last w (n / w) rs (omega arith))) first

-- the intervals are of one more reading
pub added : (mid new : Intervals) (rs : List Reading) (r : Reading) → mid.count ≡ length rs → IsWidth mid.width (length rs + 1)
    → new.width ≡ mid.width → new.count ≡ mid.count + 1
    → ((k : ℕ) → k * new.width < length rs + 1 → interval_at new.list.items k ≡ interval_of (piece new.width k (rs ++ r ∷ [])))
    → AreOf new (rs ++ r ∷ [])
added mid new rs r count width same more each =
    let long : length (rs ++ r ∷ []) ≡ length rs + 1 = length_push rs r in
    record {
      count_is = omega arith;
      width_is = rw (long, same) width;
      each_is = λ k begins. each k (rw (← long) begins);
    }
