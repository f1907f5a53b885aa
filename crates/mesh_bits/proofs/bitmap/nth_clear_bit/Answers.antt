use Rattle.std.proofs.Common.{◌≡◌, ℕ, List, ◌+◌, ◌-◌, ◌*◌, ◌/◌, ◌%◌, ◌<◌, ◌≤◌, ◌^◌, nat_eq, slice_index, ap, ◌∙◌, arith, rules, w64, inl, inr}
use Rattle.std.specs.Int.{bit_not}
use Rattle.mesh_bits.specs.Bits.{clear_count, low_ones, members}
use Rattle.mesh_bits.proofs.BitsLemmas.{clear_bit_of, clear_count_below, clear_count_bits}
use Rattle.mesh_bits.proofs.bitmap.nth_clear_bit.Goals as goal

-- the clear numbers below a bit of the word at `first`, where so many of them are below the word
at_bit : (words : List ℕ) (first left place k : ℕ) → first % 64 ≡ 0 → k ≤ 64 → slice_index words (first / 64) < 2 ^ 64
    → left + clear_count (members words first) ≡ place
    → clear_count (members words (first + k)) + left ≡ place + low_ones k (bit_not w64 (slice_index words (first / 64)))
at_bit words first left place k whole few fits before =
    let start : 64 * (first / 64) ≡ first = omega (arith, whole) in
    let bits = rw start at (clear_count_bits words (first / 64) k few fits) in
    omega (arith, bits, before)

-- the place of a bit among the clear numbers
place_of : (words : List ℕ) (first left place k : ℕ) → first % 64 ≡ 0 → k < 64 → slice_index words (first / 64) < 2 ^ 64
    → left + clear_count (members words first) ≡ place → low_ones k (bit_not w64 (slice_index words (first / 64))) ≡ left
    → clear_count (members words (first + k)) ≡ place
place_of words first left place k whole below fits before ones =
    let bit = at_bit words first left place k whole (omega (arith, below)) fits before in omega (arith, bit, ones)

-- no more clear numbers are below the width than below a number past it
up_to : (words : List ℕ) (width i place : ℕ) → width ≤ i → clear_count (members words i) ≤ place → clear_count (members words width) ≤ place
up_to words width i place above count =
    let below = clear_count_below words width (i - width) in
    let same : width + (i - width) ≡ i = omega (arith, above) in
    let below' : clear_count (members words width) ≤ clear_count (members words i) = rw same at below in
    omega (arith, below', count)

pub returns-in_err-i-clause-none : goal.returns-in_err-i-clause-none
returns-in_err-i-clause-none c =
    let end = at_bit c.args.words.now c.skip_words-first.result.0 c.skip_words-first.result.1 c.args.place 64
    c.skip_words-first.ensures.word (omega arith) (search rules) c.skip_words-first.ensures.place in
    let few : low_ones 64 (bit_not w64 (slice_index c.args.words.now (c.skip_words-first.result.0 / 64))) ≤ c.skip_words-first.result.1 = c.in_err-i.ensures.none in
    let all : clear_count (members c.args.words.now (c.skip_words-first.result.0 + 64)) ≤ c.args.place = omega (arith, end, few) in
    rw c.from_residual.ensures (elim c.skip_words-first.ensures.last [
      | inl last ↦ up_to c.args.words.now c.args.width (c.skip_words-first.result.0 + 64) c.args.place last all
      | inr more ↦ absurd (omega (arith, all, more))
    ])

pub returns-then-i-width-clause-clear : goal.returns-then-i-width-clause-clear
returns-then-i-width-clause-clear c =
    let fits : slice_index c.args.words.now (c.skip_words-first.result.0 / 64) < 2 ^ 64 = search rules in
    let whole = c.skip_words-first.ensures.word in
    let one = c.in_ok-i.ensures.one in
    let clear = clear_bit_of c.args.words.now (c.skip_words-first.result.0 + c.in_ok-i.field-0) (c.skip_words-first.result.0 / 64) c.in_ok-i.field-0
    (omega (arith, whole)) one.0 fits in
    (c.if-i-width.true, clear ∙ ap (λ (b : ℕ). nat_eq (1 - b) 1) one.1)

pub returns-then-i-width-clause-place : goal.returns-then-i-width-clause-place
returns-then-i-width-clause-place c =
    place_of _ _ _ _ _ c.skip_words-first.ensures.word c.in_ok-i.ensures.one.0 (search rules) c.skip_words-first.ensures.place c.in_ok-i.ensures.place

pub returns-else-i-width-clause-none : goal.returns-else-i-width-clause-none
returns-else-i-width-clause-none c =
    let same = place_of c.args.words.now c.skip_words-first.result.0 c.skip_words-first.result.1 c.args.place c.in_ok-i.field-0
    c.skip_words-first.ensures.word c.in_ok-i.ensures.one.0 (search rules) c.skip_words-first.ensures.place c.in_ok-i.ensures.place in
    up_to c.args.words.now c.args.width _ c.args.place c.if-i-width.false (omega (arith, same))
