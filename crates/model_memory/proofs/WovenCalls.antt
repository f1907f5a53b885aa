-- A seat's calls, in their order, are its worker's entries of the history that is built.
use Rattle.std.proofs.Common.{◌≡◌, ℕ, zero, suc, ◌+◌, ◌<◌, ◌≤◌, ◌⊎◌, Bool, true, false, List, [], ◌∷◌, ◌++◌, map, length, nat_eq, slice_index_or, ap, subst, refl, sym, ◌∙◌, arith, inl, inr, Option, Some, None, if◌then◌else◌, append-nil}
use Rattle.std.proofs.lemmas.Bool.Decides.{nat_tests, eqb_tells}
use Rattle.model_memory.specs.Plain.{Entry}
use Rattle.model_memory.specs.Seats.{Call, calls_of}
use Rattle.model_memory.specs.Reads.{Kept, all_reads_at, built_from, call_of, is_length, places_from, reads_at, recorded}

-- a test is true or false
pub tells : (b : Bool) → (b ≡ true) ⊎ (b ≡ false)
tells true = inl refl
tells false = inr refl

-- there is a length, or there is none
pub looks : (s : Option ℕ) → (s ≡ None) ⊎ ((n : ℕ) × (s ≡ Some n))
looks None = inl refl
looks (Some n) = inr (n, refl)

-- the first of the places, or the journal's length
abbrev pub first_or : ℕ → List ℕ → ℕ
first_or total [] = total
first_or total (p ∷ ps) = p

abbrev pub AfterFirst : List ℕ → (ℕ → List ℕ → Type 0) → Type 0
AfterFirst [] next = ⊥
AfterFirst (p ∷ ps) next = next (suc p) ps

abbrev pub FitsBy : Option ℕ → ℕ → List ℕ → ℕ → (ℕ → List ℕ → Type 0) → Type 0
FitsBy None low places total next = AfterFirst places next
FitsBy (Some n) low places total next = (low ≤ n) × (n ≤ first_or total places) × next n places

-- the calls stand where they may, the first read at `low` or later, the recorded calls at these places
abbrev pub Fits : ℕ → List ℕ → ℕ → List Kept → Type 0
Fits low places total [] = Unit {0}
Fits low places total (c ∷ cs) = FitsBy c.seen low places total (λ l ps. Fits l ps total cs)

-- the calls of the reads that saw `n` entries
abbrev pub kept_at : ℕ → List Kept → List Call
kept_at n [] = []
kept_at n (c ∷ cs) = if is_length n c.seen then call_of c ∷ kept_at n cs else kept_at n cs

abbrev pub entry_call : Entry → Call
entry_call e = record { command = e.command; reply = e.reply }

abbrev pub own_or : Bool → Call → List Call → List Call
own_or true call calls = call ∷ calls
own_or false call calls = calls

-- reads and entries of one worker, as they stand in the history
abbrev pub weave : ℕ → ℕ → List Entry → List Kept → List Call
weave k w [] cs = kept_at k cs
weave k w (e ∷ es) cs = kept_at k cs ++ own_or (nat_eq e.worker w) (entry_call e) (weave (suc k) w es cs)

-- another length is not this one
not_length : (k : ℕ) (s : Option ℕ) → ((n : ℕ) → s ≡ Some n → n ≡ k → ⊥) → is_length k s ≡ false
not_length k None h = refl
not_length k (Some n) h = elim (eqb_tells n k) [ inl same ↦ absurd (h n refl same.1) | inr other ↦ other.0 ]

-- a call that saw another length is left out
kept_skip : (k : ℕ) (c : Kept) (cs : List Kept) → ((n : ℕ) → c.seen ≡ Some n → n ≡ k → ⊥) → kept_at k (c ∷ cs) ≡ kept_at k cs
kept_skip k c cs h = let no = not_length k c.seen h in rw no refl

-- one that saw this length is taken
kept_take : (k : ℕ) (c : Kept) (cs : List Kept) → c.seen ≡ Some k → kept_at k (c ∷ cs) ≡ call_of c ∷ kept_at k cs
kept_take k c cs h = elim (eqb_tells k k) [ inl same ↦ let yes : is_length k c.seen ≡ true = rw h same.0 in rw yes refl | inr other ↦ absurd (other.1 refl) ]

-- a call that saw an earlier length, or none, has no part in what comes later
skip : (es : List Entry) (k w : ℕ) (c : Kept) (cs : List Kept) → ((n : ℕ) → c.seen ≡ Some n → n < k) → weave k w es (c ∷ cs) ≡ weave k w es cs
skip [] k w c cs h = kept_skip k c cs (λ n is same. let below = h n is in absurd (omega (arith, below, same)))
skip (e ∷ es) k w c cs h = grind (arith, nat_tests, kept_skip k c cs, skip es (suc k) w c cs)

-- all places are at least `k`
abbrev pub AtLeast : ℕ → List ℕ → Type 0
AtLeast k [] = Unit {0}
AtLeast k (p ∷ ps) = (k ≤ p) × AtLeast k ps

pub at_least_less : (k : ℕ) (ps : List ℕ) → AtLeast (suc k) ps → AtLeast k ps
at_least_less k [] h = tt
at_least_less k (p ∷ ps) h = (omega (arith, h.0), at_least_less k ps h.1)

pub places_least : (es : List Entry) (k w : ℕ) → AtLeast k (places_from k w es)
places_least [] k w = tt
places_least (e ∷ es) k w = grind (arith, at_least_less, places_least es (suc k) w)

by_places : (k total : ℕ) (cs : List Kept) → ((p : ℕ) (ps : List ℕ) → AtLeast k (p ∷ ps) → Fits (suc p) ps total cs → kept_at k cs ≡ [])
    → (ps : List ℕ) → AtLeast k ps → AfterFirst ps (λ l rest. Fits l rest total cs) → kept_at k cs ≡ []
by_places k total cs goes [] least after = absurd after
by_places k total cs goes (p ∷ ps) least after = goes p ps least after

-- where the calls fit after `k`, no read saw `k`
none_at : (cs : List Kept) (k low : ℕ) (places : List ℕ) (total : ℕ) → k < low → AtLeast k places → Fits low places total cs → kept_at k cs ≡ []
none_at [] k low places total above least fits = refl
none_at (c ∷ cs) k low places total above least fits =
    grind (arith, nat_tests, looks c.seen, AfterFirst places, Fits, kept_skip k c cs, by_places k total cs, none_at cs k, first_or total places)

-- at the journal's end only reads that saw it whole are left
weave_end : (rest : List Kept) (k low total : ℕ) → k ≤ low → total ≡ k → recorded rest ≡ [] → Fits low [] total rest → kept_at k rest ≡ map call_of rest
weave_end [] k low total h is none fits = refl
weave_end (c ∷ cs) k low total h is none fits = grind (arith, nat_tests, looks c.seen, AfterFirst [], Fits, weave_end cs k, kept_take k c cs)

-- what holds of the rest of a journal
abbrev Woven : List Entry → ℕ → ℕ → ℕ → Type 0
Woven es k w total = (rest : List Kept) (low : ℕ) → k ≤ low → recorded rest ≡ calls_of w es → Fits low (places_from k w es) total rest
    → weave k w es rest ≡ map call_of rest

-- one entry before it
weave_step : (k w total : ℕ) (e : Entry) (es : List Entry) → Woven es (suc k) w total → Woven (e ∷ es) k w total
weave_step k w total e es later [] low h is fits = elim (tells (nat_eq e.worker w)) [
  | inl own ↦ let clash : [] ≡ entry_call e ∷ calls_of w es = rw own at is in absurd (cc clash)
  | inr other ↦ let none : [] ≡ calls_of w es = rw other at is in rw other (later [] (suc k) (omega arith) none tt)
]
weave_step k w total e es later (c ∷ cs) low h is fits = elim (looks c.seen) [
  | inl none ↦ elim (tells (nat_eq e.worker w)) [
    | inl own ↦
        let after : Fits (suc k) (places_from (suc k) w es) total cs = rw (none, own) at fits in
        let same : call_of c ∷ recorded cs ≡ entry_call e ∷ calls_of w es = rw (none, own) at is in
        let first : call_of c ≡ entry_call e = cc same in
        let others : recorded cs ≡ calls_of w es = cc same in
        let no_more = none_at cs k (suc k) (places_from (suc k) w es) total (omega arith) (at_least_less k (places_from (suc k) w es) (places_least es (suc k) w)) after in
        let nothing : kept_at k (c ∷ cs) ≡ [] =
        kept_skip k c cs (λ n sees eq. let clash : None ≡ Some n = sym none ∙ sees in absurd (cc clash)) ∙ no_more in
        let shorter = skip es (suc k) w c cs (λ n sees. let clash : None ≡ Some n = sym none ∙ sees in absurd (cc clash)) in
        let rest = later cs (suc k) (omega arith) others after in
        rw nothing (rw own (ap (λ (calls : List Call). entry_call e ∷ calls) (shorter ∙ rest) ∙ ap (λ (x : Call). x ∷ map call_of cs) (sym first)))
    | inr other ↦
        let after : Fits (suc k) (places_from (suc k) w es) total (c ∷ cs) = let a : AfterFirst (places_from (suc k) w es) (λ l ps. Fits l ps total cs) = rw (none, other) at fits in rw none a in
        let same : recorded (c ∷ cs) ≡ calls_of w es = rw other at is in
        let nothing = none_at (c ∷ cs) k (suc k) (places_from (suc k) w es) total (omega arith) (at_least_less k (places_from (suc k) w es) (places_least es (suc k) w)) after in
        rw nothing (rw other (later (c ∷ cs) (suc k) (omega arith) same after))
  ]
  | inr some ↦
      let n = some.0 in
      let parts : (low ≤ n) × (n ≤ first_or total (places_from k w (e ∷ es))) × Fits n (places_from k w (e ∷ es)) total cs = rw some.1 at fits in
      let others : recorded cs ≡ calls_of w (e ∷ es) = rw some.1 at is in
      elim (eqb_tells n k) [
        | inl now ↦
            let take = kept_take k c cs (some.1 ∙ ap (λ (x : ℕ). Some x) now.1) in
            let shorter = skip es (suc k) w c cs (λ m sees. let eq : Some n ≡ Some m = sym some.1 ∙ sees in let m_is : n ≡ m = cc eq in omega (arith, m_is, now.1)) in
            let rest = weave_step k w total e es later cs n (omega (arith, now.1)) others parts.2 in
            rw take (rw shorter (ap (λ (calls : List Call). call_of c ∷ calls) rest))
        | inr not_now ↦
            let above : k < n = omega (arith, not_now.1, parts.0, h) in
            let again : Fits n (places_from k w (e ∷ es)) total (c ∷ cs) = rw some.1 (omega arith, parts.1, parts.2) in
            let nothing = none_at (c ∷ cs) k n (places_from k w (e ∷ es)) total above (places_least (e ∷ es) k w) again in
            elim (tells (nat_eq e.worker w)) [
              | inl own ↦ let below : n ≤ k = rw own at parts.1 in absurd (omega (arith, below, above))
              | inr other ↦
                  let after : Fits n (places_from (suc k) w es) total (c ∷ cs) = rw other at again in
                  let same : recorded (c ∷ cs) ≡ calls_of w es = rw other at is in
                  rw nothing (rw other (later (c ∷ cs) n (omega (arith, above)) same after))
            ]
      ]
]

-- calls that fit are woven in their order
pub weave_fits : (es : List Entry) (k w total : ℕ) → total ≡ k + length es → Woven es k w total
weave_fits [] k w total is rest low h none fits = weave_end rest k low total h (omega (arith, is)) none fits
weave_fits (e ∷ es) k w total is rest low h same fits =
    weave_step k w total e es (weave_fits es (suc k) w total (omega (arith, is))) rest low h same fits

-- the calls of two parts
pub calls_append : (w : ℕ) (xs ys : List Entry) → calls_of w (xs ++ ys) ≡ calls_of w xs ++ calls_of w ys
calls_append w [] ys = refl
calls_append w (x ∷ xs) ys = grind (arith, nat_tests, calls_append w xs ys, tells (nat_eq x.worker w), entry_call x)

-- the reads of the worker
own_reads : (n w : ℕ) (cs : List Kept) → calls_of w (reads_at n w cs) ≡ kept_at n cs
own_reads n w [] = refl
own_reads n w (c ∷ cs) = grind (arith, nat_tests, own_reads n w cs, tells (is_length n c.seen))

-- those of another one
other_reads : (n v w : ℕ) (cs : List Kept) → (v ≡ w → ⊥) → calls_of w (reads_at n v cs) ≡ []
other_reads n v w [] h = refl
other_reads n v w (c ∷ cs) h = grind (arith, nat_tests, other_reads n v w cs h, tells (is_length n c.seen))

later_seats : (seats : List (List Kept)) (n v w : ℕ) → w < v → calls_of w (all_reads_at n v seats) ≡ []
later_seats [] n v w h = refl
later_seats (cs ∷ seats) n v w h =
    grind (arith, nat_tests, other_reads n v w cs, later_seats seats n (suc v) w, calls_append w (reads_at n v cs) (all_reads_at n (suc v) seats))

-- the reads of all seats, seen by one worker
all_own : (seats : List (List Kept)) (n v w j : ℕ) → w ≡ v + j → calls_of w (all_reads_at n v seats) ≡ kept_at n (slice_index_or seats j [])
all_own [] n v w zero is = refl
all_own [] n v w (suc j) is = refl
all_own (cs ∷ seats) n v w zero is =
    let same : v ≡ w = omega (arith, is) in
    let here : calls_of w (reads_at n v cs) ≡ kept_at n cs = subst (λ (x : ℕ). calls_of w (reads_at n x cs) ≡ kept_at n cs) (sym same) (own_reads n w cs) in
    let rest = later_seats seats n (suc v) w (omega (arith, is)) in
    calls_append w (reads_at n v cs) (all_reads_at n (suc v) seats) ∙ rw here (rw rest (append-nil (kept_at n cs)))
all_own (cs ∷ seats) n v w (suc j) is =
    grind (arith, nat_tests, other_reads n v w cs, all_own seats n (suc v) w j, calls_append w (reads_at n v cs) (all_reads_at n (suc v) seats))

-- a worker's entries of the history that is built
pub built_woven : (es : List Entry) (k w : ℕ) (seats : List (List Kept)) → calls_of w (built_from k seats es) ≡ weave k w es (slice_index_or seats w [])
built_woven [] k w seats = all_own seats k 0 w w (omega arith)
built_woven (e ∷ es) k w seats = grind (arith, nat_tests, all_own, built_woven es (suc k) w seats, calls_append, tells)
