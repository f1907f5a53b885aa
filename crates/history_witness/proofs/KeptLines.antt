-- The lines of a text that are kept, and the calls that are taken.
use Rattle.std.proofs.Common.{◌≡◌, ℕ, zero, suc, ◌+◌, ◌-◌, ◌<◌, ◌≤◌, inl, inr, Bool, true, false, if◌then◌else◌, List, [], ◌∷◌, ◌++◌, length, get_or, drop, append_assoc, arith, refl, sym, ◌∙◌, ap}
use Rattle.std.proofs.lemmas.List.{drop_more}
use Rattle.model_intervals.proofs.Lists.{tells}
use Rattle.model_jobs.specs.Texts.{ended}
use Rattle.text_fields.specs.Lines.{texts}
use Rattle.history_witness.specs.TakenLines.{is_kept, lines_at, taken_below, taken_in}
use denote.Ref.{Bor}

lines_same : (kept same : ℕ → Bool) (lines : List (List ℕ)) → ((i : ℕ) → kept i ≡ same i) → lines_at kept lines ≡ lines_at same lines
lines_same kept same [] each = refl
lines_same kept same (line ∷ lines) each =
    let later = lines_same (λ i. kept (suc i)) (λ i. same (suc i)) lines (λ i. each (suc i)) in
    rw (each 0) (elim (tells (same 0)) [ inl on ↦ rw on (ap (λ (l : List ℕ). ended line ++ l) later) | inr off ↦ rw off later ])

-- from the first line on
pub lines_first : (kept : ℕ → Bool) (lines : List (Bor (List ℕ))) → lines_at (λ i. kept (0 + i)) (texts (drop 0 lines)) ≡ lines_at kept (texts lines)
lines_first kept lines = lines_same (λ i. kept (0 + i)) kept (texts lines) (λ i. ap (λ (n : ℕ). kept n) (omega arith))

-- from the line at a place on
lines_more : (kept : ℕ → Bool) (lines : List (Bor (List ℕ))) (place : ℕ) (d : Bor (List ℕ)) → place < length lines
    → lines_at (λ i. kept (place + i)) (texts (drop place lines))
    ≡ (if kept place then ended (get_or lines place d).now ++ lines_at (λ i. kept (place + 1 + i)) (texts (drop (place + 1) lines))
    else lines_at (λ i. kept (place + 1 + i)) (texts (drop (place + 1) lines)))
lines_more kept lines place d below =
    let rest = texts (drop (place + 1) lines) in
    let here : kept (place + 0) ≡ kept place = ap (λ (n : ℕ). kept n) (omega arith) in
    let later = lines_same (λ i. kept (place + suc i)) (λ i. kept (place + 1 + i)) rest (λ i. ap (λ (n : ℕ). kept n) (omega arith)) in
    ap (λ (l : List (Bor (List ℕ))). lines_at (λ i. kept (place + i)) (texts l)) (drop_more lines place d below) ∙ rw (here, later) refl

-- a line that is kept is behind the text, and the others are left
pub line_kept : (kept : ℕ → Bool) (lines : List (Bor (List ℕ))) (place : ℕ) (d : Bor (List ℕ)) (text more : List ℕ) → place < length lines → kept place ≡ true
    → more ≡ text ++ ended (get_or lines place d).now
    → more ++ lines_at (λ i. kept (place + 1 + i)) (texts (drop (place + 1) lines)) ≡ text ++ lines_at (λ i. kept (place + i)) (texts (drop place lines))
line_kept kept lines place d text more below on is =
    let rest = lines_at (λ i. kept (place + 1 + i)) (texts (drop (place + 1) lines)) in
    let step = lines_more kept lines place d below in
    ap (λ (l : List ℕ). l ++ rest) is ∙ append_assoc text (ended (get_or lines place d).now) rest ∙ ap (λ (l : List ℕ). text ++ l) (sym (step ∙ rw on refl))

-- a line that isn't kept is left out
pub line_left : (kept : ℕ → Bool) (lines : List (Bor (List ℕ))) (place : ℕ) (d : Bor (List ℕ)) (text : List ℕ) → place < length lines → kept place ≡ false
    → text ++ lines_at (λ i. kept (place + 1 + i)) (texts (drop (place + 1) lines)) ≡ text ++ lines_at (λ i. kept (place + i)) (texts (drop place lines))
line_left kept lines place d text below off = ap (λ (l : List ℕ). text ++ l) (sym (lines_more kept lines place d below ∙ rw off refl))

-- behind the last line there is none
pub lines_end : (kept : ℕ → Bool) (lines : List (Bor (List ℕ))) (place : ℕ) → drop place lines ≡ [] → lines_at (λ i. kept (place + i)) (texts (drop place lines)) ≡ []
lines_end kept lines place none = ap (λ (l : List (Bor (List ℕ))). lines_at (λ i. kept (place + i)) (texts l)) none

-- ---- whether a line is kept

pub first_kept : (taken : ℕ → Bool) (place : ℕ) → place ≡ 0 → true ≡ is_kept taken place
first_kept taken zero is = refl
first_kept taken (suc i) is = absurd (omega (arith, is))

pub later_kept : (taken : ℕ → Bool) (place : ℕ) → (place ≡ 0 → ⊥) → taken (place - 1) ≡ is_kept taken place
later_kept taken zero behind = absurd (behind refl)
later_kept taken (suc i) behind = ap (λ (n : ℕ). taken n) (omega arith)

-- ---- the number of calls that are taken

pub below_taken : (taken : ℕ → Bool) (i : ℕ) → taken i ≡ true → taken_below taken (i + 1) ≡ taken_below taken i + 1
below_taken taken i on = ap (λ (n : ℕ). taken_below taken n) (let next : i + 1 ≡ suc i = omega arith in next) ∙ rw on (omega arith)

pub below_left : (taken : ℕ → Bool) (i : ℕ) → taken i ≡ false → taken_below taken (i + 1) ≡ taken_below taken i
below_left taken i off = ap (λ (n : ℕ). taken_below taken n) (let next : i + 1 ≡ suc i = omega arith in next) ∙ rw off refl

pub below_within : (taken : ℕ → Bool) (i : ℕ) → taken_below taken i ≤ i
below_within taken zero = omega arith
below_within taken (suc i) = let rest = below_within taken i in elim (tells (taken i)) [ inl on ↦ rw on (omega (arith, rest)) | inr off ↦ rw off (omega (arith, rest)) ]

-- a call that is taken is within the list of what is taken
pub taken_within : (flags : List Bool) (i : ℕ) → taken_in flags i ≡ true → i < length flags
taken_within [] zero on = cc on
taken_within [] (suc i) on = cc on
taken_within (flag ∷ flags) zero on = omega arith
taken_within (flag ∷ flags) (suc i) on = let later = taken_within flags i on in omega (arith, later)
