-- The places of picked calls, before and after.
use Rattle.std.proofs.Common.{◌≡◌, ◌≢◌, ℕ, zero, suc, inl, inr, Bool, true, if◌then◌else◌, List, [], ◌∷◌, arith, refl, sym, ◌∙◌, ap}
use Rattle.model_intervals.specs.Completions.{picked}
use Rattle.model_intervals.specs.Intervals.{Call}
use Rattle.model_intervals.specs.OverlappingCalls.{IsAt}
use Rattle.model_intervals.proofs.Lists.{tells}

-- how many places in front of this one are taken
abbrev pub rank : (ℕ → Bool) → ℕ → ℕ
rank taken zero = 0
rank taken (suc i) = if taken 0 then suc (rank (λ j. taken (suc j)) i) else rank (λ j. taken (suc j)) i

-- a call that is taken is picked
pub picked_to : (taken : ℕ → Bool) (calls : List Call) (i : ℕ) (a : Call) → IsAt calls i a → taken i ≡ true → IsAt (picked taken calls) (rank taken i) a
picked_to taken [] zero a is on = cc is
picked_to taken [] (suc i) a is on = cc is
picked_to taken (call ∷ calls) zero a is on = rw on is
picked_to taken (call ∷ calls) (suc i) a is on =
    let later = picked_to (λ j. taken (suc j)) calls i a is on in
    elim (tells (taken 0)) [ inl first ↦ rw first later | inr not ↦ rw not later ]

-- the call at place `k` of those that are picked: its place in the whole list
pub record IsPicked (taken : ℕ → Bool) (calls : List Call) (k : ℕ) (a : Call) : Type 0 where
  pub place : ℕ
  pub there : IsAt calls place a
  pub on : taken place ≡ true
  pub at : rank taken place ≡ k

pub picked_from : (taken : ℕ → Bool) (calls : List Call) (k : ℕ) (a : Call) → IsAt (picked taken calls) k a → IsPicked taken calls k a
picked_from taken [] zero a is = cc is
picked_from taken [] (suc k) a is = cc is
picked_from taken (call ∷ calls) k a is = elim (tells (taken 0)) [
  | inl first ↦ (let is' : IsAt (call ∷ picked (λ j. taken (suc j)) calls) k a = rw first at is in
      from_first k first is' (λ l later. picked_from (λ j. taken (suc j)) calls l a later))
  | inr not ↦ (
      let is' : IsAt (picked (λ j. taken (suc j)) calls) k a = rw not at is in
      let later = picked_from (λ j. taken (suc j)) calls k a is' in
      record { place = suc later.place; there = later.there; on = later.on; at = rw not later.at })
]
  where
    from_first : (k : ℕ) → taken 0 ≡ true → IsAt (call ∷ picked (λ j. taken (suc j)) calls) k a
        → ((l : ℕ) → IsAt (picked (λ j. taken (suc j)) calls) l a → IsPicked (λ j. taken (suc j)) calls l a) → IsPicked taken (call ∷ calls) k a
    from_first zero first is rest = record { place = 0; there = is; on = first; at = refl }
    from_first (suc l) first is rest =
        let later = rest l is in record { place = suc later.place; there = later.there; on = later.on; at = rw first (ap suc later.at) }

-- two of them are two calls of the whole list
pub picked_apart : (taken : ℕ → Bool) (calls : List Call) (k l : ℕ) (a b : Call) → k ≢ l → (p : IsPicked taken calls k a) (q : IsPicked taken calls l b) → p.place ≢ q.place
picked_apart taken calls k l a b apart p q same = apart (sym p.at ∙ ap (λ i. rank taken i) same ∙ q.at)

pub rank_once : (taken : ℕ → Bool) (i j : ℕ) → taken i ≡ true → taken j ≡ true → rank taken i ≡ rank taken j → i ≡ j
rank_once taken zero zero on on' same = refl
rank_once taken zero (suc j) on on' same =
    let behind : rank taken (suc j) ≡ suc (rank (λ k. taken (suc k)) j) = rw on refl in
    let none : 0 ≡ suc (rank (λ k. taken (suc k)) j) = same ∙ behind in absurd (omega (arith, none))
rank_once taken (suc i) zero on on' same =
    let behind : rank taken (suc i) ≡ suc (rank (λ k. taken (suc k)) i) = rw on' refl in
    let none : suc (rank (λ k. taken (suc k)) i) ≡ 0 = sym behind ∙ same in absurd (omega (arith, none))
rank_once taken (suc i) (suc j) on on' same = elim (tells (taken 0)) [
  | inl first ↦ (
      let later : suc (rank (λ k. taken (suc k)) i) ≡ suc (rank (λ k. taken (suc k)) j) = rw first at same in
      ap suc (rank_once (λ k. taken (suc k)) i j on on' (omega (arith, later))))
  | inr not ↦ (let later : rank (λ k. taken (suc k)) i ≡ rank (λ k. taken (suc k)) j = rw not at same in ap suc (rank_once (λ k. taken (suc k)) i j on on' later))
]
