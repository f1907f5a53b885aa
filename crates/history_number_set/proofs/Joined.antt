-- A number that joins ranges: which numbers are in them then, and that numbers are missing between them.
use Rattle.std.proofs.Common.{◌≡◌, ◌≢◌, ◌↔◌, ◌⊎◌, ℕ, ◌+◌, ◌<◌, ◌≤◌, Option, Some, None, sym, subst, ◌∙◌, arith, inl, inr}
use Rattle.std.proofs.lemmas.Bool.Decides.{eqb_tells, leb_tells}
use Rattle.history_number_set.specs.Ranges.{AreApart, HasIn, IsFirst, IsJoined, IsLast}
use Rattle.history_number_set.proofs.Keys.{one_last}

-- a range that begins with this number is one that begins with that
moved : (f : ℕ → Option ℕ) (a b k : ℕ) → a ≡ b → f a ≡ Some k → f b ≡ Some k
moved f a b k same at = let P : ℕ → Type 0 = λ m. f m ≡ Some k in subst P same at

-- no range and a range
pub apart_from_none : (f : ℕ → Option ℕ) (a b k : ℕ) → f b ≡ None → f a ≡ Some k → a ≢ b
apart_from_none f a b k none at same = let there = moved f a b k same at in cc

module _ (f g : ℕ → Option ℕ) (n first last : ℕ) (apart : AreApart f) (new : HasIn f n → ⊥) (is_first : IsFirst f n first) (is_last : IsLast f n last)
    (joined : IsJoined f g n first last) where
  from_first : first ≤ n
  from_first = elim is_first [ inl w ↦ (let filled = apart.filled first w.0 w.1 in omega (arith, filled, w.2)) | inr w ↦ (let e = w.0 in omega (arith, e)) ]

  to_last : n ≤ last
  to_last = elim is_last [ inl w ↦ (let more = w.1 in omega (arith, more)) | inr w ↦ (let e = w.1 in omega (arith, e)) ]

  -- a range of the second is this one, or one of the first
  which : (q k : ℕ) → g q ≡ Some k → ((q ≡ first) × (k ≡ last)) ⊎ ((q ≢ first) × (q ≢ n + 1) × (f q ≡ Some k))
  which q k at = elim (eqb_tells q first) [
    | inl same ↦ inl (same.1, one_last g q first k last same.1 at joined.joined)
    | inr other ↦
        (let behind = apart_from_none g q (n + 1) k joined.behind at in inr (other.1, behind, sym (joined.others q other.1 behind) ∙ at))
  ]

  -- a range of the first is in this one, or is one of the second
  was : (q k : ℕ) → f q ≡ Some k → ((first ≤ q) × (k ≤ last)) ⊎ (g q ≡ Some k)
  was q k at = elim (eqb_tells q first) [
    | inl same ↦ inl (
      let e = same.1 in omega (arith, e),
      elim is_first [
        | inl w ↦ (let e = one_last f q first k w.0 same.1 at w.1 in let end = w.2 in let to = to_last in omega (arith, e, end, to))
        | inr w ↦
            (let e = same.1 in let e' = w.0 in let filled = apart.filled q k at in
            absurd (new (record { first = q; last = k; is_range = at; from = omega (arith, e, e'); to = omega (arith, e, e', filled) })))
      ],
    )
    | inr other ↦ elim (eqb_tells q (n + 1)) [
      | inl same ↦ inl (
        let e = same.1 in let from = from_first in omega (arith, e, from),
        elim is_last [
          | inl w ↦ (let e = one_last f q (n + 1) k last same.1 at w.0 in omega (arith, e))
          | inr w ↦ absurd (apart_from_none f q (n + 1) k w.0 at same.1)
        ],
      )
      | inr behind ↦ inr (joined.others q other.1 behind.1 ∙ at)
    ]
  ]

  -- of the numbers before this one and behind it, those of the range were in one
  had : (m : ℕ) → first ≤ m → m ≤ last → (m ≡ n) ⊎ HasIn f m
  had m from to = elim (eqb_tells m n) [
    | inl same ↦ inl same.1
    | inr other ↦ inr (elim (leb_tells m n) [
      | inl below ↦ elim is_first [
        | inl w ↦
            (let end = w.2 in let ne = other.1 in let b = below.1 in
            record { first = first; last = w.0; is_range = w.1; from = from; to = omega (arith, end, ne, b) })
        | inr w ↦ (let e = w.0 in let ne = other.1 in let b = below.1 in absurd (omega (arith, e, ne, b, from)))
      ]
      | inr above ↦ elim is_last [
        | inl w ↦ (let a = above.1 in record { first = n + 1; last = last; is_range = w.0; from = omega (arith, a); to = to })
        | inr w ↦ (let e = w.1 in let a = above.1 in absurd (omega (arith, e, a, to)))
      ]
    ])
  ]

  -- the numbers are those of before and this one
  pub joined_has : (m : ℕ) → HasIn g m ↔ ((m ≡ n) ⊎ HasIn f m)
  joined_has m = (
    (λ has. elim (which has.first has.last has.is_range) [
      | inl w ↦ (let e = w.0 in let e' = w.1 in had m (omega (arith, e, has.from)) (omega (arith, e', has.to)))
      | inr w ↦ inr (record { first = has.first; last = has.last; is_range = w.2; from = has.from; to = has.to })
    ]),
    (λ either. elim either [
      | inl same ↦
          (let from = from_first in let to = to_last in
          record { first = first; last = last; is_range = joined.joined; from = omega (arith, same, from); to = omega (arith, same, to) })
      | inr has ↦ elim (was has.first has.last has.is_range) [
        | inl w ↦
            (let from = w.0 in let to = w.1 in
            record { first = first; last = last; is_range = joined.joined; from = omega (arith, from, has.from); to = omega (arith, to, has.to) })
        | inr at ↦ record { first = has.first; last = has.last; is_range = at; from = has.from; to = has.to }
      ]
    ]),
  )

  -- a range that begins behind the first number of the joined one begins behind its last, with a number between them
  behind_joined : (q k : ℕ) → f q ≡ Some k → q ≢ n + 1 → first < q → last + 1 < q
  behind_joined q k at other above = elim (leb_tells q n) [
    | inl below ↦ elim is_first [
      | inl w ↦ (let far = apart.apart first w.0 q k w.1 at above in let end = w.2 in let b = below.1 in absurd (omega (arith, far, end, b)))
      | inr w ↦ (let e = w.0 in let b = below.1 in absurd (omega (arith, e, b, above)))
    ]
    | inr past ↦ elim is_last [
      | inl w ↦ (let p = past.1 in apart.apart (n + 1) last q k w.0 at (omega (arith, p, other)))
      | inr w ↦ (let e = w.1 in let p = past.1 in omega (arith, e, p, other))
    ]
  ]

  -- one that begins before it ends before it, with a number between them
  before_joined : (q k : ℕ) → f q ≡ Some k → q < first → k + 1 < first
  before_joined q k at below = elim is_first [
    | inl w ↦ apart.apart q k first w.0 at w.1 below
    | inr w ↦ (let e = w.0 in let far = w.1 q k (omega (arith, e, below)) at in omega (arith, e, far))
  ]

  pub joined_apart : AreApart g
  joined_apart = record {
    filled = λ q k at. elim (which q k at) [
      | inl w ↦ (let e = w.0 in let e' = w.1 in let from = from_first in let to = to_last in omega (arith, e, e', from, to))
      | inr w ↦ apart.filled q k w.2
    ];
    apart = λ q k q' k' at at' less. elim (which q k at) [
      | inl w ↦ elim (which q' k' at') [
        | inl w' ↦ (let e = w.0 in let e' = w'.0 in absurd (omega (arith, e, e', less)))
        | inr w' ↦ (let e = w.0 in let e' = w.1 in let far = behind_joined q' k' w'.2 w'.1 (omega (arith, e, less)) in omega (arith, e', far))
      ]
      | inr w ↦ elim (which q' k' at') [
        | inl w' ↦ (let e = w'.0 in let far = before_joined q k w.2 (omega (arith, e, less)) in omega (arith, e, far))
        | inr w' ↦ apart.apart q k q' k' w.2 w'.2 less
      ]
    ];
  }
