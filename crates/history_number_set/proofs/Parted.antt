-- A number that is taken out of ranges: which numbers are in them then, and that numbers are missing between them.
use Rattle.std.proofs.Common.{◌≡◌, ◌≢◌, ◌↔◌, ◌⊎◌, ℕ, ◌+◌, ◌-◌, ◌<◌, ◌≤◌, Option, Some, sym, ◌∙◌, arith, inl, inr}
use Rattle.std.proofs.lemmas.Bool.Decides.{eqb_tells, leb_tells}
use Rattle.history_number_set.specs.Ranges.{AreApart, HasIn, IsParted}
use Rattle.history_number_set.proofs.Keys.{one_last}
use Rattle.history_number_set.proofs.Joined.{apart_from_none}

module _ (f g : ℕ → Option ℕ) (n : ℕ) (apart : AreApart f) (parted : IsParted f g n) where
  -- a range that begins elsewhere doesn't have the number
  lacks : (q k : ℕ) → f q ≡ Some k → q ≢ parted.first → q ≤ n → k < n
  lacks q k at other from = elim (leb_tells q parted.first) [
    | inl below ↦
        (let b = below.1 in
        let far = apart.apart q k parted.first parted.last at parted.is_range (omega (arith, b, other)) in
        let start = parted.from in omega (arith, far, start))
    | inr above ↦
        (let a = above.1 in
        let far = apart.apart parted.first parted.last q k parted.is_range at (omega (arith, a)) in
        let end = parted.to in absurd (omega (arith, far, end, from)))
  ]

  -- nor does one begin behind it in its range
  not_behind : (q k : ℕ) → f q ≡ Some k → n < parted.last → q ≢ n + 1
  not_behind q k at some same =
      let far = apart.apart parted.first parted.last q k parted.is_range at (let start = parted.from in omega (arith, same, start)) in
      omega (arith, far, some, same)

  -- a range of the second is what is before the number, what is behind it, or another of the first
  which : (q k : ℕ) → g q ≡ Some k
      → ((q ≡ parted.first) × (q < n) × (k + 1 ≡ n)) ⊎ (((q ≡ n + 1) × (n < parted.last) × (k ≡ parted.last)) ⊎ ((q ≢ parted.first) × (f q ≡ Some k)))
  which q k at = elim (eqb_tells q parted.first) [
    | inl same ↦ elim (leb_tells n parted.first) [
      | inl none ↦
          (let start = parted.from in let no = none.1 in
          absurd (apart_from_none g q parted.first k (parted.cut.none (omega (arith, no, start))) at same.1))
      | inr some ↦
          (let s = some.1 in
          let e = one_last g q parted.first k (n - 1) same.1 at (parted.cut.some (omega (arith, s))) in
          let e' = same.1 in inl (same.1, omega (arith, s, e'), omega (arith, s, e)))
    ]
    | inr other ↦ inr (elim (eqb_tells q (n + 1)) [
      | inl next ↦ elim (leb_tells parted.last n) [
        | inl none ↦
            (let no = none.1 in
            inr (other.1, sym (parted.rest.others q (λ some _. omega (arith, no, some))) ∙ sym (parted.cut.others q other.1) ∙ at))
        | inr some ↦
            (let s = some.1 in
            let there = sym (parted.cut.others q other.1) ∙ at in
            inl (next.1, omega (arith, s), one_last parted.between q (n + 1) k parted.last next.1 there (parted.rest.rest (omega (arith, s)))))
      ]
      | inr far ↦ inr (other.1, sym (parted.rest.others q (λ _. far.1)) ∙ sym (parted.cut.others q other.1) ∙ at)
    ])
  ]

  -- another range of the first is one of the second
  stays : (q k : ℕ) → f q ≡ Some k → q ≢ parted.first → g q ≡ Some k
  stays q k at other = parted.cut.others q other ∙ parted.rest.others q (λ some. not_behind q k at some) ∙ at

  -- what is behind the number is a range of the second
  behind : n < parted.last → g (n + 1) ≡ Some parted.last
  behind some = parted.cut.others (n + 1) (λ same. let start = parted.from in omega (arith, same, start)) ∙ parted.rest.rest some

  -- the numbers are those of before without this one
  pub parted_has : (m : ℕ) → HasIn g m ↔ (HasIn f m × (m ≢ n))
  parted_has m = (
    (λ has. elim (which has.first has.last has.is_range) [
      | inl w ↦
          (let e = w.0 in let end = w.2 in let start = has.from in let to = has.to in let last = parted.to in (
            record { first = parted.first; last = parted.last; is_range = parted.is_range; from = omega (arith, e, start); to = omega (arith, end, to, last) },
            λ same. omega (arith, same, end, to),
          ))
      | inr w ↦ elim w [
        | inl w ↦
            (let e = w.0 in let end = w.2 in let start = has.from in let to = has.to in let first = parted.from in (
              record { first = parted.first; last = parted.last; is_range = parted.is_range; from = omega (arith, e, start, first); to = omega (arith, end, to) },
              λ same. omega (arith, same, e, start),
            ))
        | inr w ↦ (
          record { first = has.first; last = has.last; is_range = w.1; from = has.from; to = has.to },
          λ same.
              let start = has.from in let to = has.to in
              let before = lacks has.first has.last w.1 w.0 (omega (arith, same, start)) in omega (arith, before, to, same),
        )
      ]
    ]),
    (λ both.
        let has = both.0 in elim (eqb_tells has.first parted.first) [
          | inl same ↦
              (let end = one_last f has.first parted.first has.last parted.last same.1 has.is_range parted.is_range in
              let e = same.1 in let start = has.from in let to = has.to in let other = both.1 in elim (leb_tells n m) [
                | inl above ↦
                    (let a = above.1 in
                    let some : n < parted.last = omega (arith, a, other, end, to) in
                    record { first = n + 1; last = parted.last; is_range = behind some; from = omega (arith, a, other); to = omega (arith, end, to) })
                | inr below ↦
                    (let b = below.1 in
                    record { first = parted.first; last = n - 1; is_range = parted.cut.some (omega (arith, b, e, start)); from = omega (arith, e, start); to = omega (arith, b) })
              ])
          | inr other ↦
              record { first = has.first; last = has.last; is_range = stays has.first has.last has.is_range other.1; from = has.from; to = has.to }
        ]),
  )

  pub parted_apart : AreApart g
  parted_apart = record {
    filled = λ q k at. elim (which q k at) [
      | inl w ↦ (let less = w.1 in let end = w.2 in omega (arith, less, end))
      | inr w ↦ elim w [ inl w ↦ (let e = w.0 in let some = w.1 in let end = w.2 in omega (arith, e, some, end)) | inr w ↦ apart.filled q k w.1 ]
    ];
    apart = λ q k q' k' at at' less. elim (which q k at) [
      | inl w ↦
          (let e = w.0 in let end = w.2 in elim (which q' k' at') [
            | inl w' ↦ (let e' = w'.0 in absurd (omega (arith, e, e', less)))
            | inr w' ↦ elim w' [
              | inl w' ↦ (let e' = w'.0 in omega (arith, end, e'))
              | inr w' ↦
                  (let far = apart.apart parted.first parted.last q' k' parted.is_range w'.1 (omega (arith, e, less)) in
                  let to = parted.to in omega (arith, far, end, to))
            ]
          ])
      | inr w ↦ elim w [
        | inl w ↦
            (let e = w.0 in let end = w.2 in let start = parted.from in elim (which q' k' at') [
              | inl w' ↦ (let e' = w'.0 in absurd (omega (arith, e, e', start, less)))
              | inr w' ↦ elim w' [
                | inl w' ↦ (let e' = w'.0 in absurd (omega (arith, e, e', less)))
                | inr w' ↦
                    (let far = apart.apart parted.first parted.last q' k' parted.is_range w'.1 (omega (arith, e, start, less)) in
                    omega (arith, far, end))
              ]
            ])
        | inr w ↦ elim (which q' k' at') [
          | inl w' ↦
              (let e' = w'.0 in
              let far = apart.apart q k parted.first parted.last w.1 parted.is_range (omega (arith, e', less)) in omega (arith, far, e'))
          | inr w' ↦ elim w' [
            | inl w' ↦
                (let e' = w'.0 in
                let before = lacks q k w.1 w.0 (omega (arith, e', less)) in omega (arith, before, e'))
            | inr w' ↦ apart.apart q k q' k' w.1 w'.1 less
          ]
        ]
      ]
    ];
  }
