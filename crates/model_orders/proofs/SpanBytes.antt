-- Bytes after a copy of some bytes of the source's span, which are on two pages at most.
use Rattle.std.proofs.Common.{◌≡◌, ◌≢◌, ℕ, ◌+◌, ◌-◌, ◌*◌, ◌/◌, ◌%◌, ◌<◌, ◌≤◌, List, ◌⊎◌, inl, inr, min, slice_index, sym, subst, ap, ◌∙◌, arith}
use Rattle.std.proofs.lemmas.Bool.{cases_eq, cases_lt}
use Rattle.model_otherwise.specs.Effects.{copied_on, span_copied}
use Rattle.model_otherwise.specs.Heaps.{Mesh}
use Rattle.model_otherwise.specs.Spots.{byte_at}
use Rattle.model_otherwise.specs.SpotLaws.{IsOutside}
use Rattle.model_otherwise.specs.declared.spot.Spot.{Spot}
use Rattle.model_orders.proofs.PageBytes.{copy_inside, copy_outside, outside_page}

-- the physical pages of the first so many pages of a mesh are apart
pub record AreApart (mesh : Mesh) (pages : ℕ) : Type 0 where
  pub into : (j l : ℕ) → j < pages → l < pages → slice_index mesh.into j ≡ slice_index mesh.into l → j ≡ l
  pub sides : (j l : ℕ) → j < pages → l < pages → slice_index mesh.from j ≢ slice_index mesh.into l

-- a place of the destination that is outside of a part of page `i`
outside_part : (mesh : Mesh) (pages i start len l offset : ℕ) → AreApart mesh pages → i < pages → l < pages → start + len ≤ 4096 → offset < 4096
    → (4096 * l + offset < 4096 * i + start) ⊎ (4096 * i + start + len ≤ 4096 * l + offset)
    → IsOutside (4096 * slice_index mesh.into i + start) len (4096 * slice_index mesh.into l + offset)
outside_part mesh pages i start len l offset apart i-below l-below within below out = elim (cases_eq l i) [
  | inl same ↦ let page : slice_index mesh.into l ≡ slice_index mesh.into i = ap (slice_index mesh.into) same in elim out [
    | inl before ↦ inl (omega arith)
    | inr past ↦ inr (omega arith)
  ]
  | inr other ↦ outside_page (slice_index mesh.into i) (slice_index mesh.into l) start len offset (λ e. other (apart.into l i l-below i-below e)) within below
]

-- the copy of a part of page `i` leaves the destination's other bytes
part_outside : (spots : List Spot) (mesh : Mesh) (pages i start len l offset : ℕ) → AreApart mesh pages → (0 < len → i < pages) → l < pages
    → start + len ≤ 4096 → offset < 4096 → (4096 * l + offset < 4096 * i + start) ⊎ (4096 * i + start + len ≤ 4096 * l + offset)
    → byte_at (copied_on spots mesh i start len) (4096 * slice_index mesh.into l + offset) ≡ byte_at spots (4096 * slice_index mesh.into l + offset)
part_outside spots mesh pages i start len l offset apart i-below l-below within below out =
    copy_outside spots mesh i start len (4096 * slice_index mesh.into l + offset)
    (λ some. outside_part mesh pages i start len l offset apart (i-below some) l-below within below out)

-- it leaves the source's bytes
part_source : (spots : List Spot) (mesh : Mesh) (pages i start len l offset : ℕ) → AreApart mesh pages → (0 < len → i < pages) → l < pages
    → start + len ≤ 4096 → offset < 4096
    → byte_at (copied_on spots mesh i start len) (4096 * slice_index mesh.from l + offset) ≡ byte_at spots (4096 * slice_index mesh.from l + offset)
part_source spots mesh pages i start len l offset apart i-below l-below within below =
    copy_outside spots mesh i start len (4096 * slice_index mesh.from l + offset)
    (λ some. outside_page (slice_index mesh.into i) (slice_index mesh.from l) start len offset (apart.sides l i l-below (i-below some)) within below)

-- the copy of a part of page `i` has its bytes
part_inside : (spots : List Spot) (mesh : Mesh) (i start len l offset : ℕ) → l ≡ i → start ≤ offset → offset < start + len
    → byte_at (copied_on spots mesh i start len) (4096 * slice_index mesh.into l + offset) ≡ byte_at spots (4096 * slice_index mesh.from l + offset)
part_inside spots mesh i start len l offset same above below =
    subst (λ a. byte_at (copied_on spots mesh i start len) (4096 * slice_index mesh.into a + offset) ≡ byte_at spots (4096 * slice_index mesh.from a + offset))
    (sym same) (copy_inside spots mesh i start len offset above below)

-- the copies of what is on a first and on a second page leave the source's bytes
two_source : (spots : List Spot) (mesh : Mesh) (pages i start first rest l offset : ℕ) → AreApart mesh pages → i < pages → (0 < rest → i + 1 < pages)
    → l < pages → start + first ≤ 4096 → rest ≤ 4096 → offset < 4096
    → byte_at (copied_on (copied_on spots mesh i start first) mesh (i + 1) 0 rest) (4096 * slice_index mesh.from l + offset)
    ≡ byte_at spots (4096 * slice_index mesh.from l + offset)
two_source spots mesh pages i start first rest l offset apart i-below next-below l-below within rest-below below =
    part_source (copied_on spots mesh i start first) mesh pages (i + 1) 0 rest l offset apart next-below l-below (omega arith) below
    ∙ part_source spots mesh pages i start first l offset apart (λ some. i-below) l-below within below

-- they leave the destination's other bytes
two_outside : (spots : List Spot) (mesh : Mesh) (pages i start first rest l offset : ℕ) → AreApart mesh pages → i < pages → (0 < rest → i + 1 < pages)
    → l < pages → start + first ≤ 4096 → rest ≤ 4096 → offset < 4096 → (rest ≡ 0) ⊎ (start + first ≡ 4096)
    → (4096 * l + offset < 4096 * i + start) ⊎ (4096 * i + start + (first + rest) ≤ 4096 * l + offset)
    → byte_at (copied_on (copied_on spots mesh i start first) mesh (i + 1) 0 rest) (4096 * slice_index mesh.into l + offset)
    ≡ byte_at spots (4096 * slice_index mesh.into l + offset)
two_outside spots mesh pages i start first rest l offset apart i-below next-below l-below within rest-below below full out =
    part_outside (copied_on spots mesh i start first) mesh pages (i + 1) 0 rest l offset apart next-below l-below (omega arith) below
    (elim (cases_lt (4096 * l + offset) (4096 * (i + 1) + 0)) [
      | inl less ↦ inl less
      | inr more ↦ inr (elim out [ inl before ↦ absurd (omega arith) | inr past ↦ omega arith ])
    ])
    ∙ part_outside spots mesh pages i start first l offset apart (λ some. i-below) l-below within below
    (elim out [ inl before ↦ inl before | inr past ↦ inr (omega arith) ])

-- they have the source's bytes
two_inside : (spots : List Spot) (mesh : Mesh) (pages i start first rest l offset : ℕ) → AreApart mesh pages → i < pages → (0 < rest → i + 1 < pages)
    → l < pages → start + first ≤ 4096 → rest ≤ 4096 → offset < 4096 → (rest ≡ 0) ⊎ (start + first ≡ 4096)
    → 4096 * i + start ≤ 4096 * l + offset → 4096 * l + offset < 4096 * i + start + (first + rest)
    → byte_at (copied_on (copied_on spots mesh i start first) mesh (i + 1) 0 rest) (4096 * slice_index mesh.into l + offset)
    ≡ byte_at spots (4096 * slice_index mesh.from l + offset)
two_inside spots mesh pages i start first rest l offset apart i-below next-below l-below within rest-below below full above under =
    elim (cases_lt (4096 * l + offset) (4096 * (i + 1) + 0)) [
      | inl less ↦ part_outside (copied_on spots mesh i start first) mesh pages (i + 1) 0 rest l offset apart next-below l-below (omega arith) below (inl less)
          ∙ part_inside spots mesh i start first l offset (omega arith) (omega arith) (omega arith)
      | inr more ↦ part_inside (copied_on spots mesh i start first) mesh (i + 1) 0 rest l offset (omega arith) (omega arith) (omega arith)
          ∙ part_source spots mesh pages i start first l offset apart (λ some. i-below) l-below within below
    ]

-- where bytes are left for the second page, the first page is full
full_or_no_rest : (start len : ℕ) → (len - min len (4096 - start % 4096) ≡ 0) ⊎ (start % 4096 + min len (4096 - start % 4096) ≡ 4096)
full_or_no_rest start len = elim (cases_lt len (4096 - start % 4096)) [ inl less ↦ inl (omega arith) | inr more ↦ inr (omega arith) ]

-- the copy of a part of the span leaves the source's bytes
pub span_source : (spots : List Spot) (mesh : Mesh) (pages start len l offset : ℕ) → AreApart mesh pages → start < 4096 * pages
    → start + len ≤ 4096 * pages → len ≤ 4096 → l < pages → offset < 4096
    → byte_at (span_copied spots mesh start len) (4096 * slice_index mesh.from l + offset) ≡ byte_at spots (4096 * slice_index mesh.from l + offset)
span_source spots mesh pages start len l offset apart begins ends short l-below below =
    two_source spots mesh pages (start / 4096) (start % 4096) (min len (4096 - start % 4096)) (len - min len (4096 - start % 4096)) l offset apart
    (omega arith) (λ some. omega arith) l-below (omega arith) (omega arith) below

-- it leaves the destination's other bytes
pub span_outside : (spots : List Spot) (mesh : Mesh) (pages start len l offset : ℕ) → AreApart mesh pages → start < 4096 * pages
    → start + len ≤ 4096 * pages → len ≤ 4096 → l < pages → offset < 4096 → (4096 * l + offset < start) ⊎ (start + len ≤ 4096 * l + offset)
    → byte_at (span_copied spots mesh start len) (4096 * slice_index mesh.into l + offset) ≡ byte_at spots (4096 * slice_index mesh.into l + offset)
span_outside spots mesh pages start len l offset apart begins ends short l-below below out =
    two_outside spots mesh pages (start / 4096) (start % 4096) (min len (4096 - start % 4096)) (len - min len (4096 - start % 4096)) l offset apart
    (omega arith) (λ some. omega arith) l-below (omega arith) (omega arith) below (full_or_no_rest start len)
    (elim out [ inl before ↦ inl (omega arith) | inr past ↦ inr (omega arith) ])

-- it has the source's bytes
pub span_inside : (spots : List Spot) (mesh : Mesh) (pages start len l offset : ℕ) → AreApart mesh pages → start < 4096 * pages
    → start + len ≤ 4096 * pages → len ≤ 4096 → l < pages → offset < 4096 → start ≤ 4096 * l + offset → 4096 * l + offset < start + len
    → byte_at (span_copied spots mesh start len) (4096 * slice_index mesh.into l + offset) ≡ byte_at spots (4096 * slice_index mesh.from l + offset)
span_inside spots mesh pages start len l offset apart begins ends short l-below below above under =
    two_inside spots mesh pages (start / 4096) (start % 4096) (min len (4096 - start % 4096)) (len - min len (4096 - start % 4096)) l offset apart
    (omega arith) (λ some. omega arith) l-below (omega arith) (omega arith) below (full_or_no_rest start len) (omega arith) (omega arith)
