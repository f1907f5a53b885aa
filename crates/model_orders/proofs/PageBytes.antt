-- Bytes of physical pages, where one is cleared or copied to, and which pages are taken after one is released.
use Rattle.std.proofs.Common.{◌≡◌, ◌≢◌, ℕ, ◌+◌, ◌-◌, ◌*◌, ◌<◌, ◌≤◌, true, false, not, List, [], inl, inr, nat_eq, filter, map, slice_index, refl, sym, ap, ◌∙◌, arith}
use Rattle.std.specs.List.{list_any}
use Rattle.std.proofs.lemmas.Bool.{cases_order, cond_both, eqb-true, eqb-false, eq-eqb, ne_eqb}
use Rattle.std.proofs.lemmas.Map.Views.{any-filter_same}
use Rattle.model_otherwise.specs.Effects.{copied_on}
use Rattle.model_otherwise.specs.Heaps.{Mesh}
use Rattle.model_otherwise.specs.Spots.{byte_at, copied, is_within, moved, zeroed}
use Rattle.model_otherwise.specs.SpotLaws.{IsOutside}
use Rattle.model_otherwise.specs.declared.spot.Spot.{Spot}
use Rattle.model_otherwise.proofs.SpotBytes.{byte_inside, byte_moved, byte_outside, has_moved_only}

-- a released page isn't taken
pub gone : (page : ℕ) (taken : List ℕ) → list_any (nat_eq page) (filter (λ other. not (nat_eq other page)) taken) ≡ false
gone page taken =
    any-filter_same (nat_eq page) (λ other. not (nat_eq other page)) false
    (λ k same. ap not (eq-eqb k page (sym (eqb-true page k same)))) taken

-- the others are taken as before
pub others_taken : (page other : ℕ) (taken : List ℕ) → other ≢ page
    → list_any (nat_eq other) (filter (λ o. not (nat_eq o page)) taken) ≡ list_any (nat_eq other) taken
others_taken page other taken apart =
    any-filter_same (nat_eq other) (λ o. not (nat_eq o page)) true
    (λ k same. ap not (ne_eqb k page (λ is. apart (eqb-true other k same ∙ is)))) taken

-- a place of another page is outside of each part of a page
pub outside_page : (page other start len offset : ℕ) → other ≢ page → start + len ≤ 4096 → offset < 4096
    → IsOutside (4096 * page + start) len (4096 * other + offset)
outside_page page other start len offset apart within below = elim (cases_order other page) [
  | inl same ↦ absurd (apart same)
  | inr order ↦ elim order [
    | inl less ↦ inl (omega arith)
    | inr more ↦ inr (omega arith)
  ]
]

-- each byte of a cleared page is zero
pub page_cleared : (spots : List Spot) (page offset : ℕ) → offset < 4096 → byte_at (zeroed spots (4096 * page) 4096) (4096 * page + offset) ≡ 0
page_cleared spots page offset below = byte_inside spots [] (4096 * page) 4096 (4096 * page + offset) (omega arith) (omega arith)

-- the bytes of other pages stay
pub others_kept : (spots : List Spot) (page other offset : ℕ) → other ≢ page → offset < 4096
    → byte_at (zeroed spots (4096 * page) 4096) (4096 * other + offset) ≡ byte_at spots (4096 * other + offset)
others_kept spots page other offset apart below = elim (cases_order other page) [
  | inl same ↦ absurd (apart same)
  | inr order ↦ elim order [
    | inl less ↦ byte_outside spots [] (4096 * page) 4096 (4096 * other + offset) (inl (omega arith)) refl
    | inr more ↦ byte_outside spots [] (4096 * page) 4096 (4096 * other + offset) (inr (omega arith)) refl
  ]
]

-- a number that isn't zero is positive
positive : (n : ℕ) → n ≢ 0 → 0 < n
positive n is = omega arith

-- a copy leaves the bytes outside of where it copies to
copied_outside : (spots : List Spot) (to from len place : ℕ) → IsOutside to len place → byte_at (copied spots to from len) place ≡ byte_at spots place
copied_outside spots to from len place out =
    byte_outside spots (map (moved to from) (filter (is_within from len) spots)) to len place out (has_moved_only spots to from len place out)

-- a byte that is copied from page to page is that of the same offset of the first
copied_inside : (spots : List Spot) (into from start len offset : ℕ) → start ≤ offset → offset < start + len
    → byte_at (copied spots (4096 * into + start) (4096 * from + start) len) (4096 * into + offset) ≡ byte_at spots (4096 * from + offset)
copied_inside spots into from start len offset above below =
    let same : 4096 * from + start + ((4096 * into + offset) - (4096 * into + start)) ≡ 4096 * from + offset = omega arith in
    byte_inside spots (map (moved (4096 * into + start) (4096 * from + start)) (filter (is_within (4096 * from + start) len) spots)) (4096 * into + start) len
    (4096 * into + offset) (omega arith) (omega arith)
    ∙ byte_moved spots (4096 * into + start) (4096 * from + start) len (4096 * into + offset) (omega arith) (omega arith)
    ∙ ap (byte_at spots) same

-- a byte that is copied to a page is that of the same offset of the source's page
pub copy_inside : (spots : List Spot) (mesh : Mesh) (i start len offset : ℕ) → start ≤ offset → offset < start + len
    → byte_at (copied_on spots mesh i start len) (4096 * slice_index mesh.into i + offset) ≡ byte_at spots (4096 * slice_index mesh.from i + offset)
copy_inside spots mesh i start len offset above below =
    cond_both (nat_eq len 0) spots (copied spots (4096 * slice_index mesh.into i + start) (4096 * slice_index mesh.from i + start) len)
    (λ after. byte_at after (4096 * slice_index mesh.into i + offset) ≡ byte_at spots (4096 * slice_index mesh.from i + offset))
    (λ none. let zero : len ≡ 0 = eqb-true len 0 none in absurd (omega arith))
    (λ some. copied_inside spots (slice_index mesh.into i) (slice_index mesh.from i) start len offset above below)

-- the other bytes stay
pub copy_outside : (spots : List Spot) (mesh : Mesh) (i start len place : ℕ) → (0 < len → IsOutside (4096 * slice_index mesh.into i + start) len place)
    → byte_at (copied_on spots mesh i start len) place ≡ byte_at spots place
copy_outside spots mesh i start len place out =
    cond_both (nat_eq len 0) spots (copied spots (4096 * slice_index mesh.into i + start) (4096 * slice_index mesh.from i + start) len)
    (λ after. byte_at after place ≡ byte_at spots place)
    (λ none. refl)
    (λ some. copied_outside spots (4096 * slice_index mesh.into i + start) (4096 * slice_index mesh.from i + start) len place (out (positive len (eqb-false len 0 some))))
