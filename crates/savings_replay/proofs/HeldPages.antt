-- The pages of groups with and without an object: together they are all pages.
use Rattle.std.proofs.Common.{◌≡◌, ℕ, zero, suc, ◌+◌, ◌≤◌, if◌then◌else◌, nat_eq, find, filter, List, [], ◌∷◌, Some, None, IsSome, map, sum, ap, refl, ◌≢◌, eq-eqb, ne_eqb, sym, ◌∙◌, arith, inl, inr}
use Rattle.std.specs.Prelude.{min, sum_by}
use Rattle.std.proofs.lemmas.Bool.Decides.{eqb_tells}
use Rattle.std.proofs.lemmas.List.Sums.{sum-map, sum_by-cons}
use Rattle.model_heap.specs.PageCounts.{span_pages}
use Rattle.model_heap.specs.Sound.{AreSoundGroups}
use Rattle.model_heap.specs.Table.{Group, Table, object_count}
use Rattle.model_words.specs.Classes.{Row, pages_of, table}
use Rattle.mesh_spans.specs.Index.{GroupEntry}
use Rattle.savings_replay.proofs.ClassCounts.{AreApart, table_apart}
use Rattle.savings_replay.proofs.Kept.{taken_within}
use Rattle.savings_replay.specs.ClassCounts.{empty_of, empty_pages, entry_empty, entry_held, entry_objects, held_of, held_pages}
use Rattle.savings_replay.specs.Placement.{IsPlacement, Placement, table_of}

-- the number of pages where there is an object, and where there is none
abbrev with_some : ℕ → ℕ → ℕ
with_some objects pages = if nat_eq objects 0 then 0 else pages

abbrev with_none : ℕ → ℕ → ℕ
with_none objects pages = if nat_eq objects 0 then pages else 0

split : (objects pages : ℕ) → with_some objects pages + with_none objects pages ≡ pages
split objects pages = elim (eqb_tells objects 0) [
  | inl none ↦ rw none.0 (omega arith)
  | inr some ↦ rw some.0 (omega arith)
]

-- a group of the index
pub entry_split : (g : GroupEntry) → entry_held g + entry_empty g ≡ pages_of g.class
entry_split g = split (entry_objects g) (pages_of g.class)

some_held : (objects pages : ℕ) → 1 ≤ objects → with_some objects pages ≡ pages
some_held objects pages some = elim (eqb_tells objects 0) [
  | inl none ↦ absurd (omega (arith, some, none.1))
  | inr other ↦ rw other.0 refl
]

pub entry_held_some : (g : GroupEntry) → 1 ≤ entry_objects g → entry_held g ≡ pages_of g.class
entry_held_some g some = some_held (entry_objects g) (pages_of g.class) some

pub entry_held_none : (g : GroupEntry) → entry_objects g ≡ 0 → entry_held g ≡ 0
entry_held_none g none = rw none refl

-- two groups of one class that are merged
pub united_held : (a b pages : ℕ) → with_some (b + a) pages + min (with_some a pages) (with_some b pages) ≡ with_some a pages + with_some b pages
united_held zero zero pages = grind arith
united_held zero (suc b) pages = grind arith
united_held (suc a) zero pages = grind arith
united_held (suc a) (suc b) pages = grind arith

-- the groups of a table
sum_split : (groups : List Group) → sum_by held_of groups + sum_by empty_of groups ≡ sum_by (λ g. pages_of g.class) groups
sum_split [] = omega arith
sum_split (g ∷ groups) =
    let one = split (object_count g) (pages_of g.class) in
    let a = sum_by-cons held_of g groups in let b = sum_by-cons empty_of g groups in let c = sum_by-cons (λ (x : Group). pages_of x.class) g groups in
    let rest = sum_split groups in omega (arith, one, a, b, c, rest)

pub pages_split : (t : Table) → sum_by held_of t.groups + empty_pages t ≡ span_pages t
pages_split t = sum_split t.groups

-- a placement's pages are those of its groups
pub taken_is : (p : Placement) → IsPlacement p → p.taken_pages ≡ span_pages (table_of p)
taken_is p kept = let counted = kept.counted in let most = taken_within p kept in omega (arith, counted, most)

pub held_within : (p : Placement) → IsPlacement p → span_pages (table_of p) ≤ 65538
held_within p kept = let taken = taken_is p kept in let most = taken_within p kept in omega (arith, taken, most)

-- the sums over the classes together are the sum over all groups
rows_plus : (A B C : ℕ → ℕ) (rows : List Row) → ((c : ℕ) → C c ≡ A c + B c)
    → sum_by (λ r. C r.size) rows ≡ sum_by (λ r. A r.size) rows + sum_by (λ r. B r.size) rows
rows_plus A B C [] plus = omega arith
rows_plus A B C (r ∷ rows) plus =
    let here = plus r.size in let rest = rows_plus A B C rows plus in
    let a = sum_by-cons (λ (x : Row). A x.size) r rows in let b = sum_by-cons (λ (x : Row). B x.size) r rows in
    let c = sum_by-cons (λ (x : Row). C x.size) r rows in omega (arith, here, rest, a, b, c)

-- a number that is counted for one class
abbrev once : ℕ → ℕ → ℕ → ℕ
once class n size = if nat_eq class size then n else 0

once_here : (class n size : ℕ) → class ≡ size → once class n size ≡ n
once_here class n size same = rw (eq-eqb class size same) refl

once_elsewhere : (class n size : ℕ) → class ≢ size → once class n size ≡ 0
once_elsewhere class n size other = rw (ne_eqb class size other) refl

rows_none : (class n : ℕ) (rows : List Row) → find (λ s. nat_eq s.size class) rows ≡ None → sum_by (λ r. once class n r.size) rows ≡ 0
rows_none class n [] none = refl
rows_none class n (r ∷ rows) none = elim (eqb_tells r.size class) [
  | inl same ↦ let clash : Some r ≡ None = rw same.0 at none in absurd (cc clash)
  | inr miss ↦
      let rest = rows_none class n rows (rw miss.0 at none) in let here = once_elsewhere class n r.size (λ same. miss.1 (sym same)) in
      let more = sum_by-cons (λ (x : Row). once class n x.size) r rows in omega (arith, rest, here, more)
]

rows_once : (class n : ℕ) (rows : List Row) → AreApart rows → IsSome (find (λ s. nat_eq s.size class) rows)
    → sum_by (λ r. once class n r.size) rows ≡ n
rows_once class n [] apart some = absurd (cc some)
rows_once class n (r ∷ rows) apart some =
    let more = sum_by-cons (λ (x : Row). once class n x.size) r rows in elim (eqb_tells r.size class) [
      | inl same ↦
          let none : find (λ s. nat_eq s.size class) rows ≡ None = rw (← same.1) apart.0 in
          let rest = rows_none class n rows none in let here = once_here class n r.size (sym same.1) in omega (arith, rest, here, more)
      | inr miss ↦
          let rest = rows_once class n rows apart.1 (rw miss.0 at some) in
          let here = once_elsewhere class n r.size (λ same. miss.1 (sym same)) in omega (arith, rest, here, more)
    ]

abbrev of_class : ℕ → List Group → List Group
of_class class groups = filter (λ g. nat_eq g.class class) groups

one_more : (F : Group → ℕ) (g : Group) (groups : List Group) (class : ℕ)
    → sum_by F (of_class class (g ∷ groups)) ≡ once g.class (F g) class + sum_by F (of_class class groups)
one_more F g groups class = elim (eqb_tells g.class class) [
  | inl same ↦ rw same.0 (sum_by-cons F g (of_class class groups))
  | inr miss ↦ rw miss.0 (omega arith)
]

no_group : (F : Group → ℕ) (rows : List Row) → sum_by (λ r. sum_by F (of_class r.size [])) rows ≡ 0
no_group F [] = refl
no_group F (r ∷ rows) =
    let rest = no_group F rows in let more = sum_by-cons (λ (x : Row). sum_by F (of_class x.size [])) r rows in omega (arith, rest, more)

pub by_rows : (F : Group → ℕ) (groups : List Group) → AreSoundGroups groups → sum_by (λ r. sum_by F (of_class r.size groups)) table ≡ sum_by F groups
by_rows F [] sound = no_group F table
by_rows F (g ∷ groups) sound =
    let plus = rows_plus (λ c. once g.class (F g) c) (λ c. sum_by F (of_class c groups)) (λ c. sum_by F (of_class c (g ∷ groups))) table
    (one_more F g groups) in
    let here = rows_once g.class (F g) table table_apart sound.0.class in
    let rest = by_rows F groups sound.1 in let more = sum_by-cons F g groups in omega (arith, plus, here, rest, more)

pub held_total : (p : Placement) → IsPlacement p → sum (map (λ row. held_pages (table_of p) row.size) table) ≡ sum_by held_of (table_of p).groups
held_total p kept = sum-map (λ (row : Row). held_pages (table_of p) row.size) table ∙ by_rows held_of (table_of p).groups kept.sound.groups

-- the pages that are taken and not held are those of empty groups
pub left_empty : (p : Placement) (counts : List ℕ) → IsPlacement p → counts ≡ map (λ row. held_pages (table_of p) row.size) table
    → p.taken_pages ≡ sum counts + empty_pages (table_of p)
left_empty p counts kept are =
    let held = ap sum are ∙ held_total p kept in let parts = pages_split (table_of p) in let taken = taken_is p kept in omega (arith, held, parts, taken)
