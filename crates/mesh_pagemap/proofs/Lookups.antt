-- What a table's map has at each virtual page.
use Rattle.std.proofs.Common.{◌≡◌, ◌≢◌, ℕ, zero, suc, ◌+◌, ◌<◌, ◌≤◌, length-set, true, false, cond, List, [], ◌∷◌, ◌++◌, Option, Some, None, length, set, get_or, refl, sym, ap, ◌∙◌, arith, ⊎_elim, get_or-set_same, get_or-set_other}
use Rattle.std.specs.Ordering.{nat_cmp, eq_by_cmp}
use Rattle.std.specs.Cmp.{unsigned_tied, nat_cmp_total}
use Rattle.std.specs.FinMap.{find, get, insert, remove, empty, same_map, get-from_entries, get-insert, get-remove, nat_cmp-IsAntisymmetric}
use Rattle.std.proofs.lemmas.List.{get_or_read, get_or_past}
use Rattle.std.proofs.lemmas.Bool.{cases_eq, cases_lt, both_ways}
use Rattle.std.proofs.lemmas.Bool.Decides.{nat_tests}
use Rattle.mesh_pagemap.specs.declared.prot.Prot.{Prot}
use Rattle.std.specs.Prelude.{is_some}
use Rattle.mesh_pagemap.specs.Entries.{is_mapped, IsMapped, AreInRange}
use Rattle.mesh_pagemap.specs.Table.{entries_from, mapping, IsTable}

pub tied_same : (v : ℕ) → eq_by_cmp nat_cmp v v ≡ true
tied_same v = unsigned_tied v v ∙ grind (arith, nat_tests)

pub tied_other : (v w : ℕ) → v ≢ w → eq_by_cmp nat_cmp v w ≡ false
tied_other v w ne = unsigned_tied v w ∙ grind (arith, nat_tests)

find_before : (places : List (Option (ℕ × Prot))) (first v : ℕ) → v < first → find nat_cmp v (entries_from first places) ≡ None
find_before [] first v h = refl
find_before (None ∷ places) first v h = find_before places (first + 1) v (omega arith)
find_before (Some entry ∷ places) first v h =
    ap (λ b. cond b (Some entry) (find nat_cmp v (entries_from (first + 1) places))) (tied_other v first (omega arith)) ∙ find_before places (first + 1) v (omega arith)

find_at : (places : List (Option (ℕ × Prot))) (first v i : ℕ) → v ≡ first + i → find nat_cmp v (entries_from first places) ≡ get_or places i None
find_at [] first v i e = refl
find_at (None ∷ places) first v zero e = find_before places (first + 1) v (omega arith)
find_at (None ∷ places) first v (suc i) e = find_at places (first + 1) v i (omega arith)
find_at (Some entry ∷ places) first v zero e =
    let same : v ≡ first = omega arith in
    ap (λ b. cond b (Some entry) (find nat_cmp v (entries_from (first + 1) places))) (ap (eq_by_cmp nat_cmp v) (sym same) ∙ tied_same v)
find_at (Some entry ∷ places) first v (suc i) e =
    ap (λ b. cond b (Some entry) (find nat_cmp v (entries_from (first + 1) places))) (tied_other v first (omega arith)) ∙ find_at places (first + 1) v i (omega arith)

-- a table's map has at a virtual page what the table has at its place
pub get-mapping : (places : List (Option (ℕ × Prot))) (v : ℕ) → get (mapping places) v ≡ get_or places v None
unfolding mapping
get-mapping places v = get-from_entries nat_cmp_total (entries_from 0 places) v ∙ find_at places 0 v v (omega arith)

-- to fill a place is to insert its entry
pub mapping-set_some : (places : List (Option (ℕ × Prot))) (v : ℕ) (entry : ℕ × Prot) → v < length places → mapping (set places v (Some entry)) ≡ insert (mapping places) v entry
mapping-set_some places v entry h =
    same_map nat_cmp_total nat_cmp-IsAntisymmetric _ _ (λ q.
    get-mapping (set places v (Some entry)) q
    ∙ ⊎_elim
    (λ (e : q ≡ v). rw (e, get_or-set_same places v (Some entry) None h, get-insert nat_cmp_total (mapping places) v entry v, tied_same v) refl)
    (λ (ne : q ≢ v). rw (get_or-set_other places v q (Some entry) None ne, get-insert nat_cmp_total (mapping places) v entry q, tied_other q v ne) (sym (get-mapping places q)))
    (cases_eq q v))

-- to empty a place is to remove its entry
pub mapping-set_none : (places : List (Option (ℕ × Prot))) (v : ℕ) → v < length places → mapping (set places v None) ≡ remove (mapping places) v
mapping-set_none places v h =
    same_map nat_cmp_total nat_cmp-IsAntisymmetric _ _ (λ q.
    get-mapping (set places v None) q
    ∙ ⊎_elim
    (λ (e : q ≡ v). rw (e, get_or-set_same places v None None h, get-remove nat_cmp_total (mapping places) v v, tied_same v) refl)
    (λ (ne : q ≢ v). rw (get_or-set_other places v q None None ne, get-remove nat_cmp_total (mapping places) v q, tied_other q v ne) (sym (get-mapping places q)))
    (cases_eq q v))

-- what was read at a place is what the map has there
pub get_read : (places : List (Option (ℕ × Prot))) (v : ℕ) (x : Option (ℕ × Prot)) → v < length places → x ≡ get_or places v x → x ≡ get (mapping places) v
get_read places v x h e = get_or_read places v x h e None ∙ sym (get-mapping places v)

-- a table of no places is the empty map
pub mapping-none : mapping [] ≡ empty
unfolding mapping
mapping-none = refl

-- a mapped virtual page's place is filled
pub place_filled : (places : List (Option (ℕ × Prot))) (v : ℕ) (x : Option (ℕ × Prot)) → IsMapped (mapping places) v → v < length places → x ≡ get_or places v x → x ≡ None → ⊥
unfolding is_mapped
place_filled places v x mapped h e none =
    let is : is_some x ≡ true = ap is_some (get_read places v x h e) ∙ mapped in
    let not : is_some x ≡ false = ap is_some none in
    cc

-- what a filled place's map has
pub get_filled : (places : List (Option (ℕ × Prot))) (v : ℕ) (x : Option (ℕ × Prot)) (entry : ℕ × Prot) → v < length places → x ≡ get_or places v x → x ≡ Some entry → get (mapping places) v ≡ Some entry
get_filled places v x entry h e is = sym (get_read places v x h e) ∙ is

absent : (places : List (Option (ℕ × Prot))) (v : ℕ) → get_or places v None ≡ None → IsMapped (mapping places) v → ⊥
unfolding is_mapped
absent places v e mapped =
    let none : is_some (get (mapping places) v) ≡ false = ap is_some (get-mapping places v ∙ e) in
    both_ways (is_some (get (mapping places) v)) none mapped

-- each virtual page that a table maps is 1 to 65,535
pub mapping-range : (places : List (Option (ℕ × Prot))) → IsTable places → AreInRange (mapping places)
mapping-range places table v mapped = (
  ⊎_elim (λ (l : 0 < v). l) (λ (none : v ≤ 0). absurd (absent places v (rw (zero_from v none) table.first_empty) mapped)) (cases_lt 0 v),
  ⊎_elim
      (λ (l : v < 65536). omega arith)
      (λ (past : 65536 ≤ v). absurd (absent places v (get_or_past places v None (omega (arith, table.short))) mapped))
      (cases_lt v 65536),
)
  where
    zero_from : (n : ℕ) → n ≤ 0 → n ≡ 0
    zero_from n h = omega arith

-- a table stays one where a place but that of virtual page 0 is written
pub IsTable-set : (places : List (Option (ℕ × Prot))) (v : ℕ) (x : Option (ℕ × Prot)) → IsTable places → 1 ≤ v → IsTable (set places v x)
IsTable-set places v x table first = record {
  short = omega (arith, length-set places v x, table.short);
  first_empty = get_or-set_other places v 0 x None (omega arith) ∙ table.first_empty;
}

-- tables with the same entries stand for the same map
pub mapping-same : (old new : List (Option (ℕ × Prot))) → ((v : ℕ) → get_or new v None ≡ get_or old v None) → mapping new ≡ mapping old
mapping-same old new same =
    same_map nat_cmp_total nat_cmp-IsAntisymmetric _ _ (λ q. get-mapping new q ∙ same q ∙ sym (get-mapping old q))

-- a mapped virtual page has a place
pub mapped_within : (places : List (Option (ℕ × Prot))) (v : ℕ) → IsMapped (mapping places) v → v < length places
mapped_within places v mapped =
    ⊎_elim (λ (l : v < length places). l) (λ (past : length places ≤ v). absurd (absent places v (get_or_past places v None past) mapped)) (cases_lt v (length places))
