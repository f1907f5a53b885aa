-- A sweep of all groups leaves those with an object.
use Rattle.std.proofs.Common.{◌≡◌, ℕ, zero, suc, ◌+◌, ◌≤◌, Bool, true, false, not, ◌||◌, nat_lt, filter, find, List, [], ◌∷◌, Option, Some, None, Result, Ok, Err, ap, subst, refl, sym, ◌∙◌, arith, inl, inr}
use Rattle.std.proofs.lemmas.Bool.Decides.{nat_tests}
use Rattle.model_heap.proofs.GroupLists.{first_or_later}
use Rattle.model_heap.proofs.TableChanges.{sweep_sound}
use Rattle.model_heap.specs.Sound.{AscendBetween, IsSound}
use Rattle.model_heap.specs.Table.{Counted, Group, Table, group_of, has_number, object_count, sweep}
use Rattle.model_words.proofs.Tests.{tells}
use Rattle.model_words.specs.Classes.{pages_of}
use Rattle.model_words.specs.declared.refusals.Refusal.{Refusal}
use Rattle.model_words.specs.declared.refusals.Refusal.TheVariants.{NoGroup, NotEmpty}
use Rattle.savings_replay.proofs.Swept.{all_numbers, low_below_high, no_numbers, numbers_from, sweep_step}
use Rattle.savings_replay.specs.Sweeps.{sweep_each, swept, table_after}

-- the group has an object
abbrev pub has_object : Group → Bool
has_object g = nat_lt 0 (object_count g)

-- the group is below a number, or has an object
abbrev pub stays_from : ℕ → Group → Bool
stays_from n g = nat_lt g.number n || has_object g

-- where no group has the number, the next bound lets the same through
none_between : (n : ℕ) (groups : List Group) → find (has_number n) groups ≡ None → filter (stays_from (n + 1)) groups ≡ filter (stays_from n) groups
none_between n [] none = refl
none_between n (x ∷ xs) none = grind (arith, nat_tests, none_between n xs)

-- so it does where the group of the number has an object
filled_between : (n low high : ℕ) (groups : List Group) (g : Group) → AscendBetween low groups high → find (has_number n) groups ≡ Some g → has_object g ≡ true
    → filter (stays_from (n + 1)) groups ≡ filter (stays_from n) groups
filled_between n low high [] g ascend found filled = refl
filled_between n low high (x ∷ xs) g ascend found filled =
    grind (arith, nat_tests, first_or_later n low high x xs g ascend found, none_between n xs, filled_between n (x.number + 1) high xs g ascend.1)

-- and where an empty group of the number was taken out
emptied_between : (n low high : ℕ) (groups : List Group) (g : Group) → AscendBetween low groups high → find (has_number n) groups ≡ Some g → has_object g ≡ false
    → filter (stays_from (n + 1)) (filter (λ x. not (has_number n x)) groups) ≡ filter (stays_from n) groups
emptied_between n low high [] g ascend found empty = refl
emptied_between n low high (x ∷ xs) g ascend found empty = grind (
  arith,
  nat_tests,
  first_or_later n low high x xs g ascend found,
  none_gone n xs,
  none_between n xs,
  emptied_between n (x.number + 1) high xs g ascend.1,
)
  where
    none_gone : (n : ℕ) (groups : List Group) → find (has_number n) groups ≡ None → filter (λ x. not (has_number n x)) groups ≡ groups
    none_gone n [] none = refl
    none_gone n (x ∷ xs) none = grind (arith, none_gone n xs)

-- from above the last number on all stay
all_stay : (n low high : ℕ) (groups : List Group) → AscendBetween low groups high → high ≤ n → filter (stays_from n) groups ≡ groups
all_stay n low high [] ascend above = refl
all_stay n low high (x ∷ xs) ascend above =
    let most = low_below_high (x.number + 1) high xs ascend.1 in
    let rest = all_stay n (x.number + 1) high xs ascend.1 above in grind (arith, nat_tests)

-- from 0 on those with an object
filled_stay : (groups : List Group) → filter (stays_from 0) groups ≡ filter has_object groups
filled_stay [] = refl
filled_stay (x ∷ xs) = grind (arith, nat_tests, filled_stay xs)

-- the table with these groups, and the free pages of another
abbrev pub with_groups : Table → Table → List Group → Table
with_groups t u groups = record t { free_pages = u.free_pages; groups = groups }

-- what a sweep of one number does where no mesh runs
record Sweeps (t : Table) (n : ℕ) : Type 0 where
  sound : IsSound (table_after t (sweep t n))
  is : table_after t (sweep t n) ≡ with_groups t (table_after t (sweep t n)) (table_after t (sweep t n)).groups
  groups : filter (stays_from (n + 1)) (table_after t (sweep t n)).groups ≡ filter (stays_from n) t.groups

sweeps : (t : Table) (n : ℕ) → IsSound t → t.meshes ≡ [] → Sweeps t n
sweeps t n sound calm = go (group_of t n) refl
  where
    -- a refused one
    refused : (r : Result Counted Refusal) → sweep t n ≡ r → table_after t r ≡ t → filter (stays_from (n + 1)) t.groups ≡ filter (stays_from n) t.groups → Sweeps t n
    refused r is same groups =
        let u : table_after t (sweep t n) ≡ t = ap (table_after t) is ∙ same in record {
          sound = subst IsSound (sym u) sound;
          is = rw u refl;
          groups = ap (λ (x : Table). filter (stays_from (n + 1)) x.groups) u ∙ groups;
        }

    filled : (g : Group) → group_of t n ≡ Some g → has_object g ≡ true → Sweeps t n
    filled g found some =
        let is : sweep t n ≡ Err NotEmpty = rw (found, calm, some) refl in
        refused (Err NotEmpty) is refl (filled_between n 0 t.next_span t.groups g sound.numbers found some)

    -- the table without the group
    out : (g : Group) → group_of t n ≡ Some g → has_object g ≡ false → Sweeps t n
    out g found none =
        let x : Counted = record {
          count = pages_of g.class;
          table = record t { free_pages = t.free_pages + pages_of g.class; groups = filter (λ y. not (has_number n y)) t.groups };
        } in
        let is : sweep t n ≡ Ok x = rw (found, calm, none) refl in
        let u : table_after t (sweep t n) ≡ x.table = ap (table_after t) is in record {
          sound = subst IsSound (sym u) (sweep_sound t n x sound is);
          is = rw u refl;
          groups = ap (λ (y : Table). filter (stays_from (n + 1)) y.groups) u ∙ emptied_between n 0 t.next_span t.groups g sound.numbers found none;
        }

    go : (o : Option Group) → group_of t n ≡ o → Sweeps t n
    go None none = let is : sweep t n ≡ Err NoGroup = rw none refl in refused (Err NoGroup) is refl (none_between n t.groups none)
    go (Some g) found = elim (tells (has_object g)) [ inl some ↦ filled g found some | inr none ↦ out g found none ]

-- what the sweeps from a number on leave
swept_from : (left n : ℕ) (t : Table) → IsSound t → t.meshes ≡ [] → t.next_span ≤ left + n
    → sweep_each (numbers_from n t.groups) t ≡ with_groups t (sweep_each (numbers_from n t.groups) t) (filter (stays_from n) t.groups)
swept_from zero n t sound calm above =
    let none = no_numbers n 0 t.next_span t.groups sound.numbers (omega (arith, above)) in
    let all = all_stay n 0 t.next_span t.groups sound.numbers (omega (arith, above)) in rw (none, all) refl
swept_from (suc left) n t sound calm above =
    let one = sweeps t n sound calm in
    let u : Table = table_after t (sweep t n) in
    let step : sweep_each (numbers_from (n + 1) u.groups) u ≡ sweep_each (numbers_from n t.groups) t = sweep_step t n sound in
    let span : u.next_span ≡ t.next_span = ap (λ (x : Table). x.next_span) one.is in
    let rest = swept_from left (n + 1) u one.sound (ap (λ (x : Table). x.meshes) one.is ∙ calm) (omega (arith, above, span)) in
    sym step ∙ rest ∙ ap (λ (x : Table). record x { free_pages = (sweep_each (numbers_from (n + 1) u.groups) u).free_pages; groups = filter (stays_from (n + 1)) u.groups }) one.is
    ∙ ap (λ (x : Table). with_groups t x (filter (stays_from (n + 1)) u.groups)) step
    ∙ ap (with_groups t (sweep_each (numbers_from n t.groups) t)) one.groups

pub swept_filled : (t : Table) → IsSound t → t.meshes ≡ [] → swept t ≡ with_groups t (swept t) (filter has_object t.groups)
swept_filled t sound calm =
    let is : sweep_each (numbers_from 0 t.groups) t ≡ swept t = ap (λ (ns : List ℕ). sweep_each ns t) (all_numbers t.groups) in
    sym is ∙ swept_from t.next_span 0 t sound calm (omega arith) ∙ ap (λ (x : Table). with_groups t x (filter (stays_from 0) t.groups)) is
    ∙ ap (with_groups t (swept t)) (filled_stay t.groups)
