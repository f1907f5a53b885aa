-- What groups count, as one of them changes.
use Rattle.std.proofs.Common.{◌≡◌, ℕ, suc, ◌+◌, ◌-◌, ◌*◌, ◌<◌, ◌≤◌, if◌then◌else◌, count_by, false, List, [], ◌∷◌, ◌++◌, Option, Some, None, is_some, length, replicate, slice_index_or, slice_set, refl, arith}
use Rattle.std.specs.Prelude.{sum_by}
use Rattle.std.proofs.lemmas.List.{length-map}
use Rattle.std.proofs.lemmas.List.Folds.{sum_by-replicate}
use Rattle.std.proofs.lemmas.List.Sums.{count_by-le-length, get_or-le-sum_by, sum_by-cons, sum_by-set, sum_by_push}
use Rattle.mesh_class.specs.Classes.{pages_of}
use Rattle.model_heap.specs.Mesh.{do_overlap, page_count, united}
use Rattle.model_heap.specs.Table.{Group, Slot, len_in, object_count}
use Rattle.mesh_spans.specs.Counts.{IsCounted, IsPart, IsWithin, byte_count, bytes_in, counts_of, mapped_in, objects_in, with_group, without_group}
use Rattle.mesh_spans.specs.declared.totals.Totals.{Totals}
use Rattle.mesh_spans.specs.Groups.{groups_from, groups_of, table_group}
use Rattle.mesh_spans.specs.Index.{GroupEntry, Index, IsGroup, IsObject, SpanEntry, group_at}

-- terms of at most c sum to at most c for each
sum_few : {X : Type 0} (f : X → ℕ) (d : X) (c : ℕ) (xs : List X) → ((k : ℕ) → f (slice_index_or xs k d) ≤ c) → sum_by f xs ≤ length xs * c
sum_few f d c [] each = omega arith
sum_few f d c (x ∷ xs) each = omega (arith, each 0, (sum_few f d c xs (λ k. each (suc k))), sum_by-cons f x xs)

len_fits : (class : ℕ) (o : Option Slot) → IsObject class o → len_in o ≤ class
len_fits class None fits = omega arith
len_fits class (Some slot) fits = fits.1

-- the objects of a group have no more bytes than three pages
pub bytes_few : (group : GroupEntry) → IsGroup group → sum_by len_in group.slots ≤ 12288
bytes_few group is =
    let sum = sum_few len_in None group.class group.slots (λ k. len_fits group.class (slice_index_or group.slots k None) (is.objects k)) in
    let full : length group.slots * group.class ≡ pages_of group.class * 4096 = rw is.slots is.class.full in
    omega (arith, sum, full, is.class.few_pages)

-- a group with no object has none
pub bytes_none : (n : ℕ) → 0 ≡ sum_by len_in (replicate {A = Option Slot} n None)
bytes_none n = let all = sum_by-replicate len_in n None in omega (arith, all)

-- and no slot of it is occupied
pub count_none : (n : ℕ) → 0 ≡ count_by is_some (replicate {A = Option Slot} n None)
count_none n = let all = sum_by-replicate (λ (o : Option Slot). if is_some o then 1 else 0) n None in omega (arith, all)

-- what one group counts at most
pub group_few : (group : GroupEntry) → IsGroup group → IsWithin 1 (counts_of (Some group))
group_few group is = grind (arith, count_by-le-length, bytes_few)

counts_few : (o : Option GroupEntry) → ((group : GroupEntry) → o ≡ Some group → IsGroup group) → IsWithin 1 (counts_of o)
counts_few None each = record { objects = omega arith; bytes = omega arith; mapped = omega arith }
counts_few (Some group) each = group_few group (each group refl)

-- what all groups count at most
pub totals_few : (groups : List (Option GroupEntry)) (totals : Totals) → length groups ≤ 65536
    → ((n : ℕ) (group : GroupEntry) → group_at groups n ≡ Some group → IsGroup group) → IsCounted groups totals → IsWithin 65536 totals
totals_few groups totals few each is =
    let one : (n : ℕ) → IsWithin 1 (counts_of (group_at groups n)) = λ n. counts_few (group_at groups n) (each n) in
    record {
      objects = let sum = sum_few objects_in None 256 groups (λ n. (one n).objects) in let all = is.objects in omega (arith, sum, all, few);
      bytes = let sum = sum_few bytes_in None 12288 groups (λ n. (one n).bytes) in let all = is.bytes in omega (arith, sum, all, few);
      mapped = let sum = sum_few mapped_in None 24 groups (λ n. (one n).mapped) in let all = is.mapped in omega (arith, sum, all, few);
    }

-- nor do fewer count more
pub fewer_within : (totals group : Totals) → IsWithin 65536 totals → IsWithin 65536 (without_group totals group)
fewer_within totals group few = grind arith

-- the counts over no group
pub counted_none : IsCounted [] (counts_of None)
counted_none = record { objects = refl; bytes = refl; mapped = refl }

-- what one group counts is a part of what all do
pub part_is : (groups : List (Option GroupEntry)) (n : ℕ) (totals : Totals) → IsCounted groups totals → n < length groups
    → IsPart (counts_of (group_at groups n)) totals
part_is groups n totals is below = grind (arith, get_or-le-sum_by)

-- the counts stay right as one group changes and is counted anew
pub IsCounted_changed : (groups : List (Option GroupEntry)) (n : ℕ) (y : Option GroupEntry) (totals : Totals) → n < length groups → IsCounted groups totals
    → IsCounted (slice_set groups n y) (with_group (without_group totals (counts_of (group_at groups n))) (counts_of y))
IsCounted_changed groups n y totals below is = record {
  objects = changed objects_in totals.objects is.objects;
  bytes = changed bytes_in totals.bytes is.bytes;
  mapped = changed mapped_in totals.mapped is.mapped;
}
  where
    changed : (f : Option GroupEntry → ℕ) (total : ℕ) → total ≡ sum_by f groups
        → total - f (group_at groups n) + f y ≡ sum_by f (slice_set groups n y)
    changed f total all =
        omega (arith, all, sum_by-set f groups n y None below, get_or-le-sum_by f groups n None below)

-- as one is taken out
pub IsCounted_taken : (groups : List (Option GroupEntry)) (n : ℕ) (totals : Totals) → n < length groups → IsCounted groups totals
    → IsCounted (slice_set groups n None) (without_group totals (counts_of (group_at groups n)))
IsCounted_taken groups n totals below is = grind (arith, IsCounted_changed groups n None totals below is)

-- as one comes to be where none was
pub IsCounted_back : (groups : List (Option GroupEntry)) (n : ℕ) (y : Option GroupEntry) (totals : Totals) → n < length groups → group_at groups n ≡ None
    → IsCounted groups totals → IsCounted (slice_set groups n y) (with_group totals (counts_of y))
IsCounted_back groups n y totals below none is = grind (arith, IsCounted_changed groups n y totals below is)

-- a number that is no group counts nothing
pub IsCounted_none : (groups : List (Option GroupEntry)) (totals : Totals) → IsCounted groups totals → IsCounted (groups ++ None ∷ []) totals
IsCounted_none groups totals is = grind (arith, sum_by_push)

in_table : (f : Group → ℕ) (h : Option GroupEntry → ℕ) (spans : List SpanEntry) (b : ℕ) (groups : List (Option GroupEntry)) → h None ≡ 0
    → ((n : ℕ) (group : GroupEntry) → f (table_group spans n group) ≡ h (Some group)) → sum_by h groups ≡ sum_by f (groups_from spans b groups)
in_table f h spans b [] none same = refl
in_table f h spans b (None ∷ groups) none same =
    omega (arith, sum_by-cons h None groups, in_table f h spans (b + 1) groups none same, none)
in_table f h spans b (Some group ∷ groups) none same = grind (arith, sum_by-cons, in_table f h spans (b + 1) groups none same)

-- the groups of the table count the same
pub record AreTotals (index : Index) (totals : Totals) : Type 0 where
  pub objects : totals.objects ≡ sum_by object_count (groups_of index)
  pub bytes : totals.bytes ≡ sum_by byte_count (groups_of index)
  pub mapped : totals.mapped ≡ sum_by page_count (groups_of index)

pub table_counted : (spans : List SpanEntry) (groups : List (Option GroupEntry)) (totals : Totals) → IsCounted groups totals
    → AreTotals (record { spans = spans; groups = groups }) totals
unfolding groups_of
table_counted spans groups totals is = grind (arith, in_table, length-map)

-- what the slots of a group count with another entry in one
pub slot_put : (f : Option Slot → ℕ) (slots : List (Option Slot)) (k total before now : ℕ) (was entry : Option Slot) → k < length slots
    → total ≡ sum_by f slots → was ≡ slice_index_or slots k was → before ≡ f was → now ≡ f entry → total - before + now ≡ sum_by f (slice_set slots k entry)
slot_put f slots k total before now was entry below is at old new = grind (arith, sum_by-set, get_or-le-sum_by)

-- the bytes stay few
pub put_few : (group : GroupEntry) (bytes before now : ℕ) (entry : Option Slot) → IsGroup group → IsObject group.class entry → bytes ≡ sum_by len_in group.slots
    → now ≡ len_in entry → bytes - before + now < 4294967296
put_few group bytes before now entry is fits all new = omega (arith, bytes_few _ is, len_fits _ _ fits, is.class.most, all, new)

-- what the slots of two groups with no common occupied slot count, where an empty slot counts nothing
pub sum_united : (f : Option Slot → ℕ) → f None ≡ 0 → (xs ys : List (Option Slot)) → length xs ≡ length ys → do_overlap xs ys ≡ false
    → sum_by f ys + sum_by f xs ≡ sum_by f (united ys xs)
sum_united f none [] [] long apart = refl
sum_united f none [] (y ∷ ys) long apart = absurd (omega (arith, long))
sum_united f none (x ∷ xs) [] long apart = absurd (omega (arith, long))
sum_united f none (None ∷ xs) (None ∷ ys) long apart = let rest = sum_united f none xs ys (omega (arith, long)) apart in
    omega (arith, none, rest, sum_by-cons f None xs, sum_by-cons f None ys, sum_by-cons f None (united ys xs))
sum_united f none (None ∷ xs) (Some y ∷ ys) long apart = let rest = sum_united f none xs ys (omega (arith, long)) apart in
    omega (arith, none, rest, sum_by-cons f None xs, sum_by-cons f (Some y) ys, sum_by-cons f (Some y) (united ys xs))
sum_united f none (Some x ∷ xs) (None ∷ ys) long apart = let rest = sum_united f none xs ys (omega (arith, long)) apart in
    omega (arith, none, rest, sum_by-cons f (Some x) xs, sum_by-cons f None ys, sum_by-cons f (Some x) (united ys xs))
sum_united f none (Some x ∷ xs) (Some y ∷ ys) long apart = absurd (cc apart)
