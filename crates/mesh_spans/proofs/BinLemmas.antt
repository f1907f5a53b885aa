-- Groups in their bins.
use Rattle.std.proofs.Common.{◌≡◌, ◌≢◌, ℕ, ◌+◌, ◌*◌, ◌<◌, ◌≤◌, Bool, true, false, not, ◌&&◌, ◌||◌, if◌then◌else◌, nat_eq, nat_lt, count_by, is_some, List, [], Option, Some, None, length, ap, refl, sym, ◌∙◌, arith, inl, inr}
use Rattle.std.proofs.Math.ListN.{length-set}
use Rattle.std.proofs.lemmas.Bool.Decides.{eqb_tells}
use Rattle.std.proofs.lemmas.List.{get_or_past, get_or-set_other, get_or-set_same}
use Rattle.std.proofs.Common.{position}
use Rattle.std.proofs.lemmas.List.Sums.{position_or_len_is}
use Rattle.std.specs.Ordering.{nat_cmp}
use Rattle.std.specs.Cmp.{unsigned_tied, nat_cmp_total}
use Rattle.std.specs.FinSet.{FinSet, contains, insert, remove, empty, contains-insert, contains-remove, contains-empty}
use Rattle.mesh_bins.specs.Words.{IsLeast}
use Rattle.mesh_class.specs.Class.{class_index}
use Rattle.mesh_class.specs.Classes.{IsClass}
use Rattle.mesh_spans.specs.GroupBins.{AreMoved, IsFiled, is_partial, bin_at, file_of, filed, is_at, kind_of, unfiled}
use Rattle.mesh_spans.specs.Index.{GroupEntry, IsGroup, group_at, is_open}

abbrev Bins : Type 0
Bins = List (FinSet nat_cmp)

-- a number stays in a bin unless it is taken out of this bin
unfiled_is : (bins : Bins) (n m : ℕ) (file : Option ℕ) (place : ℕ) → place < length bins
    → contains (bin_at (unfiled bins n file) place) m ≡ (not (is_at file place && nat_eq m n) && contains (bin_at bins place) m)
unfiled_is bins n m None place below = refl
unfiled_is bins n m (Some p) place below = elim (eqb_tells p place) [
  | inl same ↦ rw (same.0, same.1, get_or-set_same bins place (remove (bin_at bins place) n) empty below)
      (contains-remove nat_cmp_total (bin_at bins place) n m ∙ ap (λ (b : Bool). not b && contains (bin_at bins place) m) (unsigned_tied m n))
  | inr other ↦ rw (other.0, get_or-set_other bins p place (remove (bin_at bins p) n) empty (λ e. other.1 (sym e))) refl
]

-- and comes into a bin only where it is put
filed_is : (bins : Bins) (n m : ℕ) (file : Option ℕ) (place : ℕ) → place < length bins
    → contains (bin_at (filed bins n file) place) m ≡ ((is_at file place && nat_eq m n) || contains (bin_at bins place) m)
filed_is bins n m None place below = refl
filed_is bins n m (Some p) place below = elim (eqb_tells p place) [
  | inl same ↦ rw (same.0, same.1, get_or-set_same bins place (insert (bin_at bins place) n) empty below)
      (contains-insert nat_cmp_total (bin_at bins place) n m ∙ ap (λ (b : Bool). b || contains (bin_at bins place) m) (unsigned_tied m n))
  | inr other ↦ rw (other.0, get_or-set_other bins p place (insert (bin_at bins p) n) empty (λ e. other.1 (sym e))) refl
]

unfiled_long : (bins : Bins) (n : ℕ) (file : Option ℕ) → length (unfiled bins n file) ≡ length bins
unfiled_long bins n None = refl
unfiled_long bins n (Some p) = length-set bins p (remove (bin_at bins p) n)

filed_long : (bins : Bins) (n : ℕ) (file : Option ℕ) → length (filed bins n file) ≡ length bins
filed_long bins n None = refl
filed_long bins n (Some p) = length-set bins p (insert (bin_at bins p) n)

-- the bins after one group changed and was filed anew
abbrev refiled : List (Option GroupEntry) → List (Option GroupEntry) → List (FinSet nat_cmp) → ℕ → List (FinSet nat_cmp)
refiled groups new bins n = filed (unfiled bins n (file_of (group_at groups n))) n (file_of (group_at new n))

-- groups stay in their bins as one changes and is filed anew
IsFiled_changed : (groups new : List (Option GroupEntry)) (bins : List (FinSet nat_cmp)) (n : ℕ) → IsFiled groups bins
    → ((m : ℕ) → m ≢ n → group_at new m ≡ group_at groups m) → IsFiled new (refiled groups new bins n)
IsFiled_changed groups new bins n is others = record {
  sized = filed_long (unfiled bins n old) n now ∙ unfiled_long bins n old ∙ is.sized;
  each = λ place m below.
      filed_is (unfiled bins n old) n m now place (omega (arith, below, is.sized, unfiled_long bins n old))
      ∙ rw (unfiled_is bins n m old place (omega (arith, below, is.sized)), is.each place m below) (elim (eqb_tells m n) [
        | inl same ↦ rw (same.0, same.1) (grind arith)
        | inr other ↦ rw (other.0, others m other.1) (grind arith)
      ]);
}
  where
    old : Option ℕ
    old = file_of (group_at groups n)

    now : Option ℕ
    now = file_of (group_at new n)

-- no group in no bin
pub IsFiled_empty : (bins : List (FinSet nat_cmp)) → length bins ≡ 30 → ((place : ℕ) → bin_at bins place ≡ empty) → IsFiled [] bins
IsFiled_empty bins sized none = record {
  sized = sized;
  each = λ place n below. ap (λ (s : FinSet nat_cmp). contains s n) (none place) ∙ contains-empty nat_cmp n;
}

-- groups stay in their bins as one changes and is moved to its bin
pub IsFiled_moved : (groups new : List (Option GroupEntry)) (bins after : List (FinSet nat_cmp)) (n : ℕ) → IsFiled groups bins
    → AreMoved bins after n (file_of (group_at groups n)) (file_of (group_at new n)) → ((m : ℕ) → m ≢ n → group_at new m ≡ group_at groups m) → IsFiled new after
IsFiled_moved groups new bins after n is moves others = grind (arith, IsFiled_changed groups new bins n is others)

-- two tests that pass the same numbers pass the same number first
least_same : (p q : ℕ → Bool) (from end : ℕ) (r : Option ℕ) → ((n : ℕ) → p n ≡ q n) → IsLeast p from end r → IsLeast q from end r
least_same p q from end None same h = λ m above below. sym (same m) ∙ h m above below
least_same p q from end (Some n) same h = grind arith

-- no other class has the place of this one
abbrev IsOnly : ℕ → Type 0
IsOnly class = (size : ℕ) → IsClass size → class_index size ≡ class_index class → size ≡ class

-- whether a group is open, by its bin
open_plain : (m : Bool) (count total of class : ℕ) → 2 ≤ total → IsClass of → IsOnly class
    → (is_at (if m then None else Some (3 * class_index of + kind_of count total)) (3 * class_index class)
    || is_at (if m then None else Some (3 * class_index of + kind_of count total)) (3 * class_index class + 1))
    ≡ (nat_eq of class && not m && nat_lt count total)
open_plain true count total of class some x y = elim (eqb_tells of class) [ inl e ↦ rw e.0 refl | inr e ↦ rw e.0 refl ]
open_plain false count total of class some x y = grind arith

-- a group is open where it is in one of two bins
pub open_filed : (groups : List (Option GroupEntry)) (bins : List (FinSet nat_cmp)) (class n : ℕ) → IsFiled groups bins → IsOnly class → class_index class < 10
    → ((g : GroupEntry) → group_at groups n ≡ Some g → IsGroup g)
    → (contains (bin_at bins (3 * class_index class)) n || contains (bin_at bins (3 * class_index class + 1)) n) ≡ is_open (group_at groups n) class
open_filed groups bins class n is y low each =
    rw (is.each (3 * class_index class) n (omega (arith, low)), is.each (3 * class_index class + 1) n (omega (arith, low))) (tells (group_at groups n) each)
  where
    tells : (o : Option GroupEntry) → ((g : GroupEntry) → o ≡ Some g → IsGroup g)
        → (is_at (file_of o) (3 * class_index class) || is_at (file_of o) (3 * class_index class + 1)) ≡ is_open o class
    tells None sound = refl
    tells (Some g) sound =
        let x = sound g refl in
        let slots = x.slots in let two = x.class.some_slot in
        open_plain g.in_mesh (count_by is_some g.slots) (length g.slots) g.class class (omega (arith, slots, two)) x.class y

-- the lowest place that passes is the position
pub position_is : (test : Option GroupEntry → Bool) (groups : List (Option GroupEntry)) (r : Option ℕ) → test None ≡ false → length groups ≤ 65536
    → IsLeast (λ n. test (group_at groups n)) 0 65536 r → position test groups ≡ r
position_is test groups None none few least = grind (arith, position_or_len_is test groups (length groups) None (omega arith))
position_is test groups (Some n) none few least = grind (arith, get_or_past, position_or_len_is)

-- the lowest open group, by the bins
pub open_position : (groups : List (Option GroupEntry)) (bins bins0 : List (FinSet nat_cmp)) (class : ℕ) (r : Option ℕ) → bins0 ≡ bins
    → length groups ≤ 65536 → IsFiled groups bins → ((n : ℕ) (g : GroupEntry) → group_at groups n ≡ Some g → IsGroup g) → IsOnly class → class_index class < 10
    → IsLeast (λ n. contains (bin_at bins0 (3 * class_index class)) n || contains (bin_at bins0 (3 * class_index class + 1)) n) 0 65536 r
    → r ≡ position (λ o. is_open o class) groups
open_position groups bins bins0 class r same few is each y low least =
    sym (position_is (λ (o : Option GroupEntry). is_open o class) groups r refl few (least_same _ _ 0 65536 r tells least))
  where
    tells : (n : ℕ) → (contains (bin_at bins0 (3 * class_index class)) n || contains (bin_at bins0 (3 * class_index class + 1)) n) ≡ is_open (group_at groups n) class
    tells n = ap (λ (bs : List (FinSet nat_cmp)). contains (bin_at bs (3 * class_index class)) n || contains (bin_at bs (3 * class_index class + 1)) n) same
        ∙ open_filed groups bins class n is y low (each n)

-- whether a group is partly filled, by its bin
partial_plain : (m : Bool) (count total of class : ℕ) → 2 ≤ total → IsClass of → IsOnly class
    → is_at (if m then None else Some (3 * class_index of + kind_of count total)) (3 * class_index class + 1)
    ≡ (nat_eq of class && not m && nat_lt 0 count && nat_lt count total)
partial_plain true count total of class some x y = elim (eqb_tells of class) [ inl e ↦ rw e.0 refl | inr e ↦ rw e.0 refl ]
partial_plain false count total of class some x y = grind arith

-- the lowest partly filled group, by its bin
pub partial_least : (groups : List (Option GroupEntry)) (bins bins0 : List (FinSet nat_cmp)) (class from : ℕ) (r : Option ℕ) → bins0 ≡ bins
    → IsFiled groups bins → ((n : ℕ) (g : GroupEntry) → group_at groups n ≡ Some g → IsGroup g) → IsOnly class → class_index class < 10
    → IsLeast (contains (bin_at bins0 (3 * class_index class + 1))) from 65536 r → IsLeast (λ n. is_partial (group_at groups n) class) from 65536 r
partial_least groups bins bins0 class from r same is each y low least = least_same _ _ from 65536 r told least
  where
    tells : (o : Option GroupEntry) → ((g : GroupEntry) → o ≡ Some g → IsGroup g) → is_at (file_of o) (3 * class_index class + 1) ≡ is_partial o class
    tells None sound = refl
    tells (Some g) sound =
        let x = sound g refl in
        let slots = x.slots in let two = x.class.some_slot in
        partial_plain g.in_mesh (count_by is_some g.slots) (length g.slots) g.class class (omega (arith, slots, two)) x.class y

    told : (n : ℕ) → contains (bin_at bins0 (3 * class_index class + 1)) n ≡ is_partial (group_at groups n) class
    told n = ap (λ (bs : List (FinSet nat_cmp)). contains (bin_at bs (3 * class_index class + 1)) n) same
        ∙ is.each (3 * class_index class + 1) n (omega (arith, low)) ∙ tells (group_at groups n) (each n)
