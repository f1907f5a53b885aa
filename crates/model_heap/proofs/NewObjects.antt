-- A new object keeps a sound table sound.
use Rattle.std.proofs.Common.{◌≡◌, ℕ, zero, suc, ◌+◌, ◌<◌, ◌≤◌, true, false, nat_eq, nat_lt, nat_le, List, [], ◌∷◌, ◌++◌, length, map, find, slice_get, slice_set, slice_index, replicate, IsSome, is_some, option_map, subst, refl, ◌∙◌, arith, ◌⊎◌, inl, inr, Option, Some, None, Ok}
use Rattle.std.specs.List.{list_any, range_with_len}
use Rattle.std.proofs.lemmas.Bool.Decides.{nat_tests, eqb_tells, leb_tells}
use Rattle.std.proofs.lemmas.List.{length-set, length-replicate}
use Rattle.model_words.proofs.Chains.{or_refuse_went, went_on, refuse_if_went, refuse_last}
use Rattle.model_words.proofs.Tests.{positive}
use Rattle.model_heap.proofs.GroupLists.{times_in-append, pages_in, find_again, find_passes, find_sound, pages_changed, pages_more, groups_changed, groups_more, ascend_mapped, ascend_more, changed_number, find_changed_other, find_more, find_between, head_found}
use Rattle.model_heap.proofs.MeshLists.{meshes_kept, meshes_outside}
use Rattle.model_heap.proofs.TableChanges.{table_sound}
use Rattle.model_words.specs.Classes.{Row, table, row_of, pages_of, slots_of, class_for}
use Rattle.model_heap.specs.Mesh.{virtual_pages}
use Rattle.model_heap.specs.Sound.{times_in, AscendBetween, AreSoundMeshes, IsSound, IsSoundGroup, IsSoundSlot}
use Rattle.model_heap.specs.Table.{Slot, Group, Mesh, Table, Placed, group_of, has_number, takes_part, changed_at, is_meshing, is_open, object_count, picked_slot, first_member, with_object_in, with_group, with_span, fresh_group, placed_in, room_for_span, place_in, place_new}
use Rattle.model_words.specs.declared.refusals.Refusal.TheVariants.{Zero, TooLarge, NoPages, NoAddresses}

-- an object once one was put is that one or was there
put_at : (slots : List (Option Slot)) (k j : ℕ) (slot s : Slot) → slice_get (slice_set slots k (Some slot)) j ≡ Some (Some s)
    → (slot ≡ s) ⊎ (slice_get slots j ≡ Some (Some s))
put_at [] k j slot s h = inr h
put_at (x ∷ xs) zero zero slot s h = let is : Some (Some slot) ≡ Some (Some s) = h in inl (cc is)
put_at (x ∷ xs) zero (suc j) slot s h = inr h
put_at (x ∷ xs) (suc k) zero slot s h = inr h
put_at (x ∷ xs) (suc k) (suc j) slot s h = put_at xs k j slot s h

-- a sound group with a sound slot put is sound
group_put : (g : Group) (k : ℕ) (slot : Slot) → IsSoundGroup g → IsSoundSlot g slot → IsSoundGroup (with_object_in k slot g)
group_put g k slot sound new = record {
  class = sound.class;
  some_member = sound.some_member;
  few_members = sound.few_members;
  places = length-set g.slots k (Some slot) ∙ sound.places;
  objects = λ j s h. elim (put_at g.slots k j slot s h) [
    | inl same ↦ subst (λ (x : Slot). IsSoundSlot (with_object_in k slot g) x) same (record { in_member = new.in_member; some = new.some; fits = new.fits })
    | inr kept ↦ let old = sound.objects j s kept in record { in_member = old.in_member; some = old.some; fits = old.fits }
  ];
}

-- an object put into a group that is in no mesh keeps the table sound
put_sound : (t : Table) (g : Group) (k : ℕ) (slot : Slot) → IsSound t → find (has_number g.number) t.groups ≡ Some g → is_meshing t g.number ≡ false
    → IsSoundSlot g slot → IsSound (with_group t g.number (with_object_in k slot))
put_sound t g k slot sound found outside new =
    let u : Table = with_group t g.number (with_object_in k slot) in
    table_sound t u sound refl
    (λ v. let same : pages_in v (map (changed_at g.number (with_object_in k slot)) t.groups) + times_in v (virtual_pages g)
    ≡ pages_in v t.groups + times_in v (virtual_pages g)
    = pages_changed v g.number 0 t.next_span (with_object_in k slot) t.groups g sound.numbers found in omega (arith, same))
    (groups_changed g.number 0 t.next_span (with_object_in k slot) t.groups g sound.numbers found
    (group_put g k slot (find_sound (has_number g.number) t.groups g found sound.groups) new) sound.groups)
    (ascend_mapped 0 t.next_span (changed_at g.number (with_object_in k slot)) t.groups
    (changed_number g.number (with_object_in k slot) (λ x. refl)) sound.numbers)
    (meshes_outside t u g.number t.meshes (λ m x apart is. find_changed_other g.number m (with_object_in k slot) t.groups (λ y. refl) apart ∙ is) outside
    sound.meshes)
    (λ class. omega arith)

-- the first of some members is one of them
pub first_in : (members : List ℕ) → 1 ≤ length members → 1 ≤ times_in (slice_index members 0) members
first_in [] some = omega (arith, some)
first_in (x ∷ xs) some = elim (eqb_tells x x) [ inl same ↦ rw same.0 (omega arith) | inr other ↦ absurd (other.1 refl) ]

-- a new object in a group that is in no mesh keeps the table sound
placed_sound : (t : Table) (g : Group) (word serial len : ℕ) → IsSound t → find (has_number g.number) t.groups ≡ Some g → is_meshing t g.number ≡ false
    → 1 ≤ len → len ≤ g.class → IsSound (placed_in t g word serial len).table
placed_sound t g word serial len sound found outside some fits =
    put_sound t g (picked_slot g word) (record { member = first_member g; serial = serial; len = len }) sound found outside (record {
      in_member = first_in g.members (find_sound (has_number g.number) t.groups g found sound.groups).some_member;
      some = some;
      fits = fits;
    })

-- a page of a range is within it
range_from : (v a n : ℕ) → 1 ≤ times_in v (range_with_len a n) → (a ≤ v) × (v < a + n)
range_from v a zero h = absurd (omega (arith, h))
range_from v a (suc n) h = grind (arith, range_from v (a + 1) n)

-- each page of a range is there once
range_once : (v a n : ℕ) → times_in v (range_with_len a n) ≤ 1
range_once v a zero = omega arith
range_once v a (suc n) = grind (arith, nat_tests, range_from v (a + 1) n, range_once v (a + 1) n)

-- the pages of a fresh group are the range of its one member
fresh_pages : (v number class page : ℕ) → times_in v (virtual_pages (fresh_group number class page)) ≡ times_in v (range_with_len page (pages_of class))
fresh_pages v number class page = let parts = times_in-append v (range_with_len page (pages_of class)) [] in omega (arith, parts)

-- no place of a fresh group has an object
pub fresh_none : (n k : ℕ) (slot : Slot) → slice_get {X = Option Slot} (replicate n None) k ≡ Some (Some slot) → ⊥
fresh_none zero k slot h = cc
fresh_none (suc n) zero slot h = cc
fresh_none (suc n) (suc k) slot h = fresh_none n k slot h

-- a fresh group of a class of the table is sound
fresh_sound : (number class page : ℕ) → IsSome (row_of class) → IsSoundGroup (fresh_group number class page)
fresh_sound number class page row = record {
  class = row;
  some_member = omega arith;
  few_members = omega arith;
  places = length-replicate (slots_of class) None;
  objects = λ k slot h. absurd (fresh_none (slots_of class) k slot h);
}

-- a table with a new span, where there are addresses for it, is sound
pub span_sound : (t : Table) (class : ℕ) → IsSound t → IsSome (row_of class) → t.next_page + pages_of class ≤ 65536 → IsSound (with_span t class)
span_sound t class sound row room =
    let fresh : Group = fresh_group t.next_span class t.next_page in
    let u : Table = with_span t class in record {
      some_page = let some = sound.some_page in omega (arith, some);
      few_pages = room;
      pages_once = λ v. let all = pages_more v t.groups fresh in let new = fresh_pages v t.next_span class t.next_page in
          let once = range_once v t.next_page (pages_of class) in let old = sound.pages_once v in
          elim (leb_tells 1 (times_in v (range_with_len t.next_page (pages_of class)))) [
            | inr none ↦ omega (arith, all, new, old, none.1)
            | inl some ↦ let from = range_from v t.next_page (pages_of class) some.1 in
                elim (leb_tells 1 (pages_in v t.groups)) [
                  | inl clash ↦ let used = sound.pages_used v clash.1 in absurd (omega (arith, from.0, used.1))
                  | inr none ↦ omega (arith, all, new, once, none.1)
                ]
          ];
      pages_used = λ v h. let all = pages_more v t.groups fresh in let new = fresh_pages v t.next_span class t.next_page in
          let page = sound.some_page in
          elim (leb_tells 1 (pages_in v t.groups)) [
            | inl old ↦ let used = sound.pages_used v old.1 in (omega (arith, used.0), omega (arith, used.1))
            | inr none ↦ let from = range_from v t.next_page (pages_of class) (omega (arith, h, all, new, none.1)) in
                (omega (arith, from.0, page), omega (arith, from.1))
          ];
      groups = groups_more t.groups fresh (fresh_sound t.next_span class t.next_page row) sound.groups;
      numbers = ascend_more 0 t.next_span t.groups fresh refl sound.numbers;
      meshes = meshes_kept t u t.meshes (λ n g is. find_more (has_number n) t.groups (fresh ∷ []) g is) sound.meshes;
      one_a_class = sound.one_a_class;
    }

-- no group has a number from the second bound on
pub none_from : (low high n : ℕ) (gs : List Group) → AscendBetween low gs high → high ≤ n → find (has_number n) gs ≡ None
none_from low high n [] ascend from = refl
none_from low high n (x ∷ xs) ascend from =
    grind (arith, find_between (has_number x.number) low high (x ∷ xs) x ascend, none_from (x.number + 1) high n xs ascend.1 from)

-- the group of a new number is found last
pub last_found : (n : ℕ) (gs : List Group) (g : Group) → find (has_number n) gs ≡ None → g.number ≡ n → find (has_number n) (gs ++ g ∷ []) ≡ Some g
last_found n [] g none is = head_found n g [] is
last_found n (x ∷ xs) g none is = grind (arith, last_found n xs g)

-- a number of no group is in no mesh
not_meshing : (t : Table) (n : ℕ) (ms : List Mesh) → group_of t n ≡ None → AreSoundMeshes t ms → list_any (takes_part n) ms ≡ false
not_meshing t n [] none sound = refl
not_meshing t n (m ∷ ms) none sound = grind (arith, nat_tests, not_meshing t n ms none sound.1)

-- a new object in a new span keeps the table sound
spanned_sound : (t : Table) (class word serial len : ℕ) → IsSound t → IsSome (row_of class) → t.next_page + pages_of class ≤ 65536 → 1 ≤ len → len ≤ class
    → IsSound (placed_in (with_span t class) (fresh_group t.next_span class t.next_page) word serial len).table
spanned_sound t class word serial len sound row room some fits = grind (
  arith,
  nat_tests,
  none_from 0 t.next_span t.next_span t.groups sound.numbers,
  placed_sound (with_span t class) (fresh_group t.next_span class t.next_page) word serial len (span_sound t class sound row room),
  span_sound t class sound row room,
  last_found t.next_span t.groups (fresh_group t.next_span class t.next_page),
  not_meshing t t.next_span t.meshes,
)

-- what holds of an open group
pub record IsOpen (t : Table) (class : ℕ) (g : Group) : Type 0 where
  pub class_is : g.class ≡ class
  pub outside : is_meshing t g.number ≡ false
  pub some_slot : object_count g < length g.slots

-- an open group passes the tests
pub open_gives : (t : Table) (class : ℕ) (g : Group) → is_open t class g ≡ true → IsOpen t class g
open_gives t class g h = grind (arith, nat_tests)

-- of the rows, the first that holds a length is of a class that holds it and is among them
rows_fit : (len : ℕ) (rows : List Row) (class : ℕ) → option_map (λ r. r.size) (find (λ r. nat_le len r.size) rows) ≡ Some class
    → (len ≤ class) × (is_some (find (λ r. nat_eq r.size class) rows) ≡ true)
rows_fit len [] class h = absurd (cc)
rows_fit len (r ∷ rows) class h = grind (arith, nat_tests, rows_fit len rows class)

-- the class of a request holds it, and is in the table
pub class_fits : (len class : ℕ) → class_for len ≡ Some class → (len ≤ class) × IsSome (row_of class)
class_fits len class h = rows_fit len table class h

-- there are addresses for a new span
has_addresses : (n : ℕ) → nat_lt 65536 n ≡ false → n ≤ 65536
has_addresses n h = elim (leb_tells 65537 n) [ inl past ↦ let clash : true ≡ false = rw past.0 at h in absurd (cc) | inr within ↦ omega (arith, within.1) ]

-- a new object of the length goes to this group: the first of its class that is open
pub record GoesToOpen (t : Table) (len class : ℕ) (g : Group) : Type 0 where
  pub class_is : class_for len ≡ Some class
  pub some : 1 ≤ len
  pub fits : len ≤ class
  pub found : find (is_open t class) t.groups ≡ Some g
  pub is_open : IsOpen t class g
  pub there : group_of t g.number ≡ Some g

-- it goes to a new span, where no group of its class is open and there is room for one
pub record GoesToSpan (t : Table) (len class : ℕ) : Type 0 where
  pub class_is : class_for len ≡ Some class
  pub some : 1 ≤ len
  pub fits : len ≤ class
  pub row : IsSome (row_of class)
  pub none : find (is_open t class) t.groups ≡ None
  pub pages : nat_lt t.free_pages (pages_of class) ≡ false
  pub addresses : t.next_page + pages_of class ≤ 65536

-- what holds of an object in an open group and of one in a new span holds of every new object
pub by_place : (P : Placed → Type 0) (t : Table) (len word serial : ℕ) (placed : Placed) → IsSound t
    → ((class : ℕ) (g : Group) → GoesToOpen t len class g → P (placed_in t g word serial len))
    → ((class : ℕ) → GoesToSpan t len class → P (placed_in (with_span t class) (fresh_group t.next_span class t.next_page) word serial len))
    → place_new t len word serial ≡ Ok placed → P placed
by_place P t len word serial placed sound in_open in_span h =
    let some = refuse_if_went Zero (nat_eq len 0) _ placed h in
    let class = or_refuse_went TooLarge (class_for len) _ placed some.1 in
    let fits = class_fits len class.value class.is in
    by_found class.value class.is (positive len some.0) fits.0 fits.1 (find (is_open t class.value) t.groups) refl class.then
  where
    by_found : (class : ℕ) → class_for len ≡ Some class → 1 ≤ len → len ≤ class → IsSome (row_of class) → (o : Option Group)
        → find (is_open t class) t.groups ≡ o → place_in o t class word serial len ≡ Ok placed → P placed
    by_found class class_is some fits row (Some g) found went =
        let is : placed_in t g word serial len ≡ placed = cc went in
        subst P is (in_open class g (record {
          class_is = class_is;
          some = some;
          fits = fits;
          found = found;
          is_open = open_gives t class g (find_passes (is_open t class) t.groups g found);
          there = find_again (is_open t class) 0 t.next_span t.groups g sound.numbers found;
        }))
    by_found class class_is some fits row None found went =
        let room = went_on (room_for_span t class) _ placed went in
        let pages = refuse_if_went NoPages (nat_lt t.free_pages (pages_of class)) _ room.value room.is in
        let addresses = refuse_last NoAddresses (nat_lt 65536 (t.next_page + pages_of class)) room.value pages.1 in
        let done = room.then in
        let is : placed_in (with_span t class) (fresh_group t.next_span class t.next_page) word serial len ≡ placed = cc done in
        subst P is (in_span class (record {
          class_is = class_is;
          some = some;
          fits = fits;
          row = row;
          none = found;
          pages = pages.0;
          addresses = has_addresses (t.next_page + pages_of class) addresses;
        }))

-- a new object keeps the table sound
pub new_sound : (t : Table) (len word serial : ℕ) (placed : Placed) → IsSound t → place_new t len word serial ≡ Ok placed → IsSound placed.table
new_sound t len word serial placed sound = by_place (λ (x : Placed). IsSound x.table) t len word serial placed sound
    (λ class g at. let fits = at.fits in let class_is = at.is_open.class_is in
    placed_sound t g word serial len sound at.there at.is_open.outside at.some (omega (arith, fits, class_is)))
    (λ class at. spanned_sound t class word serial len sound at.row at.addresses at.some at.fits)
