-- Whether a new object finds room.
use Rattle.std.proofs.Common.{◌≡◌, ℕ, ◌≤◌, Bool, true, false, ◌||◌, Option, Some, None, Result, Ok, Err, IsSomeAnd, IfSome, IfNone, find, is_ok, is_some, ap, subst, refl, sym, ◌∙◌}
use Rattle.model_heap.specs.Table.{Group, Placed, Table, fresh_group, is_open, place_in, place_new, placed_in, room_for_span, takes_objects, with_span}
use Rattle.model_words.specs.Classes.{class_for}
use Rattle.model_words.specs.Words.{◌>>=◌}
use Rattle.model_words.specs.declared.refusals.Refusal.{Refusal}
use Rattle.mesh_spans.specs.Groups.{IsPicked, groups_of, is_closed}
use Rattle.savings_replay.proofs.Placed.{open_same, placed_new}
use Rattle.savings_replay.specs.Placement.{IsPlacement, Placement, table_of}

-- what a step after another answers where it can't be refused
chained : (r : Result (Unit {0}) Refusal) (x : Placed) → is_ok (r >>= λ _. Ok x) ≡ is_ok r
chained (Ok a) x = refl
chained (Err e) x = refl

-- an open group is room, and where there is none a new span is
placed_room : (t : Table) (o : Option Group) (class word serial len : ℕ)
    → is_ok (place_in o t class word serial len) ≡ (is_some o || is_ok (room_for_span t class))
placed_room t None class word serial len = chained (room_for_span t class)
    (placed_in (with_span t class) (fresh_group t.next_span class t.next_page) word serial len)
placed_room t (Some group) class word serial len = refl

pub new_room : (t : Table) (class len word serial : ℕ) → class_for len ≡ Some class → 1 ≤ len
    → is_ok (place_new t len word serial) ≡ (is_some (find (is_open t class) t.groups) || is_ok (room_for_span t class))
new_room t class len word serial class_is some =
    ap is_ok (placed_new t len word serial class (place_in (find (is_open t class) t.groups) t class word serial len) class_is some refl)
    ∙ placed_room t (find (is_open t class) t.groups) class word serial len

-- the index has an open slot where the table has an open group
pub open_found : (p : Placement) (class word : ℕ) (slot : Option (ℕ × ℕ)) → ((n : ℕ) → is_closed p.index n ≡ false)
    → IfSome slot (λ r. IsSomeAnd (find (takes_objects (is_closed p.index) class) (groups_of p.index)) (λ group. IsPicked p.index group word r.0 r.1))
    → IfNone slot (find (takes_objects (is_closed p.index) class) (groups_of p.index) ≡ None)
    → is_some (find (is_open (table_of p) class) (groups_of p.index)) ≡ is_some slot
open_found p class word None calm picked none = ap is_some (sym (open_same p class calm) ∙ none)
open_found p class word (Some r) calm picked none =
    go (find (takes_objects (is_closed p.index) class) (groups_of p.index)) (open_same p class calm) picked
  where
    go : (o : Option Group) → o ≡ find (is_open (table_of p) class) (groups_of p.index) → IsSomeAnd o (λ group. IsPicked p.index group word r.0 r.1)
        → is_some (find (is_open (table_of p) class) (groups_of p.index)) ≡ true
    go None is found = absurd found
    go (Some group) is found = ap is_some (sym is)

or_true : (b : Bool) → (b || true) ≡ true
or_true true = refl
or_true false = refl

or_false : (b : Bool) → (b || false) ≡ b
or_false true = refl
or_false false = refl

-- a new span is room
pub room_left : (t : Table) (class len : ℕ) (room : Bool) → class_for len ≡ Some class → 1 ≤ len → is_ok (room_for_span t class) ≡ room → room ≡ true
    → (word serial : ℕ) → is_ok (place_new t len word serial) ≡ room
room_left t class len room class_is some room_is left word serial =
    new_room t class len word serial class_is some
    ∙ ap (λ (b : Bool). is_some (find (is_open t class) t.groups) || b) (room_is ∙ left) ∙ or_true (is_some (find (is_open t class) t.groups)) ∙ sym left

-- where there is none, an open slot of the index is room
pub slot_room : (inside seen : Placement) (class len : ℕ) (slot : Option (ℕ × ℕ)) (is_there room : Bool) → inside ≡ seen → IsPlacement inside
    → class_for len ≡ Some class → 1 ≤ len → is_there ≡ is_some slot
    → IfSome slot (λ r. IsSomeAnd (find (takes_objects (is_closed inside.index) class) (groups_of inside.index))
    (λ group. IsPicked inside.index group 0 r.0 r.1))
    → IfNone slot (find (takes_objects (is_closed inside.index) class) (groups_of inside.index) ≡ None)
    → is_ok (room_for_span (table_of seen) class) ≡ room → room ≡ false
    → (word serial : ℕ) → is_ok (place_new (table_of seen) len word serial) ≡ is_there
slot_room inside seen class len slot is_there room same kept class_is some there_is picked none room_is left word serial =
    let found : is_some (find (is_open (table_of seen) class) (table_of seen).groups) ≡ is_there =
    subst (λ (p : Placement). is_some (find (is_open (table_of p) class) (table_of p).groups) ≡ is_there) same
    (open_found inside class 0 slot kept.calm picked none ∙ sym there_is) in
    new_room (table_of seen) class len word serial class_is some
    ∙ ap (λ (b : Bool). is_some (find (is_open (table_of seen) class) (table_of seen).groups) || b) (room_is ∙ left)
    ∙ or_false (is_some (find (is_open (table_of seen) class) (table_of seen).groups)) ∙ found
