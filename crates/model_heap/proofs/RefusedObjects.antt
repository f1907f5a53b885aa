-- The lowest refusal that holds of a new object.
use Rattle.std.proofs.Common.{◌≡◌, ℕ, ◌+◌, ◌-◌, ◌<◌, ◌≤◌, false, nat_eq, nat_lt, find, subst, refl, sym, ◌∙◌, arith, Option, Some, None, lit≤}
use Rattle.model_words.proofs.ClassSizes.{class_none, class_some}
use Rattle.model_heap.proofs.ListPlaces.{found_passes, none_found_passes}
use Rattle.model_words.proofs.LowestRefusals.{AreFrom, Told, none_holds, refused_by, told_if, told_last, told_map, told_some}
use Rattle.model_heap.proofs.NewObjects.{class_fits}
use Rattle.model_words.proofs.Tests.{equal, less, not_less, unequal}
use Rattle.model_heap.proofs.TableChanges.{class_paged}
use Rattle.model_words.specs.Classes.{class_for, pages_of}
use Rattle.model_heap.specs.RefusalLaws.{HasNoOpen, new_holds}
use Rattle.model_words.specs.Refusals.{IsRefusedBy}
use Rattle.model_heap.specs.Table.{Group, Placed, Table, is_open, place_in, place_new, room_for_span}
use Rattle.model_words.specs.declared.refusals.Refusal.TheVariants.{Zero, TooLarge, NoPages, NoAddresses}

-- the refusals of a new object are from a number on
new_from : (t : Table) (len low : ℕ) → (new_holds t len Zero → low ≤ 1) → (new_holds t len TooLarge → low ≤ 2) → (new_holds t len NoPages → low ≤ 3)
    → (new_holds t len NoAddresses → low ≤ 4) → AreFrom low (new_holds t len)
new_from t len low zero large pages addresses Zero h = zero h
new_from t len low zero large pages addresses TooLarge h = large h
new_from t len low zero large pages addresses NoPages h = pages h
new_from t len low zero large pages addresses NoAddresses h = addresses h
new_from t len low zero large pages addresses _ h = absurd h

-- what holds of the class of the length
of_class : (t : Table) (len class : ℕ) (holds : ℕ → Type 0) → class_for len ≡ Some class → HasNoOpen t len holds → holds class
of_class t len class holds is full =
    let both : Some full.class ≡ Some class = sym full.class_is ∙ is in let same : full.class ≡ class = cc both in subst holds same full.is

-- where an open group is found there is one
some_open : (t : Table) (len class : ℕ) (g : Group) (holds : ℕ → Type 0) → class_for len ≡ Some class → find (is_open t class) t.groups ≡ Some g
    → ¬ HasNoOpen t len holds
some_open t len class g holds is found full = grind (arith, found_passes Group (is_open t class) t.groups g found)

-- room for a span of the class of the length is told
room_told : (t : Table) (len class : ℕ) → class_for len ≡ Some class → find (is_open t class) t.groups ≡ None → ¬ new_holds t len Zero
    → ¬ new_holds t len TooLarge → Told (Unit {0}) (new_holds t len) (room_for_span t class)
room_told t len class is none some few =
    told_if (Unit {0}) (new_holds t len) NoPages (nat_lt t.free_pages (pages_of class)) _
    (new_from t len 3 (λ h. absurd (some h)) (λ h. absurd (few h)) (λ h. lit≤ tt) (λ h. lit≤ tt))
    (λ short. full (λ c. t.free_pages < pages_of c) (less t.free_pages (pages_of class) short)) paged (λ enough _.
    told_last (new_holds t len) NoAddresses (nat_lt 65536 (t.next_page + pages_of class))
    (new_from t len 4 (λ h. absurd (some h)) (λ h. absurd (few h)) (λ h. absurd (paged enough h)) (λ h. lit≤ tt))
    (λ high. full (λ c. 65535 < t.next_page + (pages_of c - 1))
    (let last = less 65536 (t.next_page + pages_of class) high in omega (arith, last)))
    (λ low. none_holds (new_holds t len)
    (new_from t len 18 (λ h. absurd (some h)) (λ h. absurd (few h)) (λ h. absurd (paged enough h)) (λ h. absurd (addressed low h)))))
  where
    full : (holds : ℕ → Type 0) → holds class → HasNoOpen t len holds
    full holds h = record { class = class; class_is = is; none = none_found_passes Group (is_open t class) t.groups none; is = h }

    paged : nat_lt t.free_pages (pages_of class) ≡ false → ¬ new_holds t len NoPages
    paged enough h = not_less t.free_pages (pages_of class) enough (of_class t len class (λ c. t.free_pages < pages_of c) is h)

    addressed : nat_lt 65536 (t.next_page + pages_of class) ≡ false → ¬ new_holds t len NoAddresses
    addressed low h =
        let last = of_class t len class (λ c. 65535 < t.next_page + (pages_of c - 1)) is h in
        let page = class_paged class (class_fits len class is).1 in
        not_less 65536 (t.next_page + pages_of class) low (omega (arith, last, page))

-- a new object of the class of the length is told
place_told : (t : Table) (len class word serial : ℕ) (o : Option Group) → class_for len ≡ Some class → find (is_open t class) t.groups ≡ o
    → ¬ new_holds t len Zero → ¬ new_holds t len TooLarge → Told Placed (new_holds t len) (place_in o t class word serial len)
place_told t len class word serial (Some g) is found some few = grind (arith, some_open t len class g)
place_told t len class word serial None is found some few =
    told_map (Unit {0}) Placed (new_holds t len) (room_for_span t class) _ (room_told t len class is found some few)

-- a new object is told
pub new_told : (t : Table) (len word serial : ℕ) → Told Placed (new_holds t len) (place_new t len word serial)
new_told t len word serial =
    told_if Placed (new_holds t len) Zero (nat_eq len 0) _ (new_from t len 1 (λ h. lit≤ tt) (λ h. lit≤ tt) (λ h. lit≤ tt) (λ h. lit≤ tt)) (equal len 0)
    (unequal len 0) (λ some _.
    told_some Placed ℕ (new_holds t len) TooLarge (class_for len) _
    (new_from t len 2 (λ h. absurd (unequal len 0 some h)) (λ h. lit≤ tt) (λ h. lit≤ tt) (λ h. lit≤ tt)) (class_none len) (λ class is.
    place_told t len class word serial (find (is_open t class) t.groups) is refl (unequal len 0 some)
    (λ large. let few = class_some len class is in omega (arith, large, few))))

-- a new object is refused by the lowest
pub new_lowest : (t : Table) (len word serial : ℕ) → IsRefusedBy (new_holds t len) (place_new t len word serial)
new_lowest t len word serial = refused_by Placed (new_holds t len) (place_new t len word serial) (new_told t len word serial)
