-- The virtual pages of a group by the place of their member, and as layouts change.
use Rattle.std.proofs.Common.{◌≡◌, ℕ, ◌+◌, ◌*◌, ◌/◌, ◌<◌, ◌≤◌, sym, arith}
use Rattle.std.proofs.Math.Nat.{mul-le-mul_right}
use Rattle.std.proofs.lemmas.Nat.{div-mul-add}
use Rattle.mesh_class.specs.Classes.{pages_of}
use Rattle.mesh_page_heap.specs.Layout.{IsHeldBy, IsPageOf, Layout, Stage}

-- the pages of a member are within those of all
pub page_end : (place members p j : ℕ) → place < members → j < p → place * p + j < members * p
page_end place members p j h below = let more : (place + 1) * p ≤ members * p = mul-le-mul_right p (omega (arith, h)) in omega (arith, more, below)

-- the member of a page
pub member_of : (members p i : ℕ) → i < members * p → i / p < members
member_of members p i below = grind arith

-- page `j` of the member at a place
pub page_join : (l : Layout) (n place j v : ℕ) → place < l.members n → j < pages_of (l.class n) → l.first n place + j ≡ v
    → IsPageOf l n (place * pages_of (l.class n) + j) v
page_join l n place j v member within at = grind (arith, div-mul-add)

-- a number without members has no page
pub no_page : (l : Layout) (n i v : ℕ) → l.members n ≡ 0 → IsPageOf l n i v → ⊥
no_page l n i v none page = let within : i < 0 * pages_of (l.class n) = rw none at page.within in omega (arith, within)

-- what a group holds it held where members and class stay, and no fewer pages are given back
pub held_was : (l l' : Layout) (f f' : ℕ → Stage) (n j : ℕ) → l'.members n ≡ l.members n → l'.class n ≡ l.class n → (f n).released ≤ (f' n).released
    → IsHeldBy l' f' n j → IsHeldBy l f n j
held_was l l' f f' n j members class more held = grind arith

-- a page stays where class and members do
pub page_same : (l l' : Layout) (n i v : ℕ) → l'.class n ≡ l.class n → l'.members n ≡ l.members n
    → ((place : ℕ) → place < l.members n → l'.first n place ≡ l.first n place) → IsPageOf l' n i v → IsPageOf l n i v
page_same l l' n i v class members first page = grind arith

-- and the other way round
pub page_same_back : (l l' : Layout) (n i v : ℕ) → l'.class n ≡ l.class n → l'.members n ≡ l.members n
    → ((place : ℕ) → place < l.members n → l'.first n place ≡ l.first n place) → IsPageOf l n i v → IsPageOf l' n i v
page_same_back l l' n i v class members first page =
    page_same l' l n i v (sym class) (sym members) (λ place below. sym (first place (rw members at below))) page
