-- Where the bytes of a virtual page lie, and which pages hold an object.
use Rattle.std.proofs.Common.{◌≡◌, ℕ, zero, suc, ◌+◌, ◌*◌, ◌<◌, ◌≤◌, Bool, true, nat_eq, arith, inl, inr}
use Rattle.std.specs.List.{list_any, range_with_len}
use Rattle.std.proofs.lemmas.Bool.Decides.{eqb_tells}
use Rattle.model_heap.specs.Places.{Record, Target, holds, place_of}

-- the place of an address is the page that its virtual page leads to, and what is left of it
pub by_page : (targets : ℕ → Target) (v offset : ℕ) → offset < 4096
    → place_of targets (v * 4096 + offset) ≡ record { page = (targets v).page; offset = offset }
by_page targets v offset within = grind arith

-- a number of a range that passes
pub any_gives : (test : ℕ → Bool) (a n : ℕ) → list_any test (range_with_len a n) ≡ true → (x : ℕ) × (a ≤ x) × (x < a + n) × (test x ≡ true)
any_gives test a zero h = cc
any_gives test a (suc n) h = grind (arith, any_gives test (a + 1) n)

-- some number of a range passes where one does
pub gives_any : (test : ℕ → Bool) (a n x : ℕ) → a ≤ x → x < a + n → test x ≡ true → list_any test (range_with_len a n) ≡ true
gives_any test a zero x low high pass = absurd (omega (arith, low, high))
gives_any test a (suc n) x low high pass = grind (arith, gives_any test (a + 1) n x)

-- equal, and so by the test
by_equal : (a b : ℕ) → a ≡ b → nat_eq a b ≡ true
by_equal a b h = elim (eqb_tells a b) [ inl same ↦ same.0 | inr other ↦ absurd (other.1 h) ]

-- a page that holds an object is led to by one of its addresses
pub held_is_led : (targets : ℕ → Target) (page : ℕ) (r : Record) → holds targets page r ≡ true
    → (x : ℕ) × (r.address ≤ x) × (x < r.address + r.len) × ((place_of targets x).page ≡ page)
held_is_led targets page r h = grind (arith, any_gives)

-- a page that an address of an object leads to holds it
pub led_is_held : (targets : ℕ → Target) (page : ℕ) (r : Record) (x : ℕ) → r.address ≤ x → x < r.address + r.len → (place_of targets x).page ≡ page
    → holds targets page r ≡ true
led_is_held targets page r x low high led =
    gives_any (λ y. nat_eq (place_of targets y).page page) r.address r.len x low high (by_equal (place_of targets x).page page led)
