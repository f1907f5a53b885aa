-- What the code keeps stands for a state: what a cell holds, and what each change leaves.
use Rattle.std.proofs.Common.{◌≡◌, ◌≢◌, ◌∙◌, ℕ, ◌+◌, ◌<◌, Bool, true, false, if◌then◌else◌, nat_eq, is_some, ◌⊎◌, Option, Some, None, option_map, ap, refl, subst, sym, arith, inl, inr, eq-eqb}
use Rattle.std.proofs.lemmas.Bool.Decides.{eqb_tells}
use Rattle.savings_replay.specs.Followed.{Followed, Large as LiveLarge, Live, Small as LiveSmall, object_in, object_of, with_at}
use Rattle.savings_replay.specs.Follows.{AreApart, IsKept}
use Rattle.savings_replay.specs.HeapChanges.{IsAt}
use Rattle.savings_replay.specs.Objects.{Objects, cell_of, entry_of, live_number, number_in}
use Rattle.savings_replay.specs.declared.heaps.TwoHeaps.{TwoHeaps}
use Rattle.savings_replay.specs.declared.objects.Object.{Object}
use Rattle.savings_replay.specs.declared.objects.Object.TheVariants.{Small, Large}
use Rattle.savings_replay.specs.declared.objects.Places.{Places}

-- the function with another value at a number

pub at_here : {A : Type 0} (n : ℕ) (v : A) (f : ℕ → A) → with_at n v f n ≡ v
at_here n v f = ap (λ b. if b then v else f n) (eq-eqb n n refl)

pub at_same : {A : Type 0} (n k : ℕ) (v : A) (f g : ℕ → A) → f k ≡ g k → with_at n v f k ≡ with_at n v g k
at_same n k v f g same = ap (λ w. if nat_eq n k then v else w) same

-- where the value at a number is none, one that is there is at another number
pub at_other : {A : Type 0} (n k : ℕ) (f : ℕ → Option A) (x : A) → with_at n None f k ≡ Some x → (n ≢ k) × (f k ≡ Some x)
at_other {A} n k f x e = elim (eqb_tells n k) [
  | inl same ↦ let none : Option A = None in
      let clash : none ≡ Some x = rw same.0 at e in absurd (cc clash)
  | inr other ↦ (other.1, rw other.0 at e)
]

-- what a cell holds

live_none : (h : TwoHeaps) (e : Option Object) (l : Option Live) → IsKept h e l → is_some e ≡ false → l ≡ None
live_none h None None kept none = refl
live_none h None (Some l) kept none = absurd kept
live_none h (Some e) l kept none = absurd (cc none)

live_some : (h : TwoHeaps) (e : Option Object) (l : Option Live) → IsKept h e l → is_some e ≡ true → (live : Live) × (l ≡ Some live)
live_some h None l kept some = absurd (cc some)
live_some h (Some (Small places)) None kept some = absurd kept
live_some h (Some (Large len)) None kept some = absurd kept
live_some h (Some e) (Some live) kept some = (live, refl)

-- the cells and the objects of the code are those of the state
pub record Agree (o : Objects) (h : TwoHeaps) (f : Followed) : Type 0 where
  pub cells : (c : ℕ) → cell_of o c ≡ f.cells c
  pub objects : (n : ℕ) → IsKept h (entry_of o n) (f.live n)

none_of : (o : Objects) (h : TwoHeaps) (f : Followed) (q : Option ℕ) → Agree o h f → live_number o q ≡ None → object_of f q ≡ None
none_of o h f None agree none = refl
none_of o h f (Some n) agree none =
    let by : (b : Bool) → is_some (entry_of o n) ≡ b → (if b then Some n else None) ≡ None → is_some (entry_of o n) ≡ false =
    λ b. elim b as (λ b. is_some (entry_of o n) ≡ b → (if b then Some n else None) ≡ None → is_some (entry_of o n) ≡ false) [
      | true ↦ λ e clash. absurd (cc clash)
      | false ↦ λ e same. e
    ]
    in
    ap (option_map (λ live. (n, live))) (live_none h (entry_of o n) (f.live n) (agree.objects n) (by (is_some (entry_of o n)) refl none))

-- a cell that holds no live object of the code holds none of the state
pub held_none : (o : Objects) (h : TwoHeaps) (f : Followed) (cell : ℕ) → Agree o h f → number_in o cell ≡ None → object_in f cell ≡ None
held_none o h f cell agree none = none_of o h f (f.cells cell) agree (subst (λ q. live_number o q ≡ None) (agree.cells cell) none)

-- the object that a cell holds
pub record IsHeld (f : Followed) (cell number : ℕ) (live : Live) : Type 0 where
  pub held : object_in f cell ≡ Some (number, live)
  pub live_is : f.live number ≡ Some live

some_of : (o : Objects) (h : TwoHeaps) (f : Followed) (q : Option ℕ) (number : ℕ) → Agree o h f → live_number o q ≡ Some number
    → (q ≡ Some number) × (is_some (entry_of o number) ≡ true)
some_of o h f None number agree some = absurd (cc some)
some_of o h f (Some n) number agree some =
    let by : (b : Bool) → is_some (entry_of o n) ≡ b → (if b then Some n else None) ≡ Some number → (Some n ≡ Some number) × (is_some (entry_of o n) ≡ true) =
    λ b. elim b as (λ b. is_some (entry_of o n) ≡ b → (if b then Some n else None) ≡ Some number → (Some n ≡ Some number) × (is_some (entry_of o n) ≡ true)) [
      | true ↦ λ e same. (same, e)
      | false ↦ λ e clash. absurd (cc clash)
    ]
    in
    let found : (Some n ≡ Some number) × (is_some (entry_of o n) ≡ true) = by (is_some (entry_of o n)) refl some in
    let both : Some n ≡ Some number = found.0 in
    let same : n ≡ number = cc both in
    (found.0, subst (λ m. is_some (entry_of o m) ≡ true) same found.1)

pub held_at : (o : Objects) (h : TwoHeaps) (f : Followed) (cell number : ℕ) → Agree o h f → cell_of o cell ≡ Some number → is_some (entry_of o number) ≡ true
    → (live : Live) × IsHeld f cell number live
held_at o h f cell number agree at some =
    let found : (live : Live) × (f.live number ≡ Some live) = live_some h (entry_of o number) (f.live number) (agree.objects number) some in
    let cell_is : f.cells cell ≡ Some number = sym (agree.cells cell) ∙ at in (
      found.0,
      record {
        held = ap (object_of f) cell_is ∙ ap (option_map (λ live. (number, live))) found.1;
        live_is = found.1;
      },
    )

pub held_some : (o : Objects) (h : TwoHeaps) (f : Followed) (cell number : ℕ) → Agree o h f → number_in o cell ≡ Some number
    → (live : Live) × IsHeld f cell number live
held_some o h f cell number agree some =
    let found : (cell_of o cell ≡ Some number) × (is_some (entry_of o number) ≡ true) = some_of o h f (cell_of o cell) number agree some in
    held_at o h f cell number agree found.0 found.1

-- what a change leaves

-- an object stays where it is
pub kept_on : (h n : TwoHeaps) (e : Option Object) (l : Option Live)
    → ((places : Places) (serial len : ℕ) → l ≡ Some (LiveSmall serial len) → IsAt h places serial len → IsAt n places serial len) → IsKept h e l → IsKept n e l
kept_on h n None None on kept = tt
kept_on h n None (Some l) on kept = absurd kept
kept_on h n (Some (Small places)) None on kept = absurd kept
kept_on h n (Some (Small places)) (Some (LiveSmall serial len)) on kept = on places serial len refl kept
kept_on h n (Some (Small places)) (Some (LiveLarge len)) on kept = absurd kept
kept_on h n (Some (Large len)) None on kept = absurd kept
kept_on h n (Some (Large len)) (Some (LiveSmall serial size)) on kept = absurd kept
kept_on h n (Some (Large len)) (Some (LiveLarge size)) on kept = kept

-- an object and its state at a number, where both have another one there
pub kept_at : (h : TwoHeaps) (number : ℕ) (e : Option Object) (l : Option Live) (es : ℕ → Option Object) (ls : ℕ → Option Live) (n : ℕ)
    → IsKept h e l → (number ≢ n → IsKept h (es n) (ls n)) → IsKept h (with_at number e es n) (with_at number l ls n)
kept_at h number e l es ls n here others = elim (eqb_tells number n) [
  | inl same ↦ rw same.0 here
  | inr other ↦ rw other.0 (others other.1)
]

-- without an object the others are still apart
pub apart_without : (number : ℕ) (live : ℕ → Option Live) → AreApart live → AreApart (with_at number None live)
apart_without number live apart m n serial len size at_m at_n =
    apart m n serial len size (at_other number m live (LiveSmall serial len) at_m).1 (at_other number n live (LiveSmall serial size) at_n).1

-- the value at a number is the one put there, or one that was there at another number
pub at_either : {A : Type 0} (n k : ℕ) (f : ℕ → Option A) (x y : A) → with_at n (Some x) f k ≡ Some y → ((n ≡ k) × (x ≡ y)) ⊎ ((n ≢ k) × (f k ≡ Some y))
at_either {A} n k f x y e = elim (eqb_tells n k) [
  | inl same ↦ let here : Some x ≡ Some y = rw same.0 at e in inl (same.1, cc here)
  | inr other ↦ inr (other.1, rw other.0 at e)
]

-- with an object that is in no heap too
pub apart_large : (number len : ℕ) (live : ℕ → Option Live) → AreApart live → AreApart (with_at number (Some (LiveLarge len)) live)
apart_large number len live apart m n serial size other at_m at_n =
    let old : (k len_k : ℕ) → with_at number (Some (LiveLarge len)) live k ≡ Some (LiveSmall serial len_k) → live k ≡ Some (LiveSmall serial len_k) =
    λ k len_k at. elim (at_either number k live (LiveLarge len) (LiveSmall serial len_k) at) [
      | inl here ↦ let clash = here.1 in absurd (cc clash)
      | inr there ↦ there.1
    ]
    in
    apart m n serial size other (old m size at_m) (old n other at_n)

-- the serial of an object that is in both heaps
abbrev serial_of : Live → ℕ
serial_of (LiveSmall serial len) = serial
serial_of (LiveLarge len) = 0

-- and with one of the next serial
pub apart_small : (number next len : ℕ) (live : ℕ → Option Live) → ((n serial size : ℕ) → live n ≡ Some (LiveSmall serial size) → serial < next) → AreApart live
    → AreApart (with_at number (Some (LiveSmall next len)) live)
apart_small number next len live below apart m n serial size other at_m at_n =
    elim (at_either number m live (LiveSmall next len) (LiveSmall serial size) at_m) [
      | inl m_here ↦ let is_m : next ≡ serial = ap serial_of m_here.1 in
          elim (at_either number n live (LiveSmall next len) (LiveSmall serial other) at_n) [
            | inl n_here ↦ sym m_here.0 ∙ n_here.0
            | inr n_there ↦ let under : serial < next = below n serial other n_there.1 in absurd (omega (arith, under, is_m))
          ]
      | inr m_there ↦
          elim (at_either number n live (LiveSmall next len) (LiveSmall serial other) at_n) [
            | inl n_here ↦ let is_n : next ≡ serial = ap serial_of n_here.1 in
                let under : serial < next = below m serial size m_there.1 in absurd (omega (arith, under, is_n))
            | inr n_there ↦ apart m n serial size other m_there.1 n_there.1
          ]
    ]

pub below_small : (number next len : ℕ) (live : ℕ → Option Live) → ((n serial size : ℕ) → live n ≡ Some (LiveSmall serial size) → serial < next)
    → (n serial size : ℕ) → with_at number (Some (LiveSmall next len)) live n ≡ Some (LiveSmall serial size) → serial < next + 1
below_small number next len live below n serial size at = elim (at_either number n live (LiveSmall next len) (LiveSmall serial size) at) [
  | inl here ↦ let is : next ≡ serial = ap serial_of here.1 in omega (arith, is)
  | inr there ↦ let under : serial < next = below n serial size there.1 in omega (arith, under)
]

pub below_large : (number next len : ℕ) (live : ℕ → Option Live) → ((n serial size : ℕ) → live n ≡ Some (LiveSmall serial size) → serial < next)
    → (n serial size : ℕ) → with_at number (Some (LiveLarge len)) live n ≡ Some (LiveSmall serial size) → serial < next
below_large number next len live below n serial size at = elim (at_either number n live (LiveLarge len) (LiveSmall serial size) at) [
  | inl here ↦ let clash = here.1 in absurd (cc clash)
  | inr there ↦ below n serial size there.1
]
