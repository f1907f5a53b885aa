-- An order respects time just where none stands behind one that began after it ended.
use Rattle.std.proofs.Common.{◌≡◌, inl, inr, ℕ, suc, ◌<◌, ◌≤◌, List, [], ◌∷◌, subst, refl, sym, ◌∙◌, arith}
use Rattle.history_object.specs.Carried.{AreBelow}
use Rattle.history_object.specs.Orders.{CallBegins, CallEnds, EndsBefore, HasAllEnded, HasItBegun, IsEachOnce, IsIn, NumberedEvent, RespectsTime, TimeIsPairwise, begun_behind}
use Rattle.history_object.proofs.Pairs.{Every, Pairs, all_pairs_from, every_both, every_weaker, pairs_from}

-- what follows of each pair
pairs_weaker : {X : Type 0} (P Q : X → X → Type 0) (xs : List X) → ((x y : X) → P x y → Q x y) → Pairs P xs → Pairs Q xs
pairs_weaker P Q [] f h = tt
pairs_weaker P Q (x ∷ xs) f h = (every_weaker (P x) (Q x) xs (f x) h.0, pairs_weaker P Q xs f h.1)

-- what follows of each pair from two facts
pairs_both : {X : Type 0} (P Q R : X → X → Type 0) (xs : List X) → ((x y : X) → P x y → Q x y → R x y) → Pairs P xs → Pairs Q xs → Pairs R xs
pairs_both P Q R [] f h k = tt
pairs_both P Q R (x ∷ xs) f h k = (every_both (P x) (Q x) (R x) xs (f x) h.0 k.0, pairs_both P Q R xs f h.1 k.1)

-- what holds of each holds of the one that stands there
every_in : (P : ℕ → Type 0) (xs : List ℕ) (i : ℕ) → Every P xs → IsIn i xs → P i
every_in P [] i every at = absurd at
every_in P (x ∷ xs) i every at = elim at [ inl same ↦ subst P same every.0 | inr later ↦ every_in P xs i every.1 later ]

-- and what holds of each that stands there holds of each
every_of : (P : ℕ → Type 0) (xs : List ℕ) → ((i : ℕ) → IsIn i xs → P i) → Every P xs
every_of P [] f = tt
every_of P (x ∷ xs) f = (f x (inl refl), every_of P xs (λ i at. f i (inr at)))

pairs_of : (P : ℕ → ℕ → Type 0) (xs : List ℕ) → ((i j : ℕ) → IsIn j xs → P i j) → Pairs P xs
pairs_of P [] f = tt
pairs_of P (x ∷ xs) f = (every_of (P x) xs (λ j at. f x j (inr at)), pairs_of P xs (λ i j at. f i j (inr at)))

-- none that had not begun is in front of the call
abbrev IsNotBehind : ℕ → ℕ → ℕ → ℕ → Type 0
IsNotBehind calls i front back = i ≡ back → calls ≤ front → ⊥

-- one end
stands : (calls i : ℕ) (order : List ℕ) → HasItBegun calls i order → IsIn i order
stands calls i [] up = absurd up
stands calls i (n ∷ order) up = elim up.1 [ inl same ↦ inl same | inr later ↦ inr (stands calls i order later) ]

in_front : (calls i : ℕ) (order : List ℕ) → IsEachOnce order → HasItBegun calls i order → Pairs (IsNotBehind calls i) order
in_front calls i [] distinct up = tt
in_front calls i (n ∷ order) distinct up = (
  every_of (IsNotBehind calls i n) order (λ j at same above. omega (arith, up.0, above)),
  elim up.1 [
    | inl here ↦ pairs_of (IsNotBehind calls i) order (λ f j at same above. distinct.0 (subst (λ k. IsIn k order) (sym (here ∙ same)) at))
    | inr later ↦ in_front calls i order distinct.1 later
  ],
)

has_begun : (calls i : ℕ) (order : List ℕ) → i < calls → IsIn i order → Pairs (IsNotBehind calls i) order → HasItBegun calls i order
has_begun calls i [] below at pairs = absurd at
has_begun calls i (n ∷ order) below at pairs = elim at [
  | inl same ↦ (subst (λ k. k < calls) (sym same) below, inl same)
  | inr later ↦ (
      let not : calls ≤ n → ⊥ = every_in (IsNotBehind calls i n) order i pairs.0 later refl in
      (less calls n not, inr (has_begun calls i order below later pairs.1)))
]
  where
    less : (a b : ℕ) → (a ≤ b → ⊥) → b < a
    less a b not = grind (arith, not)

-- all events
abbrev IsPairwise : ℕ → List NumberedEvent → List ℕ → Type 0
IsPairwise calls events order = AreBelow (begun_behind calls events) order × HasAllEnded events order
    × Pairs (λ front back. EndsBefore calls events back front → ⊥) order

to_pairs : (calls : ℕ) (events : List NumberedEvent) (order : List ℕ) → IsEachOnce order → RespectsTime calls events order → IsPairwise calls events order
to_pairs calls [] order distinct respects = (respects, (λ i no. absurd no), pairs_of (λ front back. ⊥ → ⊥) order (λ i j at no. no))
to_pairs calls (CallBegins ∷ events) order distinct respects = to_pairs (suc calls) events order distinct respects
to_pairs calls (CallEnds k ∷ events) order distinct respects =
    let rest = to_pairs calls events order distinct respects.1 in (
      rest.0,
      (λ i ended. elim ended [ inl same ↦ subst (λ n. IsIn n order) same (stands calls k order respects.0) | inr later ↦ rest.1 i later ]),
      pairs_both (IsNotBehind calls k) (λ front back. EndsBefore calls events back front → ⊥) (λ front back. EndsBefore calls (CallEnds k ∷ events) back front → ⊥) order
          (λ f b one more ends. elim ends [ inl now ↦ one now.0 now.1 | inr later ↦ more later ]) (in_front calls k order distinct respects.0) rest.2,
    )

from_pairs : (calls : ℕ) (events : List NumberedEvent) (order : List ℕ) → ((i : ℕ) → EndsBefore calls events i i → ⊥) → IsPairwise calls events order → RespectsTime calls events order
from_pairs calls [] order time pairs = pairs.0
from_pairs calls (CallBegins ∷ events) order time pairs = from_pairs (suc calls) events order time pairs
from_pairs calls (CallEnds k ∷ events) order time pairs = (
  has_begun calls k order (below (time k)) (pairs.1 k (inl refl))
      (pairs_weaker (λ front back. EndsBefore calls (CallEnds k ∷ events) back front → ⊥) (IsNotBehind calls k) order (λ f b no same above. no (inl (same, above))) pairs.2),
  from_pairs calls events order (λ i ends. time i (inr ends)) (
    pairs.0,
    (λ i ended. pairs.1 i (inr ended)),
    pairs_weaker (λ front back. EndsBefore calls (CallEnds k ∷ events) back front → ⊥) (λ front back. EndsBefore calls events back front → ⊥) order
        (λ f b no ends. no (inr ends)) pairs.2,
  ),
)
  where
    less : (a b : ℕ) → (a ≤ b → ⊥) → b < a
    less a b not = grind (arith, not)

    below : (EndsBefore calls (CallEnds k ∷ events) k k → ⊥) → k < calls
    below never = less calls k (λ above. never (inl (refl, above)))

pub time_is_pairwise : TimeIsPairwise
time_is_pairwise events order time distinct = (
  λ respects. (let pairs = to_pairs 0 events order distinct respects in
      (pairs.0, pairs.1, all_pairs_from (λ front back. EndsBefore 0 events back front → ⊥) order pairs.2)),
  λ is. from_pairs 0 events order time (is.0, is.1, pairs_from (λ front back. EndsBefore 0 events back front → ⊥) order is.2),
)
