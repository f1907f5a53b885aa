-- Which configurations stores lead to.
use Rattle.std.proofs.Common.{◌≡◌, ◌⊎◌, inl, inr, zero, suc, ◌+◌, Bool, List, [], ◌∷◌, ◌++◌, Option, Some, None, length, ap, refl, sym, subst, ◌∙◌}
use Rattle.history_object.specs.declared.configuration.Configuration.{Configuration}
use Rattle.history_object.specs.Carried.{IsKept}
use Rattle.history_object.specs.Standings.{with_marks}
use Rattle.history_object.proofs.Lists.{get_behind, get_either}
use Rattle.history_parts.specs.Products.{AreSame, IsOfProduct, IsStored, after_each, listed, product, products}
use Rattle.history_parts.specs.Aside.{AllPossible, AllSteady, ListsApart}

-- ---- what is in a list

pub kept_none : {X : Type 0} (x : X) → IsKept [] x → ⊥
kept_none x (i, h) = cc (h)

pub kept_behind : {X : Type 0} (xs ys : List X) (x : X) → IsKept ys x → IsKept (xs ++ ys) x
kept_behind xs ys x (i, h) = (length xs + i, get_behind xs ys i (length xs + i) x refl h)

pub kept_front : {X : Type 0} (xs ys : List X) (x : X) → IsKept xs x → IsKept (xs ++ ys) x
kept_front [] ys x (i, h) = cc (h)
kept_front (y ∷ xs) ys x (zero, h) = (0, h)
kept_front (y ∷ xs) ys x (suc i, h) = let on = kept_front xs ys x (i, h) in (suc on.0, on.1)

pub kept_either : {X : Type 0} (xs ys : List X) (x : X) → IsKept (xs ++ ys) x → IsKept xs x ⊎ IsKept ys x
kept_either xs ys x (i, h) = elim (get_either xs ys i x h) [ inl e ↦ inl (i, e) | inr e ↦ inr (e.0, e.1) ]

pub kept_first : {X : Type 0} (xs : List X) (x : X) → IsKept (x ∷ xs) x
kept_first xs x = (0, refl)

pub kept_later : {X : Type 0} (xs : List X) (y x : X) → IsKept xs x → IsKept (y ∷ xs) x
kept_later xs y x (i, h) = (suc i, h)

pub kept_cases : {X : Type 0} (xs : List X) (y x : X) → IsKept (y ∷ xs) x → (y ≡ x) ⊎ IsKept xs x
kept_cases xs y x (zero, h) = inl (cc (h))
kept_cases xs y x (suc i, h) = inr (i, h)

-- ---- one call

-- configurations of the same state and marks are the same
pub same_both : {S : Type 0} (c d : Configuration S) → c.state ≡ d.state → c.done ≡ d.done → c ≡ d
same_both {S} c d states marks =
    let first : c ≡ record { state = d.state; done = c.done } = ap (λ (s : S). record { state = s; done = c.done }) states in
    let second : record { state = d.state; done = c.done } ≡ d = ap (λ (xs : List Bool). record { state = d.state; done = xs }) marks in
    first ∙ second

marks_stored : {S : Type 0} (done : List Bool) (next : Option S) (d : Configuration S) → with_marks done next ≡ Some d → (next ≡ Some d.state) × (d.done ≡ done)
marks_stored done None d e = cc (e)
marks_stored {S} done (Some s) d e =
    let made : Configuration S = record { state = s; done = done } in
    let same : made ≡ d = cc (e) in
    (ap (λ (x : Configuration S). Some x.state) same, sym (ap (λ (x : Configuration S). x.done) same))

stored_marks : {S : Type 0} (done : List Bool) (next : Option S) (d : Configuration S) → next ≡ Some d.state → d.done ≡ done → with_marks done next ≡ Some d
stored_marks {S} done next d is same =
    subst (λ (xs : List Bool). with_marks xs next ≡ Some d) same (ap (λ (o : Option S). with_marks d.done o) is)

in_listed : {X : Type 0} (o : Option X) (x : X) → IsKept (listed o) x → o ≡ Some x
in_listed None x (i, h) = cc (h)
in_listed (Some y) x (zero, h) = h
in_listed (Some y) x (suc i, h) = cc (h)

of_listed : {X : Type 0} (o : Option X) (x : X) → o ≡ Some x → IsKept (listed o) x
of_listed o x e = subst (λ o. IsKept (listed o) x) (sym e) (0, refl)

-- ---- a list of calls

in_each : {S C : Type 0} (effect : S → C → Option S) (c : Configuration S) (calls : List C) (d : Configuration S)
    → IsKept (after_each effect c calls) d → (call : C) × IsKept calls call × IsStored effect call c d
in_each effect c [] d is = absurd (kept_none d is)
in_each effect c (call ∷ calls) d is = elim (kept_either (listed (with_marks c.done (effect c.state call))) (after_each effect c calls) d is) [
  | inl here ↦ (call, kept_first calls call, marks_stored c.done (effect c.state call) d (in_listed (with_marks c.done (effect c.state call)) d here))
  | inr there ↦ let on = in_each effect c calls d there in (on.0, kept_later calls call on.0 on.1, on.2)
]

of_each : {S C : Type 0} (effect : S → C → Option S) (c : Configuration S) (calls : List C) (d : Configuration S) (call : C)
    → IsKept calls call → IsStored effect call c d → IsKept (after_each effect c calls) d
of_each effect c [] d call is stored = absurd (kept_none call is)
of_each {S} {C} effect c (first ∷ calls) d call is stored =
    let one = listed (with_marks c.done (effect c.state first)) in
    elim (kept_cases calls first call is) [
      | inl same ↦ kept_front one (after_each effect c calls) d
          (of_listed (with_marks c.done (effect c.state first)) d (stored_marks c.done (effect c.state first) d (ap (λ (x : C). effect c.state x) same ∙ stored.0) stored.1))
      | inr later ↦ kept_behind one (after_each effect c calls) d (of_each effect c calls d call later stored)
    ]

pub in_product : {S C : Type 0} (effect : S → C → Option S) (kept : List (Configuration S)) (calls : List C) (d : Configuration S)
    → IsKept (product effect kept calls) d → IsOfProduct effect kept calls d
in_product effect [] calls d is = absurd (kept_none d is)
in_product effect (c ∷ kept) calls d is = elim (kept_either (after_each effect c calls) (product effect kept calls) d is) [
  | inl here ↦ let on = in_each effect c calls d here in (c, on.0, kept_first kept c, on.1, on.2)
  | inr there ↦ let on = in_product effect kept calls d there in (on.0, on.1, kept_later kept c on.0 on.2, on.3, on.4)
]

pub of_product : {S C : Type 0} (effect : S → C → Option S) (kept : List (Configuration S)) (calls : List C) (d c : Configuration S) (call : C)
    → IsKept kept c → IsKept calls call → IsStored effect call c d → IsKept (product effect kept calls) d
of_product effect [] calls d c call is one stored = absurd (kept_none c is)
of_product {S} effect (first ∷ kept) calls d c call is one stored = elim (kept_cases kept first c is) [
  | inl same ↦ kept_front (after_each effect first calls) (product effect kept calls) d
      (of_each effect first calls d call one (subst (λ (x : Configuration S). IsStored effect call x d) (sym same) stored))
  | inr later ↦ kept_behind (after_each effect first calls) (product effect kept calls) d (of_product effect kept calls d c call later one stored)
]

-- ---- lists of calls

-- all configurations of the one list are in the other one
abbrev pub AreWithin : {X : Type 0} → List X → List X → Type 0
AreWithin {X} xs ys = (x : X) → IsKept xs x → IsKept ys x

pub product_within : {S C : Type 0} (effect : S → C → Option S) (xs ys : List (Configuration S)) (calls : List C) → AreWithin xs ys
    → AreWithin (product effect xs calls) (product effect ys calls)
product_within effect xs ys calls within d is =
    let from = in_product effect xs calls d is in of_product effect ys calls d from.0 from.1 (within from.0 from.2) from.3 from.4

pub products_within : {S C : Type 0} (effect : S → C → Option S) (xs ys : List (Configuration S)) (lists : List (List C)) → AreWithin xs ys
    → AreWithin (products effect xs lists) (products effect ys lists)
products_within effect xs ys [] within = within
products_within effect xs ys (calls ∷ lists) within =
    products_within effect (product effect xs calls) (product effect ys calls) lists (product_within effect xs ys calls within)

-- lists that are apart may have their effects in either order
product_swap : {S C : Type 0} (effect : S → C → Option S) (kept : List (Configuration S)) (calls more : List C) → ListsApart effect calls more
    → AreWithin (product effect (product effect kept calls) more) (product effect (product effect kept more) calls)
product_swap {S} effect kept calls more apart d is =
    let second = in_product effect (product effect kept calls) more d is in
    let first = in_product effect kept calls second.0 second.2 in
    let swap = (apart first.1 second.1 first.3 second.3).0 first.0.state second.0.state d.state first.4.0 second.4.0 in
    let m : Configuration S = record { state = swap.0; done = first.0.done } in
    of_product effect (product effect kept more) calls d m first.1
    (of_product effect kept more m first.0 second.1 first.2 second.3 (swap.1, refl)) first.3 (swap.2, second.4.1 ∙ first.4.1)

pub apart_back : {S C : Type 0} (effect : S → C → Option S) (calls more : List C) → ListsApart effect calls more → ListsApart effect more calls
apart_back effect calls more apart a b is_a is_b = let on = apart b a is_b is_a in (on.1, on.0)

-- the effects of a list that is apart from those before may be the first ones
pub products_first : {S C : Type 0} (effect : S → C → Option S) (kept : List (Configuration S)) (xs : List (List C)) (calls : List C) (ys : List (List C))
    → ((more : List C) → IsKept xs more → ListsApart effect more calls)
    → AreSame (products effect kept (xs ++ calls ∷ ys)) (products effect (product effect kept calls) (xs ++ ys))
products_first effect kept [] calls ys apart d = (λ is. is, λ is. is)
products_first {S} {C} effect kept (x ∷ xs) calls ys apart d =
    let on = products_first effect (product effect kept x) xs calls ys (λ more is. apart more (kept_later xs x more is)) d in
    let own = apart x (kept_first xs x) in (
      λ is. products_within effect (product effect (product effect kept x) calls) (product effect (product effect kept calls) x) (xs ++ ys)
          (product_swap effect kept x calls own) d (on.0 is),
      λ is. on.1 (products_within effect (product effect (product effect kept calls) x) (product effect (product effect kept x) calls) (xs ++ ys)
          (product_swap effect kept calls x (apart_back effect x calls own)) d is),
    )

-- ---- some configuration

pub possible_product : {S C : Type 0} (effect : S → C → Option S) (kept : List (Configuration S)) (calls : List C) (lists : List (List C))
    → AllSteady effect lists → AllPossible effect kept lists → AllPossible effect (product effect kept calls) lists
possible_product effect kept calls lists steady possible d more call is is_more is_call =
    let from = in_product effect kept calls d is in
    (steady more call is_more is_call from.0.state d.state from.1 from.4.0).0 (possible from.0 more call from.2 is_more is_call)

pub some_product : {S C : Type 0} (effect : S → C → Option S) (kept : List (Configuration S)) (lists : List (List C)) → AllSteady effect lists
    → AllPossible effect kept lists → ((calls : List C) → IsKept lists calls → (call : C) × IsKept calls call)
    → (c : Configuration S) × IsKept kept c → (c : Configuration S) × IsKept (products effect kept lists) c
some_product effect kept [] steady possible some one = one
some_product {S} effect kept (calls ∷ lists) steady possible some one =
    let call = some calls (kept_first lists calls) in
    let next = possible one.0 calls call.0 one.1 (kept_first lists calls) call.1 in
    let d : Configuration S = record { state = next.0; done = one.0.done } in
    some_product effect (product effect kept calls) lists (λ more it is is_more. steady more it (kept_later lists calls more is) is_more)
    (possible_product effect kept calls lists (λ more it is is_more. steady more it (kept_later lists calls more is) is_more)
    (λ c more it is_c is is_more. possible c more it is_c (kept_later lists calls more is) is_more))
    (λ more is. some more (kept_later lists calls more is))
    (d, of_product effect kept calls d one.0 call.0 one.1 call.1 (next.1, refl))

pub some_before : {S C : Type 0} (effect : S → C → Option S) (kept : List (Configuration S)) (lists : List (List C))
    → (c : Configuration S) × IsKept (products effect kept lists) c → (c : Configuration S) × IsKept kept c
some_before effect kept [] one = one
some_before effect kept (calls ∷ lists) one =
    let on = some_before effect (product effect kept calls) lists one in
    let from = in_product effect kept calls on.0 on.1 in (from.0, from.2)
