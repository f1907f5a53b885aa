-- Parts that are joined to the configurations, and set aside.
use Rattle.std.proofs.Common.{◌≡◌, ◌⊎◌, inl, inr, ℕ, zero, suc, List, [], ◌∷◌, ◌++◌, Option, Some, slice_get, take, drop, ap, sym, subst, ◌∙◌}
use Rattle.std.proofs.lemmas.List.{append-nil, map-append}
use Rattle.history_object.specs.declared.access.Access.{Access}
use Rattle.history_object.specs.declared.configuration.Configuration.{Configuration}
use Rattle.history_object.specs.Carried.{IsKept}
use Rattle.history_object.specs.ObjectBytes.{State, effect}
use Rattle.history_parts.specs.declared.part.Part.{Part}
use Rattle.history_parts.specs.Aside.{AllApart, ListsApart}
use Rattle.history_parts.specs.Parts.{AreAside, AreBeside, stores_of}
use Rattle.history_parts.specs.Products.{AreSame, product, products}
use Rattle.history_parts.specs.Splits.{IsSplit}
use Rattle.history_parts.proofs.EndsAside.{EndsAs, possible_left}
use Rattle.history_parts.proofs.Products.{kept_behind, kept_cases, kept_either, kept_first, kept_front, kept_later, kept_none, possible_product, products_first, products_within}

-- what is in a list with one left out is in the list
kept_with : {X : Type 0} (xs : List X) (y : X) (ys : List X) (x : X) → IsKept (xs ++ ys) x → IsKept (xs ++ y ∷ ys) x
kept_with xs y ys x is = elim (kept_either xs ys x is) [
  | inl front ↦ kept_front xs (y ∷ ys) x front
  | inr back ↦ kept_behind xs (y ∷ ys) x (kept_later ys y x back)
]

-- ---- a part is joined

apart_out : {S C : Type 0} (effect : S → C → Option S) (xs : List (List C)) (stores : List C) (ys : List (List C)) → AllApart effect (xs ++ stores ∷ ys)
    → AllApart effect (xs ++ ys) × ((more : List C) → IsKept xs more → ListsApart effect more stores)
apart_out effect [] stores ys apart = (apart.1, λ more is. absurd (kept_none more is))
apart_out {S} {C} effect (x ∷ xs) stores ys apart =
    let on = apart_out effect xs stores ys apart.1 in (
      (λ more is. apart.0 more (kept_with xs stores ys more is), on.0),
      λ more is. elim (kept_cases xs x more is) [
        | inl same ↦ subst (λ (it : List C). ListsApart effect it stores) same (apart.0 stores (kept_behind xs (stores ∷ ys) stores (kept_first ys stores)))
        | inr later ↦ on.1 more later
      ],
    )

-- the parts without the one that was joined, and the configurations with its stores
pub aside_joined : (kept joined : List (Configuration State)) (xs : List (List Access)) (stores : List Access) (ys : List (List Access))
    → AreAside kept (xs ++ stores ∷ ys) → AreSame joined (product effect kept stores)
    → AreAside joined (xs ++ ys) × AreSame (products effect kept (xs ++ stores ∷ ys)) (products effect joined (xs ++ ys))
aside_joined kept joined xs stores ys aside same =
    let out = apart_out effect xs stores ys aside.apart in
    let first = products_first effect kept xs stores ys out.1 in (
      record {
        apart = out.0;
        steady = λ more store is. aside.steady more store (kept_with xs stores ys more is);
        possible = λ c more store is is_more. possible_product effect kept stores (xs ++ ys)
            (λ lists it is_lists. aside.steady lists it (kept_with xs stores ys lists is_lists))
            (λ from lists it is_from is_lists. aside.possible from lists it is_from (kept_with xs stores ys lists is_lists))
            c more store ((same c).0 is) is_more;
        some = λ more is. aside.some more (kept_with xs stores ys more is);
      },
      λ d. (
        λ is. products_within effect (product effect kept stores) joined (xs ++ ys) (λ c in_product. (same c).1 in_product) d ((first d).0 is),
        λ is. (first d).1 (products_within effect joined (product effect kept stores) (xs ++ ys) (λ c in_joined. (same c).0 in_joined) d is),
      ),
    )

-- ---- a part is set aside

apart_more : {S C : Type 0} (effect : S → C → Option S) (lists : List (List C)) (stores : List C) → AllApart effect lists
    → ((more : List C) → IsKept lists more → ListsApart effect more stores) → AllApart effect (lists ++ stores ∷ [])
apart_more effect [] stores apart beside = (λ more is. absurd (kept_none more is), tt)
apart_more {S} {C} effect (x ∷ lists) stores apart beside = (
  λ more is. elim (kept_either lists (stores ∷ []) more is) [
    | inl before ↦ apart.0 more before
    | inr last ↦ elim (kept_cases [] stores more last) [
      | inl same ↦ subst (λ (it : List C). ListsApart effect x it) same (beside x (kept_first lists x))
      | inr none ↦ absurd (kept_none more none)
    ]
  ],
  apart_more effect lists stores apart.1 (λ more is. beside more (kept_later lists x more is)),
)

-- a part at the end of the list is one of the parts before, or the new one
pub last_or : {X : Type 0} (xs : List X) (y x : X) → IsKept (xs ++ y ∷ []) x → IsKept xs x ⊎ (y ≡ x)
last_or xs y x is = elim (kept_either xs (y ∷ []) x is) [
  | inl before ↦ inl before
  | inr last ↦ elim (kept_cases [] y x last) [ inl same ↦ inr same | inr none ↦ absurd (kept_none x none) ]
]

pub aside_more : (kept rest : List (Configuration State)) (lists : List (List Access)) (stores : List Access)
    → AreAside kept lists → IsSplit kept rest stores → AreBeside stores lists
    → AreAside rest (lists ++ stores ∷ []) × AreSame (products effect kept lists) (products effect rest (lists ++ stores ∷ []))
aside_more kept rest lists stores aside split beside =
    let first = products_first effect rest lists stores [] beside in
    let whole : AreSame (products effect rest (lists ++ stores ∷ [])) (products effect (product effect rest stores) lists) =
    subst (λ (l : List (List Access)). AreSame (products effect rest (lists ++ stores ∷ [])) (products effect (product effect rest stores) l)) (append-nil lists) first in (
      record {
        apart = apart_more effect lists stores aside.apart beside;
        steady = λ more store is is_store. elim (last_or lists stores more is) [
          | inl before ↦ aside.steady more store before is_store
          | inr same ↦ split.steady store (subst (λ (it : List Access). IsKept it store) (sym same) is_store)
        ];
        possible = λ d more store is is_more is_store. elim (last_or lists stores more is_more) [
          | inl before ↦
              let from = split.after d is in
              (aside.steady more store before is_store from.0.state d.state from.1 from.3.0).0 (aside.possible from.0 more store from.2 before is_store)
          | inr same ↦ split.possible d store is (subst (λ (it : List Access). IsKept it store) (sym same) is_store)
        ];
        some = λ more is. elim (last_or lists stores more is) [
          | inl before ↦ aside.some more before
          | inr same ↦ subst (λ (it : List Access). (store : Access) × IsKept it store) same split.some
        ];
      },
      λ d. (
        λ is. (whole d).1 (products_within effect kept (product effect rest stores) lists (λ c in_kept. (split.same c).0 in_kept) d is),
        λ is. products_within effect (product effect rest stores) kept lists (λ c in_product. (split.same c).1 in_product) d ((whole d).0 is),
      ),
    )

-- ---- a call ends

pub aside_left : (pending : List (Option Access)) (place : ℕ) (kept left : List (Configuration State)) (lists : List (List Access))
    → AreAside kept lists → EndsAs effect pending place kept left → AreAside left lists
aside_left pending place kept left lists aside ends = record {
  apart = aside.apart;
  steady = aside.steady;
  possible = possible_left effect pending place kept left lists ends aside.steady aside.possible;
  some = aside.some;
}

-- ---- the lists of parts

split_at : {X : Type 0} (xs : List X) (i : ℕ) (x : X) → slice_get xs i ≡ Some x → xs ≡ take i xs ++ x ∷ drop (suc i) xs
split_at [] i x h = cc (h)
split_at (y ∷ xs) zero x h = let same : y ≡ x = cc (h) in ap (λ z. z ∷ xs) same
split_at (y ∷ xs) (suc i) x h = ap (λ l. y ∷ l) (split_at xs i x h)

pub stores_split : (parts : List Part) (i : ℕ) (part : Part) → slice_get parts i ≡ Some part
    → stores_of parts ≡ stores_of (take i parts) ++ part.stores.items ∷ stores_of (drop (suc i) parts)
stores_split parts i part at =
    ap (λ (l : List Part). stores_of l) (split_at parts i part at) ∙ map-append (λ (p : Part). p.stores.items) (take i parts) (part ∷ drop (suc i) parts)

pub stores_out : (parts : List Part) (i : ℕ) → stores_of (take i parts ++ drop (suc i) parts) ≡ stores_of (take i parts) ++ stores_of (drop (suc i) parts)
stores_out parts i = map-append (λ (p : Part). p.stores.items) (take i parts) (drop (suc i) parts)

pub stores_more : (parts : List Part) (part : Part) → stores_of (parts ++ part ∷ []) ≡ stores_of parts ++ part.stores.items ∷ []
stores_more parts part = map-append (λ (p : Part). p.stores.items) parts (part ∷ [])
