-- A part is joined to the configurations of a judge, and a part is set aside.
use Rattle.std.proofs.Common.{◌≡◌, ◌↔◌, ℕ, suc, List, [], ◌∷◌, ◌++◌, Some, slice_get, take, drop, ap, refl, sym, subst, ◌∙◌}
use Rattle.model_intervals.specs.Objects.{ends_past}
use Rattle.history_object.specs.declared.access.Access.{Access}
use Rattle.history_object.specs.declared.configuration.Configuration.{Configuration}
use Rattle.history_object.specs.Carried.{IsKept}
use Rattle.history_object.specs.Following.{TimedStanding}
use Rattle.history_object.specs.ObjectBytes.{State, bytes_of, effect}
use Rattle.history_parts.specs.declared.part.Part.{Part}
use Rattle.history_parts.specs.Aside.{IsPossible, IsSteady}
use Rattle.history_parts.specs.Parts.{AreAside, AreBeside, HasMoreJoined, IsSameWhole, stores_of}
use Rattle.history_parts.specs.Products.{AreSame, HasMoreThan, IsOfProduct, product, products}
use Rattle.history_parts.specs.Splits.{AreAfter, AreStoresTo, Fits, IsSplit}
use Rattle.history_parts.proofs.Beside.{aside_joined, aside_more, stores_more, stores_out, stores_split}
use Rattle.history_parts.proofs.Products.{in_product, of_product}
use Rattle.history_parts.proofs.Stores.{not_past, store_fits, store_steady}

-- a judge is the same as itself
pub same_whole : (judge : TimedStanding State Access) (parts : List Part) → IsSameWhole judge judge parts parts
same_whole judge parts = record { pending = refl; numbers = refl; kept = λ d. (λ is. is, λ is. is) }

-- those that were gathered are the product
pub product_same : (kept all : List (Configuration State)) (stores : List Access) → ((d : Configuration State) → IsKept all d ↔ IsOfProduct effect kept stores d)
    → AreSame all (product effect kept stores)
product_same kept all stores is d = (
  λ in_all. let one = (is d).0 in_all in of_product effect kept stores d one.0 one.1 one.2 one.3 one.4,
  λ in_product'. (is d).1 (in_product effect kept stores d in_product'),
)

-- a part is joined
pub part_joined : (old judge joined : TimedStanding State Access) (first parts parts' : List Part) (place : ℕ) (part : Part)
    → slice_get parts place ≡ Some part → parts' ≡ take place parts ++ drop (suc place) parts
    → joined.numbers ≡ judge.numbers → joined.standing.pending ≡ judge.standing.pending
    → AreSame joined.standing.kept (product effect judge.standing.kept part.stores.items)
    → IsSameWhole old judge first parts → AreAside judge.standing.kept (stores_of parts)
    → IsSameWhole old joined first parts' × AreAside joined.standing.kept (stores_of parts')
part_joined old judge joined first parts parts' place part at out numbers pending same was aside =
    let xs = stores_of (take place parts) in
    let ys = stores_of (drop (suc place) parts) in
    let stores = part.stores.items in
    let split = stores_split parts place part at in
    let rest : stores_of parts' ≡ xs ++ ys = ap (λ (l : List Part). stores_of l) out ∙ stores_out parts place in
    let on = aside_joined judge.standing.kept joined.standing.kept xs stores ys (subst (λ (l : List (List Access)). AreAside judge.standing.kept l) split aside) same in
    let kept = subst (λ (l : List (List Access)). AreSame (products effect judge.standing.kept l) (products effect joined.standing.kept (xs ++ ys))) (sym split) on.1 in
    let kept' = subst (λ (l : List (List Access)). AreSame (products effect judge.standing.kept (stores_of parts)) (products effect joined.standing.kept l)) (sym rest) kept in (
      record {
        pending = pending ∙ was.pending;
        numbers = numbers ∙ was.numbers;
        kept = λ d. (λ is. (kept' d).0 ((was.kept d).0 is), λ is. (was.kept d).1 ((kept' d).1 is));
      },
      subst (λ (l : List (List Access)). AreAside joined.standing.kept l) (sym rest) on.0,
    )

-- a part is set aside
pub part_set : (old new : TimedStanding State Access) (parts parts' : List Part) (part : Part) → parts' ≡ parts ++ part ∷ []
    → new.numbers ≡ old.numbers → new.standing.pending ≡ old.standing.pending → AreAside old.standing.kept (stores_of parts)
    → IsSplit old.standing.kept new.standing.kept part.stores.items → AreBeside part.stores.items (stores_of parts)
    → IsSameWhole old new parts parts' × AreAside new.standing.kept (stores_of parts')
part_set old new parts parts' part more numbers pending aside split beside =
    let on = aside_more old.standing.kept new.standing.kept (stores_of parts) part.stores.items aside split beside in
    let lists : stores_of parts' ≡ stores_of parts ++ part.stores.items ∷ [] = ap (λ (l : List Part). stores_of l) more ∙ stores_more parts part in (
      record {
        pending = pending;
        numbers = numbers;
        kept = subst (λ (l : List (List Access)). AreSame (products effect old.standing.kept (stores_of parts)) (products effect new.standing.kept l)) (sym lists) on.1;
      },
      subst (λ (l : List (List Access)). AreAside new.standing.kept l) (sym lists) on.0,
    )

-- stores within the object, and what is left without them
module _ (kept rest : List (Configuration State)) (stores : List Access) (off len : ℕ) (fits : Fits kept off len) (are : AreStoresTo off len stores) (after : AreAfter kept rest) where
  steady_so : (store : Access) → IsKept stores store → IsSteady effect store
  steady_so store is = let s = are store is in subst (λ (a : Access). IsSteady effect a) (sym s.1) (store_steady off s.0)

  possible_so : (d : Configuration State) (store : Access) → IsKept rest d → IsKept stores store → IsPossible effect d.state store
  possible_so d store is_d is =
      let from = after d is_d in
      let s = are store is in
      let within = not_past (bytes_of from.0.state) off len (fits from.0 from.2) in
      let before : IsPossible effect from.0.state store =
      subst (λ (a : Access). IsPossible effect from.0.state a) (sym s.1)
      (store_fits from.0.state off s.0 (ap (λ (n : ℕ). ends_past (bytes_of from.0.state) off n) s.2 ∙ within)) in
      (steady_so store is from.0.state d.state from.1 from.3.0).0 before

  pub split_so : AreSame kept (product effect rest stores) → (store : Access) × IsKept stores store → IsSplit kept rest stores
  split_so same some = record { same = same; after = after; steady = steady_so; possible = possible_so; some = some }

-- ---- too many configurations

-- a list has more where another one has the same elements
pub more_same : {X : Type 0} (most : ℕ) (xs ys : List X) → ((x : X) → IsKept xs x → IsKept ys x) → HasMoreThan most xs → HasMoreThan most ys
more_same most xs ys within more = (more.0, more.1, more.2, λ x is. within x (more.3 x is))

-- a part can't be joined, since there would be more than `most` configurations
pub more_joined : (old judge : TimedStanding State Access) (first parts : List Part) (place most : ℕ) (part : Part)
    → slice_get parts place ≡ Some part → HasMoreThan most (product effect judge.standing.kept part.stores.items)
    → IsSameWhole old judge first parts → AreAside judge.standing.kept (stores_of parts)
    → HasMoreJoined (products effect old.standing.kept (stores_of first)) most
more_joined old judge first parts place most part at many was aside =
    let joined = product effect judge.standing.kept part.stores.items in
    let then' : TimedStanding State Access = record { standing = record { pending = judge.standing.pending; kept = joined }; numbers = judge.numbers } in
    let on = part_joined old judge then' first parts (take place parts ++ drop (suc place) parts) place part at refl refl refl (λ d. (λ is. is, λ is. is)) was aside in
    record {
      kept = joined;
      lists = stores_of (take place parts ++ drop (suc place) parts);
      same = on.0.kept;
      aside = on.1;
      many = many;
    }
