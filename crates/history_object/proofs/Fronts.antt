-- The front of a list of numbers up to the last one of a kind.
use Rattle.std.proofs.Common.{◌≡◌, ◌⊎◌, inl, inr, ℕ, List, [], ◌∷◌, ◌++◌, Option, Some, None, ap, refl, ◌∙◌}
use Rattle.history_object.specs.Carried.{after_all, going_on}
use Rattle.history_object.specs.Orders.{IsIn}
use Rattle.history_object.proofs.Pairs.{Every, Pairs, every_both}
use Rattle.history_object.proofs.NumberLists.{every_in}

-- each number is of the kind, or stands in front of one that is
abbrev pub Leads : (ℕ → Type 0) → List ℕ → Type 0
Leads kind [] = Unit {0}
Leads kind (n ∷ ns) = (kind n ⊎ ((e : ℕ) × IsIn e ns × kind e)) × Leads kind ns

-- the front of a list up to the last number of a kind, and the rest
pub record HasFront (kind : ℕ → Type 0) (ns : List ℕ) : Type 0 where
  pub front : List ℕ
  pub back : List ℕ
  pub is : ns ≡ front ++ back
  pub leads : Leads kind front
  pub none : Every (λ n. kind n → ⊥) back

pub has_front : (kind : ℕ → Type 0) → ((n : ℕ) → kind n ⊎ (kind n → ⊥)) → (ns : List ℕ) → HasFront kind ns
has_front kind test [] = record { front = []; back = []; is = refl; leads = tt; none = tt }
has_front kind test (n ∷ ns) = elim (test n) [
  | inl has ↦ (let rest = has_front kind test ns in record {
    front = n ∷ rest.front;
    back = rest.back;
    is = ap (λ (ks : List ℕ). n ∷ ks) rest.is;
    leads = (inl has, rest.leads);
    none = rest.none;
  })
  | inr hasnt ↦ (let rest = has_front kind test ns in longer kind n ns hasnt rest.front rest.back rest.is rest.leads rest.none)
]
  where
    longer : (kind : ℕ → Type 0) (n : ℕ) (ns : List ℕ) → (kind n → ⊥) → (front back : List ℕ) → ns ≡ front ++ back → Leads kind front
        → Every (λ k. kind k → ⊥) back → HasFront kind (n ∷ ns)
    longer kind n ns hasnt [] back is leads none =
        record { front = []; back = n ∷ back; is = ap (λ (ks : List ℕ). n ∷ ks) is; leads = tt; none = (hasnt, none) }
    longer kind n ns hasnt (f ∷ front) back is leads none = record {
      front = n ∷ f ∷ front;
      back = back;
      is = ap (λ (ks : List ℕ). n ∷ ks) is;
      leads = (inr (elim leads.0 [ inl has ↦ (f, inl refl, has) | inr later ↦ (later.0, inr later.1, later.2) ]), leads);
      none = none;
    }

-- what holds of the whole holds of the front
pub every_front : (P : ℕ → Type 0) (front back : List ℕ) → Every P (front ++ back) → Every P front
every_front P [] back every = tt
every_front P (n ∷ front) back every = (every.0, every_front P front back every.1)

pub pairs_front : (R : ℕ → ℕ → Type 0) (front back : List ℕ) → Pairs R (front ++ back) → Pairs R front
pairs_front R [] back pairs = tt
pairs_front R (n ∷ front) back pairs = (every_front (R n) front back pairs.0, pairs_front R front back pairs.1)

-- effects in the whole order are effects in its front first
pub front_leads : {S : Type 0} → (effect : S → ℕ → Option S) (front back : List ℕ) (state last : S) → after_all effect (front ++ back) state ≡ Some last
    → (middle : S) × (after_all effect front state ≡ Some middle)
front_leads effect [] back state last e = (state, refl)
front_leads {S} effect (n ∷ front) back state last e =
    elim (effect state n) as (λ next. going_on (after_all effect (front ++ back)) next ≡ Some last → (middle : S) × (going_on (after_all effect front) next ≡ Some middle)) [
      | None ↦ λ none. cc
      | Some s ↦ λ is. front_leads effect front back s last is
    ] e

-- two kinds of effects that are the same at these numbers
pub same_after : {S : Type 0} → (f g : S → ℕ → Option S) (P : ℕ → Type 0) (ns : List ℕ) (state : S) → ((s : S) (n : ℕ) → P n → f s n ≡ g s n) → Every P ns
    → after_all f ns state ≡ after_all g ns state
same_after f g P [] state same every = refl
same_after {S} f g P (n ∷ ns) state same every =
    ap (λ o. going_on (after_all f ns) o) (same state n every.0) ∙ on (after_all f ns) (after_all g ns) (g state n) (λ s. same_after f g P ns s same every.1)
  where
    on : (f g : S → Option S) (next : Option S) → ((s : S) → f s ≡ g s) → going_on f next ≡ going_on g next
    on f g None same = refl
    on f g (Some s) same = same s

-- what a number that stands in front of one of the kind has, each number of the front has
pub leads_hold : (kind : ℕ → Type 0) (R : ℕ → ℕ → Type 0) (P Q : ℕ → Type 0) (ns : List ℕ) → ((n : ℕ) → kind n → P n)
    → ((n e : ℕ) → Q n → R n e → kind e → P n) → Leads kind ns → Pairs R ns → Every Q ns → Every P ns
leads_hold kind R P Q [] own ahead leads pairs every = tt
leads_hold kind R P Q (n ∷ ns) own ahead leads pairs every = (
  elim leads.0 [ inl has ↦ own n has | inr later ↦ ahead n later.0 every.0 (every_in (R n) ns later.0 pairs.0 later.1) later.2 ],
  leads_hold kind R P Q ns own ahead leads.1 pairs.1 every.1,
)

-- what follows of each pair of numbers of a kind
pub pairs_within : (R S : ℕ → ℕ → Type 0) (P : ℕ → Type 0) (ns : List ℕ) → ((m n : ℕ) → R m n → P m → P n → S m n) → Pairs R ns → Every P ns → Pairs S ns
pairs_within R S P [] rule pairs every = tt
pairs_within R S P (n ∷ ns) rule pairs every =
    (every_both (R n) P (S n) ns (λ k r p. rule n k r every.0 p) pairs.0 every.1, pairs_within R S P ns rule pairs.1 every.1)
