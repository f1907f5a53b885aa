-- Quantifiers over a list by recursion: each element, some element, each two elements.
use Rattle.std.proofs.Common.{◌≡◌, ◌⊎◌, inl, inr, Bool, true, false, List, [], ◌∷◌, ◌++◌, map, refl}

-- the predicate holds of each element
abbrev pub Every : {X : Type 0} → (X → Type 0) → List X → Type 0
Every P [] = Unit {0}
Every P (x ∷ xs) = P x × Every P xs

-- the relation holds between each element and each later one
abbrev pub Pairs : {X : Type 0} → (X → X → Type 0) → List X → Type 0
Pairs R [] = Unit {0}
Pairs R (x ∷ xs) = Every (R x) xs × Pairs R xs

-- the predicate holds of some element
abbrev pub Has : {X : Type 0} → (X → Type 0) → List X → Type 0
Has P [] = ⊥
Has P (x ∷ xs) = P x ⊎ Has P xs

-- a test is true or false
pub tells : (b : Bool) → (b ≡ true) ⊎ (b ≡ false)
tells true = inl refl
tells false = inr refl

-- implication under `Every`, from one premise, from two and from none
pub every_weaker : {X : Type 0} (P Q : X → Type 0) (xs : List X) → ((x : X) → P x → Q x) → Every P xs → Every Q xs
every_weaker P Q [] f h = tt
every_weaker P Q (x ∷ xs) f h = (f x h.0, every_weaker P Q xs f h.1)

pub every_both : {X : Type 0} (P Q S : X → Type 0) (xs : List X) → ((x : X) → P x → Q x → S x) → Every P xs → Every Q xs → Every S xs
every_both P Q S [] f h k = tt
every_both P Q S (x ∷ xs) f h k = (f x h.0 k.0, every_both P Q S xs f h.1 k.1)

pub every_true : {X : Type 0} (P : X → Type 0) (xs : List X) → ((x : X) → P x) → Every P xs
every_true P [] f = tt
every_true P (x ∷ xs) f = (f x, every_true P xs f)

-- exchanging `Every` and a quantifier over an index
pub every_all : {I X : Type 0} (Q : I → X → Type 0) (xs : List X) → ((i : I) → Every (Q i) xs) → Every (λ x. (i : I) → Q i x) xs
every_all Q [] h = tt
every_all Q (x ∷ xs) h = (λ i. (h i).0, every_all Q xs (λ i. (h i).1))

pub every_map : {X Y : Type 0} (f : X → Y) (P : Y → Type 0) (xs : List X) → Every (λ x. P (f x)) xs → Every P (map f xs)
every_map f P [] h = tt
every_map f P (x ∷ xs) h = (h.0, every_map f P xs h.1)

-- implication under `Pairs`, with a premise on each element
pub pairs_weaker : {X : Type 0} (P : X → Type 0) (R S : X → X → Type 0) (xs : List X) → ((x y : X) → R x y → P x → P y → S x y) → Pairs R xs → Every P xs → Pairs S xs
pairs_weaker P R S [] rule pairs every = tt
pairs_weaker P R S (x ∷ xs) rule pairs every = (
  every_both (R x) P (S x) xs (λ y r p. rule x y r every.0 p) pairs.0 every.1,
  pairs_weaker P R S xs rule pairs.1 every.1,
)

pub pairs_map : {X Y : Type 0} (f : X → Y) (P : X → Type 0) (R : X → X → Type 0) (S : Y → Y → Type 0) (xs : List X)
    → ((x y : X) → R x y → P x → P y → S (f x) (f y)) → Pairs R xs → Every P xs → Pairs S (map f xs)
pairs_map f P R S [] rule pairs every = tt
pairs_map f P R S (x ∷ xs) rule pairs every = (
  every_map f (S (f x)) xs (every_both (R x) P (λ y. S (f x) (f y)) xs (λ y r p. rule x y r every.0 p) pairs.0 every.1),
  pairs_map f P R S xs rule pairs.1 every.1,
)

-- implication under `Has`, also with a premise on each element
pub has_weaker : {X : Type 0} (P Q : X → Type 0) (xs : List X) → ((x : X) → P x → Q x) → Has P xs → Has Q xs
has_weaker P Q [] f h = h
has_weaker P Q (x ∷ xs) f (inl here) = inl (f x here)
has_weaker P Q (x ∷ xs) f (inr later) = inr (has_weaker P Q xs f later)

pub has_every : {X : Type 0} (P Q S : X → Type 0) (xs : List X) → ((x : X) → P x → Q x → S x) → Has P xs → Every Q xs → Has S xs
has_every P Q S [] f h k = h
has_every P Q S (x ∷ xs) f (inl here) k = inl (f x here k.0)
has_every P Q S (x ∷ xs) f (inr later) k = inr (has_every P Q S xs f later k.1)

-- elimination of `Has`
pub has_out : {X : Type 0} (P : X → Type 0) (G : Type 0) (xs : List X) → ((x : X) → P x → G) → Has P xs → G
has_out P G [] f h = absurd h
has_out P G (x ∷ xs) f (inl here) = f x here
has_out P G (x ∷ xs) f (inr later) = has_out P G xs f later

pub has_map : {X Y : Type 0} (f : X → Y) (P : Y → Type 0) (xs : List X) → Has (λ x. P (f x)) xs → Has P (map f xs)
has_map f P [] h = h
has_map f P (x ∷ xs) (inl here) = inl here
has_map f P (x ∷ xs) (inr later) = inr (has_map f P xs later)

pub has_unmap : {X Y : Type 0} (f : X → Y) (P : Y → Type 0) (xs : List X) → Has P (map f xs) → Has (λ x. P (f x)) xs
has_unmap f P [] h = h
has_unmap f P (x ∷ xs) (inl here) = inl here
has_unmap f P (x ∷ xs) (inr later) = inr (has_unmap f P xs later)

-- the quantifiers over two joined lists
pub every_append : {X : Type 0} (P : X → Type 0) (xs ys : List X) → Every P xs → Every P ys → Every P (xs ++ ys)
every_append P [] ys h k = k
every_append P (x ∷ xs) ys h k = (h.0, every_append P xs ys h.1 k)

pub pairs_append : {X : Type 0} (R : X → X → Type 0) (xs ys : List X) → Pairs R xs → Pairs R ys → Every (λ x. Every (R x) ys) xs → Pairs R (xs ++ ys)
pairs_append R [] ys h k across = k
pairs_append R (x ∷ xs) ys h k across = (every_append (R x) xs ys h.0 across.0, pairs_append R xs ys h.1 k across.1)

-- exchanging two nested `Every`
pub every_turn : {X Y : Type 0} (R : X → Y → Type 0) (xs : List X) (ys : List Y) → Every (λ x. Every (R x) ys) xs → Every (λ y. Every (λ x. R x y) xs) ys
every_turn R xs [] h = tt
every_turn R xs (y ∷ ys) h = (
  every_weaker (λ x. Every (R x) (y ∷ ys)) (λ x. R x y) xs (λ x each. each.0) h,
  every_turn R xs ys (every_weaker (λ x. Every (R x) (y ∷ ys)) (λ x. Every (R x) ys) xs (λ x each. each.1) h),
)

pub every_unmap : {X Y : Type 0} (f : X → Y) (P : Y → Type 0) (xs : List X) → Every P (map f xs) → Every (λ x. P (f x)) xs
every_unmap f P [] h = tt
every_unmap f P (x ∷ xs) h = (h.0, every_unmap f P xs h.1)

pub pairs_unmap : {X Y : Type 0} (f : X → Y) (R : Y → Y → Type 0) (xs : List X) → Pairs R (map f xs) → Pairs (λ x y. R (f x) (f y)) xs
pairs_unmap f R [] h = tt
pairs_unmap f R (x ∷ xs) h = (every_unmap f (R (f x)) xs h.0, pairs_unmap f R xs h.1)

pub pairs_join : {X : Type 0} (R S : X → X → Type 0) (xs : List X) → Pairs R xs → Pairs S xs → Pairs (λ x y. R x y × S x y) xs
pairs_join R S [] h k = tt
pairs_join R S (x ∷ xs) h k = (every_both (R x) (S x) (λ y. R x y × S x y) xs (λ y r s. (r, s)) h.0 k.0, pairs_join R S xs h.1 k.1)
