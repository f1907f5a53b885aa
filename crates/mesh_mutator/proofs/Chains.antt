-- Two chains of refusals that go on alike.
use Rattle.std.proofs.Common.{◌≡◌, Bool, true, false, Result, Ok, Err, ap, refl, sym, ◌∙◌, is_ok}
use Rattle.model_words.specs.Words.{◌>>=◌, refuse_if}
use Rattle.model_words.specs.declared.refusals.Refusal.{Refusal}

-- what is made of the value of a chain, if it has one
abbrev pub made_of : {A B : Type 0} → (A → B) → Result A Refusal → Result B Refusal
made_of make r = r >>= λ x. Ok (make x)

-- a chain goes on from what its first step gives
pub first_is : {N B : Type 0} (n r : Result N Refusal) (f : N → Result B Refusal) → n ≡ r → (n >>= f) ≡ (r >>= f)
first_is {N = N} n r f is = ap (λ (x : Result N Refusal). x >>= f) is

-- what went on has a value
pub value_of : {A : Type 0} (r : Result A Refusal) → is_ok r ≡ true → (x : A) × (r ≡ Ok x)
value_of (Ok x) went = (x, refl)
value_of (Err e) went = absurd (cc went)

-- chains that begin with the same step are alike where they go on alike
pub after_same : {N A B : Type 0} (n m : Result N Refusal) (f : N → Result A Refusal) (g : N → Result B Refusal) (make : A → B) → n ≡ m
    → ((x : N) → g x ≡ made_of make (f x)) → (m >>= g) ≡ made_of make (n >>= f)
after_same n m f g make same alike = first_is m n g (sym same) ∙ go n
  where
    go : (r : _) → (r >>= g) ≡ made_of make (r >>= f)
    go (Ok x) = alike x
    go (Err e) = refl

-- the same test before both
pub test_same : {A B : Type 0} (refusal : Refusal) (b : Bool) (x : A) (make : A → B)
    → (refuse_if refusal b >>= λ _. Ok (make x)) ≡ made_of make (refuse_if refusal b >>= λ _. Ok x)
test_same refusal true x make = refl
test_same refusal false x make = refl
