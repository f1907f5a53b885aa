-- What follows of a chain of steps that was not refused.
use Rattle.std.proofs.Common.{◌≡◌, Bool, true, false, ap, refl, ◌⊎◌, inl, inr, Option, Some, None, Result, Ok, Err}
use Rattle.model_words.specs.Words.{◌>>=◌, or_refuse, refuse_if}

-- the option had a value, and the step after it was not refused
pub record Went {A B E : Type 0} (o : Option A) (next : A → Result B E) (y : B) : Type 0 where
  pub value : A
  pub is : o ≡ Some value
  pub then : next value ≡ Ok y

-- the value that the chain went on with
pub or_refuse_went : {A B E : Type 0} (e : E) (o : Option A) (next : A → Result B E) (y : B) → (or_refuse e o >>= next) ≡ Ok y → Went o next y
or_refuse_went e None next y h = absurd (cc)
or_refuse_went e (Some x) next y h = record { value = x; is = refl; then = h }

-- the first step was not refused, nor the one after it
pub record WentOn {A B E : Type 0} (first : Result A E) (next : A → Result B E) (y : B) : Type 0 where
  pub value : A
  pub is : first ≡ Ok value
  pub then : next value ≡ Ok y

-- what the first step gave, and the chain went on with
pub went_on : {A B E : Type 0} (first : Result A E) (next : A → Result B E) (y : B) → (first >>= next) ≡ Ok y → WentOn first next y
went_on (Err e) next y h = absurd (cc)
went_on (Ok x) next y h = record { value = x; is = refl; then = h }

-- the test did not hold, and the step after it was not refused
pub refuse_if_went : {B E : Type 0} (e : E) (b : Bool) (next : Unit {0} → Result B E) (y : B) → (refuse_if e b >>= next) ≡ Ok y
    → (b ≡ false) × (next tt ≡ Ok y)
refuse_if_went e true next y h = absurd (cc)
refuse_if_went e false next y h = (refl, h)

-- the test of a last step did not hold
pub refuse_last : {E : Type 0} (e : E) (b : Bool) (y : Unit {0}) → refuse_if e b ≡ Ok y → b ≡ false
refuse_last e true y h = absurd (cc)
refuse_last e false y h = refl

-- why the chain was refused: by the first test, or after it
pub refuse_if_refused : {B E : Type 0} (e : E) (b : Bool) (next : Unit {0} → Result B E) (x : E) → (refuse_if e b >>= next) ≡ Err x
    → ((b ≡ true) × (e ≡ x)) ⊎ ((b ≡ false) × (next tt ≡ Err x))
refuse_if_refused e true next x h = inl (refl, cc h)
refuse_if_refused e false next x h = inr (refl, h)

-- why the chain was refused: for want of the value, or after it
pub or_refuse_refused : {A B E : Type 0} (e : E) (o : Option A) (next : A → Result B E) (x : E) → (or_refuse e o >>= next) ≡ Err x
    → ((o ≡ None) × (e ≡ x)) ⊎ ((value : A) × (o ≡ Some value) × (next value ≡ Err x))
or_refuse_refused e None next x h = inl (refl, cc h)
or_refuse_refused e (Some value) next x h = inr (value, refl, h)

-- the refusal of a last test
pub last_test : {E : Type 0} (e : E) (b : Bool) (x : E) → refuse_if e b ≡ Err x → e ≡ x
last_test e true x h = cc h
last_test e false x h = absurd (cc)

-- where only the first step can be refused, it was
pub first_refused : {A B E : Type 0} (first : Result A E) (last : A → B) (x : E) → (first >>= λ value. Ok (last value)) ≡ Err x → first ≡ Err x
first_refused (Err e) last x h = let same : e ≡ x = cc h in ap Err same
first_refused (Ok value) last x h = absurd (cc)
