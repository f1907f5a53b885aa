-- A chain of tests in the order of the refusals' numbers tells the lowest refusal that holds.
use Rattle.std.proofs.Common.{◌≡◌, ℕ, ◌+◌, ◌≤◌, Bool, true, false, List, [], ◌∷◌, slice_index_or, ap, subst, refl, sym, ◌∙◌, arith, ◌⊎◌, inl, inr, Option, Some, None, Result, Ok, Err, lit≤}
use Rattle.std.proofs.lemmas.Bool.Decides.{eqb_tells}
use Rattle.model_words.specs.Replies.{is_refusal, IsRepliedBy}
use Rattle.model_words.specs.Refusals.{IsLowest, IsRefusedBy, number_of}
use Rattle.model_words.specs.Words.{◌>>=◌, or_refuse, refuse_if}
use Rattle.model_words.specs.declared.commands.Reply.{Reply}
use Rattle.model_words.specs.declared.commands.Reply.TheVariants.{Refused}
use Rattle.model_words.specs.declared.refusals.Refusal.{Refusal}
use Rattle.model_words.specs.declared.refusals.Refusal.TheVariants.{Zero, TooLarge, NoPages, NoAddresses, Empty, Freed, Outside, Stray, NoGroup, Same, Class, Busy, Overlap, Members, NoMesh, TooLate, NotEmpty}

-- the refusals by their numbers
abbrev by_number : List Refusal
by_number =
    Zero ∷ Zero ∷ TooLarge ∷ NoPages ∷ NoAddresses ∷ Empty ∷ Freed ∷ Outside ∷ Stray ∷ NoGroup ∷ Same ∷ Class ∷ Busy ∷ Overlap ∷ Members ∷ NoMesh ∷ TooLate
    ∷ NotEmpty ∷ []

-- the refusal of its number
of_number : (r : Refusal) → slice_index_or by_number (number_of r) Zero ≡ r
of_number Zero = refl
of_number r = refl

-- refusals of one number are one
same_number : (r s : Refusal) → number_of r ≡ number_of s → r ≡ s
same_number r s same = sym (of_number r) ∙ ap (λ (n : ℕ). slice_index_or by_number n Zero) same ∙ of_number s

-- the numbers end
number_few : (r : Refusal) → number_of r ≤ 17
number_few Zero = lit≤ tt
number_few r = lit≤ tt

-- no refusal below the number holds
abbrev pub AreFrom : ℕ → (Refusal → Type 0) → Type 0
AreFrom n holds = (r : Refusal) → holds r → n ≤ number_of r

-- where none does up to the last, none does
pub none_holds : (holds : Refusal → Type 0) → AreFrom 18 holds → (r : Refusal) → ¬ holds r
none_holds holds from r h = let low = from r h in let high = number_few r in omega (arith, low, high)

-- one that doesn't hold is passed
pub passed : (holds : Refusal → Type 0) (e : Refusal) → AreFrom (number_of e) holds → ¬ holds e → AreFrom (number_of e + 1) holds
passed holds e from none r h = elim (eqb_tells (number_of e) (number_of r)) [
  | inl same ↦ absurd (none (subst holds (sym (same_number e r same.1)) h))
  | inr other ↦ let low = from r h in let apart = other.1 in omega (arith, low, apart)
]

-- a value, where no refusal holds, or the lowest that holds
abbrev pub Told : (A : Type 0) → (Refusal → Type 0) → Result A Refusal → Type 0
Told A holds result = ((x : A) × (result ≡ Ok x) × ((r : Refusal) → ¬ holds r)) ⊎ ((r : Refusal) × (result ≡ Err r) × IsLowest holds r)

-- a value is told where no refusal holds
pub told_ok : (A : Type 0) (holds : Refusal → Type 0) (x : A) → ((r : Refusal) → ¬ holds r) → Told A holds (Ok x)
told_ok A holds x none = inl (x, refl, none)

-- a test is told by its refusal, or by the next one
pub told_if : (A : Type 0) (holds : Refusal → Type 0) (e : Refusal) (b : Bool) (next : Unit {0} → Result A Refusal) → AreFrom (number_of e) holds
    → (b ≡ true → holds e) → (b ≡ false → ¬ holds e) → (b ≡ false → AreFrom (number_of e + 1) holds → Told A holds (next tt))
    → Told A holds (refuse_if e b >>= next)
told_if A holds e true next from is none rest = inr (e, refl, (is refl, from))
told_if A holds e false next from is none rest = rest refl (passed holds e from (none refl))

-- a value that is wanted is told by its refusal, or by the next test
pub told_some : (A B : Type 0) (holds : Refusal → Type 0) (e : Refusal) (o : Option B) (next : B → Result A Refusal) → AreFrom (number_of e) holds
    → (o ≡ None → holds e) → ((x : B) → o ≡ Some x → Told A holds (next x)) → Told A holds (or_refuse e o >>= next)
told_some A B holds e None next from is rest = inr (e, refl, (is refl, from))
told_some A B holds e (Some x) next from is rest = rest x refl

-- the same of a first step that another one follows
pub told_then : (A B C : Type 0) (holds : Refusal → Type 0) (e : Refusal) (o : Option C) (first : C → Result B Refusal) (next : B → Result A Refusal)
    → AreFrom (number_of e) holds → (o ≡ None → holds e) → ((x : C) → o ≡ Some x → Told A holds (first x >>= next))
    → Told A holds ((or_refuse e o >>= first) >>= next)
told_then A B C holds e None first next from is rest = inr (e, refl, (is refl, from))
told_then A B C holds e (Some x) first next from is rest = rest x refl

-- a last test is told
pub told_last : (holds : Refusal → Type 0) (e : Refusal) (b : Bool) → AreFrom (number_of e) holds → (b ≡ true → holds e)
    → (b ≡ false → (r : Refusal) → ¬ holds r) → Told (Unit {0}) holds (refuse_if e b)
told_last holds e true from is none = inr (e, refl, (is refl, from))
told_last holds e false from is none = inl (tt, refl, none refl)

-- what is made of the value is told where the value is
pub told_map : (A B : Type 0) (holds : Refusal → Type 0) (r : Result A Refusal) (f : A → B) → Told A holds r → Told B holds (r >>= λ x. Ok (f x))
told_map A B holds (Ok y) f (inl done) = inl (f y, refl, done.2)
told_map A B holds (Ok y) f (inr low) = absurd (let clash : ◌≡◌ {A = Result A Refusal} (Ok y) (Err low.0) = low.1 in cc clash)
told_map A B holds (Err e) f (inl done) = absurd (let clash : ◌≡◌ {A = Result A Refusal} (Err e) (Ok done.0) = done.1 in cc clash)
told_map A B holds (Err e) f (inr low) = inr (
  low.0,
  (let same : ◌≡◌ {A = Result A Refusal} (Err e) (Err low.0) = low.1 in let is : e ≡ low.0 = cc same in
      ap {B = Result B Refusal} (λ (x : Refusal). Err x) is),
  low.2,
)

-- two lowest refusals are one
pub one_lowest : (holds : Refusal → Type 0) (r s : Refusal) → IsLowest holds r → IsLowest holds s → r ≡ s
one_lowest holds r s low low' = let a = low.1 s low'.0 in let b = low'.1 r low.0 in same_number r s (omega (arith, a, b))

-- what is told so is refused by exactly the lowest
pub refused_by : (A : Type 0) (holds : Refusal → Type 0) (result : Result A Refusal) → Told A holds result → IsRefusedBy holds result
refused_by A holds result (inl done) = record {
  refused = λ r. (λ h. let clash : ◌≡◌ {A = Result A Refusal} (Ok done.0) (Err r) = sym done.1 ∙ h in absurd (cc clash), λ low. absurd (done.2 r low.0));
  done = (λ h. done.2, λ none. (done.0, done.1));
}
refused_by A holds result (inr low) = record {
  refused = λ r. (
    λ h. let same : ◌≡◌ {A = Result A Refusal} (Err low.0) (Err r) = sym low.1 ∙ h in let is : low.0 ≡ r = cc same in
        subst (λ (x : Refusal). IsLowest holds x) is low.2,
    λ low'. low.1 ∙ ap {B = Result A Refusal} (λ (x : Refusal). Err x) (one_lowest holds low.0 r low.2 low'),
  );
  done = (
    λ h. let clash : ◌≡◌ {A = Result A Refusal} (Ok h.0) (Err low.0) = sym h.1 ∙ low.1 in absurd (cc clash),
    λ none. absurd (none low.0 low.2.0),
  );
}

-- a reply that isn't a refusal, where none holds, or the lowest that holds
abbrev pub ToldReply : (Refusal → Type 0) → Reply → Type 0
ToldReply holds reply =
    ((is_refusal reply ≡ false) × ((r : Refusal) → ¬ holds r)) ⊎ ((r : Refusal) × (reply ≡ Refused r) × IsLowest holds r)

-- what is told so is replied by exactly the lowest
pub replied_by : (holds : Refusal → Type 0) (reply : Reply) → ToldReply holds reply → IsRepliedBy holds reply
replied_by holds reply (inl done) = record {
  refused = λ r. (λ h. let clash : true ≡ false = sym (ap is_refusal h) ∙ done.0 in absurd (cc clash), λ low. absurd (done.1 r low.0));
  done = (λ h. done.1, λ none. done.0);
}
replied_by holds reply (inr low) = record {
  refused = λ r. (
    λ h. let same : Refused low.0 ≡ Refused r = sym low.1 ∙ h in let is : low.0 ≡ r = cc same in subst (λ (x : Refusal). IsLowest holds x) is low.2,
    λ low'. low.1 ∙ ap {B = Reply} (λ (x : Refusal). Refused x) (one_lowest holds low.0 r low.2 low'),
  );
  done = (λ h. let clash : true ≡ false = sym (ap is_refusal low.1) ∙ h in absurd (cc clash), λ none. absurd (none low.0 low.2.0));
}
