-- Which of several stops is told.
use Rattle.std.proofs.Common.{◌≡◌, ℕ, zero, suc, ◌≤◌, List, [], ◌∷◌, Option, Some, None, slice_get, refl, sym, ap, subst, ◌∙◌, arith, ◌⊎◌, inl, inr}
use Rattle.mesh_shared.specs.RunLaws.{NothingIsToldOfNone, ToldIsFirst, ToldIsThere, place_of}
use Rattle.mesh_shared.specs.Stops.{either_stop, first_of, first_stop}
use Rattle.mesh_shared.specs.declared.stops.EarlyExit.{EarlyExit}
use Rattle.mesh_shared.specs.declared.stops.EarlyExit.TheVariants.{Memory, Thread, History}

-- neither of two stops is before what is told of them
first_low : (a b : EarlyExit) → (place_of (first_of a b) ≤ place_of a) × (place_of (first_of a b) ≤ place_of b)
first_low Memory b = (omega arith, omega arith)
first_low Thread Memory = (omega arith, omega arith)
first_low Thread Thread = (omega arith, omega arith)
first_low Thread History = (omega arith, omega arith)
first_low History Memory = (omega arith, omega arith)
first_low History Thread = (omega arith, omega arith)
first_low History History = (omega arith, omega arith)

-- of two one is told
one_of_two : (a b c : EarlyExit) → first_of a b ≡ c → (a ≡ c) ⊎ (b ≡ c)
one_of_two Memory b c is = inl is
one_of_two Thread Memory c is = inr is
one_of_two Thread Thread c is = inl is
one_of_two Thread History c is = inl is
one_of_two History b c is = inr is

-- what is told stands among them
there_of : (a : EarlyExit) (rest : List (Option EarlyExit)) (stop : EarlyExit) (told : Option EarlyExit) → told ≡ first_stop rest → either_stop (Some a) told ≡ Some stop
    → ((b : EarlyExit) → first_stop rest ≡ Some b → (i : ℕ) × (slice_get rest i ≡ Some (Some b)))
    → (i : ℕ) × (slice_get (Some a ∷ rest) i ≡ Some (Some stop))
there_of a rest stop None none is later = (0, ap {B = Option (Option EarlyExit)} (λ (x : Option EarlyExit). Some x) is)
there_of a rest stop (Some b) some is later = let same : first_of a b ≡ stop = cc is in elim (one_of_two a b stop same) [
  | inl this ↦ (0, ap {B = Option (Option EarlyExit)} (λ (x : EarlyExit). Some (Some x)) this)
  | inr that ↦ let found = later b (sym some) in (suc found.0, found.1 ∙ ap {B = Option (Option EarlyExit)} (λ (x : EarlyExit). Some (Some x)) that)
]

pub told_is_there : ToldIsThere
told_is_there [] stop is = absurd (cc is)
told_is_there (None ∷ rest) stop is = let later = told_is_there rest stop is in (suc later.0, later.1)
told_is_there (Some a ∷ rest) stop is = there_of a rest stop (first_stop rest) refl is (told_is_there rest)

-- nothing is told only where nothing stopped
none_ahead : (a b : Option EarlyExit) → either_stop a b ≡ None → (a ≡ None) × (b ≡ None)
none_ahead None b is = (refl, is)
none_ahead (Some a) None is = absurd (cc is)
none_ahead (Some a) (Some b) is = absurd (cc is)

pub nothing_is_told_of_none : NothingIsToldOfNone
nothing_is_told_of_none [] stop i is at = cc at
nothing_is_told_of_none (end ∷ rest) stop zero is at = let first = (none_ahead end (first_stop rest) is).0 in cc (first, at)
nothing_is_told_of_none (end ∷ rest) stop (suc i) is at = nothing_is_told_of_none rest stop i (none_ahead end (first_stop rest) is).1 at

-- nothing that stopped a thread comes before what is told
low_of : (a : EarlyExit) (told : Option EarlyExit) (stop : EarlyExit) → either_stop (Some a) told ≡ Some stop → place_of stop ≤ place_of a
low_of a None stop is = let same : a ≡ stop = cc is in subst (λ (s : EarlyExit). place_of s ≤ place_of a) same (omega arith)
low_of a (Some b) stop is = let same : first_of a b ≡ stop = cc is in subst (λ (s : EarlyExit). place_of s ≤ place_of a) same (first_low a b).0

low_behind : (end : Option EarlyExit) (told : Option EarlyExit) (stop other : EarlyExit) → either_stop end told ≡ Some stop → (told ≡ None → ⊥)
    → ((b : EarlyExit) → told ≡ Some b → place_of b ≤ place_of other) → place_of stop ≤ place_of other
low_behind None told stop other is some low = low stop is
low_behind (Some a) None stop other is some low = absurd (some refl)
low_behind (Some a) (Some b) stop other is some low = grind (arith, first_low)

pub told_is_first : ToldIsFirst
told_is_first [] stop other i is at = absurd (cc at)
told_is_first (None ∷ rest) stop other zero is at = absurd (cc at)
told_is_first (Some a ∷ rest) stop other zero is at =
    let same : a ≡ other = cc at in subst (λ (s : EarlyExit). place_of stop ≤ place_of s) same (low_of a (first_stop rest) stop is)
told_is_first (end ∷ rest) stop other (suc i) is at =
    low_behind end (first_stop rest) stop other is (λ none. nothing_is_told_of_none rest other i none at) (λ b some. told_is_first rest b other i some at)
