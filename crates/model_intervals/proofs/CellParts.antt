-- The three kinds of a cell's calls: its `new`, the accesses to its object, its `free`.
use Rattle.std.proofs.Common.{◌≡◌, ℕ, ◌⊎◌, Bool, true, false, ◌&&◌, nat_eq, List, [], ◌∷◌, ◌++◌, refl, inl, inr}
use Rattle.std.specs.List.{filter}
use Rattle.std.specs.List.Sorted.{IsPermutation}
use Rattle.std.proofs.lemmas.List.Sorted.{IsPermutation-append_right, IsPermutation-cons, IsPermutation-middle, IsPermutation-refl, IsPermutation-sym, IsPermutation-trans}
use Rattle.model_words.specs.declared.commands.Command.{Command}
use Rattle.model_words.specs.declared.commands.Command.TheVariants.{New, Put, Get, Free, Addr}
use Rattle.model_words.specs.declared.commands.Reply.{Reply}
use Rattle.model_intervals.specs.Intervals.{Call}
use Rattle.model_intervals.specs.Objects.{accesses_of, is_access}
use Rattle.model_intervals.specs.OverlappingCalls.{HasEffect, IsFree, IsNew, MakesOne, cell_at}
use Rattle.model_intervals.proofs.MiddleForm.{frees, is_free, of_cell}
use Rattle.model_intervals.proofs.Lists.{Every, tells}

abbrev pub is_new : Command → Bool
is_new (New cell len word) = true
is_new command = false

-- the cell's calls that are a `new`
abbrev pub news_of : ℕ → List Call → List Call
news_of c calls = filter (λ call. is_new call.entry.command && nat_eq (cell_at call) c) calls

-- the cell's calls that are a `free`
abbrev pub frees_of : ℕ → List Call → List Call
frees_of c calls = filter (frees c) calls

-- the three tests on a command
pub record IsKind (command : Command) (new access free : Bool) : Type 0 where
  pub new_is : is_new command ≡ new
  pub access_is : is_access command ≡ access
  pub free_is : is_free command ≡ free

pub kind : (command : Command) (reply : Reply) → HasEffect command reply → IsKind command true false false ⊎ IsKind command false true false ⊎ IsKind command false false true
kind (New cell len word) reply effect = inl (record { new_is = refl; access_is = refl; free_is = refl })
kind (Put cell off bytes) reply effect = inr (inl (record { new_is = refl; access_is = refl; free_is = refl }))
kind (Get cell off len) reply effect = inr (inl (record { new_is = refl; access_is = refl; free_is = refl }))
kind (Addr cell) reply effect = inr (inl (record { new_is = refl; access_is = refl; free_is = refl }))
kind (Free cell) reply effect = inr (inr (record { new_is = refl; access_is = refl; free_is = refl }))
kind command reply effect = absurd effect

pub new_so : (command : Command) → is_new command ≡ true → IsNew command
new_so (New cell len word) h = tt
new_so command h = absurd (cc h)

pub so_new : (command : Command) → IsNew command → is_new command ≡ true
so_new (New cell len word) h = refl
so_new command h = absurd h

pub makes_new : (command : Command) (reply : Reply) → MakesOne command reply → IsNew command
makes_new (New cell len word) reply h = tt
makes_new command reply h = absurd h

pub free_so : (command : Command) → is_free command ≡ true → IsFree command
free_so (Free cell) h = tt
free_so command h = absurd (cc h)

pub so_free : (command : Command) → IsFree command → is_free command ≡ true
so_free (Free cell) h = refl
so_free command h = absurd h

-- the three kinds exclude each other
pub access_no_new : (command : Command) → is_access command ≡ true → IsNew command → ⊥
access_no_new (New cell len word) h is = cc h
access_no_new command h is = is

pub free_no_new : (command : Command) → is_free command ≡ true → IsNew command → ⊥
free_no_new (New cell len word) h is = cc h
free_no_new command h is = is

pub access_no_free : (command : Command) → is_access command ≡ true → is_free command ≡ true → ⊥
access_no_free (Free cell) h is = cc h
access_no_free command h is = cc is

-- a cell's calls are a permutation of the three parts
abbrev pub parts : ℕ → List Call → List Call
parts c calls = news_of c calls ++ (accesses_of c calls ++ frees_of c calls)

pub and_false : (b : Bool) → (b && false) ≡ false
and_false true = refl
and_false false = refl

pub in_parts : (c : ℕ) (calls : List Call) → Every (λ call. HasEffect call.entry.command call.entry.reply) calls → IsPermutation (of_cell c calls) (parts c calls)
in_parts c [] effects = IsPermutation-refl []
in_parts c (call ∷ calls) effects = elim (tells (nat_eq (cell_at call) c)) [
  | inl own ↦ elim (kind call.entry.command call.entry.reply effects.0) [
    | inl is ↦ rw (own, is.new_is, is.access_is, is.free_is) (IsPermutation-cons call (of_cell c calls) (parts c calls) (in_parts c calls effects.1))
    | inr (inl is) ↦ rw (own, is.new_is, is.access_is, is.free_is)
        (IsPermutation-trans (call ∷ of_cell c calls) (call ∷ parts c calls) (news_of c calls ++ call ∷ (accesses_of c calls ++ frees_of c calls))
        (IsPermutation-cons call (of_cell c calls) (parts c calls) (in_parts c calls effects.1))
        (IsPermutation-sym _ _ (IsPermutation-middle (news_of c calls) call (accesses_of c calls ++ frees_of c calls))))
    | inr (inr is) ↦ rw (own, is.new_is, is.access_is, is.free_is)
        (IsPermutation-trans (call ∷ of_cell c calls) (call ∷ parts c calls) (news_of c calls ++ (accesses_of c calls ++ call ∷ frees_of c calls))
        (IsPermutation-cons call (of_cell c calls) (parts c calls) (in_parts c calls effects.1))
        (IsPermutation-trans (call ∷ parts c calls) (news_of c calls ++ call ∷ (accesses_of c calls ++ frees_of c calls)) _
        (IsPermutation-sym _ _ (IsPermutation-middle (news_of c calls) call (accesses_of c calls ++ frees_of c calls)))
        (IsPermutation-append_right (news_of c calls) (call ∷ (accesses_of c calls ++ frees_of c calls)) (accesses_of c calls ++ call ∷ frees_of c calls)
        (IsPermutation-sym _ _ (IsPermutation-middle (accesses_of c calls) call (frees_of c calls))))))
  ]
  | inr apart ↦ rw (apart, and_false (is_new call.entry.command), and_false (is_access call.entry.command), and_false (is_free call.entry.command)) (in_parts c calls effects.1)
]
