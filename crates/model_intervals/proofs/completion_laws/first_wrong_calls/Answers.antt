use Rattle.std.proofs.Common.{inl, inr, [], ◌∷◌, arith, refl}
use Rattle.model_intervals.specs.Completions.{EndsBefore, EndsBy}
use Rattle.model_intervals.specs.CompletionLaws.{stale_get, two_wrong_gets, wrong_at_once}
use Rattle.model_intervals.specs.ExampleLaws.{first_object, get_byte, put_byte}
use Rattle.model_intervals.specs.Intervals.{Call, IsLinearizable}
use Rattle.model_intervals.specs.Objects.{Object as NewObject}
use Rattle.model_intervals.proofs.CompletionTests.{ends_before, ends_by, first_completes, first_two_complete, second_is_wrong, third_is_wrong, third_of_four_is_wrong}
use Rattle.model_intervals.proofs.ExampleTests.{explained_as_listed, unexplained_object}
use Rattle.model_intervals.proofs.completion_laws.first_wrong_calls.Goals as goal

-- the object of cell 0
abbrev object : NewObject
object = record { cell = 0; len = 2; serial = 5; address = 4096 }

first_explained : IsLinearizable (first_object ∷ [])
first_explained = (explained_as_listed (first_object ∷ []) refl refl).1

-- ---- two that are wrong, of which the second in the list ends first

abbrev late_get : Call
late_get = get_byte 0 2 9 1

abbrev early_get : Call
early_get = get_byte 1 3 4 1

early_is_wrong : IsLinearizable (first_object ∷ early_get ∷ []) → ⊥
early_is_wrong = (unexplained_object (first_object ∷ early_get ∷ []) 0 first_object object refl (refl, refl) refl).1

both_are_wrong : IsLinearizable two_wrong_gets → ⊥
both_are_wrong = (unexplained_object two_wrong_gets 0 first_object object refl (refl, refl) refl).1

pub returns-clause-by_end : goal.returns-clause-by_end
returns-clause-by_end c = (
  record {
    before = first_completes first_object late_get early_get (EndsBefore two_wrong_gets 2)
        (λ ends. elim (ends_before two_wrong_gets 2 1 late_get early_get refl refl ends) [ inl less ↦ omega (arith, less) | inr same ↦ let e = same.0 in omega (arith, e) ])
        (λ ends. elim (ends_before two_wrong_gets 2 2 early_get early_get refl refl ends) [ inl less ↦ omega (arith, less) | inr same ↦ let e = same.1 in omega (arith, e) ])
        first_explained;
    none = third_is_wrong first_object late_get early_get (EndsBy two_wrong_gets 2) (first_object, early_get, refl, refl, inl (omega arith))
        (early_get, early_get, refl, refl, inr (refl, omega arith)) early_is_wrong both_are_wrong;
  },
  λ wrong. third_is_wrong first_object late_get early_get (EndsBefore two_wrong_gets 1) (first_object, late_get, refl, refl, inl (omega arith))
      (early_get, late_get, refl, refl, inl (omega arith)) early_is_wrong both_are_wrong wrong.before,
  λ wrong. wrong.none (first_completes first_object late_get early_get (EndsBy two_wrong_gets 0)
      (λ ends. elim (ends_by two_wrong_gets 0 1 late_get first_object refl refl ends) [ inl less ↦ omega (arith, less) | inr same ↦ let e = same.0 in omega (arith, e) ])
      (λ ends. elim (ends_by two_wrong_gets 0 2 early_get first_object refl refl ends) [ inl less ↦ omega (arith, less) | inr same ↦ let e = same.0 in omega (arith, e) ])
      first_explained),
)

-- ---- two that are wrong and end at once

abbrev front_get : Call
front_get = get_byte 0 2 4 1

front_is_wrong : IsLinearizable (first_object ∷ front_get ∷ []) → ⊥
front_is_wrong = (unexplained_object (first_object ∷ front_get ∷ []) 0 first_object object refl (refl, refl) refl).1

both_at_once : IsLinearizable wrong_at_once → ⊥
both_at_once = (unexplained_object wrong_at_once 0 first_object object refl (refl, refl) refl).1

pub returns-clause-by_place : goal.returns-clause-by_place
returns-clause-by_place c = (
  record {
    before = first_completes first_object front_get early_get (EndsBefore wrong_at_once 1)
        (λ ends. elim (ends_before wrong_at_once 1 1 front_get front_get refl refl ends) [ inl less ↦ omega (arith, less) | inr same ↦ let e = same.1 in omega (arith, e) ])
        (λ ends. elim (ends_before wrong_at_once 1 2 early_get front_get refl refl ends) [ inl less ↦ omega (arith, less) | inr same ↦ let e = same.1 in omega (arith, e) ])
        first_explained;
    none = second_is_wrong first_object front_get early_get (EndsBy wrong_at_once 1) (first_object, front_get, refl, refl, inl (omega arith))
        (front_get, front_get, refl, refl, inr (refl, omega arith)) front_is_wrong both_at_once;
  },
  λ wrong. second_is_wrong first_object front_get early_get (EndsBefore wrong_at_once 2) (first_object, early_get, refl, refl, inl (omega arith))
      (front_get, early_get, refl, refl, inr (refl, omega arith)) front_is_wrong both_at_once wrong.before,
)

-- ---- a stale one

abbrev put : Call
put = put_byte 0 2 3

abbrev old_get : Call
old_get = get_byte 1 4 5 0

abbrev last_get : Call
last_get = get_byte 1 6 7 1

stale_is_wrong : IsLinearizable (first_object ∷ put ∷ old_get ∷ []) → ⊥
stale_is_wrong = (unexplained_object (first_object ∷ put ∷ old_get ∷ []) 0 first_object object refl (refl, refl) refl).1

all_are_wrong : IsLinearizable stale_get → ⊥
all_are_wrong = (unexplained_object stale_get 0 first_object object refl (refl, refl) refl).1

pub returns-clause-stale : goal.returns-clause-stale
returns-clause-stale c = (
  record {
    before = first_two_complete first_object put old_get last_get (EndsBefore stale_get 2)
        (λ ends. elim (ends_before stale_get 2 2 old_get old_get refl refl ends) [ inl less ↦ omega (arith, less) | inr same ↦ let e = same.1 in omega (arith, e) ])
        (λ ends. elim (ends_before stale_get 2 3 last_get old_get refl refl ends) [ inl less ↦ omega (arith, less) | inr same ↦ let e = same.0 in omega (arith, e) ])
        (explained_as_listed (first_object ∷ put ∷ []) refl refl).1;
    none = third_of_four_is_wrong first_object put old_get last_get (EndsBy stale_get 2) (first_object, old_get, refl, refl, inl (omega arith))
        (put, old_get, refl, refl, inl (omega arith)) (old_get, old_get, refl, refl, inr (refl, omega arith)) stale_is_wrong all_are_wrong;
  },
  λ wrong. third_of_four_is_wrong first_object put old_get last_get (EndsBefore stale_get 3) (first_object, last_get, refl, refl, inl (omega arith))
      (put, last_get, refl, refl, inl (omega arith)) (old_get, last_get, refl, refl, inl (omega arith)) stale_is_wrong all_are_wrong wrong.before,
)
