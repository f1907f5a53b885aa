use Rattle.std.proofs.Common.{ℕ, ◌+◌, ◌<◌, inl, inr, arith, refl}
use Rattle.model_intervals.specs.ExampleLaws.{first_object, new_object, range_taken_again, two_live_objects}
use Rattle.model_intervals.specs.Objects.{Object as NewObject, IsExplainedByObject}
use Rattle.model_intervals.proofs.ExampleTests.{explained_as_listed, not_freed, unexplained}
use Rattle.model_intervals.proofs.example_laws.ranges_of_objects.Goals as goal

-- the two objects
abbrev first : NewObject
first = record { cell = 0; len = 2; serial = 5; address = 4096 }

abbrev other : ℕ → NewObject
other address = record { cell = 1; len = 2; serial = 6; address = address }

taken_too_early : IsExplainedByObject (range_taken_again 2 3) → ⊥
taken_too_early explained =
    elim (explained.apart 0 2 first_object (new_object 1 2 3 1 6 4097) first (other 4097) (λ same. omega (arith, same)) (refl, refl) (refl, refl) (omega arith, omega arith)) [
      | inl freed ↦ not_freed (range_taken_again 2 3) 0 3 refl freed
      | inr freed ↦ not_freed (range_taken_again 2 3) 1 1 refl freed
    ]

both_live : (address : ℕ) → address < 4098 → 4096 < address + 2 → IsExplainedByObject (two_live_objects address) → ⊥
both_live address low high explained =
    elim (explained.apart 0 1 first_object (new_object 1 2 3 1 6 address) first (other address) (λ same. omega (arith, same)) (refl, refl) (refl, refl)
    (omega (arith, high), omega (arith, low))) [
      | inl freed ↦ not_freed (two_live_objects address) 0 3 refl freed
      | inr freed ↦ not_freed (two_live_objects address) 1 1 refl freed
    ]

pub returns-clause-freed_first : goal.returns-clause-freed_first
returns-clause-freed_first c = (
  explained_as_listed (range_taken_again 5 7) refl refl,
  explained_as_listed (range_taken_again 2 4) refl refl,
  unexplained (range_taken_again 2 3) refl taken_too_early,
)

pub returns-clause-live : goal.returns-clause-live
returns-clause-live c = (
  explained_as_listed (two_live_objects 4098) refl refl,
  explained_as_listed (two_live_objects 4094) refl refl,
  unexplained (two_live_objects 4097) refl (both_live 4097 (omega arith) (omega arith)),
  unexplained (two_live_objects 4095) refl (both_live 4095 (omega arith) (omega arith)),
)
