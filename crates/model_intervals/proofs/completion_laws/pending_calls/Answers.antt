use Rattle.std.proofs.Common.{ℕ, inl, inr, [], ◌∷◌, arith, refl}
use Rattle.model_intervals.specs.Completions.{EndsBy, EndsInTime, never}
use Rattle.model_intervals.specs.CompletionLaws.{get_before_end, get_behind_pending}
use Rattle.model_intervals.specs.ExampleLaws.{first_object, get_byte, put_byte}
use Rattle.model_intervals.specs.Objects.{Object as NewObject}
use Rattle.model_intervals.proofs.CompletionTests.{all_complete, ends_by, ends_in_time, others_complete, second_is_taken, third_is_wrong}
use Rattle.model_intervals.proofs.ExampleTests.{explained_as_listed, unexplained_object}
use Rattle.model_intervals.proofs.ExplainedTest.{explained_in}
use Rattle.model_intervals.proofs.completion_laws.pending_calls.Goals as goal

-- the object of cell 0
abbrev object : NewObject
object = record { cell = 0; len = 2; serial = 5; address = 4096 }

module _ (byte : ℕ) where
  first_ended : EndsBy (get_before_end byte) 2 0
  first_ended = (first_object, get_byte 1 3 4 byte, refl, refl, inl (omega arith))

  get_ended : EndsBy (get_before_end byte) 2 2
  get_ended = (get_byte 1 3 4 byte, get_byte 1 3 4 byte, refl, refl, inr (refl, omega arith))

  put_pends : EndsBy (get_before_end byte) 2 1 → ⊥
  put_pends ends = elim (ends_by (get_before_end byte) 2 1 (put_byte 0 2 9) (get_byte 1 3 4 byte) refl refl ends) [
    | inl less ↦ omega (arith, less)
    | inr same ↦ let e = same.0 in omega (arith, e)
  ]

pub returns-clause-stored : goal.returns-clause-stored
returns-clause-stored c = (
  (all_complete first_object (put_byte 0 2 9) (get_byte 1 3 4 7) (EndsBy (get_before_end 7) 2) (explained_as_listed (get_before_end 7) refl refl).1).0,
  second_is_taken first_object (put_byte 0 2 9) (get_byte 1 3 4 7) (EndsBy (get_before_end 7) 2) (first_ended 7) (get_ended 7)
      (unexplained_object (first_object ∷ get_byte 1 3 4 7 ∷ []) 0 first_object object refl (refl, refl) refl).1,
)

pub returns-clause-free : goal.returns-clause-free
returns-clause-free c = (
  others_complete first_object (put_byte 0 2 9) (get_byte 1 3 4 0) (EndsBy (get_before_end 0) 2) (put_pends 0)
      (explained_as_listed (first_object ∷ get_byte 1 3 4 0 ∷ []) refl refl).1,
  all_complete first_object (put_byte 0 2 9) (get_byte 1 3 4 0) (EndsBy (get_before_end 0) 2)
      (explained_in (get_before_end 0) (first_object ∷ get_byte 1 3 4 0 ∷ put_byte 0 2 9 ∷ [])
      (record { moves = (1, 2) ∷ []; below = (omega arith, omega arith, tt); is = refl }) refl refl).1,
)

-- ---- pending when the recording stopped

module _ (byte : ℕ) where
  first_in_time : EndsInTime (get_behind_pending byte) 0
  first_in_time = (first_object, refl, omega arith)

  get_in_time : EndsInTime (get_behind_pending byte) 2
  get_in_time = (get_byte 1 3 4 byte, refl, omega arith)

  put_is_pending : EndsInTime (get_behind_pending byte) 1 → ⊥
  put_is_pending ends = let less = ends_in_time (get_behind_pending byte) 1 (put_byte 0 2 never) refl ends in omega (arith, less)

pub returns-clause-at_stop : goal.returns-clause-at_stop
returns-clause-at_stop c = (
  (all_complete first_object (put_byte 0 2 never) (get_byte 1 3 4 7) (EndsInTime (get_behind_pending 7))
      (explained_as_listed (get_behind_pending 7) refl refl).1).0,
  others_complete first_object (put_byte 0 2 never) (get_byte 1 3 4 0) (EndsInTime (get_behind_pending 0)) (put_is_pending 0)
      (explained_as_listed (first_object ∷ get_byte 1 3 4 0 ∷ []) refl refl).1,
  third_is_wrong first_object (put_byte 0 2 never) (get_byte 1 3 4 1) (EndsInTime (get_behind_pending 1)) (first_in_time 1) (get_in_time 1)
      (unexplained_object (first_object ∷ get_byte 1 3 4 1 ∷ []) 0 first_object object refl (refl, refl) refl).1
      (unexplained_object (get_behind_pending 1) 0 first_object object refl (refl, refl) refl).1,
)
