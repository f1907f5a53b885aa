use Rattle.std.proofs.Common.{[], ◌∷◌, arith, refl}
use Rattle.model_intervals.specs.ExampleLaws.{first_object, get_after_put, get_at_end_of_put, get_byte, get_during_put, put_byte, two_gets_during_put}
use Rattle.model_intervals.specs.Objects.{Object as NewObject}
use Rattle.model_intervals.proofs.ExampleTests.{explained_as_listed, unexplained_object}
use Rattle.model_intervals.proofs.ExplainedTest.{explained_in}
use Rattle.model_intervals.proofs.example_laws.orders_of_accesses.Goals as goal

-- the object of cell 0
abbrev object : NewObject
object = record { cell = 0; len = 2; serial = 5; address = 4096 }

pub returns-clause-overlapping : goal.returns-clause-overlapping
returns-clause-overlapping c = (
  explained_in (get_during_put 0) (first_object ∷ get_byte 1 3 4 0 ∷ put_byte 0 2 5 ∷ [])
      (record { moves = (1, 2) ∷ []; below = (omega arith, omega arith, tt); is = refl }) refl refl,
  explained_as_listed (get_during_put 7) refl refl,
  unexplained_object (get_during_put 1) 0 first_object object refl (refl, refl) refl,
)

pub returns-clause-stale : goal.returns-clause-stale
returns-clause-stale c = (
  explained_as_listed (get_after_put 7) refl refl,
  unexplained_object (get_after_put 0) 0 first_object object refl (refl, refl) refl,
)

pub returns-clause-touching : goal.returns-clause-touching
returns-clause-touching c = (
  explained_in (get_at_end_of_put 0) (first_object ∷ get_byte 1 3 4 0 ∷ put_byte 0 2 3 ∷ [])
      (record { moves = (1, 2) ∷ []; below = (omega arith, omega arith, tt); is = refl }) refl refl,
  explained_as_listed (get_at_end_of_put 7) refl refl,
)

pub returns-clause-workers : goal.returns-clause-workers
returns-clause-workers c = (
  explained_in (first_object ∷ put_byte 0 2 5 ∷ get_byte 0 3 4 0 ∷ []) (first_object ∷ get_byte 0 3 4 0 ∷ put_byte 0 2 5 ∷ [])
      (record { moves = (1, 2) ∷ []; below = (omega arith, omega arith, tt); is = refl }) refl refl,
  explained_in (first_object ∷ put_byte 0 2 3 ∷ get_byte 0 3 4 0 ∷ []) (first_object ∷ get_byte 0 3 4 0 ∷ put_byte 0 2 3 ∷ [])
      (record { moves = (1, 2) ∷ []; below = (omega arith, omega arith, tt); is = refl }) refl refl,
)

pub returns-clause-stay_new : goal.returns-clause-stay_new
returns-clause-stay_new c = (
  explained_in (two_gets_during_put 0 0) (first_object ∷ get_byte 1 3 4 0 ∷ get_byte 1 5 6 0 ∷ put_byte 0 2 7 ∷ [])
      (record { moves = (2, 3) ∷ (1, 3) ∷ []; below = (omega arith, omega arith, (omega arith, omega arith, tt)); is = refl }) refl refl,
  explained_in (two_gets_during_put 0 7) (first_object ∷ get_byte 1 3 4 0 ∷ put_byte 0 2 7 ∷ get_byte 1 5 6 7 ∷ [])
      (record { moves = (1, 2) ∷ []; below = (omega arith, omega arith, tt); is = refl }) refl refl,
  explained_as_listed (two_gets_during_put 7 7) refl refl,
  unexplained_object (two_gets_during_put 7 0) 0 first_object object refl (refl, refl) refl,
)
