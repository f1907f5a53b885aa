use Rattle.std.proofs.Common.{ℕ, [], ◌∷◌, arith, refl}
use Rattle.model_words.specs.declared.commands.Command.TheVariants.{New, Put, Get, Addr}
use Rattle.model_words.specs.declared.commands.Reply.{Reply}
use Rattle.model_words.specs.declared.commands.Reply.TheVariants.{Object as Made, Done, Bytes, At, Refused}
use Rattle.model_words.specs.declared.refusals.Refusal.TheVariants.{Zero, TooLarge, NoPages, Outside}
use Rattle.model_intervals.specs.ExampleLaws.{call, first_object, new_answered, new_object, one_access, serial_after_free}
use Rattle.model_intervals.specs.Objects.{Object as NewObject, IsExplainedByObject, IsFairNew}
use Rattle.model_intervals.proofs.ExampleTests.{explained_as_listed, unexplained, unexplained_object}
use Rattle.model_intervals.proofs.example_laws.answers_of_calls.Goals as goal

-- the two objects
abbrev first : NewObject
first = record { cell = 0; len = 2; serial = 5; address = 4096 }

abbrev second : NewObject
second = record { cell = 1; len = 2; serial = 5; address = 8192 }

given_twice : IsExplainedByObject (serial_after_free 5) → ⊥
given_twice explained =
    explained.serials_once 0 2 first_object (new_object 0 4 5 1 5 8192) first second (λ same. omega (arith, same)) (refl, refl) (refl, refl) refl

fair_new : (len : ℕ) (reply : Reply) → IsExplainedByObject (new_answered len reply) → IsFairNew (New 0 len 0) reply
fair_new len reply explained = explained.fair 0 (call 0 0 1 (New 0 len 0) reply) (omega arith)

pub returns-clause-serials : goal.returns-clause-serials
returns-clause-serials c = (explained_as_listed (serial_after_free 6) refl refl, unexplained (serial_after_free 5) refl given_twice)

pub returns-clause-news : goal.returns-clause-news
returns-clause-news c = (
  unexplained (new_answered 0 (Made 5 4096)) refl (λ explained. let some = (fair_new 0 (Made 5 4096) explained).0 in omega (arith, some)),
  unexplained (new_answered 140737488355329 (Made 5 4096)) refl (λ explained. let few = (fair_new 140737488355329 (Made 5 4096) explained).1 in omega (arith, few)),
  explained_as_listed (new_answered 0 (Refused Zero)) refl refl,
  unexplained (new_answered 2 (Refused Zero)) refl (λ explained. let none = fair_new 2 (Refused Zero) explained in omega (arith, none)),
  explained_as_listed (new_answered 2 (Refused NoPages)) refl refl,
  unexplained (new_answered 0 (Refused NoPages)) refl (λ explained. let some = (fair_new 0 (Refused NoPages) explained).0 in omega (arith, some)),
  explained_as_listed (new_answered 140737488355328 (Refused NoPages)) refl refl,
  unexplained (new_answered 140737488355329 (Refused NoPages)) refl (λ explained. let few = (fair_new 140737488355329 (Refused NoPages) explained).1 in omega (arith, few)),
  explained_as_listed (new_answered 140737488355329 (Refused TooLarge)) refl refl,
  unexplained (new_answered 2 (Refused Outside)) refl (λ explained. fair_new 2 (Refused Outside) explained),
)

pub returns-clause-puts : goal.returns-clause-puts
returns-clause-puts c = (
  explained_as_listed (one_access (Put 0 1 (record { items = 7 ∷ [] })) Done) refl refl,
  unexplained_object (one_access (Put 0 1 (record { items = 7 ∷ 8 ∷ [] })) Done) 0 first_object first refl (refl, refl) refl,
)

pub returns-clause-gets : goal.returns-clause-gets
returns-clause-gets c = (
  explained_as_listed (one_access (Get 0 0 2) (Bytes (record { items = 0 ∷ 0 ∷ [] }))) refl refl,
  unexplained_object (one_access (Get 0 0 2) (Bytes (record { items = 0 ∷ [] }))) 0 first_object first refl (refl, refl) refl,
  unexplained_object (one_access (Get 0 0 1) (Bytes (record { items = 0 ∷ 0 ∷ [] }))) 0 first_object first refl (refl, refl) refl,
  unexplained_object (one_access (Get 0 1 2) (Bytes (record { items = 0 ∷ [] }))) 0 first_object first refl (refl, refl) refl,
)

pub returns-clause-addresses : goal.returns-clause-addresses
returns-clause-addresses c = (
  explained_as_listed (one_access (Addr 0) (At 4096)) refl refl,
  unexplained_object (one_access (Addr 0) (At 4097)) 0 first_object first refl (refl, refl) refl,
)
