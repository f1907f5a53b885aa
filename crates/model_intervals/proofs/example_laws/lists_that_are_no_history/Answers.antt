use Rattle.std.proofs.Common.{◌<◌, [], ◌∷◌, arith, refl}
use Rattle.model_history.specs.Recorded.{many_cells}
use Rattle.model_words.specs.declared.commands.Command.TheVariants.{New}
use Rattle.model_words.specs.declared.commands.Reply.TheVariants.{Refused}
use Rattle.model_words.specs.declared.refusals.Refusal.TheVariants.{NoPages}
use Rattle.model_intervals.specs.ExampleLaws.{call, first_object, free_first, new_answered, new_object, put_begun_at, put_byte, put_ended_at, second_object}
use Rattle.model_intervals.proofs.ExampleTests.{not_made_before}
use Rattle.model_intervals.proofs.HistoryTest.{history_so}
use Rattle.model_intervals.proofs.example_laws.lists_that_are_no_history.Goals as goal

pub returns-clause-after_new : goal.returns-clause-after_new
returns-clause-after_new c = (
  history_so (put_begun_at 2) refl,
  λ history. not_made_before (put_begun_at 1) 0 1 refl (history.after_new 1 (put_byte 1 1 5) refl (λ new. new)),
  λ history. not_made_before (put_begun_at 0) 0 0 refl (history.after_new 1 (put_byte 1 0 5) refl (λ new. new)),
  λ history. not_made_before (call 0 0 1 (New 0 2 0) (Refused NoPages) ∷ put_byte 1 2 5 ∷ []) 0 2 refl (history.after_new 1 (put_byte 1 2 5) refl (λ new. new)),
  λ history. not_made_before (new_object 0 0 1 1 5 4096 ∷ put_byte 1 2 5 ∷ []) 0 2 refl (history.after_new 1 (put_byte 1 2 5) refl (λ new. new)),
)

pub returns-clause-before_free : goal.returns-clause-before_free
returns-clause-before_free c = (
  history_so (put_ended_at 3) refl,
  λ history. let early = history.before_free 1 2 (put_byte 1 2 4) (free_first 0 4 6) (λ same. omega (arith, same)) refl refl tt refl in omega (arith, early),
  λ history. let early = history.before_free 1 2 (put_byte 1 2 5) (free_first 0 4 6) (λ same. omega (arith, same)) refl refl tt refl in omega (arith, early),
)

pub returns-clause-own_cells : goal.returns-clause-own_cells
returns-clause-own_cells c = (
  history_so (second_object 1) refl,
  λ history. history.own_cells 0 1 first_object (new_object 1 2 3 0 6 8192) (λ same. omega (arith, same)) refl refl tt tt refl,
  λ history. history.own_cells 0 2 first_object (new_object 0 4 5 0 6 8192) (λ same. omega (arith, same)) refl refl tt tt refl,
  λ history. history.own_cells 0 1 (call 0 0 1 (New 0 2 0) (Refused NoPages)) (new_object 0 2 3 0 5 4096) (λ same. omega (arith, same)) refl refl tt tt refl,
)

pub returns-clause-freed_once : goal.returns-clause-freed_once
returns-clause-freed_once c = (
  history_so (first_object ∷ free_first 0 2 3 ∷ []) refl,
  λ history. let early = history.before_free 2 1 (free_first 0 4 5) (free_first 0 2 3) (λ same. omega (arith, same)) refl refl tt refl in omega (arith, early),
)

pub returns-clause-refused : goal.returns-clause-refused
returns-clause-refused c = (
  history_so (new_answered 2 (Refused NoPages)) refl,
  λ history. history.have_effects 1 first_object (omega arith),
  λ history. history.have_effects 1 first_object (omega arith),
  λ history. history.have_effects 1 first_object (omega arith),
  λ history. history.have_effects 1 first_object (omega arith),
)

pub returns-clause-one_object : goal.returns-clause-one_object
returns-clause-one_object c = (
  λ history. history.have_effects 1 first_object (omega arith),
  λ history. history.have_effects 1 first_object (omega arith),
  λ history. history.have_effects 1 first_object (omega arith),
  λ history. history.have_effects 1 first_object (omega arith),
)

pub returns-clause-time : goal.returns-clause-time
returns-clause-time c = (
  history_so (new_object 0 1 1 0 5 4096 ∷ []) refl,
  λ history. let late = history.take_time 0 first_object (omega arith) in omega (arith, late),
)

too_many : 4294967296 < many_cells → ⊥
unfolding many_cells
too_many within = omega (arith, within)

pub returns-clause-bounded : goal.returns-clause-bounded
returns-clause-bounded c = (
  history_so (new_object 0 0 1 4294967295 5 4096 ∷ []) refl,
  λ history. too_many (history.have_cells 0 first_object (omega arith)),
)
