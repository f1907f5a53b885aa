use Rattle.std.proofs.Common.{◌≡◌, ℕ, ◌≤◌, Bool, true, false, arith, refl, subst, sym}
use Rattle.std.proofs.lemmas.Bool.Decides.{nat_tests}
use Rattle.model_words.specs.declared.commands.Command.TheVariants.{Put, Get}
use Rattle.model_words.specs.declared.commands.Reply.TheVariants.{Done, Bytes}
use Rattle.std.specs.Prelude.{[], ◌∷◌}
use Rattle.model_intervals.specs.ExampleLaws.{call, first_object, free_first, get_byte, put_byte}
use Rattle.model_intervals.specs.Intervals.{Call}
use Rattle.history_witness.specs.SliceExamples.{all_but, get_and_put, put_and_free, two_puts}
use Rattle.history_witness.specs.Slices.{IsSlice, TakesNewAndFree, TakesStores, TakesStoresAt, loads_at}
use Rattle.history_witness.proofs.SliceTests.{objects_from, slice_from, stores_from}
use Rattle.history_witness.proofs.slice_laws.examples.Goals as goal

-- the one byte that a `get` of the first byte loads
first_byte : (at begin end byte : ℕ) → loads_at 0 at (get_byte 0 begin end byte).entry.command ≡ true → at ≡ 0
first_byte at begin end byte loads = grind (arith, nat_tests, loads)

-- ---- two `put` and a `get`

puts_objects : (taken : ℕ → Bool) → taken 0 ≡ true → (end begin moment : ℕ) → TakesNewAndFree (two_puts end begin moment) taken 0
puts_objects taken on end begin moment = objects_from (two_puts end begin moment) taken 0 (λ _. on, (λ e. absurd (cc e), (λ e. absurd (cc e), (λ e. absurd (cc e), tt))))

first_objects : TakesNewAndFree (two_puts 3 4 7) (all_but 1) 0
first_objects = puts_objects (all_but 1) refl 3 4 7

get_has_stores : TakesStores (two_puts 3 4 7) (all_but 1) (get_byte 2 7 9 7)
get_has_stores at loads = subst (λ (n : ℕ). TakesStoresAt (two_puts 3 4 7) (all_but 1) 0 n (get_byte 2 7 9 7)) (sym (first_byte at 7 9 7 loads))
    (stores_from (two_puts 3 4 7) (all_but 1) 0 0 (get_byte 2 7 9 7)
    (λ e _ _. absurd (cc e), (λ _ _ late. absurd (let l : 4 ≤ 3 = late in omega (arith, l)), (λ _ _ _. refl, (λ _ _ _. refl, tt)))))

first_goes : IsSlice (two_puts 3 4 7) (all_but 1)
first_goes = slice_from (two_puts 3 4 7) (all_but 1) (
  λ on. (first_objects, λ at loads. absurd (cc loads)),
  (λ off. absurd (cc off), (λ on. (first_objects, λ at loads. absurd (cc loads)), (λ on. (first_objects, get_has_stores), tt))),
)

pub returns-clause-overwritten : goal.returns-clause-overwritten
returns-clause-overwritten c = (
  first_goes,
  λ slice. let on : false ≡ true = (slice 3 (get_byte 2 7 9 7) refl refl).1 0 refl 1 (put_byte 0 2 4) refl refl (omega arith) (let l : 4 ≤ 4 = omega arith in l) in absurd (cc on),
  λ slice. let on : false ≡ true = (slice 3 (get_byte 2 6 9 7) refl refl).1 0 refl 1 (put_byte 0 2 3) refl refl (omega arith) (let l : 2 ≤ 3 = omega arith in l) in absurd (cc on),
)

pub returns-clause-last : goal.returns-clause-last
returns-clause-last c = λ slice.
    let on : false ≡ true = (slice 3 (get_byte 2 7 9 7) refl refl).1 0 refl 2 (put_byte 1 4 6) refl refl (omega arith) (let l : 4 ≤ 6 = omega arith in l) in absurd (cc on)

-- ---- a `get` and a `put` that begins later

later_objects : TakesNewAndFree (get_and_put 5) (all_but 2) 0
later_objects = objects_from (get_and_put 5) (all_but 2) 0 (λ _. refl, (λ _. refl, (λ e. absurd (cc e), tt)))

later_stores : TakesStores (get_and_put 5) (all_but 2) (get_byte 0 2 4 0)
later_stores at loads = subst (λ (n : ℕ). TakesStoresAt (get_and_put 5) (all_but 2) 0 n (get_byte 0 2 4 0)) (sym (first_byte at 2 4 0 loads))
    (stores_from (get_and_put 5) (all_but 2) 0 0 (get_byte 0 2 4 0) (λ _ _ _. refl, (λ _ _ _. refl, (λ _ begun _. absurd (let b : 5 ≤ 4 = begun in omega (arith, b)), tt))))

later_goes : IsSlice (get_and_put 5) (all_but 2)
later_goes = slice_from (get_and_put 5) (all_but 2) (λ on. (later_objects, λ at loads. absurd (cc loads)), (λ on. (later_objects, later_stores), (λ off. absurd (cc off), tt)))

pub returns-clause-later : goal.returns-clause-later
returns-clause-later c = (
  later_goes,
  λ slice. let on : false ≡ true = (slice 1 (get_byte 0 2 4 0) refl refl).1 0 refl 2 (put_byte 1 4 6) refl refl (omega arith) (let l : 0 ≤ 6 = omega arith in l) in absurd (cc on),
)

-- ---- a `get` of two bytes

pub returns-clause-bytes : goal.returns-clause-bytes
returns-clause-bytes c = λ slice.
    let load : Call = call 1 4 5 (Get 0 0 2) (Bytes (record { items = 0 ∷ 7 ∷ [] })) in
    let store : Call = call 0 2 3 (Put 0 1 (record { items = 7 ∷ [] })) Done in
    let on : false ≡ true = (slice 2 load refl refl).1 1 refl 1 store refl refl (omega arith) (let l : 2 ≤ 3 = omega arith in l) in absurd (cc on)

-- ---- a `put` on an object that is freed

freed_objects : TakesNewAndFree put_and_free (all_but 1) 0
freed_objects = objects_from put_and_free (all_but 1) 0 (λ _. refl, (λ e. absurd (cc e), (λ _. refl, tt)))

put_goes : IsSlice put_and_free (all_but 1)
put_goes = slice_from put_and_free (all_but 1) (
  λ on. (freed_objects, λ at loads. absurd (cc loads)),
  (λ off. absurd (cc off), (λ on. (freed_objects, λ at loads. absurd (cc loads)), tt)),
)

pub returns-clause-objects : goal.returns-clause-objects
returns-clause-objects c = (
  put_goes,
  λ slice. let on : false ≡ true = (slice 1 (put_byte 0 2 3) refl refl).0 0 first_object refl refl in absurd (cc on),
  λ slice. let on : false ≡ true = (slice 1 (put_byte 0 2 3) refl refl).0 2 (free_first 0 4 5) refl refl in absurd (cc on),
)
