use Rattle.std.proofs.Common.{◌≡◌, ◌↔◌, ◌⊎◌, ℕ, List, Result, Ok, Err, OnOk, OnErr, subst, sym}
use Rattle.std.proofs.lemmas.Result.{on_ok_weaker}
use Rattle.history_number_set.specs.Ranges.{AreApart, Has, last_in}
use Rattle.history_number_set.proofs.Joined.{joined_apart, joined_has}
use Rattle.history_number_set.proofs.set.NumberSet.add.Goals as goal

-- the number isn't in the ranges
is_new : (c : goal.After-join) → Has c.self.inside.ranges.entries c.args.number → ⊥
is_new c has = c.requires (let P : List (ℕ × ℕ) → Type 0 = λ s. Has s c.args.number in subst P c.self.view_is has)

-- what holds in each case
either_way : {T E P Q R : Type 0} (r : Result T E) → OnOk r P → OnErr r Q → (P → R) → (Q → R) → R
either_way (Ok x) p q ok err = ok p
either_way (Err e) p q ok err = err q

pub invariant_of-self : goal.invariant_of-self
invariant_of-self c =
    let P : List (ℕ × ℕ) → Type 0 = λ s. AreApart (last_in s) in
    either_way c.join.result c.join.ensures.joined c.join.ensures.unchanged
    (λ joined. joined_apart (last_in c.self.inside.ranges.entries) (last_in c.join.new.ranges.entries) c.args.number c.first_with-first.result c.last_with-last.result
    c.self.invariant (is_new c) c.first_with-first.ensures c.last_with-last.ensures joined)
    (λ unchanged. subst P (sym unchanged) c.self.invariant)

pub returns-clause-added : goal.returns-clause-added
returns-clause-added c =
    let P : List (ℕ × ℕ) → Type 0 = λ s. (n : ℕ) → Has c.join.new.ranges.entries n ↔ ((n ≡ c.args.number) ⊎ Has s n) in
    on_ok_weaker c.join.result (λ joined. subst P c.self.view_is
    (joined_has (last_in c.self.inside.ranges.entries) (last_in c.join.new.ranges.entries) c.args.number c.first_with-first.result c.last_with-last.result
    c.self.invariant (is_new c) c.first_with-first.ensures c.last_with-last.ensures joined)) c.join.ensures.joined
