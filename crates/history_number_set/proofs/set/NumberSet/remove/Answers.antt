use Rattle.std.proofs.Common.{◌≢◌, ◌↔◌, ℕ, List, Result, Ok, Err, OnOk, OnErr, subst, sym}
use Rattle.std.proofs.lemmas.Result.{on_ok_weaker}
use Rattle.history_number_set.specs.Ranges.{AreApart, Has, last_in}
use Rattle.history_number_set.proofs.Parted.{parted_apart, parted_has}
use Rattle.history_number_set.proofs.set.NumberSet.remove.Goals as goal

-- what holds in each case
either_way : {T E P Q R : Type 0} (r : Result T E) → OnOk r P → OnErr r Q → (P → R) → (Q → R) → R
either_way (Ok x) p q ok err = ok p
either_way (Err e) p q ok err = err q

pub invariant_of-self : goal.invariant_of-self
invariant_of-self c =
    let P : List (ℕ × ℕ) → Type 0 = λ s. AreApart (last_in s) in
    either_way c.part.result c.part.ensures.parted c.part.ensures.unchanged
    (λ parted. parted_apart (last_in c.self.inside.ranges.entries) (last_in c.part.new.ranges.entries) c.args.number c.self.invariant parted)
    (λ unchanged. subst P (sym unchanged) c.self.invariant)

pub returns-clause-removed : goal.returns-clause-removed
returns-clause-removed c =
    let P : List (ℕ × ℕ) → Type 0 = λ s. (n : ℕ) → Has c.part.new.ranges.entries n ↔ (Has s n × (n ≢ c.args.number)) in
    on_ok_weaker c.part.result (λ parted. subst P c.self.view_is
    (parted_has (last_in c.self.inside.ranges.entries) (last_in c.part.new.ranges.entries) c.args.number c.self.invariant parted)) c.part.ensures.parted
