use Rattle.std.proofs.Common.{ℕ, subst, sym, refl, Option, Some, None}
use Rattle.std.specs.Prelude.{IfSome, IsNone}
use Rattle.std.specs.Ordering.{nat_cmp}
use Rattle.std.specs.BTreeMap.{UpdatesBy, get}
use Rattle.history_number_set.specs.Ranges.{Has}
use Rattle.history_overlaps.specs.Ends.{IsOverlapped}
use Rattle.history_overlaps.specs.Standing.{lives_of}
use Rattle.history_overlaps.specs.declared.objects.NewObject.{NewObject}
use Rattle.history_overlaps.proofs.EndSteps.{few_made, made_again, made_over, made_so, made_unfair}
use Rattle.history_overlaps.proofs.MapSteps.{set_at}
use Rattle.history_overlaps.proofs.timeline.Timeline.made.Goals as goal

pub returns-then-not-is_fair_length-clause-flawed : goal.returns-then-not-is_fair_length-clause-flawed
returns-then-not-is_fair_length-clause-flawed c = λ number. made_unfair c.args.self.now number c.args.object
    (λ fair. let is = c.is_fair_length.ensures.1 fair in let not = c.if-not-is_fair_length.true in cc (is, not))

pub returns-then-contains-clause-flawed : goal.returns-then-contains-clause-flawed
returns-then-contains-clause-flawed c = λ number. made_again c.args.self.now number c.args.object
    (c.is_fair_length.ensures.0 (let fair = c.if-not-is_fair_length.false in cc fair)).0 (c.is_fair_length.ensures.0 (let fair = c.if-not-is_fair_length.false in cc fair)).1
    (c.contains.ensures.0 c.if-contains.true)

pub returns-in-Some-clause-flawed : goal.returns-in-Some-clause-flawed
returns-in-Some-clause-flawed c = λ number. made_over c.args.self.now number c.args.object
    (c.is_fair_length.ensures.0 (let fair = c.if-not-is_fair_length.false in cc fair)).0 (c.is_fair_length.ensures.0 (let fair = c.if-not-is_fair_length.false in cc fair)).1
    c.in-Some.other
    (subst (λ (o : Option NewObject). IfSome o (IsOverlapped (lives_of c.args.self.now) c.args.object)) c.in-Some.is c.overlapped.ensures.some)

pub returns-clause-ended : goal.returns-clause-ended
returns-clause-ended c = λ none number.
    let there = subst (λ (a : ℕ). UpdatesBy nat_cmp (nat_cmp a) c.args.self.now.starts c.set.new.map (Some c.args.object.cell)) c.from.ensures c.in_ok-set.ensures in
    made_so c.args.self.now number c.args.object
    (c.is_fair_length.ensures.0 (let fair = c.if-not-is_fair_length.false in cc fair)).0 (c.is_fair_length.ensures.0 (let fair = c.if-not-is_fair_length.false in cc fair)).1
    (get nat_cmp c.set-2.new.map) (get nat_cmp c.set.new.map) (Has c.add.new.self)
    (λ has. let is = c.contains.ensures.1 has in let not = c.if-contains.false in cc (is, not))
    (c.overlapped.ensures.none (subst (λ (o : Option NewObject). IsNone o) (sym c.in_default.is) refl))
    c.in_ok-add.ensures.added
    (set_at c.args.self.now.starts c.set.new.map c.args.object.address (Some c.args.object.cell) there)
    (set_at c.args.self.now.lives c.set-2.new.map c.args.object.cell (Some (record { object = c.args.object; judge = None })) c.in_ok-set-2.ensures)

pub returns-clause-few : goal.returns-clause-few
returns-clause-few c = λ none count few. few_made (lives_of c.args.self.now) (get nat_cmp c.set-2.new.map) c.args.object.cell c.args.object count
    (set_at c.args.self.now.lives c.set-2.new.map c.args.object.cell (Some (record { object = c.args.object; judge = None })) c.in_ok-set-2.ensures) few
