use Rattle.std.proofs.Common.{◌≡◌, ℕ, ap, refl, subst, sym, Option, None, Some}
use Rattle.std.specs.Ordering.{nat_cmp}
use Rattle.std.specs.BTreeMap.{UpdatesBy, get}
use Rattle.model_words.specs.declared.commands.Command.{Command}
use Rattle.model_intervals.specs.OverlappingCalls.{IsNew, cell_of}
use Rattle.history_number_set.specs.Ranges.{Has}
use Rattle.history_overlaps.specs.Begins.{IsFirstAccess}
use Rattle.history_overlaps.specs.Standing.{IsMisusedSo, lives_of, waits_of}
use Rattle.history_overlaps.specs.declared.misuses.NotBegun.{NotBegun}
use Rattle.history_overlaps.proofs.BeginSteps.{busy_so, few_less, free_so, stray_so}
use Rattle.history_overlaps.proofs.MapSteps.{removed, removed_kept, removed_others}
use Rattle.history_overlaps.proofs.timeline.Timeline.free_begun.Goals as goal

pub returns-in_default-clause-misused : goal.returns-in_default-clause-misused
returns-in_default-clause-misused c = λ entry frees.
    stray_so c.args.self.now c.args.number c.args.cell entry (sym c.in_default.ensures.value) (ap (λ (d : Command). cell_of d) frees) c.stray.result c.stray.ensures
    (λ is_new. subst (λ (d : Command). IsNew d) frees is_new)

pub returns-in-Some-first_access-clause-misused : goal.returns-in-Some-first_access-clause-misused
returns-in-Some-first_access-clause-misused c = λ entry frees.
    subst (λ (b : NotBegun). IsMisusedSo c.args.self.now c.args.number entry b) (sym c.broken.ensures)
    (busy_so c.args.self.now c.args.number c.args.cell c.in-Some-first_access.access entry frees
    (subst (λ (o : Option ℕ). IsFirstAccess (waits_of c.args.self.now) c.args.cell o) c.in-Some-first_access.is c.first_access.ensures))

pub returns-clause-begun : goal.returns-clause-begun
returns-clause-begun c = λ entry frees.
    let there = subst (λ (a : ℕ). UpdatesBy nat_cmp (nat_cmp a) c.args.self.now.starts c.remove-2.new.self None) c.from.ensures c.remove-2.ensures.updates in
    free_so c.args.self.now (get nat_cmp c.remove.new.self) (get nat_cmp c.remove-2.new.self) (Has c.add.new.set) c.args.number c.args.cell entry c.in-Some.life frees
    (subst (λ (o : Option ℕ). IsFirstAccess (waits_of c.args.self.now) c.args.cell o) c.in_default-first_access.is c.first_access.ensures)
    (sym c.in-Some.ensures.value)
    (removed c.args.self.now.lives c.remove.new.self c.args.cell c.in-Some.ensures.updates)
    (removed_others c.args.self.now.lives c.remove.new.self c.args.cell c.in-Some.ensures.updates)
    (removed c.args.self.now.starts c.remove-2.new.self c.in-Some.life.object.address there)
    (removed_others c.args.self.now.starts c.remove-2.new.self c.in-Some.life.object.address there)
    c.in_ok-add.ensures

pub returns-clause-few : goal.returns-clause-few
returns-clause-few c = λ count few.
    few_less (lives_of c.args.self.now) (get nat_cmp c.remove.new.self) count
    (λ q life is. removed_kept c.args.self.now.lives c.remove.new.self c.args.cell c.in-Some.ensures.updates q life is) few
