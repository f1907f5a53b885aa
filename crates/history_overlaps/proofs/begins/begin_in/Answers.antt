use Rattle.std.proofs.Common.{arith, sym}
use Rattle.history_object.specs.declared.faults.JudgeFault.TheVariants.{Memory}
use Rattle.std.specs.Ordering.{nat_cmp}
use Rattle.std.specs.BTreeMap.{get}
use Rattle.history_overlaps.specs.Stops.{CannotBeginIn}
use Rattle.text_devices.proofs.LineSteps.{handed_on}
use Rattle.history_overlaps.proofs.begins.begin_in.Goals as goal

pub begin-requires : goal.begin-requires
begin-requires c = record {
  fresh = λ judge is opened. let there = sym c.in-Some.ensures.value in let low = c.requires.few c.args.cell c.in-Some.life.now judge c.args.number there is opened in omega (arith, low);
}

pub returns-in_err-access-clause-stopped : goal.returns-in_err-access-clause-stopped
returns-in_err-access-clause-stopped c = handed_on c.from_residual.result Memory (CannotBeginIn (get nat_cmp c.args.lives.now) c.args.cell) c.from_residual.ensures.1
    (c.in-Some.life.now, sym c.in-Some.ensures.value, tt)

pub returns-in_err-begin-clause-stopped : goal.returns-in_err-begin-clause-stopped
returns-in_err-begin-clause-stopped c =
    handed_on c.from_residual-in_err-begin.result c.in_err-begin.field-0.0 (CannotBeginIn (get nat_cmp c.args.lives.now) c.args.cell) c.from_residual-in_err-begin.ensures.1
    (c.in-Some.life.now, sym c.in-Some.ensures.value, c.in_err-begin.ensures.stopped)
