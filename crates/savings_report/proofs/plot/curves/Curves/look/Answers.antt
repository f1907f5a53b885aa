use Rattle.std.proofs.Common.{◌++◌, ◌∷◌, [], List, sym, subst, arith}
use Rattle.savings_report.specs.Intervals.{AreOf, Gathered, IsOf, reading}
use Rattle.savings_report.specs.declared.plot.readings.Reading.{Reading}
use Rattle.savings_report.proofs.PlotWindows.{look_measured}
use Rattle.savings_report.proofs.plot.curves.Curves.look.Goals as goal

pub returns-then-self-2 : goal.returns-then-self-2
returns-then-self-2 c = λ window samples h.
    let before = subst (λ (f : Gathered). IsOf f window samples) (sym c.self.view_is) h in
    let add : (rs : List Reading) → AreOf c.self.inside.intervals rs → AreOf c.add.new.self (rs ++ reading c.args.sample.now ∷ []) =
    λ rs are. subst (λ (r : Reading). AreOf c.add.new.self (rs ++ r ∷ [])) c.of-reading.ensures (c.add.ensures.value rs are) in
    look_measured window _ _ _ c.self.inside.window samples c.args.sample.now c.self.invariant.0 c.add.ensures.sound (omega arith) (omega arith) add before
