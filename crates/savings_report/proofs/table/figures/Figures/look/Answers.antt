use Rattle.std.proofs.Common.{arith, inl, inr, refl, sym, subst}
use Rattle.savings_report.specs.Figures.{Gathered, IsOf}
use Rattle.savings_report.proofs.TableWindows.{look_measured, look_passed}
use Rattle.savings_report.proofs.table.figures.Figures.look.Goals as goal
use Rattle.savings_report.proofs.table.figures.Figures.look.Goals.{else-self-via-then-self+else-self-2, else-self-via-else-self}

pub returns-then-self-2 : goal.returns-then-self-2
returns-then-self-2 c = λ window samples h.
    let before = subst (λ (f : Gathered). IsOf f window samples) (sym c.self.view_is) h in
    look_measured window _ _ samples c.args.sample.now refl refl (omega arith) (omega arith) c.add.ensures.measured before

pub returns-else-self : goal.returns-else-self
returns-else-self c = λ window samples h.
    let before = subst (λ (f : Gathered). IsOf f window samples) (sym c.self.view_is) h in
    elim c.else-self.branch [
      | else-self-via-then-self+else-self-2 w ↦ rw w.self-is (look_passed window _ _ samples c.args.sample.now refl refl (inr (omega arith)) refl before)
      | else-self-via-else-self w ↦ rw w.self-is (look_passed window _ _ samples c.args.sample.now refl refl (inl (omega arith)) refl before)
    ]
