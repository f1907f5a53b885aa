use Rattle.std.proofs.Common.{List, ℕ, ◌++◌, subst, sym}
use Rattle.std.specs.Prelude.{IfSome, codes}
use Rattle.text_job.specs.Quick.{IsQuickLine}
use Rattle.model_words.specs.declared.versions.Version.{Version}
use Rattle.text_job.proofs.quick.step_of.Goals as goal

pub returns-in_ok-behind-in-Two : goal.returns-in_ok-behind-in-Two
returns-in_ok-behind-in-Two c =
    subst (λ (version : Version). IfSome c.class_step_of.result (λ read. (workers : ℕ) → IsQuickLine version workers (codes "step" ++ c.args.fields.now) read.0 read.1.now)) (sym c.in-Two.is)
    (subst (λ (fields : List ℕ). IfSome c.class_step_of.result (λ read. (workers : ℕ) → IsQuickLine _ workers (codes "step" ++ fields) read.0 read.1.now)) (sym c.in_ok-behind-in-Two.ensures) c.class_step_of.ensures)
