use Rattle.std.proofs.Common.{◌≡◌, ◌-◌, ◌∷◌, ◌++◌, List, ℕ, drop, length, rules, subst, take}
use Rattle.std.specs.Prelude.{IfSome, codes}
use Rattle.text_job.specs.Quick.{IsQuickLine}
use Rattle.text_job.proofs.QuickLines.{four_first, some_weaker}
use Rattle.text_job.proofs.quick.quick_line.Goals as goal

pub returns-in-114 : goal.returns-in-114
returns-in-114 c =
    let whole : codes "run" ++ 32 ∷ take (length c.args.text.now - 4) (drop 4 c.args.text.now) ≡ c.args.text.now = search (rules, four_first c.args.text.now) in
    subst (λ (text : List ℕ). IfSome c.run_of.result (λ read. IsQuickLine c.args.version c.args.workers text read.0 read.1.now)) whole
    (some_weaker c.run_of.result _ _ (λ read known. known c.args.version) c.run_of.ensures)

pub returns-in-115 : goal.returns-in-115
returns-in-115 c =
    let whole : codes "step" ++ take (length c.args.text.now - 4) (drop 4 c.args.text.now) ≡ c.args.text.now = search (rules, four_first c.args.text.now) in
    subst (λ (text : List ℕ). IfSome c.step_of.result (λ read. IsQuickLine c.args.version c.args.workers text read.0 read.1.now)) whole
    (some_weaker c.step_of.result _ _ (λ read known. known c.args.workers) c.step_of.ensures)
