use Rattle.std.proofs.Common.{◌∙◌, ℕ, ap, take}
use Rattle.std.proofs.lemmas.List.{take_min}
use Rattle.run_program.proofs.unopened.beginning.Goals as goal

pub returns : goal.returns
returns c = ap (λ (n : ℕ). take n c.args.name.now) c.min.ensures ∙ take_min 4096 c.args.name.now
