use Rattle.std.proofs.Common.{ℕ, ◌++◌, ◌∙◌, ap}
use Rattle.std.specs.Prelude.{codes, decimal}
use Rattle.explore_verdict.proofs.WrittenLines.{four_written}
use Rattle.explore_verdict.proofs.unseen.add_unseen_answer.Goals as goal

pub returns : goal.returns
returns c =
    four_written c.args.text.now.items (codes "; no outcome has answer ") (decimal c.args.unseen.answer) (codes " of worker ") (decimal c.args.unseen.worker)
    c.extend_from_slice.new.self.items c.add_decimal.new.text.items c.extend_from_slice-2.new.self.items c.add_decimal-2.new.text.items
    c.in_ok-extend_from_slice.ensures.items c.in_ok-add_decimal.ensures c.in_ok-extend_from_slice-2.ensures.items
    (c.in_ok-add_decimal-2.ensures ∙ ap (λ (n : ℕ). c.extend_from_slice-2.new.self.items ++ decimal n) c.from.ensures)
