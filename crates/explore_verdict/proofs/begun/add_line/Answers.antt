use Rattle.std.proofs.Common.{ℕ, ◌++◌, ◌∷◌, [], ◌∙◌, ap}
use Rattle.std.specs.Prelude.{codes, decimal}
use Rattle.explore_verdict.proofs.BegunMeshes.{five_written}
use Rattle.explore_verdict.proofs.begun.add_line.Goals as goal

pub returns : goal.returns
returns c =
    five_written c.args.text.now.items (codes "no interleaving begins mesh ") (decimal c.args.pair.source) (codes ":") (decimal c.args.pair.destination) (10 ∷ [])
    c.extend_from_slice.new.self.items c.add_decimal.new.text.items c.push.new.self.items c.add_decimal-2.new.text.items c.push-2.new.self.items
    c.in_ok-extend_from_slice.ensures.items
    (c.in_ok-add_decimal.ensures ∙ ap (λ (n : ℕ). c.extend_from_slice.new.self.items ++ decimal n) c.from.ensures) c.in_ok-push.ensures.items
    (c.in_ok-add_decimal-2.ensures ∙ ap (λ (n : ℕ). c.push.new.self.items ++ decimal n) c.from-2.ensures) c.in_ok-push-2.ensures.items
