use Rattle.std.proofs.Common.{◌+◌, List, Option, None, get_or, subst, sym, take, ℕ}
use Rattle.std.proofs.lemmas.List.{take_all, take_more}
use Rattle.history_overlaps.specs.Followed.{IsFirstOf, sooner}
use Rattle.history_overlaps.proofs.FirstToEnd.{sooner_more}
use Rattle.history_overlaps.proofs.own_orders.first_to_end.Goals as goal

pub loop-number-preserved : goal.loop-number-preserved
loop-number-preserved c =
    let calls = c.args.calls.now in let numbers = c.args.numbers.now in let n = c.loop-number.number-index in
    subst (λ (first : Option ℕ). IsFirstOf calls (take (n + 1) numbers) first) (sym c.sooner-first.ensures)
    (subst (λ (some : List (Option ℕ)). IsFirstOf calls some (sooner calls c.loop-number.first (get_or numbers n None))) (sym (take_more numbers n None c.loop-number-test.true))
    (sooner_more calls (take n numbers) c.loop-number.first (get_or numbers n None) c.loop-number.invariant))

pub returns : goal.returns
returns c =
    subst (λ (some : List (Option ℕ)). IsFirstOf c.args.calls.now some c.loop-number.first) (take_all c.loop-number.number-index c.args.numbers.now c.loop-number-test.false)
    c.loop-number.invariant
