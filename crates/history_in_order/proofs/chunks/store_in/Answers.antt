use Rattle.std.proofs.Common.{sym, ◌∙◌, ap, length, ℕ, List, arith}
use Rattle.std.specs.Ordering.{nat_cmp}
use Rattle.std.specs.BTreeMap.{get}
use Rattle.std.proofs.lemmas.Grind.{common_steps}
use Rattle.history_in_order.proofs.Kept.{absent_bytes, kept_bytes}
use Rattle.history_in_order.proofs.chunks.store_in.Goals as goal

pub returns-in-Some-clause-sized : goal.returns-in-Some-clause-sized
returns-in-Some-clause-sized c =
    ap (λ (xs : List ℕ). length xs) (kept_bytes (get nat_cmp c.args.chunks.now) c.args.number c.in-Some.kept.now (sym c.in-Some.ensures.value)) ∙ c.write.ensures.sized

pub returns-in-Ok-clause-sized : goal.returns-in-Ok-clause-sized
returns-in-Ok-clause-sized c =
    ap (λ (xs : List ℕ). length xs) (absent_bytes (get nat_cmp c.args.chunks.now) c.args.number (sym c.in_default.ensures.value))

pub returns-in_err-fresh-clause-sized : goal.returns-in_err-fresh-clause-sized
returns-in_err-fresh-clause-sized c =
    ap (λ (xs : List ℕ). length xs) (absent_bytes (get nat_cmp c.args.chunks.now) c.args.number (sym c.in_default.ensures.value))

pub returns-in-Ok-clause-stored : goal.returns-in-Ok-clause-stored
returns-in-Ok-clause-stored c =
    let is = absent_bytes (get nat_cmp c.args.chunks.now) c.args.number (sym c.in_default.ensures.value) in rw is (grind (arith, common_steps))

pub returns-in-Some-clause-stored : goal.returns-in-Some-clause-stored
returns-in-Some-clause-stored c =
    let is = kept_bytes (get nat_cmp c.args.chunks.now) c.args.number c.in-Some.kept.now (sym c.in-Some.ensures.value) in rw is (grind (arith, common_steps))
