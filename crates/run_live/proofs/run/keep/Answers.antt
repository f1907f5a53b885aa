use Rattle.std.proofs.Common.{◌≤◌, ◌<◌, length, sym, subst, arith}
use Rattle.std.proofs.lemmas.Bool.{ne_eqb}
use Rattle.run_live.specs.Runs.{Keeps}
use Rattle.run_live.proofs.Runs.{keep_none, keep_one}
use Rattle.run_live.proofs.run.keep.Goals as goal

pub returns-in_ok-push : goal.returns-in_ok-push
returns-in_ok-push c =
    let few : length c.args.line.now.items ≤ 1024 = omega (arith, c.if-len-le-MAX_LINE_BYTES.true, c.len.ensures, c.args.line.now.ok.0) in
    subst (λ kept. Keeps c.args.line.now.items c.args.byte kept) (sym c.in_ok-push.ensures.items)
    (keep_one c.args.line.now.items c.args.byte (ne_eqb c.args.byte 10 c.requires) few)

pub returns-else-len-le-MAX_LINE_BYTES : goal.returns-else-len-le-MAX_LINE_BYTES
returns-else-len-le-MAX_LINE_BYTES c =
    let many : 1024 < length c.args.line.now.items = omega (arith, c.if-len-le-MAX_LINE_BYTES.false, c.len.ensures, c.args.line.now.ok.0) in
    keep_none c.args.line.now.items c.args.byte (ne_eqb c.args.byte 10 c.requires) many
