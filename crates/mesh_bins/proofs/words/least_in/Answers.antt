use Rattle.std.proofs.Common.{◌<◌, ◌/◌, ◌^◌, arith, rules}
use Rattle.mesh_bins.proofs.WordLemmas.{least_none, least_some}
use Rattle.mesh_bins.proofs.words.least_in.Goals as goal

pub returns-then-rest-eq0 : goal.returns-then-rest-eq0
returns-then-rest-eq0 c = least_none c.args.word c.args.from c.if-rest-eq0.true

pub returns : goal.returns
returns c =
    let some : 0 < c.args.word / 2 ^ c.args.from = (let apart = c.if-rest-eq0.false in omega (arith, apart)) in
    least_some c.args.word c.args.from some (search rules) c.requires
