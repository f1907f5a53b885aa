use Rattle.std.proofs.Common.{◌≤◌, rules}
use Rattle.history_reading.proofs.QuickEntries.{free_is}
use Rattle.history_reading.proofs.quick.free_of.Goals as goal

pub returns : goal.returns
returns c =
    let cell : c.in_ok-of.of ≤ 4294967295 = search rules in
    free_is c.args.worker c.in_ok-of.of c.args.fields.now c.in_ok-of.rest.now c.in_ok-rest.rest.now c.requires cell c.in_ok-of.ensures c.in_ok-rest.ensures
