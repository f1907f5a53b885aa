use Rattle.std.proofs.Common.{◌≤◌, rules}
use Rattle.history_reading.proofs.QuickEntries.{alias_is}
use Rattle.history_reading.proofs.quick.alias_of.Goals as goal

pub returns : goal.returns
returns c =
    let to : c.in_ok-to.to ≤ 4294967295 = search rules in
    let from : c.in_ok-from.from ≤ 4294967295 = search rules in
    alias_is c.args.worker c.in_ok-to.to c.in_ok-from.from c.args.fields.now c.in_ok-to.rest.now c.in_ok-from.rest.now c.in_ok-rest.rest.now
    c.requires to from c.in_ok-to.ensures c.in_ok-from.ensures c.in_ok-rest.ensures
