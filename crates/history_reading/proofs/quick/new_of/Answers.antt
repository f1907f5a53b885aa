use Rattle.std.proofs.Common.{◌≤◌, ◌<◌, ◌^◌, rules}
use Rattle.history_reading.proofs.QuickEntries.{new_is, new_text, object_text}
use Rattle.history_reading.proofs.quick.new_of.Goals as goal

pub returns : goal.returns
returns c =
    let cell : c.in_ok-cell.cell ≤ 4294967295 = search rules in
    let word : c.in_ok-word.word < 2 ^ 64 = search rules in
    let serial : c.in_ok-serial.serial ≤ 4294967295 = search rules in
    new_is c.args.worker c.in_ok-cell.cell c.in_ok-len.len c.in_ok-word.word c.in_ok-serial.serial c.in_ok-address.address c.args.fields.now c.in_ok-word.rest.now
    c.in_ok-address.rest.now c.requires cell c.in_ok-len.ensures.most word serial c.in_ok-address.ensures.most
    (new_text c.in_ok-cell.cell c.in_ok-len.len c.in_ok-word.word c.args.fields.now c.in_ok-cell.rest.now c.in_ok-len.rest.now c.in_ok-word.rest.now c.in_ok-cell.ensures c.in_ok-len.ensures.spelt c.in_ok-word.ensures)
    (object_text c.in_ok-serial.serial c.in_ok-address.address c.in_ok-word.rest.now c.in_ok-behind_all.field-0.now c.in_ok-serial.rest.now c.in_ok-behind_all-2.field-0.now c.in_ok-address.rest.now
    c.in_ok-behind_all.ensures c.in_ok-serial.ensures c.in_ok-behind_all-2.ensures c.in_ok-address.ensures.spelt)
