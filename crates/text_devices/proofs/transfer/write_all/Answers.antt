use Rattle.std.proofs.Common.{◌∙◌, ◌-◌, length, drop, length-take, length-drop, rules, arith}
use Rattle.text_devices.proofs.Parts.{wrote_more, wrote_beginning}
use Rattle.text_devices.proofs.transfer.write_all.Goals as goal

pub loop-done-preserved : goal.loop-done-preserved
loop-done-preserved g c = record {
  within = let within = c.in_ok-done.ensures.within in omega (arith, length-take (length c.args.bytes.now - c.loop-done.done) (drop c.loop-done.done c.args.bytes.now), length-drop c.loop-done.done c.args.bytes.now);
  sound = c.in_ok-done.ensures.fails ∙ c.loop-done.invariant.sound;
  taken = wrote_more _ _ _ c.args.bytes.now c.loop-done.done c.in_ok-done.field-0 c.loop-done.invariant.taken c.in_ok-done.ensures.ok;
}

pub returns-in_err-done-clause-err : goal.returns-in_err-done-clause-err
returns-in_err-done-clause-err g c =
    let stopped = wrote_beginning _ _ _ c.args.bytes.now c.loop-done.done c.loop-done.invariant.taken c.in_err-done.ensures.err in
    search rules
