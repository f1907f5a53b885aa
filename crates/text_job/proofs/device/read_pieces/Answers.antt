use Rattle.std.proofs.Common.{◌≤◌, length, take, rules, arith, length-take}
use Rattle.std.proofs.lemmas.Slice.{take-put_mid_below}
use Rattle.text_job.proofs.Pieces.{counted_on, front_and_part}
use Rattle.text_job.proofs.device.read_pieces.Goals as goal

pub loop-count-preserved : goal.loop-count-preserved
loop-count-preserved g c =
    let left = g.I.Source.remaining in
    let part = take c.in_ok-more.more c.read_some.new.buf in
    let within : c.in_ok-more.more ≤ length c.read_some.new.buf = c.in_ok-more.ensures.within in
    record {
      room = search rules;
      few = c.in_ok-held.ensures.few;
      most = search rules;
      fresh = search rules;
      counted = counted_on _ _ _ _ _ _ _ _ _ _ _
          c.loop-count.invariant.counted c.in_ok-more.ensures.bytes (omega (arith, within, length-take c.in_ok-more.more c.read_some.new.buf))
          (front_and_part _ _ _ _ _
          (omega (arith, c.loop-count.invariant.room, c.loop-count.invariant.few, length-take c.loop-count.held c.loop-count.buffer)) within) c.in_ok-held.ensures.held;
    }

pub returns-then-more-eq0-clause-held : goal.returns-then-more-eq0-clause-held
returns-then-more-eq0-clause-held g c = grind (arith, take-put_mid_below)
