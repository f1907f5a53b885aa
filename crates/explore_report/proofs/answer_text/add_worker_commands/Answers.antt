use Rattle.std.proofs.Common.{◌<◌, arith, length}
use Rattle.explore_interleavings.specs.ExploreStates.{script_of}
use Rattle.explore_report.specs.CommandTexts.{command_at}
use Rattle.explore_report.proofs.CommandTexts.{from_next}
use Rattle.explore_report.proofs.answer_text.add_worker_commands.Goals as goal

pub loop-place-preserved : goal.loop-place-preserved
loop-place-preserved c =
    let x = c.args.state.now.setting in
    let lt : c.loop-place.place < length (script_of x c.args.worker) = omega arith in
    record {
      end = c.loop-place.invariant.end;
      text = from_next (command_at x c.args.listing.now c.args.worker) c.loop-place.place (length (script_of x c.args.worker)) _ _ _ lt
          c.loop-place.invariant.text c.in_ok-add_command_at.ensures;
    }
