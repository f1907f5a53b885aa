use Rattle.std.proofs.Common.{◌∙◌, option_map, ap}
use Rattle.run_command_line.specs.CommandLine.{asking, explore_of}
use Rattle.run_command_line.proofs.draw_steps.draw_steps.Goals as goal

pub returns-in_err-explored : goal.returns-in_err-explored
returns-in_err-explored c conditions =
    ap (option_map (asking conditions)) c.from_residual.ensures ∙ ap (option_map (explore_of c.args.file.now)) (c.in_err-explored.ensures conditions)
