use Rattle.std.proofs.Common.{◌∙◌, Bool, false, List, Option, None, ap, if◌then◌else◌, option_map}
use Rattle.clap.specs.Words.{Row, Text, found_of, rows_of}
use Rattle.run_command_line.specs.CommandLine.{Asked, drawn_exploration_in, drawn_plan_in, explore_of, has_steps_option}
use Rattle.run_command_line.proofs.draw.draw.Goals as goal

-- what `draw` asks for, by whether a mesh is given, and an option that needs one
abbrev drawn_by : Text → List Row → Bool → Bool → Option Asked
drawn_by file rows has_mesh has_option =
    if has_mesh then option_map (explore_of file) (drawn_exploration_in rows) else (if has_option then None else drawn_plan_in file rows)

pub returns-then-has_value : goal.returns-then-has_value
returns-then-has_value c conditions =
    let rows = rows_of (found_of c.args.matches.now) in
    c.draw_steps.ensures conditions ∙ ap (λ (has : Bool). drawn_by c.args.file.now rows has (has_steps_option rows)) c.if-has_value.ensures

pub returns : goal.returns
returns c conditions =
    let rows = rows_of (found_of c.args.matches.now) in
    c.drawn_plan.ensures conditions
    ∙ ap (drawn_by c.args.file.now rows false) c.if-has_steps_option.ensures
    ∙ ap (λ (has : Bool). drawn_by c.args.file.now rows has (has_steps_option rows)) c.if-has_value.ensures
