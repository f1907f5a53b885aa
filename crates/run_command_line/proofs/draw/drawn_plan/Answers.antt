use Rattle.std.proofs.Common.{◌∙◌, Bool, ap}
use Rattle.std.specs.Prelude.{codes, is_some, option_and_then}
use Rattle.clap.specs.Words.{first_of, found_of, rows_of}
use Rattle.run_command_line.specs.CommandLine.{Shown, draw_by, flag_in, shown_of}
use Rattle.run_command_line.proofs.draw.drawn_plan.Goals as goal

pub returns : goal.returns
returns c conditions =
    let file = c.args.file.now in
    let rows = rows_of (found_of c.args.matches.now) in
    let columns = is_some (first_of (codes "columns") rows) in
    let shown = shown_of c.in_ok-shown.shown in
    c.draw_of.ensures conditions
    ∙ ap (λ (given : Bool). draw_by file shown c.in_ok-is_text.is_text c.in_ok-is_page.is_page given) c.has_value-has_columns.ensures
    ∙ ap (option_and_then (λ (page : Bool). draw_by file shown c.in_ok-is_text.is_text page columns)) c.in_ok-is_page.ensures
    ∙ ap (option_and_then (λ (text : Bool). option_and_then (λ (page : Bool). draw_by file shown text page columns) (flag_in (codes "html") rows))) c.in_ok-is_text.ensures
    ∙ ap (option_and_then (λ (s : Shown). option_and_then (λ (text : Bool). option_and_then (λ (page : Bool). draw_by file s text page columns) (flag_in (codes "html") rows)) (flag_in (codes "text") rows)))
    c.in_ok-shown.ensures
