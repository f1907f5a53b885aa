use Rattle.std.proofs.Common.{◌∙◌, Bool, Some, codes, option_map, ap}
use Rattle.std.specs.Str.{bytes_eq}
use Rattle.clap.specs.Words.{Text, found_of}
use Rattle.clap.proofs.WalkLemmas.{first_value-rows}
use Rattle.run_command_line.proofs.values.is_given.Goals as goal

-- what the flag's value says
abbrev is_true : Text → Bool
is_true value = bytes_eq value (codes "true")

pub returns-in_err-value : goal.returns-in_err-value
returns-in_err-value c =
    c.from_residual.ensures ∙ ap (option_map is_true) (c.in_err-value.ensures ∙ first_value-rows (found_of c.args.matches.now) c.args.flag.now)

pub returns : goal.returns
returns c =
    ap Some c.eq.ensures ∙ ap (option_map is_true) (c.in_ok-value.ensures ∙ first_value-rows (found_of c.args.matches.now) c.args.flag.now)
