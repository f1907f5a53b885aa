-- The table of the subcommands, as it is passed to `clap`.
use Rattle.std.specs.Prelude.{List, [], ◌∷◌}
use Rattle.clap.specs.Words.{App, Rule, new_app, with_rule, with_subcommand}
use Rattle.run_command_line.specs.CommandLine.{file_rule, flag_rule, mesh_rule, number_or, number_rule, required_number, text_rule, texts_rule}
use Rattle.run_command_line.specs.declared.options.Argument.{Argument}
use Rattle.run_command_line.specs.declared.options.Argument.TheVariants.{Default, File, Flag, Meshes, Optional, Required, Text, Texts}
use Rattle.run_command_line.specs.declared.options.Subcommand.{Subcommand}

-- the rule that is passed to `clap` for an argument of a subcommand
abbrev pub argument_rule : Argument → Rule
argument_rule (File help) = file_rule
argument_rule Meshes = mesh_rule
argument_rule (Required option) = required_number option.range.name.now option.range.least option.range.most
argument_rule (Default option default) = number_or option.range.name.now option.range.least option.range.most default.now
argument_rule (Optional option) = number_rule option.range.name.now option.range.least option.range.most
argument_rule (Flag name help) = flag_rule name.now
argument_rule (Text option) = text_rule option.name.now
argument_rule (Texts option) = texts_rule option.name.now

-- the command with these arguments added at the end
abbrev pub with_arguments : App → List Argument → App
with_arguments app [] = app
with_arguments app (argument ∷ arguments) = with_arguments (with_rule app (argument_rule argument)) arguments

-- the `clap` command of a subcommand
abbrev pub subcommand_app : Subcommand → App
subcommand_app subcommand = with_arguments (new_app subcommand.name.now) subcommand.arguments.now

-- the command with these subcommands added at the end
abbrev pub with_subcommands : App → List Subcommand → App
with_subcommands app [] = app
with_subcommands app (subcommand ∷ subcommands) = with_subcommands (with_subcommand app (subcommand_app subcommand).top) subcommands
