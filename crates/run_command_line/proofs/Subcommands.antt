-- What `clap` is told of the table of the subcommands.
use Rattle.std.proofs.Common.{◌≡◌, ◌∙◌, ◌≤◌, ◌-◌, List, [], ◌∷◌, true, ap, drop, length, refl, slice_index_or, take, arith}
use Rattle.std.proofs.lemmas.List.{take_all}
use Rattle.clap.specs.Words.{AddsArg, AddsSubcommand, App, app_of, rule_of}
use Rattle.clap.specs.declared.builder.arg.Arg.{Arg}
use Rattle.clap.specs.declared.builder.command.Command.{Command}
use Rattle.run_command_line.specs.Subcommands.{argument_rule, subcommand_app, with_arguments, with_subcommands}
use Rattle.run_command_line.specs.declared.options.Argument.{Argument}
use Rattle.run_command_line.specs.declared.options.Argument.TheVariants.{Default, File, Flag, Meshes, Optional, Required, Text, Texts}
use Rattle.run_command_line.specs.declared.options.Subcommand.{Subcommand}
use Rattle.run_command_line.proofs.CommandsBuilt.{with_argument, with_command}

-- what stands behind the first of some items
behind_first : {X : Type 0} (first : X) (behind : List X) → take (length (first ∷ behind) - 1) behind ≡ behind
behind_first first behind =
    let long : length (first ∷ behind) - 1 ≡ length behind = omega arith in
    rw long (take_all (length behind) behind (omega arith))

simple_rule : (argument : Argument) → (argument_rule argument).is_simple ≡ true
simple_rule (File help) = refl
simple_rule Meshes = refl
simple_rule (Required option) = refl
simple_rule (Default option default) = refl
simple_rule (Optional option) = refl
simple_rule (Flag name help) = refl
simple_rule (Text option) = refl
simple_rule (Texts option) = refl

-- a command with the first of the arguments that are left
pub first_argument : (old new : Command) (a : Arg) (app : App) (arguments : List Argument) (none : Argument) → 1 ≤ length arguments → AddsArg old a new
    → rule_of a ≡ argument_rule (slice_index_or arguments 0 none) → with_arguments (app_of old) arguments ≡ app
    → with_arguments (app_of new) (take (length arguments - 1) (drop 1 arguments)) ≡ app
first_argument old new a app [] none some adds rule is = absurd (omega (arith, some))
first_argument old new a app (argument ∷ behind) none some adds rule is =
    rw (behind_first argument behind) (ap (λ (with : App). with_arguments with behind) (with_argument _ _ _ _ _ adds refl rule (simple_rule argument)) ∙ is)

plain_arguments : (app : App) (arguments : List Argument) → (with_arguments app arguments).top.is_plain ≡ app.top.is_plain
plain_arguments app [] = refl
plain_arguments app (argument ∷ arguments) = plain_arguments _ arguments

-- a command with the first of the subcommands that are left
pub first_subcommand : (old sub new : Command) (app : App) (subcommands : List Subcommand) (none : Subcommand) → 1 ≤ length subcommands → AddsSubcommand old sub new
    → app_of sub ≡ subcommand_app (slice_index_or subcommands 0 none) → with_subcommands (app_of old) subcommands ≡ app
    → with_subcommands (app_of new) (take (length subcommands - 1) (drop 1 subcommands)) ≡ app
first_subcommand old sub new app [] none some adds below is = absurd (omega (arith, some))
first_subcommand old sub new app (subcommand ∷ behind) none some adds below is =
    rw (behind_first subcommand behind)
    (ap (λ (with : App). with_subcommands with behind) (with_command _ _ _ _ _ adds refl below (plain_arguments _ subcommand.arguments.now)) ∙ is)
