-- What `clap`'s contracts say of a command that is built.
use Rattle.std.proofs.Common.{◌≡◌, ◌∙◌, Bool, true, false, IfOk, Result, ap, ap₂, refl, subst, sym}
use Rattle.std.proofs.Math.Bool.{and-false}
use Rattle.clap.specs.Walk.{is_simple_arg}
use Rattle.clap.specs.Words.{AddsArg, AddsSubcommand, App, Rule, app_of, rule_of, shape_of, with_rule, with_subcommand}
use Rattle.clap.specs.declared.builder.arg.Arg.{Arg}
use Rattle.clap.specs.declared.builder.command.Command.{Command}
use Rattle.clap.specs.declared.builder.command.Command.TheViews.{out-Command}
use Rattle.run_command_line.specs.CommandLine.{bare_app, check_app, draw_app, explore_app, judging_app, live_app, replay_app, runs_app, threads_app}

-- a simple argument is not global
local_arg : (a : Arg) → (rule_of a).is_simple ≡ true → a.global ≡ false
local_arg a simple = go a.global refl
  where
    go : (b : Bool) → a.global ≡ b → a.global ≡ false
    go false is = is
    go true is =
        let never : is_simple_arg a ≡ false = rw is (simp and-false) in
        let bad : true ≡ false = sym simple ∙ never in
        absurd (cc bad)

-- a plain command has no global argument
local_command : (c : Command) → (shape_of c).is_plain ≡ true → (out-Command c).has_globals ≡ false
local_command c plain = go (out-Command c).has_globals refl
  where
    go : (b : Bool) → (out-Command c).has_globals ≡ b → (out-Command c).has_globals ≡ false
    go false is = is
    go true is =
        let never : (shape_of c).is_plain ≡ false = rw is (simp and-false) in
        let bad : true ≡ false = sym plain ∙ never in
        absurd (cc bad)

-- a command with one more argument
pub with_argument : (old : Command) (a : Arg) (new : Command) (app : App) (r : Rule) → AddsArg old a new → app_of old ≡ app → rule_of a ≡ r → r.is_simple ≡ true
    → app_of new ≡ with_rule app r
with_argument old a new app r adds old_is is simple = adds.shape (local_arg a (ap (λ (x : Rule). x.is_simple) is ∙ simple)) ∙ ap₂ with_rule old_is is

-- a command with one more subcommand
pub with_command : (old sub new : Command) (app below : App) → AddsSubcommand old sub new → app_of old ≡ app → app_of sub ≡ below → below.top.is_plain ≡ true
    → app_of new ≡ with_subcommand app below.top
with_command old sub new app below adds old_is is plain =
    adds.shape (local_command sub (ap (λ (x : App). x.top.is_plain) is ∙ plain)) ∙ ap₂ with_subcommand old_is (ap (λ (x : App). x.top) is)

-- a program with the subcommands that run a heap added
abbrev running : App → App
running app = with_subcommand (with_subcommand (with_subcommand (with_subcommand app replay_app.top) threads_app.top) draw_app.top) live_app.top

-- the program with the subcommands that run a heap, by what it was without them
pub runs_of : {E : Type 0} (result : Result Command E) (app : App) → app ≡ bare_app → IfOk result (λ new. app_of new ≡ running app)
    → IfOk result (λ new. app_of new ≡ runs_app)
runs_of result app is built = subst (λ (a : App). IfOk result (λ new. app_of new ≡ running a)) is built

-- the program with the subcommands that judge, by what it was without them
pub judging_of : {E : Type 0} (result : Result Command E) (app : App) → app ≡ runs_app
    → IfOk result (λ new. app_of new ≡ with_subcommand (with_subcommand app explore_app.top) check_app.top) → IfOk result (λ new. app_of new ≡ judging_app)
judging_of result app is built =
    subst (λ (a : App). IfOk result (λ new. app_of new ≡ with_subcommand (with_subcommand a explore_app.top) check_app.top)) is built
