-- What `clap`'s contracts say of the program's command line.
use Rattle.std.proofs.Common.{◌≡◌, true, false, List, [], ◌∷◌, ◌++◌, Option, None, Some, Result, Ok, Err, IfErr, option_map, ap, refl, subst, sym, ◌∙◌, inl, inr}
use Rattle.std.specs.Box.{box_value}
use Rattle.std.specs.List.{slice_split}
use Rattle.std.specs.Option.{unwrap_or}
use Rattle.std.specs.Prelude.{codes, nat_eq, option_and_then}
use Rattle.clap.specs.Words.{App, FailsBy, HasKind, IsAmong, Row, Text, fault_of, first_of, first_value, is_simple, is_simple_and_free, kind_of, found_of, rows_of, subcommand_name_of, subcommand_of, subcommand_rows_of, takes}
use Rattle.clap.specs.declared.error.Error.{Error}
use Rattle.clap.specs.declared.parser.matches.ArgMatches.{ArgMatches}
use Rattle.clap.specs.declared.parser.matches.ArgMatches.TheViews.{out-ArgMatches, out-SubCommand}
use Rattle.clap.specs.declared.parser.matches.Found.{Found}
use Rattle.clap.proofs.OnLiterals.{clap_on_literals}
use Rattle.clap.proofs.WalkLemmas.{first_value-rows}
use Rattle.model_otherwise.specs.declared.timing.Making.TheVariants.{Split, Stale, Whole}
use Rattle.run_command_line.specs.Conditions.{ConditionTexts, no_condition}
use Rattle.run_command_line.specs.CommandLine.{Asked, IsSaidOf, asked, asked_by, asked_in, asked_of, is_taken, kinds_of, check_of, csv, draw_html_of, draw_of, draw_text_of, every, explore_of, live_of, meshrun_app, plot, share, table, conditions_asked, conditions_found, conditions_in, explains_asked, explains_found, explains_in, replay_echo_of, replay_history_of, replay_of, savings_of, tells_all, tells_answer, tells_outcome, tells_steps, tells_verdict, threads_history_of, threads_of, threads_report_of}

-- the command line is one whose matches and faults `clap` tells
pub is_told : is_simple_and_free meshrun_app ≡ true
unfolding clap_on_literals
is_told = refl

pub has_matches : is_simple meshrun_app ≡ true
unfolding clap_on_literals
has_matches = refl

-- what `clap` says of words
said_of : (words : List Text) (app : App) (error : Error) → app ≡ meshrun_app → HasKind (fault_of app words) error → IsSaidOf words (kind_of error)
unfolding kinds_of
said_of words app error is (inl memory) = inl memory
said_of words app error is (inr kind) = inr (inl (subst (λ a. IsAmong (kind_of error) (fault_of a words)) is kind))

pub said_by : {T : Type 0} (words : List Text) (app : App) (result : Result T Error) → app ≡ meshrun_app → FailsBy (fault_of app words) result
    → IfErr result (λ error. IsSaidOf words (kind_of error))
said_by words app (Ok matches) is told = tt
said_by words app (Err error) is told = said_of words app error is told

-- words that the program takes fail for want of memory alone
pub taken_of : (words : List Text) (app : App) → app ≡ meshrun_app → is_taken words ≡ true → takes app words ≡ true
unfolding is_taken
taken_of words app is taken = ap (λ a. takes a words) is ∙ taken

-- what `clap`'s matches ask for
pub asked_of_matches : (words : List Text) (app : App) (found : Option (Text × List Row)) → app ≡ meshrun_app → found ≡ subcommand_of app words
    → asked_in found ≡ asked words
unfolding asked
asked_of_matches words app found is rows = ap asked_in (rows ∙ ap (λ a. subcommand_of a words) is)

-- and which conditions they have
pub conditions_of_matches : (words : List Text) (app : App) (found : Option (Text × List Row)) → app ≡ meshrun_app → found ≡ subcommand_of app words
    → conditions_found found ≡ conditions_asked words
unfolding conditions_asked
conditions_of_matches words app found is rows = ap conditions_found (rows ∙ ap (λ a. subcommand_of a words) is)

-- and whether faults are explained
pub explains_of_matches : (words : List Text) (app : App) (found : Option (Text × List Row)) → app ≡ meshrun_app → found ≡ subcommand_of app words
    → explains_found found ≡ explains_asked words
unfolding explains_asked
explains_of_matches words app found is rows = ap explains_found (rows ∙ ap (λ a. subcommand_of a words) is)

first_parts : {X A B : Type 0} (f : X → A × B) (o : Option X) → option_map (λ x. (f x).0) o ≡ option_map (λ p. p.0) (option_map f o)
first_parts f None = refl
first_parts f (Some x) = refl

-- the name of the subcommand that was met, beside its rows
name_of_rows : (matches : ArgMatches) (name : Text) → Some name ≡ subcommand_name_of matches → Some name ≡ option_map (λ p. p.0) (subcommand_rows_of matches)
name_of_rows matches name is = is ∙ first_parts (λ b. ((out-SubCommand (box_value b)).name.now, rows_of (found_of (out-SubCommand (box_value b)).matches))) (out-ArgMatches matches).subcommand

-- its conditions, if its matches have at most ten of each kind
pub conditions_of_rows : (found : Option (Text × List Row)) (rows : List Row) (conditions : ConditionTexts) → Some rows ≡ option_map (λ p. p.1) found
    → Some conditions ≡ conditions_in rows → conditions ≡ conditions_found found
conditions_of_rows None rows conditions has few = absurd (cc has)
conditions_of_rows (Some found) rows conditions has few =
    let rows_are : rows ≡ found.1 = cc has in
    ap (λ (texts : Option ConditionTexts). unwrap_or texts no_condition) (few ∙ ap conditions_in rows_are)

-- whether it explains faults
pub explains_of_rows : (found : Option (Text × List Row)) (rows : List Row) → Some rows ≡ option_map (λ p. p.1) found → explains_in rows ≡ explains_found found
explains_of_rows None rows has = absurd (cc has)
explains_of_rows (Some found) rows has = (let rows_are : rows ≡ found.1 = cc has in ap explains_in rows_are)

-- what a subcommand that was met asks for, by its name and its rows
met : (found : Option (Text × List Row)) (name : Text) (rows : List Row) → Some name ≡ option_map (λ p. p.0) found → Some rows ≡ option_map (λ p. p.1) found
    → asked_in found ≡ asked_by name rows
met None name rows named has = absurd (cc named)
met (Some found) name rows named has =
    let name_is : name ≡ found.0 = cc named in
    let rows_are : rows ≡ found.1 = cc has in
    rw (name_is, rows_are) refl

-- and by its name and its matches
pub asked_by_matches : (matches : ArgMatches) (name : Text) (found : Found) → Some name ≡ subcommand_name_of matches
    → Some (rows_of found) ≡ option_map (λ p. p.1) (subcommand_rows_of matches) → asked_by name (rows_of found) ≡ asked_in (subcommand_rows_of matches)
asked_by_matches matches name found named has = sym (met (subcommand_rows_of matches) name (rows_of found) (name_of_rows matches name named) has)

-- what it asks for with the file that its matches have
pub asked_of_file : (conditions : ConditionTexts) (name : Text) (found : Found) (file : Option Text) → file ≡ first_value found (codes "FILE")
    → option_and_then (asked_of conditions name (rows_of found)) file ≡ option_and_then (asked_of conditions name (rows_of found)) (first_of (codes "FILE") (rows_of found))
asked_of_file conditions name found file is = ap (option_and_then (asked_of conditions name (rows_of found))) (is ∙ first_value-rows found (codes "FILE"))

-- where the command's name is a known one, and this is what that one asks for
pub asked_of_known : (conditions : ConditionTexts) (name known : Text) (found : Found) (file : Text) (asked : Option Asked) → name ≡ known → Some file ≡ first_value found (codes "FILE")
    → asked ≡ asked_of conditions known (rows_of found) file → asked ≡ option_and_then (asked_of conditions name (rows_of found)) (first_of (codes "FILE") (rows_of found))
asked_of_known conditions name known found file asked is has asks =
    asks ∙ sym (ap (λ text. asked_of conditions text (rows_of found) file) is) ∙ asked_of_file conditions name found (Some file) has

-- the words of a command line: behind the program's name those of a text, with a space between two
abbrev spoken : Text → List Text
spoken text = codes "meshrun" ∷ slice_split (λ b. nat_eq b 32) text

-- a command line of the program that asks for this
abbrev Asks : Text → Asked → Type 0
Asks text what = (is_taken (spoken text) ≡ true) × (asked (spoken text) ≡ Some what)

-- the answers of a replay are printed, or, with `--history` before the file or behind it, its history, or, with
-- `--echo`, the plan's lines before their answers
replays_are_asked :
    Asks (codes "replay hello.job") (replay_of (codes "hello.job"))
    × Asks (codes "replay --history hello.job") (replay_history_of (codes "hello.job"))
    × Asks (codes "replay hello.job --explain --echo") (replay_echo_of (codes "hello.job"))
unfolding clap_on_literals asked is_taken
replays_are_asked = ((refl, refl), (refl, refl), (refl, refl))

-- without `--meshers` one thread meshes, and without `--pace` no worker waits; options stand in any order, and take the
-- least and the most that they may
threads_are_asked :
    Asks (codes "threads a.job --probe 2 --rounds 3 --workers 4 --seed 5")
    (threads_of (codes "a.job") (record { probe = 2; rounds = 3; workers = 4; seed = 5; meshers = 1; pace = None }))
    × Asks (codes "threads --meshers=10 --pace=65536 --seed=18446744073709551615 --workers=16 a.job --rounds=1000 --history --probe=64")
    (threads_history_of (codes "a.job") (record { probe = 64; rounds = 1000; workers = 16; seed = 18446744073709551615; meshers = 10; pace = Some 65536 }))
    × Asks (codes "threads --report a.job --pace 1 --probe 0 --rounds 0 --workers 1 --seed 0")
    (threads_report_of (codes "a.job") (record { probe = 0; rounds = 0; workers = 1; seed = 0; meshers = 1; pace = Some 1 }))
unfolding clap_on_literals asked is_taken
threads_are_asked = ((refl, refl), (refl, refl), (refl, refl))

-- a history is printed in place of all else: beside it neither lines nor a report
histories_stand_alone :
    (asked (spoken (codes "replay hello.job --history --echo")) ≡ None)
    × (asked (spoken (codes "threads a.job --report --history --probe=2 --rounds=3 --workers=4 --seed=5")) ≡ None)
unfolding clap_on_literals asked
histories_stand_alone = (refl, refl)

-- a picture is of the whole plan, in as many columns as fit, or of a part of it from a line to another, in the most
-- columns, or the heap after a line as text, or a page of a part
pictures_are_asked :
    Asks (codes "draw a.job") (draw_of (codes "a.job") (record { from = 1; to = 1048576; columns = 0 }))
    × Asks (codes "draw --to=1048576 a.job --columns=64 --from 12") (draw_of (codes "a.job") (record { from = 12; to = 1048576; columns = 64 }))
    × Asks (codes "draw a.job --text --from 9 --to 9") (draw_text_of (codes "a.job") (record { from = 9; to = 9; columns = 0 }))
    × Asks (codes "draw --html --to 9 a.job") (draw_html_of (codes "a.job") (record { from = 1; to = 9; columns = 0 }))
unfolding clap_on_literals asked is_taken
pictures_are_asked = ((refl, refl), (refl, refl), (refl, refl), (refl, refl))

-- a text and a page exclude each other, and neither has columns
forms_stand_alone :
    (asked (spoken (codes "draw a.job --text --html")) ≡ None)
    × (asked (spoken (codes "draw a.job --columns 0 --text")) ≡ None)
    × (asked (spoken (codes "draw a.job --html --columns 2")) ≡ None)
unfolding clap_on_literals asked
forms_stand_alone = (refl, refl, refl)

-- no part of a plan ends before it begins
parts_are_in_order : asked (spoken (codes "draw a.job --from 9 --to 8")) ≡ None
unfolding clap_on_literals asked
parts_are_in_order = refl

-- with a mesh, the shortest plan of an exploration is drawn: that of the heap's own steps and the job's workers, in as
-- many columns as fit, with at most 100,000 states, or that of a list of steps with a client, in a number of columns
shortest_plans_are_asked :
    Asks (codes "draw a.job --mesh 1:0")
    (explore_of (codes "a.job") (record {
      meshes = record { source = 1; destination = 0 } ∷ [];
      cancel = None;
      states = 100000;
      told = tells_steps (record { list = None; commands = None; timing = record { loads = Whole; stores = Whole; frees = Whole }; picture = Some 0 });
      allows_no_mesh = true;
      is_watched = false;
    }))
    × Asks (codes "draw --steps copy --any=2 --mesh 1:0 --load stale --states 9 a.job --columns 64 --mesh=+3:2 --store=split --from 1")
    (explore_of (codes "a.job") (record {
      meshes = record { source = 1; destination = 0 } ∷ record { source = 3; destination = 2 } ∷ [];
      cancel = None;
      states = 9;
      told = tells_steps (record { list = Some (codes "copy"); commands = Some 2; timing = record { loads = Stale; stores = Split; frees = Whole }; picture = Some 64 });
      allows_no_mesh = true;
      is_watched = false;
    }))
unfolding clap_on_literals asked is_taken
shortest_plans_are_asked = ((refl, refl), (refl, refl))

-- a shortest plan is drawn as a whole and as a picture, its meshes are pairs of groups, and only a client makes
-- accesses in two moves
no_other_shortest_plans :
    (asked (spoken (codes "draw a.job --mesh 1:0 --text")) ≡ None)
    × (asked (spoken (codes "draw a.job --mesh 1:0 --html")) ≡ None)
    × (asked (spoken (codes "draw a.job --mesh 1:0 --from 2")) ≡ None)
    × (asked (spoken (codes "draw a.job --mesh 1:0 --to 9")) ≡ None)
    × (asked (spoken (codes "draw a.job --mesh 1:0 --mesh 1")) ≡ None)
    × (asked (spoken (codes "draw a.job --mesh 1:0 --free split")) ≡ None)
unfolding clap_on_literals asked
no_other_shortest_plans = (refl, refl, refl, refl, refl, refl)

-- without a mesh there are no steps, no client and no accesses in two moves, and a number of states changes nothing
plans_have_no_steps :
    (asked (spoken (codes "draw a.job --steps right")) ≡ None)
    × (asked (spoken (codes "draw a.job --any 0")) ≡ None)
    × (asked (spoken (codes "draw a.job --store split")) ≡ None)
    × (asked (spoken (codes "draw a.job --load stale")) ≡ None)
    × (asked (spoken (codes "draw a.job --free split")) ≡ None)
    × (asked (spoken (codes "draw a.job --states 9")) ≡ asked (spoken (codes "draw a.job")))
unfolding clap_on_literals asked
plans_have_no_steps = (refl, refl, refl, refl, refl, refl)

-- a session is of the largest sizes; smaller ones may be asked for, and a journal with no room
sessions_are_asked :
    Asks (codes "live") (live_of (record { pages = 4096; history = 65536; workers = 64 }))
    × Asks (codes "live --workers=1 --history 0 --pages=1") (live_of (record { pages = 1; history = 0; workers = 1 }))
unfolding clap_on_literals asked is_taken
sessions_are_asked = ((refl, refl), (refl, refl))

-- a history is judged with at most 100,000 configurations of an object, or with as many as are given, and an order and
-- a witness may be asked for; `-` is a file's name to the command line
judgements_are_asked :
    Asks (codes "check a.history") (check_of (codes "a.history") (record { configurations = 100000; is_ordered = false; is_witnessed = false }))
    × Asks (codes "check --configurations=4294967295 -") (check_of (codes "-") (record { configurations = 4294967295; is_ordered = false; is_witnessed = false }))
    × Asks (codes "check --order a.history --configurations 1") (check_of (codes "a.history") (record { configurations = 1; is_ordered = true; is_witnessed = false }))
    × Asks (codes "check --witness a.history --order") (check_of (codes "a.history") (record { configurations = 100000; is_ordered = true; is_witnessed = true }))
unfolding clap_on_literals asked is_taken
judgements_are_asked = ((refl, refl), (refl, refl), (refl, refl), (refl, refl))

-- one mesh is never cancelled, and explored for all outcomes, of at most 100,000 states; two meshes come in their
-- order, between other options, and their numbers may have a plus and leading zeros
explorations_are_asked :
    Asks (codes "explore a.job --mesh 1:0")
    (explore_of (codes "a.job") (record { meshes = record { source = 1; destination = 0 } ∷ []; cancel = None; states = 100000; told = tells_all; allows_no_mesh = false; is_watched = false }))
    × Asks (codes "explore --mesh=+65535:00 --states 1 --cancel=1000 a.job --mesh 3:2 --witness=0")
    (explore_of (codes "a.job") (record {
      meshes = record { source = 65535; destination = 0 } ∷ record { source = 3; destination = 2 } ∷ [];
      cancel = Some 1000;
      states = 1;
      told = tells_outcome 0;
      allows_no_mesh = false;
      is_watched = false;
    }))
unfolding clap_on_literals asked is_taken
explorations_are_asked = ((refl, refl), (refl, refl))

-- an answer in a phase, a verdict, or a report on steps, in place of all outcomes. The heap's own steps are no report
tellings_are_asked :
    Asks (codes "explore a.job --mesh 1:0 --show 12:done:mesh --progress")
    (explore_of (codes "a.job") (record {
      meshes = record { source = 1; destination = 0 } ∷ [];
      cancel = None;
      states = 100000;
      told = tells_answer (record { line = 12; answer = codes "done"; phase = codes "mesh" });
      allows_no_mesh = false;
      is_watched = true;
    }))
    × Asks (codes "explore a.job --mesh 1:0 --never=one --expect a.out --exists three --allow-no-mesh --never two")
    (explore_of (codes "a.job") (record {
      meshes = record { source = 1; destination = 0 } ∷ [];
      cancel = None;
      states = 100000;
      told = tells_verdict (record { expect = Some (codes "a.out"); conditions = record { never = codes "one" ∷ codes "two" ∷ []; always = []; exists = codes "three" ∷ [] } });
      allows_no_mesh = true;
      is_watched = false;
    }))
    × Asks (codes "explore a.job --mesh 1:0 --steps copy --any 2")
    (explore_of (codes "a.job") (record {
      meshes = record { source = 1; destination = 0 } ∷ [];
      cancel = None;
      states = 100000;
      told = tells_steps (record { list = Some (codes "copy"); commands = Some 2; timing = record { loads = Whole; stores = Whole; frees = Whole }; picture = None });
      allows_no_mesh = false;
      is_watched = false;
    }))
    × Asks (codes "explore a.job --store=stale --free split --any 2 --mesh 1:0 --load stale")
    (explore_of (codes "a.job") (record {
      meshes = record { source = 1; destination = 0 } ∷ [];
      cancel = None;
      states = 100000;
      told = tells_steps (record { list = None; commands = Some 2; timing = record { loads = Stale; stores = Stale; frees = Split }; picture = None });
      allows_no_mesh = false;
      is_watched = false;
    }))
    × Asks (codes "explore a.job --mesh 1:0 --steps right")
    (explore_of (codes "a.job") (record {
      meshes = record { source = 1; destination = 0 } ∷ [];
      cancel = None;
      states = 100000;
      told = tells_all;
      allows_no_mesh = false;
      is_watched = false;
    }))
unfolding clap_on_literals asked is_taken
tellings_are_asked = ((refl, refl), (refl, refl), (refl, refl), (refl, refl), (refl, refl))

-- how accesses are made is read by its option, and needs a client
timings_ask_nothing :
    (asked (spoken (codes "explore a.job --mesh 1:0 --steps copy --store split")) ≡ None)
    × (asked (spoken (codes "explore a.job --mesh 1:0 --free split")) ≡ None)
    × (asked (spoken (codes "explore a.job --mesh 1:0 --any 2 --store whole")) ≡ None)
    × (asked (spoken (codes "explore a.job --mesh 1:0 --any 2 --load split")) ≡ None)
    × (asked (spoken (codes "explore a.job --mesh 1:0 --any 2 --free stale")) ≡ None)
unfolding clap_on_literals asked
timings_ask_nothing = (refl, refl, refl, refl, refl)

-- the conditions come in their order, each kind by itself, and a replay has none
conditions_are_asked :
    (conditions_asked (spoken (codes "explore a.job --mesh 1:0 --never=one --always three --expect a.out --never two"))
    ≡ record { never = codes "one" ∷ codes "two" ∷ []; always = codes "three" ∷ []; exists = [] })
    × (conditions_asked (spoken (codes "replay hello.job")) ≡ no_condition)
unfolding clap_on_literals conditions_asked
conditions_are_asked = (refl, refl)

-- faults are explained, but those of a replay and of threads only with the flag
explanations_are_asked :
    (explains_asked (spoken (codes "replay hello.job")) ≡ false)
    × (explains_asked (spoken (codes "replay hello.job --explain")) ≡ true)
    × (explains_asked (spoken (codes "threads a.job --probe=2 --rounds=3 --workers=1 --seed=5 --history")) ≡ false)
    × (explains_asked (spoken (codes "threads --explain a.job --probe=2 --rounds=3 --workers=1 --seed=5")) ≡ true)
    × (explains_asked (spoken (codes "draw a.job")) ≡ true)
unfolding clap_on_literals explains_asked
explanations_are_asked = (refl, refl, refl, refl, refl)

-- two things are not told at once, and an answer needs a line, a text and a phase
two_tellings_ask_nothing :
    (asked (spoken (codes "explore a.job --mesh 1:0 --witness 3 --never one")) ≡ None)
    × (asked (spoken (codes "explore a.job --mesh 1:0 --witness 3 --always one")) ≡ None)
    × (asked (spoken (codes "explore a.job --mesh 1:0 --show 12:done:over --exists one")) ≡ None)
    × (asked (spoken (codes "explore a.job --mesh 1:0 --show 12:done")) ≡ None)
    × (asked (spoken (codes "explore a.job --mesh 1:0 --show 0:done:over")) ≡ None)
unfolding clap_on_literals asked
two_tellings_ask_nothing = (refl, refl, refl, refl, refl)

-- a history is followed with a round behind an eighth of the live objects in frees, at most 8 members, 64 rounds of
-- tries, words of the seed 1, and figures of all calls; options say otherwise
savings_are_asked :
    Asks (codes "savings a.history")
    (savings_of (codes "a.history") (record { rounds = share 8; members = 8; probe = 64; seed = Some 1; from = 1; to = 4294967295; form = table }))
    × Asks (codes "savings --svg --to=9 - --from 9 --seed=18446744073709551615 --probe=0 --every 1")
    (savings_of (codes "-") (record { rounds = every 1; members = 8; probe = 0; seed = Some 18446744073709551615; from = 9; to = 9; form = plot }))
    × Asks (codes "savings a.history --first-fit --share=1000 --members 1 --csv")
    (savings_of (codes "a.history") (record { rounds = share 1000; members = 1; probe = 64; seed = None; from = 1; to = 4294967295; form = csv }))
unfolding clap_on_literals asked is_taken
savings_are_asked = ((refl, refl), (refl, refl), (refl, refl))

-- a seed beside `--first-fit`, two rules of rounds, two forms, and figures that end before they begin, ask for nothing
apart_asks_nothing :
    (asked (spoken (codes "savings a.history --seed=1 --first-fit")) ≡ None)
    × (asked (spoken (codes "savings a.history --every 1 --share 1")) ≡ None)
    × (asked (spoken (codes "savings a.history --svg --csv")) ≡ None)
    × (asked (spoken (codes "savings a.history --from=2 --to=1")) ≡ None)
unfolding clap_on_literals asked
apart_asks_nothing = (refl, refl, refl, refl)

-- the flags have no value, 17 threads make no search, a worker waits behind 1 to 65,536 calls, there is no line 0, a
-- session has no file, a picture isn't of a history, a mesh has to be given, no round comes behind 0 frees, and an
-- object has a configuration or more
are_refused :
    (is_taken (spoken (codes "replay hello.job --history=no")) ≡ false)
    × (is_taken (spoken (codes "replay hello.job --echo=yes")) ≡ false)
    × (is_taken (spoken (codes "threads a.job --probe=2 --rounds=3 --workers=17 --seed=5")) ≡ false)
    × (is_taken (spoken (codes "threads a.job --probe=2 --rounds=3 --workers=1 --seed=5 --pace=0")) ≡ false)
    × (is_taken (spoken (codes "threads a.job --probe=2 --rounds=3 --workers=1 --seed=5 --pace=65537")) ≡ false)
    × (is_taken (spoken (codes "draw a.job --from=0")) ≡ false)
    × (is_taken (spoken (codes "live a.job")) ≡ false)
    × (is_taken (spoken (codes "draw a.job --history")) ≡ false)
    × (is_taken (spoken (codes "explore a.job")) ≡ false)
    × (is_taken (spoken (codes "savings a.history --every=0")) ≡ false)
    × (is_taken (spoken (codes "check a.history --configurations=0")) ≡ false)
unfolding clap_on_literals is_taken
are_refused = (refl, refl, refl, refl, refl, refl, refl, refl, refl, refl, refl)

-- no group is above 65,535, and there are just two, which are numbers: other words ask for nothing
abbrev AsksNothing : Text → Type 0
AsksNothing pair = asked (spoken (codes "explore a.job --mesh " ++ pair)) ≡ None

misspelt_asks_nothing : AsksNothing (codes "++1:0") × AsksNothing (codes "1:") × AsksNothing (codes "65536:0") × AsksNothing (codes "1")
    × AsksNothing (codes "1:0:2")
unfolding clap_on_literals asked
misspelt_asks_nothing = (refl, refl, refl, refl, refl)
