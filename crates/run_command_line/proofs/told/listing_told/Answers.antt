use Rattle.std.proofs.Common.{◌∙◌, ap, option_map}
use Rattle.clap.specs.Words.{found_of}
use Rattle.run_command_line.specs.CommandLine.{shown_answer_of, told_of}
use Rattle.run_command_line.specs.Conditions.{conditions_of}
use Rattle.run_command_line.proofs.ToldRead.{listing_is, no_answer, no_witness}
use Rattle.run_command_line.proofs.told.listing_told.Goals as goal

pub returns-in_err-witness : goal.returns-in_err-witness
returns-in_err-witness c =
    ap (option_map (told_of (conditions_of c.args.conditions.now))) c.from_residual.ensures
    ∙ no_witness (found_of c.args.matches.now) (conditions_of c.args.conditions.now) c.in_err-witness.ensures.value

pub returns-in_err-shown : goal.returns-in_err-shown
returns-in_err-shown c =
    ap (option_map (told_of (conditions_of c.args.conditions.now))) c.from_residual-in_err-shown.ensures
    ∙ no_answer (found_of c.args.matches.now) (conditions_of c.args.conditions.now) c.in_ok-witness.witness c.in_ok-witness.ensures.value c.in_err-shown.ensures

pub returns : goal.returns
returns c =
    listing_is (found_of c.args.matches.now) (conditions_of c.args.conditions.now) (option_map (λ path. path.now) c.get_str-expect.result) c.in_ok-witness.witness
    (option_map shown_answer_of c.in_ok-shown.shown) c.is_verdict.result _ c.in_ok-witness.ensures.value c.in_ok-shown.ensures c.get_str-expect.ensures
    c.is_verdict.ensures (c.told_by.ensures (conditions_of c.args.conditions.now))
