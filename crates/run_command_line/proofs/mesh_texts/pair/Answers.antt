use Rattle.std.proofs.Common.{◌∙◌, ap₂, arith}
use Rattle.run_command_line.specs.CommandLine.{pair_from}
use Rattle.run_command_line.proofs.ExplorationsRead.{cut_at, uncut}
use Rattle.run_command_line.proofs.mesh_texts.pair.Goals as goal

pub returns-in_err-source : goal.returns-in_err-source
returns-in_err-source c = c.from_residual.ensures ∙ uncut c.args.text.now (c.in_err-source.ensures.byte (omega arith) (λ w o finds. finds))

pub returns : goal.returns
returns c =
    let around = c.in_ok-source.ensures.byte (omega arith) (λ w o finds. finds) in
    ap₂ pair_from c.in_ok-group.ensures c.in_ok-group-2.ensures
    ∙ cut_at c.args.text.now c.in_ok-source.source.now c.in_ok-source.behind.now around.0 around.1
