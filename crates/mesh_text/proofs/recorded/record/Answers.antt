use Rattle.std.proofs.Common.{◌∙◌, List, ℕ, subst}
use Rattle.std.proofs.lemmas.Result.{on_ok_weaker}
use Rattle.std.specs.Io.KnownBytes.{Appends}
use Rattle.text_devices.specs.Transfer.{AppendsBeginning}
use Rattle.mesh_text.proofs.PlayEnds.{last_begins, last_fails, last_kind, last_not_memory, last_ok}
use Rattle.mesh_text.proofs.recorded.record.Goals as goal

pub returns-clause-ok : goal.returns-clause-ok
returns-clause-ok g c = last_ok c.write_lines.result _ c.write_lines.ensures.fails

pub returns-clause-whole : goal.returns-clause-whole
returns-clause-whole g c =
    on_ok_weaker c.write_lines.result
    (λ wrote. subst (λ (bytes : List ℕ). Appends (g.O.Sink.written c.args.output.now) (g.O.Sink.written c.write_lines.new.output) bytes)
    (c.as_slice.ensures.value ∙ c.in_ok-text.ensures) wrote)
    c.write_lines.ensures.ok

pub returns-clause-fails : goal.returns-clause-fails
returns-clause-fails g c is = last_fails c.write_lines.result _ c.write_lines.ensures.fails is

pub returns-clause-beginning : goal.returns-clause-beginning
returns-clause-beginning g c is =
    subst (λ (bytes : List ℕ). AppendsBeginning (g.O.Sink.written c.args.output.now) (g.O.Sink.written c.write_lines.new.output) bytes)
    (c.as_slice.ensures.value ∙ c.in_ok-text.ensures) (last_begins _ c.write_lines.result c.write_lines.ensures.err is)

pub returns-clause-nothing : goal.returns-clause-nothing
returns-clause-nothing g c is = absurd (last_not_memory c.write_lines.result c.write_lines.ensures.fault is)

pub returns-clause-kinds : goal.returns-clause-kinds
returns-clause-kinds g c = last_kind c.write_lines.result c.write_lines.ensures.fault
