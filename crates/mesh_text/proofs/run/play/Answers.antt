use Rattle.std.proofs.Common.{◌≡◌, ◌∙◌, length, take, ap, subst}
use Rattle.std.proofs.lemmas.Result.{on_ok_weaker}
use Rattle.std.specs.Result.{OnErr}
use Rattle.std.specs.Io.KnownBytes.{Appends}
use Rattle.model_jobs.specs.JobFiles.{IsValidLine}
use Rattle.model_jobs.specs.Jobs.{Job}
use Rattle.text_job.specs.declared.plan.PlanLine.{PlanLine}
use Rattle.text_job.specs.Plan.{line_of}
use Rattle.text_devices.specs.Transfer.{AppendsBeginning}
use Rattle.mesh_text.specs.Turns.{state_up_to}
use Rattle.mesh_text.proofs.AnswerLines.{all_written, line_gathered, output_written, part_written}
use Rattle.mesh_text.proofs.PlanLines.{all_lines, line_fits}
use Rattle.mesh_text.proofs.PlayEnds.{gathered_none, is_write, last_fails, last_kind, last_not_memory, last_ok, not_memory}
use Rattle.mesh_text.proofs.run.play.Goals as goal
use Rattle.mesh_text.proofs.run.play.Goals.{then-len-ge-CHUNK_BYTES+in_ok-write_lines, else-len-ge-CHUNK_BYTES}

pub answer-requires-clause-fits : goal.answer-requires-clause-fits
answer-requires-clause-fits g c =
    let line : PlanLine = c.line-item.result in
    subst (λ (j : Job). IsValidLine j.version (length j.scripts) (line_of line)) c.job.view_is (line_fits _ _ _ _ _ _ _ c.lines-line-items.ensures
    c.job.invariant.plan_fits c.loop-line-test.true c.line-item.is)

pub answer-requires-clause-workers : goal.answer-requires-clause-workers
answer-requires-clause-workers g c = c.loop-line.invariant.workers

pub add_prefix-requires : goal.add_prefix-requires
add_prefix-requires g c = c.loop-line.invariant.workers

pub loop-line-preserved : goal.loop-line-preserved
loop-line-preserved g c =
    let line = line_gathered c.args.printed c.args.job.now c.loop-line.line-index _ _ _ _ _ _ _ _ _ _
    (c.lines-line-items.ensures ∙ ap (λ (j : Job). j.plan) c.job.view_is) c.loop-line-test.true c.line-item.is
    (c.in_ok-add_prefix.ensures (state_up_to c.args.job.now c.loop-line.line-index) c.loop-line.invariant.at)
    (c.in_ok-answer.ensures.told (state_up_to c.args.job.now c.loop-line.line-index) c.loop-line.invariant.at) c.loop-line.invariant.gathered c.in_ok-extend_from_slice.ensures.items in
    let workers = c.in_ok-answer.ensures.workers ∙ c.loop-line.invariant.workers in
    elim c.if-len-ge-CHUNK_BYTES.branch [
      | then-len-ge-CHUNK_BYTES+in_ok-write_lines w ↦
          let wrote : Appends (g.O.Sink.written c.loop-line.output) (g.O.Sink.written w.write_lines.new.output) c.extend_from_slice.new.self.items
          = subst (λ bytes. Appends (g.O.Sink.written c.loop-line.output) (g.O.Sink.written w.write_lines.new.output) bytes) w.as_slice.ensures.value w.in_ok-write_lines.ensures.ok in
          record {
            workers = workers;
            fresh = ap (λ o. g.O.Sink.has_failed o) w.output-is ∙ w.in_ok-write_lines.ensures.fails;
            at = line.1;
            gathered = rw (w.output-is, w.text-is, w.clear.ensures.items) (all_written _ _ _ _ _ _ _ line.0 wrote);
          }
      | else-len-ge-CHUNK_BYTES w ↦ record {
        workers = workers;
        fresh = ap (λ o. g.O.Sink.has_failed o) w.output-is ∙ c.loop-line.invariant.fresh;
        at = line.1;
        gathered = rw (w.output-is, w.text-is) line.0;
      }
    ]

pub returns-in_err-write_lines-clause-beginning : goal.returns-in_err-write_lines-clause-beginning
returns-in_err-write_lines-clause-beginning g c is =
    part_written _ _ _ _ _ _ _ (line_gathered c.args.printed c.args.job.now c.loop-line.line-index _ _ _ _ _ _ _ _ _ _
    (c.lines-line-items.ensures ∙ ap (λ (j : Job). j.plan) c.job.view_is) c.loop-line-test.true c.line-item.is
    (c.in_ok-add_prefix.ensures (state_up_to c.args.job.now c.loop-line.line-index) c.loop-line.invariant.at)
    (c.in_ok-answer.ensures.told (state_up_to c.args.job.now c.loop-line.line-index) c.loop-line.invariant.at) c.loop-line.invariant.gathered c.in_ok-extend_from_slice.ensures.items).0
    (subst (λ bytes. AppendsBeginning (g.O.Sink.written c.loop-line.output) (g.O.Sink.written c.write_lines.new.output) bytes) c.as_slice.ensures.value c.in_err-write_lines.ensures.err)

pub returns-clause-whole : goal.returns-clause-whole
returns-clause-whole g c =
    let job : Job = c.args.job.now in
    let all : take c.loop-line.line-index job.plan ≡ job.plan
    = all_lines _ _ _ (c.lines-line-items.ensures ∙ ap (λ (j : Job). j.plan) c.job.view_is) c.loop-line-test.false in
    on_ok_weaker c.write_lines-2.result (λ wrote. output_written _ _ _ _ _ _ _ all c.loop-line.invariant.gathered
    (subst (λ bytes. Appends (g.O.Sink.written c.loop-line.output) (g.O.Sink.written c.write_lines-2.new.output) bytes) c.as_slice-2.ensures.value wrote))
    c.write_lines-2.ensures.ok

pub returns-clause-beginning : goal.returns-clause-beginning
returns-clause-beginning g c is =
    let part : AppendsBeginning (g.O.Sink.written c.loop-line.output) (g.O.Sink.written c.write_lines-2.new.output) c.as_slice-2.result.now
    = subst (λ r. OnErr r (AppendsBeginning (g.O.Sink.written c.loop-line.output) (g.O.Sink.written c.write_lines-2.new.output) c.as_slice-2.result.now)) is c.write_lines-2.ensures.err in
    part_written c.args.printed c.args.job.now c.loop-line.line-index _ _ _ c.loop-line.text.items c.loop-line.invariant.gathered
    (subst (λ bytes. AppendsBeginning (g.O.Sink.written c.loop-line.output) (g.O.Sink.written c.write_lines-2.new.output) bytes) c.as_slice-2.ensures.value part)

pub returns-in_err-add_prefix-clause-lines : goal.returns-in_err-add_prefix-clause-lines
returns-in_err-add_prefix-clause-lines g c is = (c.loop-line.invariant.gathered.lines, c.loop-line.invariant.gathered.wrote)

pub returns-in_err-answer-clause-lines : goal.returns-in_err-answer-clause-lines
returns-in_err-answer-clause-lines g c is = (c.loop-line.invariant.gathered.lines, c.loop-line.invariant.gathered.wrote)

pub returns-in_err-extend_from_slice-clause-lines : goal.returns-in_err-extend_from_slice-clause-lines
returns-in_err-extend_from_slice-clause-lines g c is = (c.loop-line.invariant.gathered.lines, c.loop-line.invariant.gathered.wrote)

pub returns-in_err-write_lines-clause-fails : goal.returns-in_err-write_lines-clause-fails
returns-in_err-write_lines-clause-fails g c is = c.in_err-write_lines.ensures.fails

pub returns-in_err-write_lines-clause-lines : goal.returns-in_err-write_lines-clause-lines
returns-in_err-write_lines-clause-lines g c is = absurd (not_memory c.from_residual-in_err-write_lines.result c.in_err-write_lines.field-0.0 c.from_residual-in_err-write_lines.ensures.1 c.in_err-write_lines.ensures.fault is)

pub returns-in_err-write_lines-clause-kinds : goal.returns-in_err-write_lines-clause-kinds
returns-in_err-write_lines-clause-kinds g c = is_write c.from_residual-in_err-write_lines.result c.in_err-write_lines.field-0.0 c.from_residual-in_err-write_lines.ensures.1 c.in_err-write_lines.ensures.fault

pub write_lines-requires : goal.write_lines-requires
write_lines-requires g c = c.loop-line.invariant.fresh

pub write_lines-requires-2 : goal.write_lines-requires-2
write_lines-requires-2 g c = c.loop-line.invariant.fresh

pub returns-clause-ok : goal.returns-clause-ok
returns-clause-ok g c = last_ok c.write_lines-2.result _ c.write_lines-2.ensures.fails

pub returns-clause-fails : goal.returns-clause-fails
returns-clause-fails g c is = last_fails c.write_lines-2.result _ c.write_lines-2.ensures.fails is

pub returns-clause-lines : goal.returns-clause-lines
returns-clause-lines g c is = absurd (last_not_memory c.write_lines-2.result c.write_lines-2.ensures.fault is)

pub returns-clause-kinds : goal.returns-clause-kinds
returns-clause-kinds g c = last_kind c.write_lines-2.result c.write_lines-2.ensures.fault

pub loop-line-init : goal.loop-line-init
loop-line-init g c = record {
  workers = c.requires.workers;
  fresh = c.requires.fresh;
  at = c.requires.initial_state;
  gathered = gathered_none c.args.printed c.args.job.now (g.O.Sink.written c.args.output.now) c.args.text.now.items c.requires.empty;
}
