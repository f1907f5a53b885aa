use Rattle.std.proofs.Common.{◌+◌, List, ℕ, arith, rules, subst}
use Rattle.std.proofs.lemmas.Result.{on_ok_weaker}
use Rattle.std.specs.Io.KnownBytes.{Appends}
use Rattle.draw_job.specs.Forms.{HasStoppedIn, formed}
use Rattle.draw_job.specs.Texts.{HasWrittenUntil}
use Rattle.draw_job.proofs.Described.{all_written, ended_as, ended_by, line_gathered, none_gathered, stopped_behind, text_written}
use Rattle.draw_job.proofs.texts.write_points.Goals as goal

pub loop-played-init : goal.loop-played-init
loop-played-init g c = record {
  last = search rules;
  few = search rules;
  stands = search rules;
  fresh = search rules;
  gathered = none_gathered c.args.form c.args.from c.args.job.now _ _ c.new-text.ensures.items;
}

pub loop-played-preserved : goal.loop-played-preserved
loop-played-preserved g c = record {
  last = c.loop-played.invariant.last;
  few = search arith;
  stands = c.in_ok-describe_point.ensures.stands;
  fresh = c.loop-played.invariant.fresh;
  gathered = line_gathered c.args.form c.args.from c.loop-played.played c.args.job.now _ _ _ _ c.loop-played.invariant.gathered c.in_ok-describe_point.ensures.added;
}

pub loop-played-preserved-then-len-ge-CHUNK_BYTES : goal.loop-played-preserved-then-len-ge-CHUNK_BYTES
loop-played-preserved-then-len-ge-CHUNK_BYTES g c =
    let form = c.args.form in
    let gathered = line_gathered form c.args.from c.loop-played.played c.args.job.now _ _ _ _ c.loop-played.invariant.gathered c.in_ok-describe_point.ensures.added in
    record {
      last = c.loop-played.invariant.last;
      few = search arith;
      stands = c.in_ok-describe_point.ensures.stands;
      fresh = c.in_ok-write_formed.ensures.ok;
      gathered = all_written form c.args.from (c.loop-played.played + 1) c.args.job.now _ _ _ _ gathered _
          (subst (λ (bytes : List ℕ). Appends (g.O.Sink.written c.loop-played.output) (g.O.Sink.written c.write_formed.new.output) (formed form bytes)) c.as_slice.ensures.value
          c.in_ok-write_formed.ensures.wrote) c.clear.ensures.items;
    }

pub returns-in_err-write_formed-clause-stopped : goal.returns-in_err-write_formed-clause-stopped
returns-in_err-write_formed-clause-stopped g c =
    let form = c.args.form in
    let old = g.O.Sink.written c.args.output.now in
    let mid = g.O.Sink.written c.loop-played.output in
    let new = g.O.Sink.written c.write_formed.new.output in
    let error = c.in_err-write_formed.field-0.0 in
    let gathered = line_gathered form c.args.from c.loop-played.played c.args.job.now _ _ _ _ c.loop-played.invariant.gathered c.in_ok-describe_point.ensures.added in
    ended_by (HasWrittenUntil form c.args.from c.args.to c.args.job.now old new) error c.from_residual-in_err-write_formed.result
    c.from_residual-in_err-write_formed.ensures.1 (stopped_behind form c.args.from (c.loop-played.played + 1) c.args.job.now _ _ _ _ gathered c.args.to (search arith) error
    (subst (λ (bytes : List ℕ). HasStoppedIn (formed form bytes) mid new error) c.as_slice.ensures.value c.in_err-write_formed.ensures.stopped))

pub returns-clause-written : goal.returns-clause-written
returns-clause-written g c =
    let form = c.args.form in
    on_ok_weaker c.write_formed-2.result (λ wrote. text_written form c.args.from c.loop-played.played c.args.job.now _ _ _ _ c.loop-played.invariant.gathered c.args.to (search arith)
    (subst (λ (bytes : List ℕ). Appends (g.O.Sink.written c.loop-played.output) (g.O.Sink.written c.write_formed-2.new.output) (formed form bytes)) c.as_slice-2.ensures.value wrote))
    c.write_formed-2.ensures.wrote

pub returns-clause-stopped : goal.returns-clause-stopped
returns-clause-stopped g c =
    let form = c.args.form in
    let old = g.O.Sink.written c.args.output.now in
    let mid = g.O.Sink.written c.loop-played.output in
    let new = g.O.Sink.written c.write_formed-2.new.output in
    ended_as (HasStoppedIn (formed form c.as_slice-2.result.now) mid new) (HasWrittenUntil form c.args.from c.args.to c.args.job.now old new) c.write_formed-2.result
    c.write_formed-2.ensures.stopped (λ error stopped. stopped_behind form c.args.from c.loop-played.played c.args.job.now _ _ _ _ c.loop-played.invariant.gathered c.args.to (search arith) error
    (subst (λ (bytes : List ℕ). HasStoppedIn (formed form bytes) mid new error) c.as_slice-2.ensures.value stopped))
