use Rattle.std.proofs.Common.{◌≡◌, ◌+◌, [], ◌∷◌, false, true, slice_index, sym, subst}
use Rattle.std.specs.Io.KnownBytes.{Appends}
use Rattle.std.proofs.lemmas.List.{take_all}
use Rattle.model_jobs.specs.Texts.{ended}
use Rattle.text_devices.specs.Transfer.{AppendsBeginning}
use Rattle.run_live.specs.Answers.{told}
use Rattle.run_live.specs.Runs.{Takes, is_end}
use Rattle.run_live.specs.Sessions.{sizes_of, state_of}
use Rattle.run_live.proofs.Runs.{byte_taken, end_taken, ends_by, line_taken, next_taken, nothing_taken, taken_over}
use Rattle.run_live.proofs.Stops.{byte_stopped, line_stopped, next_stopped, on_error}
use Rattle.run_live.proofs.run.take_bytes.Goals as goal

pub loop-byte-init : goal.loop-byte-init
loop-byte-init g c = record {
  sound = c.requires.sound;
  fresh = c.requires.output;
  taken = nothing_taken c.args.session.now c.args.line.now.items (g.O.Sink.written c.args.output.now) c.requires.sound;
}

pub returns-in_err-keep-clause-stopped : goal.returns-in_err-keep-clause-stopped
returns-in_err-keep-clause-stopped g c =
    on_error _ _ (next_stopped _ _ c.args.line.now.items c.loop-byte.line.items c.args.bytes.now c.loop-byte.byte-index _ _ _ c.loop-byte-test.true c.loop-byte.invariant.taken
    (byte_stopped c.loop-byte.session _ (slice_index c.args.bytes.now c.loop-byte.byte-index ∷ []) _))

pub loop-byte-preserved-then-byte-ne10 : goal.loop-byte-preserved-then-byte-ne10
loop-byte-preserved-then-byte-ne10 g c = record {
  sound = c.loop-byte.invariant.sound;
  fresh = c.loop-byte.invariant.fresh;
  taken = next_taken _ _ _ _ _ c.loop-byte.line.items _ c.args.bytes.now c.loop-byte.byte-index _ _ _ c.loop-byte-test.true c.loop-byte.invariant.taken
      (byte_taken c.loop-byte.session c.loop-byte.line.items _ _ _ c.loop-byte.invariant.sound c.in_ok-keep.ensures);
}

pub returns-then-is_end-clause-taken : goal.returns-then-is_end-clause-taken
returns-then-is_end-clause-taken g c =
    let ended : is_end c.loop-byte.line.items ≡ true = ends_by _ _ _ _ c.as_slice.ensures.value c.is_end.ensures c.if-is_end.true in
    taken_over _ _ _ _ c.args.bytes.now (c.loop-byte.byte-index + 1) _ _
    (next_taken _ _ _ _ _ c.loop-byte.line.items _ c.args.bytes.now c.loop-byte.byte-index _ _ _ c.loop-byte-test.true c.loop-byte.invariant.taken
    (end_taken c.loop-byte.session c.loop-byte.line.items _ _ c.loop-byte.invariant.sound c.if-byte-ne10.false ended))

pub returns-in_err-write_answer-clause-stopped : goal.returns-in_err-write_answer-clause-stopped
returns-in_err-write_answer-clause-stopped g c =
    let going : is_end c.loop-byte.line.items ≡ false = ends_by _ _ _ _ c.as_slice.ensures.value c.is_end.ensures c.if-is_end.false in
    let old = c.loop-byte.session in
    let begun = subst (λ line. AppendsBeginning (g.O.Sink.written c.loop-byte.output) (g.O.Sink.written c.write_answer.new.output) (ended (told (sizes_of old) (state_of old) line).text))
    c.as_slice-in-loop-byte.ensures.value c.in_err-write_answer.ensures.begun in
    on_error _ _ (next_stopped _ _ c.args.line.now.items c.loop-byte.line.items c.args.bytes.now c.loop-byte.byte-index _ _ _ c.loop-byte-test.true c.loop-byte.invariant.taken
    (line_stopped old c.loop-byte.line.items _ _ _ c.if-byte-ne10.false going begun))

pub loop-byte-preserved : goal.loop-byte-preserved
loop-byte-preserved g c =
    let going : is_end c.loop-byte.line.items ≡ false = ends_by _ _ _ _ c.as_slice.ensures.value c.is_end.ensures c.if-is_end.false in
    let old = c.loop-byte.session in
    let new = c.write_answer.new.session in
    let bytes = c.args.bytes.now in
    let i = c.loop-byte.byte-index in
    let wrote = g.O.Sink.written in
    let stands = subst (λ line. state_of new ≡ (told (sizes_of old) (state_of old) line).state) c.as_slice-in-loop-byte.ensures.value c.in_ok-write_answer.ensures.stands in
    let appended = subst (λ line. Appends (wrote c.loop-byte.output) (wrote c.write_answer.new.output) (ended (told (sizes_of old) (state_of old) line).text))
    c.as_slice-in-loop-byte.ensures.value c.in_ok-write_answer.ensures.wrote in
    let one = subst (λ kept. Takes false old new c.loop-byte.line.items kept (slice_index bytes i ∷ []) (wrote c.loop-byte.output) (wrote c.write_answer.new.output))
    (sym c.clear.ensures.items)
    (line_taken old new c.loop-byte.line.items (slice_index bytes i) _ _ c.in_ok-write_answer.ensures.ok.1 c.in_ok-write_answer.ensures.sizes stands c.if-byte-ne10.false going appended) in
    record {
      sound = c.in_ok-write_answer.ensures.ok.1;
      fresh = c.in_ok-write_answer.ensures.ok.0;
      taken = next_taken _ _ _ _ _ c.loop-byte.line.items _ bytes i _ _ _ c.loop-byte-test.true c.loop-byte.invariant.taken one;
    }

pub returns-clause-taken : goal.returns-clause-taken
returns-clause-taken g c =
    subst (λ all. Takes false c.args.session.now c.loop-byte.session c.args.line.now.items c.loop-byte.line.items all (g.O.Sink.written c.args.output.now) (g.O.Sink.written c.loop-byte.output))
    (take_all c.loop-byte.byte-index c.args.bytes.now c.loop-byte-test.false) c.loop-byte.invariant.taken
