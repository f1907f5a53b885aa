use Rattle.std.proofs.Common.{ℕ, Option, refl, subst}
use Rattle.std.specs.Prelude.{IfSome, IsNone}
use Rattle.std.specs.BTreeMap.{BTreeMap}
use Rattle.history_overlaps.specs.Standing.{HasEndedSo, IsFlawed, lives_of}
use Rattle.history_overlaps.specs.Timelines.{FewOpen}
use Rattle.history_overlaps.specs.declared.flaws.Flaw.{Flaw}
use Rattle.history_overlaps.specs.declared.pending.Pending.{Pending}
use Rattle.history_overlaps.specs.declared.timeline.Timeline.{Timeline}
use Rattle.history_overlaps.proofs.EndSteps.{ended_one, flawed_one, is_ending}
use Rattle.history_overlaps.proofs.Stopped.{stopped_one}
use Rattle.history_overlaps.proofs.timeline.Timeline.end_before.Goals as goal

-- a timeline of which other calls wait
abbrev with_waiting : Timeline → BTreeMap ℕ Pending → Timeline
with_waiting t waiting = record {
  waiting = waiting;
  lives = t.lives;
  starts = t.starts;
  cells = t.cells;
  serials = t.serials;
  freed = t.freed;
  alloc = t.alloc;
}

pub loop-number-preserved : goal.loop-number-preserved
loop-number-preserved c =
    let taken = with_waiting c.loop-number.self c.first_before.new.waiting in
    let ended = subst (λ (o : Option Flaw). IsNone o → HasEndedSo taken c.ended.new.self c.in-Some.number c.in-Some.pending) c.in-Ok-None.field-0-is c.in-Ok-None.ensures.ended in
    let few = subst (λ (o : Option Flaw). IsNone o → (count : ℕ) → FewOpen (lives_of c.loop-number.self) count → FewOpen (lives_of c.ended.new.self) count)
    c.in-Ok-None.field-0-is c.in-Ok-None.ensures.few in
    record {
      ended = ended_one c.args.self.now c.loop-number.self taken c.ended.new.self c.args.moment c.in-Some.number c.in-Some.pending c.loop-number.invariant.ended
          c.in-Some.ensures.some (λ calls waits stands. stands) c.in-Ok-None.ensures.waiting (ended refl) (few refl);
    }

pub ended-requires : goal.ended-requires
ended-requires c =
    let stands = c.requires.stands in
    is_ending c.loop-number.self (with_waiting c.loop-number.self c.first_before.new.waiting) c.args.moment c.in-Some.number c.in-Some.pending stands.0
    (c.loop-number.invariant.ended.stands stands.0 stands.1) c.in-Some.ensures.some (λ calls waits stands. stands)

pub returns-in-Ok-Some-clause-flawed : goal.returns-in-Ok-Some-clause-flawed
returns-in-Ok-Some-clause-flawed c =
    let taken = with_waiting c.loop-number.self c.first_before.new.waiting in
    let flawed = subst (λ (o : Option Flaw). IfSome o (IsFlawed taken c.in-Some.number c.in-Some.pending)) c.in-Ok-Some.field-0-is c.in-Ok-Some.ensures.flawed in
    flawed_one c.args.self.now c.loop-number.self taken c.args.moment c.in-Some.number c.in-Some.pending c.in-Ok-Some.flaw c.loop-number.invariant.ended
    c.in-Some.ensures.some (λ calls waits stands. stands) flawed

pub returns-in-Err-clause-stopped : goal.returns-in-Err-clause-stopped
returns-in-Err-clause-stopped c =
    let taken = with_waiting c.loop-number.self c.first_before.new.waiting in
    stopped_one c.args.self.now c.loop-number.self taken c.args.moment c.in-Some.number c.args.most c.in-Some.pending c.in-Err.fault c.loop-number.invariant.ended
    c.in-Some.ensures.some (λ calls waits stands. stands)
    c.in-Err.ensures.stopped
