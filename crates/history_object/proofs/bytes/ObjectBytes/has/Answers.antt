use Rattle.std.proofs.Common.{◌≡◌, ◌+◌, ◌*◌, ◌<◌, ◌≤◌, Bool, ◌&&◌, length, slice_range, ap, sym, ◌∙◌, arith}
use Rattle.std.specs.Str.{bytes_eq}
use Rattle.std.proofs.lemmas.Bool.Decides.{nat_tests}
use Rattle.history_object.specs.ObjectBytes.{bytes_of}
use Rattle.history_object.proofs.ByRuns.{compared_by_runs, left_behind}
use Rattle.history_object.proofs.bytes.ObjectBytes.has.Goals as goal
use Rattle.history_object.proofs.bytes.ObjectBytes.has.Goals.{After-has_run}

-- all bytes are the same if those of the run and those that are left are
whole : (c : After-has_run) → (bytes_eq c.split_at.result.0.now
    (slice_range (bytes_of c.args.self.now) (c.loop-rest.number * 64 + c.loop-rest.place) (c.loop-rest.number * 64 + c.loop-rest.place + length c.split_at.result.0.now))
    && bytes_eq c.split_at.result.1.now (slice_range (bytes_of c.args.self.now) ((c.loop-rest.number + 1) * 64 + 0)
    ((c.loop-rest.number + 1) * 64 + 0 + length c.split_at.result.1.now)))
    ≡ bytes_eq c.args.bytes.now (slice_range (bytes_of c.args.self.now) c.args.off (c.args.off + length c.args.bytes.now))
whole c =
    let some : 0 < length c.loop-rest.rest.now = grind (arith, nat_tests) in
    let end = c.loop-rest.invariant.left some in
    let fits : c.args.off + length c.args.bytes.now ≤ length (bytes_of c.args.self.now) = grind (arith, nat_tests) in
    let first = c.split_at.ensures.front_len in
    sym (compared_by_runs (bytes_of c.args.self.now) c.loop-rest.number c.loop-rest.place c.split_at.result.0.now c.split_at.result.1.now c.loop-rest.rest.now
    (sym c.split_at.ensures.by_index.0) (λ less. let full = c.first_run.ensures.rest (omega (arith, less, first)) in omega (arith, full, first))
    (omega (arith, end, fits)))
    ∙ c.loop-rest.invariant.same

pub returns-then-not-has_run : goal.returns-then-not-has_run
returns-then-not-has_run c =
    let differs = ap (λ (b : Bool). b && bytes_eq c.split_at.result.1.now (slice_range (bytes_of c.args.self.now) ((c.loop-rest.number + 1) * 64 + 0)
    ((c.loop-rest.number + 1) * 64 + 0 + length c.split_at.result.1.now))) c.if-not-has_run.ensures ∙ whole (goal.at.returns-then-not-has_run c).After-has_run in
    rw (← c.if-ends_past.ensures) differs

pub loop-rest-preserved : goal.loop-rest-preserved
loop-rest-preserved c = record {
  within = omega arith;
  left = left_behind c.loop-rest.number c.loop-rest.place c.first_run.result (length c.loop-rest.rest.now) (length c.split_at.result.1.now)
      (c.args.off + length c.args.bytes.now) c.split_at.ensures.back_len c.first_run.ensures.rest c.loop-rest.invariant.left;
  same =
      ap (λ (b : Bool). b && bytes_eq c.split_at.result.1.now (slice_range (bytes_of c.args.self.now) ((c.loop-rest.number + 1) * 64 + 0)
      ((c.loop-rest.number + 1) * 64 + 0 + length c.split_at.result.1.now))) c.if-not-has_run.ensures ∙ whole (goal.at.loop-rest-preserved c).After-has_run;
}
