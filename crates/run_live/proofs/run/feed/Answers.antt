use Rattle.std.proofs.Common.{rules, ◌≡◌, ◌≤◌, ℕ, List, length, take, arith}
use Rattle.std.proofs.lemmas.List.{length-take-le}
use Rattle.run_live.proofs.Runs.{read_end, read_more}
use Rattle.run_live.proofs.Stops.{fed_stopped, on_error, read_stopped}
use Rattle.run_live.proofs.run.feed.Goals as goal

pub returns-then-branch-clause-fed : goal.returns-then-branch-clause-fed
returns-then-branch-clause-fed g c =
    read_end _ _ _ _ _ _ _ (take c.in_ok-count.count c.read_some.new.buf) _ _ _ _ _ _ c.loop-read.invariant.read c.in_ok-count.ensures.bytes c.if-branch.true
    c.in_ok-take_bytes.ensures.taken

pub loop-read-preserved : goal.loop-read-preserved
loop-read-preserved g c =
    let bytes : List ℕ = take c.in_ok-count.count c.read_some.new.buf in
    let len : length bytes ≡ c.in_ok-count.count = length-take-le c.in_ok-count.count c.read_some.new.buf c.in_ok-count.ensures.within in
    let some : 1 ≤ length bytes = omega (arith, len, c.if-count-eq0.false) in
    record {
      sound = c.in_ok-take_bytes.ensures.ok.1;
      room = search rules;
      input = search rules;
      output = c.in_ok-take_bytes.ensures.ok.0;
      read = read_more _ _ _ _ _ _ _ bytes _ _ _ _ _ _ c.loop-read.invariant.read c.in_ok-count.ensures.bytes some c.if-branch.false c.in_ok-take_bytes.ensures.taken;
    }

pub returns-in_err-count-clause-stopped : goal.returns-in_err-count-clause-stopped
returns-in_err-count-clause-stopped g c = on_error _ _ (read_stopped _ _ _ _ _ _ _ _ c.loop-read.invariant.read)

pub returns-in_err-take_bytes-clause-stopped : goal.returns-in_err-take_bytes-clause-stopped
returns-in_err-take_bytes-clause-stopped g c =
    on_error _ _ (fed_stopped _ _ _ _ (take c.in_ok-count.count c.read_some.new.buf) _ _ _ _ _ _ c.loop-read.invariant.read c.in_ok-count.ensures.bytes
    c.in_err-take_bytes.ensures.stopped)
