use Rattle.std.proofs.Common.{◌≡◌, ◌<◌, ◌≤◌, List, ℕ, suc, length, map, slice_index_or, Bor, ap, subst, sym, ◌∙◌, arith}
use Rattle.std.specs.declared.thread.PromisedHandle.{PromisedHandle}
use Rattle.model_words.specs.declared.commands.Command.{Command}
use Rattle.std.proofs.lemmas.List.{length-map}
use Rattle.mesh_lock.specs.Seat.{Seat}
use Rattle.mesh_shared.specs.Runs.{script_of}
use Rattle.mesh_shared.specs.declared.worker.Served.{Served}
use Rattle.mesh_shared.specs.declared.worker.Works.{Works}
use Rattle.mesh_shared.proofs.WorkerRuns.{each_and_one_more, script_there}
use Rattle.mesh_shared.proofs.threads.start_workers.Goals as goal

pub loop-seat-preserved : goal.loop-seat-preserved
loop-seat-preserved g c =
    let was = c.loop-seat.invariant in
    let scripts : List (List Command) = map (λ (script : Bor (List Command)). script.now) c.args.scripts.now in
    let ok = c.loop-seat.workers.ok in
    let P : ℕ → PromisedHandle Served Works → Type 0 = λ i h. (h.promise.tries ≡ c.args.tries) × (h.promise.script.now ≡ script_of scripts i) in
    let at : c.len.result ≡ length c.loop-seat.workers.items = c.len.ensures ∙ ok.0 in
    let below : length c.loop-seat.workers.items < length c.args.scripts.now
    = (let many = was.0 in let rest = c.in-Some.ensures.steps.1 in let long = ok.0 in omega (arith, many, rest, long)) in
    let here : c.index-scripts-len.result.now ≡ script_of scripts (length c.loop-seat.workers.items)
    = ap (λ (s : Bor (List Command)). s.now) (c.index-scripts-len.is ∙ ap (λ (k : ℕ). slice_index_or c.args.scripts.now k c.index-scripts-len.result) at)
    ∙ sym (script_there c.args.scripts.now (length c.loop-seat.workers.items) c.index-scripts-len.result below) in
    let last : P (length c.loop-seat.workers.items) c.in-Ok.handle
    = (ap (λ (p : Works). p.tries) c.in-Ok.ensures.ok, ap (λ (p : Works). p.script.now) c.in-Ok.ensures.ok ∙ here) in
    let more = each_and_one_more P c.loop-seat.workers.items c.in-Ok.handle (λ i d b. was.3 i d (let long = ok.0 in omega (arith, b, long))) last in (
      (let many = was.0 in let rest = c.in-Some.ensures.steps.1 in let one = c.push_reserved.ensures.len in omega (arith, many, rest, one)),
      subst (λ (n : ℕ). length c.args.scripts.now ≤ n) (sym c.push_reserved.ensures.capacity) was.1,
      (λ k d below. ap (λ (l : List Seat). (slice_index_or l (suc k) d).calls) (sym c.in-Some.ensures.steps.0)
          ∙ was.2 (suc k) d (let rest = c.in-Some.ensures.steps.1 in omega (arith, below, rest))),
      λ i d b. subst (λ (l : List (PromisedHandle Served Works)). P i (slice_index_or l i d)) (sym {A = List (PromisedHandle Served Works)} c.push_reserved.ensures.items) (more i d (let one = c.push_reserved.ensures.len in let long = ok.0 in omega (arith, b, one, long))),
    )

pub bounds-scripts-len : goal.bounds-scripts-len
bounds-scripts-len g c =
    let many = c.loop-seat.invariant.0 in
    let rest = c.in-Some.ensures.steps.1 in
    let at = c.len.ensures in
    omega (arith, many, rest, at)

pub push_reserved-requires : goal.push_reserved-requires
push_reserved-requires g c =
    let many = c.loop-seat.invariant.0 in
    let room = c.loop-seat.invariant.1 in
    let rest = c.in-Some.ensures.steps.1 in
    omega (arith, many, room, rest)

pub returns-clause-working : goal.returns-clause-working
returns-clause-working g c started =
    let was = c.loop-seat.invariant in
    let many = was.0 in
    let none_left = c.in-None.ensures.steps.0 in
    let long = c.loop-seat.workers.ok.0 in
    let all : length c.loop-seat.workers.items ≡ length c.args.scripts.now = omega (arith, many, none_left, long) in record {
      many = all ∙ sym (length-map c.args.scripts.now (λ (script : Bor (List Command)). script.now));
      each = λ w h below. was.3 w h (omega (arith, below, long));
    }
