use Rattle.std.proofs.Common.{ℕ, ◌+◌, ◌*◌, List, length, take, ap, ◌∙◌, arith}
use Rattle.history_object.specs.declared.chunk.Chunk.{Chunk}
use Rattle.history_object.specs.Chunks.{stored}
use Rattle.history_object.proofs.ByRuns.{left_behind, stored_by_runs}
use Rattle.history_object.proofs.bytes.store_in.Goals as goal

pub loop-rest-preserved : goal.loop-rest-preserved
loop-rest-preserved c =
    let start = c.loop-rest.number * 64 + c.loop-rest.place in
    let next = (c.loop-rest.number + 1) * 64 + 0 in
    let run = c.first_run.result in
    let items = c.loop-rest.chunks.items in
    let left = c.loop-rest.rest.now in
    record {
      within = omega arith;
      left = left_behind c.loop-rest.number c.loop-rest.place run (length left) (length c.split_at.result.1.now) (c.args.off + length c.args.bytes.now)
          c.split_at.ensures.back_len c.first_run.ensures.rest c.loop-rest.invariant.left;
      stored =
          ap (λ (cs : List Chunk). stored cs next c.split_at.result.1.now) (c.in_ok-store_run.ensures ∙ ap (λ (xs : List ℕ). stored items start xs) c.split_at.ensures.front)
          ∙ ap (λ (xs : List ℕ). stored (stored items start (take run left)) next xs) c.split_at.ensures.back
          ∙ stored_by_runs items c.loop-rest.number c.loop-rest.place run left c.first_run.ensures.within c.first_run.ensures.rest
          ∙ c.loop-rest.invariant.stored;
    }
