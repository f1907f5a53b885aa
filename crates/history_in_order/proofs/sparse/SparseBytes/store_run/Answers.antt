use Rattle.std.proofs.Common.{ℕ, ◌+◌, ◌*◌, List, ap, arith, ◌∙◌}
use Rattle.std.specs.Ordering.{nat_cmp}
use Rattle.std.specs.BTreeMap.{get}
use Rattle.std.proofs.lemmas.Result.{on_ok_weaker}
use Rattle.model_memory.specs.Memory.{overwritten}
use Rattle.history_in_order.proofs.Kept.{length_of_all, stored_in_chunk}
use Rattle.history_in_order.proofs.sparse.SparseBytes.store_run.Goals as goal

pub returns-clause-stored : goal.returns-clause-stored
returns-clause-stored c =
    let f = get nat_cmp c.self.inside.chunks in
    let long = length_of_all f c.self.inside.len c.args.self.now c.self.view_is in
    on_ok_weaker c.store_in.result (λ set.
    stored_in_chunk f (get nat_cmp c.store_in.new.chunks) c.self.inside.len c.args.number c.args.place c.args.bytes.now
    c.store_in.ensures.sized c.requires.one_chunk (omega (arith, c.requires.fits, long)) set
    ∙ ap (λ (all : List ℕ). overwritten all (c.args.number * 64 + c.args.place) c.args.bytes.now) c.self.view_is)
    c.store_in.ensures.stored
