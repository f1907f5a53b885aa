use Rattle.std.proofs.Common.{◌≡◌, ◌++◌, sym}
use Rattle.std.proofs.lemmas.List.{take-append-drop}
use Rattle.mesh_store.proofs.Ranges.{saves_parts}
use Rattle.mesh_store.proofs.store.Store.save.Goals as goal

pub returns-then-not-is_empty-clause-saves : goal.returns-then-not-is_empty-clause-saves
returns-then-not-is_empty-clause-saves c =
    let whole : c.args.bytes.now ≡ c.split_at.result.0.now ++ c.split_at.result.1.now = rw (c.split_at.ensures.front, c.split_at.ensures.back) (sym (take-append-drop c.len_in_page-first.result c.args.bytes.now)) in
    saves_parts _ _ _ _ c.args.addr c.len_in_page-first.result c.split_at.result.0.now c.split_at.result.1.now c.args.bytes.now c.requires.backed whole c.split_at.ensures.front_len c.save_run.ensures c.save_run-then-not-is_empty.ensures
