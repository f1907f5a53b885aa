use Rattle.std.proofs.Common.{ℕ, ◌+◌, ◌*◌, List, length, slice_range, ap, arith, sym, ◌∙◌}
use Rattle.std.specs.Ordering.{nat_cmp}
use Rattle.std.specs.BTreeMap.{get}
use Rattle.history_in_order.proofs.Kept.{length_of_all, run_in_chunk}
use Rattle.history_in_order.proofs.sparse.SparseBytes.run.Goals as goal

pub returns : goal.returns
returns c =
    let f = get nat_cmp c.self.inside.chunks in
    let place = c.args.place in
    let start : ℕ = c.args.number * 64 + place in
    let long = length_of_all f c.self.inside.len c.args.self.now c.self.view_is in
    ap (λ (xs : List ℕ). slice_range xs place (place + c.args.len)) c.chunk_bytes.ensures.bytes
    ∙ run_in_chunk f c.self.inside.len c.args.number place c.args.len (ap (λ (xs : List ℕ). length xs) (sym c.chunk_bytes.ensures.bytes) ∙ c.chunk_bytes.ensures.sized)
    c.requires.one_chunk (omega (arith, c.requires.fits, long))
    ∙ ap (λ (xs : List ℕ). slice_range xs start (start + c.args.len)) c.self.view_is
