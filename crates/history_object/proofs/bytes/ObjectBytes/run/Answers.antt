use Rattle.std.proofs.Common.{ℕ, ◌+◌, List, ap, arith, ◌∙◌, slice_range}
use Rattle.history_object.specs.declared.chunk.Chunk.{Chunk}
use Rattle.history_object.specs.Chunks.{chunk_bytes}
use Rattle.history_object.specs.ObjectBytes.{State}
use Rattle.history_object.proofs.Offsets.{bytes_of-length, run_in_chunk}
use Rattle.history_object.proofs.bytes.ObjectBytes.run.Goals as goal

pub returns : goal.returns
returns c =
    let chunks = c.as_slice.ensures.value ∙ ap (λ (s : State). s.chunks) c.self.view_is in
    let bytes = c.chunk.ensures.bytes ∙ ap (λ (cs : List Chunk). chunk_bytes c.args.number cs) chunks in
    let long = bytes_of-length c.args.self.now in
    ap (λ (xs : List ℕ). slice_range xs c.args.place (c.args.place + c.args.len)) bytes
    ∙ run_in_chunk c.args.self.now c.args.number c.args.place c.args.len c.requires.one_chunk (omega (arith, c.requires.fits, long))
