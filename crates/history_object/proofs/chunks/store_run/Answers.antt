use Rattle.std.proofs.Common.{◌≡◌, ap, ◌∙◌, List, arith}
use Rattle.std.proofs.lemmas.List.{get_or_default}
use Rattle.history_object.specs.declared.chunk.Chunk.{Chunk}
use Rattle.history_object.specs.Chunks.{index_of}
use Rattle.history_object.proofs.Runs.{stored_fresh, stored_kept}
use Rattle.history_object.proofs.chunks.store_run.Goals as goal
use Rattle.history_object.proofs.chunks.store_run.Goals.{else-index-len-via-then-index-len+else-index-number, else-index-len-via-else-index-len}

pub returns-then-index-number : goal.returns-then-index-number
returns-then-index-number c =
    let items = c.args.chunks.now.items in
    let is : c.index_of-index.result ≡ index_of c.args.number items =
    c.index_of-index.ensures.is ∙ ap (λ (cs : List Chunk). index_of c.args.number cs) c.as_slice.ensures.value in
    stored_kept items c.args.number c.args.place c.index_of-index.result c.args.bytes.now c.write.new.chunk c.index.result.now c.index_mut-chunk.result.now
    is (omega arith) c.index.ensures c.if-index-number.true c.index_mut-chunk.ensures.value c.write.ensures.sized c.write.ensures.written
    c.requires.one_chunk c.requires.some

pub returns : goal.returns
returns c =
    let items = c.args.chunks.now.items in
    let is : c.index_of-index.result ≡ index_of c.args.number items =
    c.index_of-index.ensures.is ∙ ap (λ (cs : List Chunk). index_of c.args.number cs) c.as_slice.ensures.value in
    c.in_ok-insert.ensures.items
    ∙ stored_fresh items c.args.number c.args.place c.index_of-index.result c.args.bytes.now c.write-2.new.chunk is
    (λ there d number. elim c.else-index-len.branch [
      | else-index-len-via-then-index-len+else-index-number w ↦
          w.if-index-number.false (ap (λ (x : Chunk). x.number) (w.index.ensures ∙ get_or_default items c.index_of-index.result w.index.result.now d there) ∙ number)
      | else-index-len-via-else-index-len w ↦ omega (arith, there)
    ])
    c.write-2.ensures.written
    c.requires.one_chunk c.requires.some
