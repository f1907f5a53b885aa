use Rattle.std.proofs.Common.{[], get_or, sym, ◌∙◌, ap, arith}
use Rattle.std.proofs.lemmas.List.{get_or_default}
use Rattle.history_object.specs.declared.chunk.Chunk.{Chunk}
use Rattle.history_object.proofs.Runs.{read_kept, read_none}
use Rattle.history_object.proofs.chunks.chunk.Goals as goal
use Rattle.history_object.proofs.chunks.chunk.Goals.{else-index-chunks-via-then-index-chunks+else-chunks-index, else-index-chunks-via-else-index-chunks}

-- what is read past the end of a list
abbrev past : Chunk
past = record { number = 0; bytes = [] }

pub returns-then-chunks-index-clause-bytes : goal.returns-then-chunks-index-clause-bytes
returns-then-chunks-index-clause-bytes c =
    let i = c.index_of-index.result in
    let found : Chunk = get_or c.args.chunks.now i past in
    c.all_bytes.ensures.same
    ∙ sym (read_kept c.args.chunks.now c.args.number i found c.index_of-index.ensures.is c.if-index-chunks.true
    (get_or_default c.args.chunks.now i past found c.if-index-chunks.true) c.if-chunks-index.true c.all_bytes.ensures.sized)

pub returns-clause-bytes : goal.returns-clause-bytes
returns-clause-bytes c =
    let i = c.index_of-index.result in
    c.all_bytes-2.ensures.same ∙ sym (read_none c.args.chunks.now c.args.number i c.index_of-index.ensures.is (λ there d is. elim c.else-index-chunks.branch [
      | else-index-chunks-via-then-index-chunks+else-chunks-index w ↦
          w.if-chunks-index.false (ap (λ (x : Chunk). x.number) (get_or_default c.args.chunks.now i past d there) ∙ is)
      | else-index-chunks-via-else-index-chunks w ↦ omega (arith, there)
    ]))
