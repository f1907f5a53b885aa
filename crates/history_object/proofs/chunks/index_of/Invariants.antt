use Rattle.std.proofs.Common.{◌≡◌, ◌+◌, drop}
use Rattle.history_object.specs.Chunks.{index_of}
use Rattle.history_object.proofs.chunks.index_of.Given as goal

-- no chunk so far has the number or a greater one
abbrev pub invariant-loop-chunk : goal.invariant-loop-chunk
invariant-loop-chunk l = (index_of l.number l.chunks ≡ l.index + index_of l.number (drop l.chunk-index l.chunks)) × (l.index ≡ l.chunk-index)
