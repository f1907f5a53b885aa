-- Which records and addresses of objects don't change when the index does.
use Rattle.std.specs.Prelude.{◌≡◌, ◌≢◌, ℕ, ◌<◌, ◌⊎◌, length}
use Rattle.mesh_spans.specs.Index.{Index, address_in, record_at, span_at}

-- no slot's record changes
abbrev pub KeepsRecords : Index → Index → Type 0
KeepsRecords old new = (span k : ℕ) → record_at new span k ≡ record_at old span k

-- no slot's record changes, except that of slot `k` of the span
abbrev pub KeepsOthers : Index → Index → ℕ → ℕ → Type 0
KeepsOthers old new span k = (other j : ℕ) → (other ≢ span) ⊎ (j ≢ k) → record_at new other j ≡ record_at old other j

-- the slots of each span of the old index don't change their addresses
abbrev pub KeepsAddresses : Index → Index → Type 0
KeepsAddresses old new = (span k : ℕ) → span < length old.spans → address_in (span_at new.spans span) k ≡ address_in (span_at old.spans span) k
