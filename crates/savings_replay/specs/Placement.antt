-- A placement: where the objects of a heap are, its table, and how its calls change it.
use Rattle.std.specs.Prelude.{◌≡◌, ℕ, ◌+◌, ◌-◌, ◌<◌, ◌≤◌, false, List, [], Some, None, Ok, Err, find, length, refl}
use Rattle.std.specs.Coded.{Coded, code_by, coded×, coded_ℕ}
use Rattle.std.specs.Option.{option_map}
use Rattle.model_memory.specs.Memory.{Memory, next_serial}
use Rattle.model_heap.specs.Mesh.{mesh_of_class, mesh_whole}
use Rattle.model_heap.specs.PageCounts.{AreCounted}
use Rattle.model_heap.specs.Sound.{IsSound, IsTied}
use Rattle.model_heap.specs.Table.{Table, group_of, is_open, place_new, room_for_span, sweep, without_object}
use Rattle.model_words.specs.Classes.{class_for}
use Rattle.model_words.specs.declared.answers.NewFault.{NewFault}
use Rattle.model_words.specs.declared.answers.NewFault.TheVariants.{Memory as NoMemory, Refused}
use Rattle.mesh_spans.specs.Counts.{byte_count}
use Rattle.mesh_spans.specs.Groups.{groups_of, is_closed}
use Rattle.mesh_spans.specs.Index.{AreUnused, Index, SpanEntry, address_in, index_code, record_at, span_at}
use Rattle.savings_replay.specs.Records.{KeepsAddresses, KeepsOthers, KeepsRecords}
use Rattle.savings_replay.specs.Sweeps.{swept, table_after}

-- a placement: its index, the lowest virtual page that was never used, the number of physical pages of all groups, and
-- the serial of the next object
pub record Placement : Type 0 where
  pub index : Index
  pub next_page : ℕ
  pub taken_pages : ℕ
  pub next_serial : ℕ

-- a placement is stored as its parts
abbrev pub placement_code : Coded Placement
placement_code =
    code_by (Index × (ℕ × (ℕ × ℕ))) (coded× index_code (coded× coded_ℕ (coded× coded_ℕ coded_ℕ)))
    (λ p. (p.index, (p.next_page, (p.taken_pages, p.next_serial))))
    (λ q. record { index = q.0; next_page = q.1.0; taken_pages = q.1.1.0; next_serial = q.1.1.1 })
    (λ _. refl)

-- the number of physical pages: more than there are virtual ones, so that a new span never lacks a physical page
abbrev pub supply : ℕ
supply = 65538

-- the table of the placement, with `supply` physical pages and no running mesh
abbrev pub table_of : Placement → Table
table_of p = record {
  next_span = length p.index.spans;
  next_page = p.next_page;
  free_pages = supply - p.taken_pages;
  meshes = [];
  groups = groups_of p.index;
}

-- if a span has a higher number than another, its first virtual page is higher too
abbrev pub FirstsAscend : List SpanEntry → Type 0
FirstsAscend spans = (i j : ℕ) → i < j → j < length spans → (span_at spans i).first < (span_at spans j).first

-- some reference memory with this next serial is tied to the table, so it has the table's live objects
pub record HasMemory (serials : ℕ) (t : Table) : Type 0 where
  pub memory : Memory
  pub next_is : next_serial memory ≡ serials
  pub tied : IsTied memory t

-- what always holds of a placement: its table is sound and tied to a reference memory, its physical pages are counted,
-- and fewer than `next_page` are taken. Its spans ascend and end below `next_page`, and no group is in a mesh
pub record IsPlacement (p : Placement) : Type 0 where
  pub sound : IsSound (table_of p)
  pub named : HasMemory p.next_serial (table_of p)
  pub counted : AreCounted supply (table_of p)
  pub few : p.taken_pages < p.next_page
  pub unused : AreUnused p.index p.next_page
  pub ascending : FirstsAscend p.index.spans
  pub calm : (n : ℕ) → is_closed p.index n ≡ false

-- an object was placed in slot `k` of the span, which had none: it is where `place_new` places it. No other slot's
-- record and no address changed
pub record IsMade (old new : Placement) (len word span k : ℕ) : Type 0 where
  pub placed : place_new (table_of old) len word old.next_serial ≡ Ok (record { address = address_in (span_at new.index.spans span) k; table = table_of new })
  pub serial : new.next_serial ≡ old.next_serial + 1
  pub vacant : record_at old.index span k ≡ None
  pub recorded : record_at new.index span k ≡ Some (old.next_serial, len)
  pub others : KeepsOthers old.index new.index span k
  pub addresses : KeepsAddresses old.index new.index

-- a new object of `len` bytes, which is at least 1, needs a new span of this class: the class has no open group
pub record GoesToSpan (t : Table) (len class : ℕ) : Type 0 where
  pub class_is : class_for len ≡ Some class
  pub some : 1 ≤ len
  pub none_open : find (is_open t class) t.groups ≡ None

-- a new object of `len` bytes needs a new span, and there is room for this span
pub record NeedsSpan (t : Table) (len : ℕ) : Type 0 where
  pub class : ℕ
  pub goes : GoesToSpan t len class
  pub room : room_for_span t class ≡ Ok tt

-- no object was made and nothing changed: the table refuses the object, or an allocation failed when a new span was
-- needed
abbrev pub IsNotMade : Placement → Placement → ℕ → ℕ → NewFault → Type 0
IsNotMade old new len word (Refused refusal) = (place_new (table_of old) len word old.next_serial ≡ Err refusal) × (new ≡ old)
IsNotMade old new len word NoMemory = NeedsSpan (table_of old) len × (new ≡ old)

-- the object in slot `k` of the span, if there was one, was removed. No other slot's record and no address changed
pub record IsFreed (old new : Placement) (span k : ℕ) : Type 0 where
  pub table : (serial len : ℕ) → record_at old.index span k ≡ Some (serial, len) → table_of new ≡ without_object (table_of old) serial
  pub serial : new.next_serial ≡ old.next_serial
  pub gone : record_at new.index span k ≡ None
  pub others : KeepsOthers old.index new.index span k
  pub addresses : KeepsAddresses old.index new.index

-- group `n` was swept, or nothing changed if its sweep is refused. No record changed
pub record IsSweptAt (old new : Placement) (n : ℕ) : Type 0 where
  pub table : table_of new ≡ table_after (table_of old) (sweep (table_of old) n)
  pub serial : new.next_serial ≡ old.next_serial
  pub page : new.next_page ≡ old.next_page
  pub spans : new.index.spans ≡ old.index.spans
  pub records : KeepsRecords old.index new.index

-- each empty group was removed. No record and no address changed
pub record IsSwept (old new : Placement) : Type 0 where
  pub table : table_of new ≡ swept (table_of old)
  pub serial : new.next_serial ≡ old.next_serial
  pub records : KeepsRecords old.index new.index
  pub addresses : KeepsAddresses old.index new.index

-- two groups were meshed: `pages` physical pages became free, and the source's objects have `bytes` bytes. No record
-- and no address changed
pub record IsMeshed (old new : Placement) (source destination pages bytes : ℕ) : Type 0 where
  pub table : mesh_whole mesh_of_class (table_of old) source destination ≡ Ok (record { count = pages; table = table_of new })
  pub moved : option_map byte_count (group_of (table_of old) source) ≡ Some bytes
  pub serial : new.next_serial ≡ old.next_serial
  pub records : KeepsRecords old.index new.index
  pub addresses : KeepsAddresses old.index new.index
