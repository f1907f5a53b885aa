-- Which two groups may be meshed, and what a mesh of them leaves of a placement.
use Rattle.std.proofs.Common.{◌≡◌, ℕ, ◌+◌, ◌-◌, ◌≤◌, Bool, true, false, not, ◌&&◌, nat_eq, List, Option, Some, Result, Ok, ap, subst, refl, sym, ◌∙◌, arith}
use Rattle.std.specs.Option.{option_map}
use Rattle.model_heap.proofs.CountedPages.{whole_counted}
use Rattle.model_heap.proofs.MayBegin.{whole_of}
use Rattle.model_heap.proofs.TableChanges.{whole_sound}
use Rattle.model_heap.proofs.TiedTables.{whole_tied}
use Rattle.model_heap.specs.Mesh.{Pair, merged, mesh_of_class, mesh_whole}
use Rattle.model_heap.specs.PageCounts.{AreCounted, span_pages}
use Rattle.model_heap.specs.Table.{Counted, Group, Table}
use Rattle.model_heap.specs.TableLaws.{IsBusyTest}
use Rattle.model_words.specs.Words.{◌>>=◌}
use Rattle.model_words.specs.declared.refusals.Refusal.{Refusal}
use Rattle.mesh_class.specs.Classes.{pages_of}
use Rattle.mesh_spans.specs.Changes.{Merges}
use Rattle.mesh_spans.specs.Counts.{byte_count}
use Rattle.mesh_spans.specs.Groups.{groups_of, is_closed, table_group}
use Rattle.mesh_spans.specs.Index.{GroupEntry, Index, IsIndex}
use Rattle.savings_replay.proofs.Kept.{ascend_same, taken_within, unused_same}
use Rattle.mesh_spans.proofs.PairLemmas.{entry_in_table}
use Rattle.savings_replay.proofs.MergedRecords.{merged_records}
use Rattle.savings_replay.specs.Meshes.{MayMesh}
use Rattle.savings_replay.specs.Placement.{IsMeshed, IsPlacement, Placement, table_of, supply}

-- the groups of the index were merged
pub record IsMerged (old new : Index) (s d : ℕ) (a b : GroupEntry) : Type 0 where
  pub merges : Merges old new s d a b
  pub table : groups_of new ≡ merged (groups_of old) (table_group old.spans s a) d
  pub closed : (m : ℕ) → is_closed new m ≡ (not (nat_eq m s) && is_closed old m)

module _ (old : Placement) (new : Index) (s d class pages held bytes : ℕ) (kept : IsPlacement old) (sound : IsIndex old.index.spans old.index.groups)
    (may : MayMesh old.index s d class pages held bytes) (is : IsMerged old.index new s d may.merge.pair.a may.merge.pair.b) where
  abbrev after : Placement
  after = record old { index = new; taken_pages = old.taken_pages - pages }

  abbrev pair : Pair
  pair = record { source = table_group old.index.spans s may.merge.pair.a; destination = table_group old.index.spans d may.merge.pair.b }

  whole : mesh_whole mesh_of_class (table_of old) s d ≡ Ok (whole_of (table_of old) s d pair)
  whole = ap (λ (r : Result Pair Refusal). r >>= λ x. Ok (whole_of (table_of old) s d x))
      (may.merge.begins mesh_of_class (table_of old) (record { groups = refl; says = λ a at. refl }))

  busy : IsBusyTest mesh_of_class (table_of old)
  busy class idle = refl

  counted : AreCounted supply (whole_of (table_of old) s d pair).table
  counted = whole_counted supply mesh_of_class (table_of old) s d (whole_of (table_of old) s d pair) busy kept.sound kept.counted whole

  -- the pages of the source are taken
  pub pages_taken : pages ≤ old.taken_pages
  pages_taken =
      let all : (supply - old.taken_pages) + pages_of may.merge.pair.a.class + span_pages (whole_of (table_of old) s d pair).table ≡ supply = (let c = counted in omega (arith, c)) in
      let most = taken_within old kept in let are = may.pages_are in omega (arith, all, most, are)

  table_is : (whole_of (table_of old) s d pair).table ≡ table_of after
  table_is =
      let free : (supply - old.taken_pages) + pages_of may.merge.pair.a.class ≡ supply - (old.taken_pages - pages)
      = (let most = taken_within old kept in let are = may.pages_are in let low = pages_taken in omega (arith, most, are, low)) in
      ap (λ (n : ℕ). record (table_of old) { free_pages = n; groups = merged (groups_of old.index) (table_group old.index.spans s may.merge.pair.a) d }) free
      ∙ ap (λ (gs : List Group). record (table_of old) { free_pages = supply - (old.taken_pages - pages); groups = gs }) (sym is.table)
      ∙ ap (λ (n : ℕ). record (table_of after) { next_span = n }) (sym is.merges.spans.long)

  went : mesh_whole mesh_of_class (table_of old) s d ≡ Ok (record { count = pages; table = table_of after })
  went =
      let by_table : Table → Result Counted Refusal = λ t. Ok (record { count = pages_of may.merge.pair.a.class; table = t }) in
      let by_count : ℕ → Result Counted Refusal = λ n. Ok (record { count = n; table = table_of after }) in
      whole ∙ ap by_table table_is ∙ ap by_count (sym may.pages_are)

  pub meshed_kept : IsPlacement after
  meshed_kept = record {
    sound = whole_sound mesh_of_class (table_of old) s d (record { count = pages; table = table_of after }) busy kept.sound went;
    named = record {
      memory = kept.named.memory;
      next_is = kept.named.next_is;
      tied = whole_tied kept.named.memory mesh_of_class (table_of old) s d (record { count = pages; table = table_of after }) kept.named.tied went;
    };
    counted = subst (AreCounted supply) table_is counted;
    few = let few = kept.few in omega (arith, few);
    unused = unused_same old.index new old.next_page is.merges.spans.long is.merges.spans.firsts is.merges.spans.classes kept.unused;
    ascending = ascend_same old.index.spans new.spans is.merges.spans.long is.merges.spans.firsts kept.ascending;
    calm = λ n. is.closed n ∙ ap (λ (b : Bool). not (nat_eq n s) && b) (kept.calm n) ∙ neither (not (nat_eq n s));
  }
    where
      neither : (b : Bool) → (b && false) ≡ false
      neither true = refl
      neither false = refl

  pub meshed_now : IsMeshed old after s d pages bytes
  meshed_now = record {
    table = went;
    moved = ap (λ (o : Option Group). option_map byte_count o) (entry_in_table old.index s may.merge.pair.a may.merge.pair.source) ∙ ap Some (sym may.bytes_are);
    serial = refl;
    records = merged_records old.index (table_of old) sound kept.ascending kept.sound refl new s d may.merge.pair.a may.merge.pair.b may.merge.pair.two may.merge.pair.apart is.merges;
    addresses = λ span k below. rw (is.merges.spans.firsts span, is.merges.spans.classes span) refl;
  }
