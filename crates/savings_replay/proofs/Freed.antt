-- What an object that is taken out of its slot leaves of a placement.
use Rattle.std.proofs.Common.{◌≡◌, ℕ, ◌<◌, Option, Some, None, IsSome, List, length, map, ap, subst, refl, sym, ◌∙◌}
use Rattle.std.proofs.Math.ListN.{length-set}
use Rattle.std.proofs.lemmas.Option.{get_or_from_slice_get, slice_get_within}
use Rattle.model_memory.specs.Memory.{with_object}
use Rattle.model_heap.proofs.CountedPages.{free_counted}
use Rattle.model_heap.proofs.OneSlot.{one_slot}
use Rattle.model_heap.proofs.TableChanges.{free_sound}
use Rattle.model_heap.proofs.TiedMemories.{free_tied}
use Rattle.model_heap.specs.PageCounts.{AreCounted}
use Rattle.model_heap.specs.Sound.{IsSound, IsTied}
use Rattle.model_heap.specs.Table.{Group, Slot, changed_at, emptied_at, group_without, without_object}
use Rattle.mesh_spans.proofs.IndexLemmas.{recorded_is}
use Rattle.mesh_spans.specs.Groups.{groups_of, is_closed, table_group}
use Rattle.mesh_spans.specs.Index.{AreUnused, GroupEntry, Index, IsIndex, IsRecorded, SpanEntry, address_in, named_in, record_at, slot_in, span_at, with_entry}
use Rattle.mesh_spans.proofs.PairLemmas.{entry_in_table}
use Rattle.savings_replay.proofs.SlotRecords.{IsOf, others_stay, record_is, slot_of, slot_put}
use Rattle.savings_replay.specs.Placement.{FirstsAscend, IsFreed, IsPlacement, Placement, table_of, supply}

-- the group of a span, and its first page
abbrev pub group_number : Index → ℕ → ℕ
group_number index span = (span_at index.spans span).group

abbrev pub first_page : Index → ℕ → ℕ
first_page index span = (span_at index.spans span).first

-- a slot of a span was emptied, and nothing else of the index changed
pub record IsVacated (old new : Index) (span k : ℕ) : Type 0 where
  pub spans : new.spans ≡ old.spans
  pub groups : new.groups ≡ with_entry old.groups (group_number old span) k None
  pub table : groups_of new ≡ map (changed_at (group_number old span) (emptied_at k)) (groups_of old)
  pub closed : (n : ℕ) → is_closed new n ≡ is_closed old n

-- the object that is in a slot of a span
abbrev pub object_in : Index → ℕ → ℕ → ℕ → Slot
object_in index span serial len = record { member = first_page index span; serial = serial; len = len }

-- the placement with another index
abbrev pub with_index : Placement → Index → Placement
with_index p index = record p { index = index }

module _ (old : Placement) (new : Index) (span k serial len : ℕ) (kept : IsPlacement old) (sound : IsIndex old.index.spans old.index.groups)
    (is : record_at old.index span k ≡ Some (serial, len)) (out : IsVacated old.index new span k) where
  stands : IsRecorded old.index span k serial len
  stands = recorded_is old.index old.index.spans old.index.groups span k serial len refl sound is

  -- emptying the slot takes the object out of the table
  emptied : map (changed_at (group_number old.index span) (emptied_at k)) (groups_of old.index) ≡ map (group_without serial) (groups_of old.index)
  emptied = one_slot kept.named.memory (table_of old) (group_number old.index span) k
      (table_group old.index.spans (group_number old.index span) stands.group) (object_in old.index span serial len) kept.sound kept.named.tied
      (entry_in_table old.index (group_number old.index span) stands.group stands.there) stands.filled

  table_is : table_of (with_index old new) ≡ without_object (table_of old) serial
  table_is = ap (λ (n : ℕ). record (table_of old) { next_span = n; groups = groups_of new }) (ap (λ (xs : List SpanEntry). length xs) out.spans)
      ∙ ap (λ (gs : List Group). record (table_of old) { groups = gs }) (out.table ∙ emptied)

  kept_after : IsPlacement (with_index old new)
  kept_after =
      let live = kept.named.tied.slots (group_number old.index span) k (table_group old.index.spans (group_number old.index span) stands.group) (object_in old.index span serial len)
      (entry_in_table old.index (group_number old.index span) stands.group stands.there) stands.filled in
      record {
        sound = subst IsSound (sym table_is) (free_sound (table_of old) serial kept.sound);
        named = record {
          memory = with_object kept.named.memory serial None;
          next_is = length-set kept.named.memory.objects serial None ∙ kept.named.next_is;
          tied = subst (IsTied (with_object kept.named.memory serial None)) (sym table_is)
              (free_tied kept.named.memory (table_of old) serial live.object live.live kept.named.tied);
        };
        counted = subst (AreCounted supply) (sym table_is) (free_counted supply (table_of old) serial kept.counted);
        few = kept.few;
        unused = subst (λ (xs : List SpanEntry). AreUnused (record { spans = xs; groups = new.groups }) old.next_page) (sym out.spans) kept.unused;
        ascending = subst FirstsAscend (sym out.spans) kept.ascending;
        calm = λ n. out.closed n ∙ kept.calm n;
      }

  -- what was in the slot, and that nothing is
  slot_was : slot_of old.index span k ≡ Some (object_in old.index span serial len)
  slot_was = ap (λ (o : Option GroupEntry). slot_in o k) stands.there ∙ get_or_from_slice_get stands.group.slots k (Some (object_in old.index span serial len)) None stands.filled

  slot_now : slot_of new span k ≡ None
  slot_now = ap (λ (xs : List SpanEntry). slot_of (record { spans = xs; groups = new.groups }) span k) out.spans
      ∙ ap (λ (gs : List (Option GroupEntry)). slot_of (record { spans = old.index.spans; groups = gs }) span k) out.groups
      ∙ slot_put old.index.groups (group_number old.index span) k stands.group None stands.there
      (slice_get_within stands.group.slots k (Some (object_in old.index span serial len)) stands.filled)

  freed_now : IsFreed old (with_index old new) span k
  freed_now = record {
    table = λ serial' len' is'. let two : ◌≡◌ {A = Option (ℕ × ℕ)} (Some (serial, len)) (Some (serial', len')) = sym is ∙ is' in
        let both : ◌≡◌ {A = ℕ × ℕ} (serial, len) (serial', len') = cc two in table_is ∙ ap (λ (r : ℕ × ℕ). without_object (table_of old) r.0) both;
    serial = refl;
    gone = record_is new span k (subst (λ (xs : List SpanEntry). span < length xs) (sym out.spans) stands.below) ∙ ap (named_in (first_page new span)) slot_now;
    others = others_stay old.index new span k None kept.ascending stands.below out.spans out.groups
        (subst (IsOf (first_page old.index span)) (sym slot_was) refl) (subst (IsOf (first_page old.index span)) (sym slot_now) tt);
    addresses = λ other j below. ap (λ (xs : List SpanEntry). address_in (span_at xs other) j) out.spans;
  }

-- what a slot with a record leaves once it is emptied
pub freed : (old : Placement) (new : Index) (span k : ℕ) → IsPlacement old → IsIndex old.index.spans old.index.groups → IsSome (record_at old.index span k)
    → IsVacated old.index new span k → IsPlacement (with_index old new) × IsFreed old (with_index old new) span k
freed old new span k kept sound some out = go (record_at old.index span k) refl some
  where
    go : (o : Option (ℕ × ℕ)) → record_at old.index span k ≡ o → IsSome o → IsPlacement (with_index old new) × IsFreed old (with_index old new) span k
    go None is there = absurd (cc there)
    go (Some (serial, len)) is there = (kept_after old new span k serial len kept sound is out, freed_now old new span k serial len kept sound is out)
