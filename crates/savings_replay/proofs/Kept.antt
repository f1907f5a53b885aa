-- What each change of a placement keeps.
use Rattle.std.proofs.Common.{◌≡◌, ℕ, ◌≤◌, List, [], length, refl, arith}
use Rattle.model_memory.specs.Memory.{empty_memory}
use Rattle.model_heap.proofs.TableChanges.{empty_sound}
use Rattle.model_heap.specs.Table.{empty_table}
use Rattle.mesh_spans.specs.Groups.{groups_of}
use Rattle.mesh_spans.specs.Index.{AreUnused, Index, SpanEntry, span_at}
use Rattle.savings_replay.specs.Placement.{FirstsAscend, HasMemory, IsPlacement, Placement, supply}
use Rattle.savings_replay.specs.declared.placement.Placement.TheInside.{Inside}

-- the empty memory has the objects of the empty table
empty_named : HasMemory 0 (empty_table supply)
empty_named = record {
  memory = empty_memory;
  next_is = refl;
  tied = record {
    slots = λ number k group slot there filled. absurd (cc there);
    objects = λ serial object live. absurd (cc live);
  };
}

-- with no span
pub kept_empty : (index : Index) → index.spans ≡ [] → index.groups ≡ [] → IsPlacement (record { index = index; next_page = 1; taken_pages = 0; next_serial = 0 })
unfolding groups_of
kept_empty index spans groups = rw (spans, groups) (record {
  sound = empty_sound supply;
  named = empty_named;
  counted = omega arith;
  few = omega arith;
  unused = λ i below. absurd (omega (arith, below));
  ascending = λ i j less below. absurd (omega (arith, below));
  calm = λ n. refl;
})

-- the placement that has these fields
abbrev pub seen_of : Inside → Placement
seen_of inside = record { index = inside.spans; next_page = inside.next_page; taken_pages = inside.taken_pages; next_serial = inside.next_serial }

-- no span ends above a page where spans are as many as before, begin where they began and are of the same classes
pub unused_same : (old new : Index) (page : ℕ) → length new.spans ≡ length old.spans → ((i : ℕ) → (span_at new.spans i).first ≡ (span_at old.spans i).first)
    → ((i : ℕ) → (span_at new.spans i).class ≡ (span_at old.spans i).class) → AreUnused old page → AreUnused new page
unused_same old new page long firsts classes unused i below = rw (firsts i, classes i) (unused i (omega (arith, below, long)))

-- nor do their first pages change their order
pub ascend_same : (old new : List SpanEntry) → length new ≡ length old → ((i : ℕ) → (span_at new i).first ≡ (span_at old i).first)
    → FirstsAscend old → FirstsAscend new
ascend_same old new long firsts ascend i j less below = rw (firsts i, firsts j) (ascend i j less (omega (arith, below, long)))

-- at most as many pages are taken as there are
pub taken_within : (p : Placement) → IsPlacement p → p.taken_pages ≤ supply
taken_within p kept = let few = kept.few in let most = kept.sound.few_pages in omega (arith, few, most)
