-- Both heaps of the code, and how the code's calls change them.
use Rattle.std.specs.Prelude.{◌≡◌, ◌≢◌, ℕ, ◌+◌, ◌-◌, ◌^◌, ◌<◌, ◌≤◌, ◌⊎◌, ◌&&◌, Bool, Ok, is_ok, Some}
use Rattle.model_heap.specs.Table.{place_new}
use Rattle.savings_replay.specs.Placement.{table_of}
use Rattle.mesh_spans.specs.Index.{record_at}
use Rattle.savings_replay.specs.Followed.{without_serial}
use Rattle.savings_replay.specs.Meshing.{Heaps}
use Rattle.savings_replay.specs.declared.heaps.TwoHeaps.{TwoHeaps}
use Rattle.savings_replay.specs.declared.objects.Places.{Places}

-- both heaps of the code, as heaps of the definitions
abbrev pub heaps_of : TwoHeaps → Heaps
heaps_of h = record {
  without = table_of h.without;
  meshing = record { table = table_of h.mesher.placement; counts = h.mesher.counts; words = h.mesher.words; members = h.mesher.members };
}

-- the object with this serial and this length is at its places in both heaps
pub record IsAt (h : TwoHeaps) (places : Places) (serial len : ℕ) : Type 0 where
  pub without : record_at h.without.index places.without.0 places.without.1 ≡ Some (serial, len)
  pub with : record_at h.mesher.placement.index places.with.0 places.with.1 ≡ Some (serial, len)

-- no object changed its place, and none was made
pub record AreKept (old new : TwoHeaps) : Type 0 where
  pub without_serial : new.without.next_serial ≡ old.without.next_serial
  pub with_serial : new.mesher.placement.next_serial ≡ old.mesher.placement.next_serial
  pub objects : (places : Places) (serial len : ℕ) → IsAt old places serial len → IsAt new places serial len

-- no object changed its place, except perhaps the one with the serial `freed`, and none was made
pub record AreKeptBut (old new : TwoHeaps) (freed : ℕ) : Type 0 where
  pub without_serial : new.without.next_serial ≡ old.without.next_serial
  pub with_serial : new.mesher.placement.next_serial ≡ old.mesher.placement.next_serial
  pub objects : (places : Places) (serial len : ℕ) → serial ≢ freed → IsAt old places serial len → IsAt new places serial len

-- both heaps have a serial left
pub record HaveSerial (h : TwoHeaps) : Type 0 where
  pub without : h.without.next_serial < 2 ^ 32 - 1
  pub with : h.mesher.placement.next_serial < 2 ^ 32 - 1

-- one of the heaps has no serial left
abbrev pub HaveNoSerial : TwoHeaps → Type 0
HaveNoSerial h = (2 ^ 32 - 1 ≤ h.without.next_serial) ⊎ (2 ^ 32 - 1 ≤ h.mesher.placement.next_serial)

-- whether both heaps have room for an object
abbrev pub has_room : TwoHeaps → ℕ → ℕ → ℕ → Bool
has_room h len word serial =
    is_ok (place_new (table_of h.without) len word serial) && is_ok (place_new (table_of h.mesher.placement) len word serial)

-- an object of this length was made in both heaps, with one word, where `place_new` places it
pub record IsMadeIn (old new : TwoHeaps) (len word : ℕ) (places : Places) : Type 0 where
  pub without_address : ℕ
  pub without_placed : place_new (table_of old.without) len word old.without.next_serial
      ≡ Ok (record { address = without_address; table = table_of new.without })
  pub with_address : ℕ
  pub with_placed : place_new (table_of old.mesher.placement) len word old.mesher.placement.next_serial
      ≡ Ok (record { address = with_address; table = table_of new.mesher.placement })
  pub counts : new.mesher.counts ≡ old.mesher.counts
  pub words : new.mesher.words ≡ old.mesher.words
  pub members : new.mesher.members ≡ old.mesher.members
  pub without_serial : new.without.next_serial ≡ old.without.next_serial + 1
  pub with_serial : new.mesher.placement.next_serial ≡ old.mesher.placement.next_serial + 1
  pub without_recorded : record_at new.without.index places.without.0 places.without.1 ≡ Some (old.without.next_serial, len)
  pub with_recorded : record_at new.mesher.placement.index places.with.0 places.with.1 ≡ Some (old.mesher.placement.next_serial, len)
  pub objects : (other : Places) (serial size : ℕ) → IsAt old other serial size → IsAt new other serial size

-- the object with this serial was freed in both heaps, and no other object changed its place
pub record IsFreedFrom (old new : TwoHeaps) (serial : ℕ) : Type 0 where
  pub heaps : heaps_of new ≡ without_serial (heaps_of old) serial
  pub kept : AreKeptBut old new serial
