-- The places of the bytes of virtual addresses, and how a store changes them.
use Rattle.std.specs.Prelude.{◌≡◌, ◌≢◌, ℕ, ◌+◌, ◌/◌, ◌%◌, ◌<◌, ◌≤◌, false, List, IsTrue, length, slice_index}
use Rattle.mesh_arena.specs.Pages.{Pages, is_taken, IsTaken, byte_at, free_count}
use Rattle.mesh_pagemap.specs.Entries.{Entries, IsMapped, page_of, is_read_only}

-- the byte at an address: the byte at the address's offset in the physical page to which its virtual page is mapped
unfoldable pub byte_of : Pages → Entries → ℕ → ℕ
byte_of a m x = byte_at a (page_of m (x / 4096)) (x % 4096)

-- the address's virtual page is one of 1 to 65,535, and is mapped to a physical page that is taken
pub record IsBacked (a : Pages) (m : Entries) (x : ℕ) : Type 0 where
  pub first : 1 ≤ x / 4096
  pub last : x / 4096 ≤ 65535
  pub mapped : IsMapped m (x / 4096)
  pub taken : IsTaken a (page_of m (x / 4096))

-- each address of the range is backed, and different virtual pages of the range are mapped to different physical pages
pub record AreBacked (a : Pages) (m : Entries) (addr len : ℕ) : Type 0 where
  pub each : (x : ℕ) → addr ≤ x → x < addr + len → IsBacked a m x
  pub apart : (x y : ℕ) → addr ≤ x → x < addr + len → addr ≤ y → y < addr + len → x / 4096 ≢ y / 4096 → page_of m (x / 4096) ≢ page_of m (y / 4096)

-- some address of the range is in a read-only virtual page
pub record IsBlocked (m : Entries) (addr len : ℕ) : Type 0 where
  pub address : ℕ
  pub from : addr ≤ address
  pub below : address < addr + len
  pub read_only : IsTrue (is_read_only m (address / 4096))

-- no address of the range is in a read-only virtual page
pub record IsOpen (m : Entries) (addr len : ℕ) : Type 0 where
  pub each : (x : ℕ) → addr ≤ x → x < addr + len → is_read_only m (x / 4096) ≡ false

-- no address of the range has its byte at this offset of this physical page
abbrev pub IsOutside : Entries → ℕ → ℕ → ℕ → ℕ → Type 0
IsOutside m addr len p o = (x : ℕ) → addr ≤ x → x < addr + len → page_of m (x / 4096) ≡ p → x % 4096 ≡ o → ⊥

-- the addresses from `addr` on hold the bytes, and nothing else changed
pub record Saves (old new : Pages) (m : Entries) (addr : ℕ) (bytes : List ℕ) : Type 0 where
  pub inside : (k : ℕ) → k < length bytes → byte_of new m (addr + k) ≡ slice_index bytes k
  pub outside : (p o : ℕ) → IsOutside m addr (length bytes) p o → byte_at new p o ≡ byte_at old p o
  pub same_taken : (p : ℕ) → is_taken new p ≡ is_taken old p
  pub same_free : free_count new ≡ free_count old
  pub same_length : length new ≡ length old
