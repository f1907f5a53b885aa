-- The entries of a page map, and how its calls change them.
use Rattle.std.specs.Prelude.{◌≡◌, ◌≢◌, ◌≤◌, ℕ, Bool, true, false, Option, Some, None, is_some, IsTrue, refl}
use Rattle.std.specs.Ordering.{nat_cmp}
use Rattle.std.specs.Coded.{Coded, coded×, coded_ℕ, coded_bool, code_by}
use Rattle.std.specs.FinMap as map
use Rattle.mesh_pagemap.specs.declared.prot.Prot.{Prot}
use Rattle.mesh_pagemap.specs.declared.prot.Prot.TheVariants.{ReadOnly, ReadWrite}

-- whether the protection blocks stores
abbrev pub reads_only : Prot → Bool
reads_only ReadOnly = true
reads_only ReadWrite = false

-- the protection for which `reads_only` is this value
abbrev pub prot_of : Bool → Prot
prot_of true = ReadOnly
prot_of false = ReadWrite

pub prot_of-reads_only : (prot : Prot) → prot_of (reads_only prot) ≡ prot
prot_of-reads_only ReadOnly = refl
prot_of-reads_only ReadWrite = refl

-- an entry, a physical page and a protection, is stored as the page and whether the protection blocks stores
abbrev pub entry_code : Coded (ℕ × Prot)
entry_code = coded× coded_ℕ (code_by Bool coded_bool reads_only prot_of prot_of-reads_only)

-- the entries by their virtual pages
abbrev pub Entries : Type 0
Entries = map.FinMap nat_cmp (ℕ × Prot)

-- an entry's physical page, or 0 if there is no entry
abbrev pub page_in : Option (ℕ × Prot) → ℕ
page_in None = 0
page_in (Some entry) = entry.0

-- an entry's protection, or `ReadWrite` if there is no entry
abbrev pub prot_in : Option (ℕ × Prot) → Prot
prot_in None = ReadWrite
prot_in (Some entry) = entry.1

-- whether the virtual page has an entry
unfoldable pub is_mapped : Entries → ℕ → Bool
is_mapped m v = is_some (map.get m v)

-- the virtual page has an entry
abbrev pub IsMapped : Entries → ℕ → Type 0
IsMapped m v = IsTrue (is_mapped m v)

-- only the virtual pages 1 to 65,535 can have an entry
abbrev pub AreInRange : Entries → Type 0
AreInRange m = (v : ℕ) → IsMapped m v → (1 ≤ v) × (v ≤ 65535)

-- the number of the physical page to which a virtual page is mapped, or 0 if the virtual page is not mapped
unfoldable pub page_of : Entries → ℕ → ℕ
page_of m v = page_in (map.get m v)

-- whether the virtual page is mapped and read-only
unfoldable pub is_read_only : Entries → ℕ → Bool
is_read_only m v = reads_only (prot_in (map.get m v))

-- the virtual page had no entry and now has this one, and no other entry changed
pub record Maps (old new : Entries) (vpage to : ℕ) (prot : Prot) : Type 0 where
  pub was_unmapped : is_mapped old vpage ≡ false
  pub mapped : IsMapped new vpage
  pub page : page_of new vpage ≡ to
  pub read_only : is_read_only new vpage ≡ reads_only prot
  pub other_mapped : (v : ℕ) → v ≢ vpage → is_mapped new v ≡ is_mapped old v
  pub other_pages : (v : ℕ) → v ≢ vpage → page_of new v ≡ page_of old v
  pub other_read_only : (v : ℕ) → v ≢ vpage → is_read_only new v ≡ is_read_only old v

-- the virtual page had an entry and now has none, and no other entry changed
pub record Unmaps (old new : Entries) (vpage : ℕ) : Type 0 where
  pub was_mapped : IsMapped old vpage
  pub unmapped : is_mapped new vpage ≡ false
  pub no_page : page_of new vpage ≡ 0
  pub not_read_only : is_read_only new vpage ≡ false
  pub other_mapped : (v : ℕ) → v ≢ vpage → is_mapped new v ≡ is_mapped old v
  pub other_pages : (v : ℕ) → v ≢ vpage → page_of new v ≡ page_of old v
  pub other_read_only : (v : ℕ) → v ≢ vpage → is_read_only new v ≡ is_read_only old v

-- the mapped virtual page is now mapped to this physical page, and nothing else changed
pub record Remaps (old new : Entries) (vpage to : ℕ) : Type 0 where
  pub was_mapped : IsMapped old vpage
  pub mapped : IsMapped new vpage
  pub page : page_of new vpage ≡ to
  pub same_read_only : (v : ℕ) → is_read_only new v ≡ is_read_only old v
  pub other_mapped : (v : ℕ) → v ≢ vpage → is_mapped new v ≡ is_mapped old v
  pub other_pages : (v : ℕ) → v ≢ vpage → page_of new v ≡ page_of old v

-- the mapped virtual page now has this protection, and nothing else changed
pub record Protects (old new : Entries) (vpage : ℕ) (prot : Prot) : Type 0 where
  pub was_mapped : IsMapped old vpage
  pub mapped : IsMapped new vpage
  pub read_only : is_read_only new vpage ≡ reads_only prot
  pub same_pages : (v : ℕ) → page_of new v ≡ page_of old v
  pub other_mapped : (v : ℕ) → v ≢ vpage → is_mapped new v ≡ is_mapped old v
  pub other_read_only : (v : ℕ) → v ≢ vpage → is_read_only new v ≡ is_read_only old v
