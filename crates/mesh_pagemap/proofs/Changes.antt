-- What an entry that is put in or taken out changes, by virtual page.
use Rattle.std.proofs.Common.{◌≡◌, ◌≢◌, ℕ, Bool, false, cond, Option, Some, None, refl, sym, ap, ◌∙◌, ⊎_elim}
use Rattle.std.specs.Prelude.{is_some}
use Rattle.std.specs.Ordering.{nat_cmp}
use Rattle.std.specs.Cmp.{nat_cmp_total}
use Rattle.std.specs.FinMap.{get, insert, remove, empty, get-insert, get-remove, get-empty}
use Rattle.std.proofs.lemmas.Bool.{cases_eq}
use Rattle.mesh_pagemap.specs.declared.prot.Prot.{Prot}
use Rattle.mesh_pagemap.specs.Entries.{Entries, is_mapped, IsMapped, page_of, is_read_only, reads_only, page_in, prot_in, Maps, Unmaps, Remaps, Protects}
use Rattle.mesh_pagemap.proofs.Lookups.{IsTable-set, get_filled, mapped_within, mapping-set_none, mapping-set_some, place_filled, tied_same, tied_other}

-- whether an entry lets no store through
abbrev read_only_in : Option (ℕ × Prot) → Bool
read_only_in o = reads_only (prot_in o)

get-insert_same : (m : Entries) (v : ℕ) (entry : ℕ × Prot) → get (insert m v entry) v ≡ Some entry
get-insert_same m v entry = get-insert nat_cmp_total m v entry v ∙ ap (λ b. cond b (Some entry) (get m v)) (tied_same v)

get-insert_other : (m : Entries) (v q : ℕ) (entry : ℕ × Prot) → q ≢ v → get (insert m v entry) q ≡ get m q
get-insert_other m v q entry ne = get-insert nat_cmp_total m v entry q ∙ ap (λ b. cond b (Some entry) (get m q)) (tied_other q v ne)

get-remove_same : (m : Entries) (v : ℕ) → get (remove m v) v ≡ None
get-remove_same m v = get-remove nat_cmp_total m v v ∙ ap (λ b. cond b None (get m v)) (tied_same v)

get-remove_other : (m : Entries) (v q : ℕ) → q ≢ v → get (remove m v) q ≡ get m q
get-remove_other m v q ne = get-remove nat_cmp_total m v q ∙ ap (λ b. cond b None (get m q)) (tied_other q v ne)

pub is_mapped-empty : (v : ℕ) → is_mapped empty v ≡ false
unfolding is_mapped
is_mapped-empty v = ap is_some (get-empty nat_cmp v)

pub is_some-get : (m : Entries) (v : ℕ) → is_some (get m v) ≡ is_mapped m v
unfolding is_mapped
is_some-get m v = refl

-- what a look-up that gave an entry says
pub page_of-get : (m : Entries) (v : ℕ) (entry : ℕ × Prot) → get m v ≡ Some entry → entry.0 ≡ page_of m v
unfolding page_of
page_of-get m v entry e = sym (ap page_in e)

pub is_read_only-get : (m : Entries) (v : ℕ) (entry : ℕ × Prot) → get m v ≡ Some entry → reads_only entry.1 ≡ is_read_only m v
unfolding is_read_only
is_read_only-get m v entry e = sym (ap read_only_in e)

-- a virtual page that was not mapped, and is
pub maps : (m : Entries) (v page : ℕ) (prot : Prot) → is_mapped m v ≡ false → Maps m (insert m v (page, prot)) v page prot
unfolding is_mapped page_of is_read_only
maps m v page prot free = record {
  was_unmapped = free;
  mapped = ap is_some (get-insert_same m v (page, prot));
  page = ap page_in (get-insert_same m v (page, prot));
  read_only = ap read_only_in (get-insert_same m v (page, prot));
  other_mapped = λ q ne. ap is_some (get-insert_other m v q (page, prot) ne);
  other_pages = λ q ne. ap page_in (get-insert_other m v q (page, prot) ne);
  other_read_only = λ q ne. ap read_only_in (get-insert_other m v q (page, prot) ne);
}

-- a virtual page that was mapped, and is not
pub unmaps : (old new : Entries) (v : ℕ) → IsMapped old v → new ≡ remove old v → Unmaps old new v
unfolding is_mapped page_of is_read_only
unmaps old new v mapped entry = rw entry (record {
  was_mapped = mapped;
  unmapped = ap is_some (get-remove_same old v);
  no_page = ap page_in (get-remove_same old v);
  not_read_only = ap read_only_in (get-remove_same old v);
  other_mapped = λ q ne. ap is_some (get-remove_other old v q ne);
  other_pages = λ q ne. ap page_in (get-remove_other old v q ne);
  other_read_only = λ q ne. ap read_only_in (get-remove_other old v q ne);
})

-- a mapped virtual page that leads to another physical page
pub remaps : (old new : Entries) (v page : ℕ) → IsMapped old v → new ≡ insert old v (page, prot_in (get old v)) → Remaps old new v page
unfolding is_mapped page_of is_read_only
remaps old new v page mapped entry =
    let put : ℕ × Prot = (page, prot_in (get old v)) in
    rw entry (record {
      was_mapped = mapped;
      mapped = ap is_some (get-insert_same old v put);
      page = ap page_in (get-insert_same old v put);
      same_read_only = λ q. ⊎_elim (λ (e : q ≡ v). rw e (ap read_only_in (get-insert_same old v put))) (λ (ne : q ≢ v). ap read_only_in (get-insert_other old v q put ne)) (cases_eq q v);
      other_mapped = λ q ne. ap is_some (get-insert_other old v q put ne);
      other_pages = λ q ne. ap page_in (get-insert_other old v q put ne);
    })

-- a mapped virtual page with another protection
pub protects : (old new : Entries) (v : ℕ) (prot : Prot) → IsMapped old v → new ≡ insert old v (page_in (get old v), prot) → Protects old new v prot
unfolding is_mapped page_of is_read_only
protects old new v prot mapped entry =
    rw entry (record {
      was_mapped = mapped;
      mapped = ap is_some (get-insert_same old v _);
      read_only = ap read_only_in (get-insert_same old v _);
      same_pages = λ q. ⊎_elim (λ (e : q ≡ v). rw e (ap page_in (get-insert_same old v (page_in (get old v), prot)))) (λ (ne : q ≢ v). ap page_in (get-insert_other old v q _ ne)) (cases_eq q v);
      other_mapped = λ q ne. ap is_some (get-insert_other old v q _ ne);
      other_read_only = λ q ne. ap read_only_in (get-insert_other old v q _ ne);
    })

-- the entry of a virtual page is changed or taken out
pub ruleset entry_changes = (mapped_within, place_filled, get_filled, mapping-set_some, mapping-set_none, IsTable-set)
