-- The read-only virtual pages are those of the running meshes.
use Rattle.std.proofs.lemmas.Bool.{cases_Bool}
use Rattle.std.proofs.Common.{◌≡◌, ℕ, zero, suc, ◌+◌, ◌<◌, ◌≤◌, Bool, true, false, ◌||◌, nat_eq, List, [], ◌∷◌, Some, None, is_some, length, slice_index, ap, refl, sym, ◌∙◌, arith, ◌⊎◌, inl, inr}
use Rattle.std.specs.List.{flat_map, list_any}
use Rattle.std.specs.FinMap as map_
use Rattle.std.proofs.lemmas.Bool.Decides.{eqb_tells, leb_tells, nat_tests}
use Rattle.std.proofs.lemmas.List.Folds.{list_any-append}
use Rattle.std.proofs.lemmas.Map.Keys.{any_passes_from_place}
use Rattle.mesh_arena.specs.Pages.{Pages}
use Rattle.mesh_class.specs.Classes.{pages_of, slots_of}
use Rattle.model_heap.proofs.ListPlaces.{any_passes, found_passes}
use Rattle.model_heap.specs.Mesh.{is_protected, page_count, pages_where, read_only_of, read_only_pages, virtual_pages}
use Rattle.model_heap.specs.Sound.{IsSound}
use Rattle.model_heap.specs.Table.{Group, Made, Mesh, Progress, Table, Unwinding, group_of}
use Rattle.mesh_pagemap.specs.Entries.{Entries, is_mapped, is_read_only, prot_in, reads_only}
use Rattle.mesh_spans.specs.Groups.{groups_of}
use Rattle.mesh_spans.specs.Index.{Index, IsIndex}
use Rattle.mesh_page_heap.specs.Indexes.{layout_of}
use Rattle.mesh_page_heap.specs.Layout.{IsLaidOut, Layout, Stage, page_total, virtual_page}
use Rattle.mesh_page_heap.specs.MeshLayouts.{stage_at, stage_of, stage_with}
use Rattle.mesh_page_heap.proofs.Groups.{page_is, pages_long}
use Rattle.mesh_page_heap.proofs.MeshList.{from_listed, listed_sound}
use Rattle.mesh_page_heap.proofs.Orderly.{IsFrom, class_of, entry_of, from_sound, has_mesh, idle_there, source_there, total_is}

-- what is in the lists of some meshes is in the list of one
any_flat : (f : Mesh → List ℕ) (test : ℕ → Bool) (ms : List Mesh) → list_any test (flat_map f ms) ≡ list_any (λ m. list_any test (f m)) ms
any_flat f test [] = refl
any_flat f test (x ∷ xs) = list_any-append test (f x) (flat_map f xs) ∙ ap (λ (b : Bool). list_any test (f x) || b) (any_flat f test xs)

-- what passes is one of the list
where_is : (test : ℕ → Bool) (j : ℕ) (vs : List ℕ) (v : ℕ) → list_any (nat_eq v) (pages_where test j vs) ≡ true
    → (i : ℕ) × (i < length vs) × (slice_index vs i ≡ v) × (test (j + i) ≡ true)
where_is test j [] v h = absurd (let two : false ≡ true = h in cc two)
where_is test j (w ∷ vs) v h = elim (cases_Bool (test j)) [
  | inl pass ↦ elim (eqb_tells v w) [
    | inl same ↦ (0, omega arith, sym same.1, ap test (let z : j + 0 ≡ j = omega arith in z) ∙ pass)
    | inr other ↦ let all : list_any (nat_eq v) (w ∷ pages_where test (j + 1) vs) ≡ true = rw pass at h in
        more test j w vs v (where_is test (j + 1) vs v (rw other.0 at all))
  ]
  | inr fail ↦ let later : list_any (nat_eq v) (pages_where test (j + 1) vs) ≡ true = rw fail at h in more test j w vs v (where_is test (j + 1) vs v later)
]
  where
    more : (test : ℕ → Bool) (j w : ℕ) (vs : List ℕ) (v : ℕ) → (i : ℕ) × (i < length vs) × (slice_index vs i ≡ v) × (test (j + 1 + i) ≡ true)
        → (i : ℕ) × (i < length (w ∷ vs)) × (slice_index (w ∷ vs) i ≡ v) × (test (j + i) ≡ true)
    more test j w vs v r = (suc r.0, let b = r.1 in omega (arith, b), r.2, ap test (let e : j + suc r.0 ≡ j + 1 + r.0 = omega arith in e) ∙ r.3)

where_in : (test : ℕ → Bool) (j : ℕ) (vs : List ℕ) (i v : ℕ) → i < length vs → slice_index vs i ≡ v → test (j + i) ≡ true
    → list_any (nat_eq v) (pages_where test j vs) ≡ true
where_in test j [] i v below at pass = absurd (omega (arith, below))
where_in test j (w ∷ vs) zero v below at pass = let here : test j ≡ true = ap test (let z : j ≡ j + 0 = omega arith in z) ∙ pass in
    elim (eqb_tells v w) [ inl same ↦ rw (here, same.0) refl | inr other ↦ absurd (other.1 (sym at)) ]
where_in test j (w ∷ vs) (suc i) v below at pass =
    let rest = where_in test (j + 1) vs i v (omega (arith, below)) at (ap test (let e : j + 1 + i ≡ j + suc i = omega arith in e) ∙ pass) in
    elim (cases_Bool (test j)) [
      | inl a ↦ elim (eqb_tells v w) [ inl same ↦ rw (a, same.0) refl | inr other ↦ rw (a, other.0) rest ]
      | inr b ↦ rw b rest
    ]

-- a page is protected where it is between the bounds of the stage
pub protected_is : (t s d : ℕ) (progress : Progress) (i : ℕ) → i < t → is_protected t s progress i ≡ true
    → ((stage_at t s d progress).locked_from ≤ i) × (i < (stage_at t s d progress).locked_to)
protected_is t s d (Made k) i below is = (grind (arith, nat_tests), grind (arith, nat_tests))
protected_is t s d (Unwinding q u) i below is = (grind (arith, nat_tests), grind (arith, nat_tests))

pub is_protected_in : (t s d : ℕ) (progress : Progress) (i : ℕ) → i < t → (stage_at t s d progress).locked_from ≤ i → i < (stage_at t s d progress).locked_to
    → is_protected t s progress i ≡ true
is_protected_in t s d (Made k) i below low high = grind (arith, nat_tests)
is_protected_in t s d (Unwinding q u) i below low high = grind (arith, nat_tests)

-- a virtual page that is not mapped is not read-only
unmapped_writable : (m : Entries) (v : ℕ) → is_mapped m v ≡ false → is_read_only m v ≡ false
unfolding is_mapped is_read_only
unmapped_writable m v unmapped = elim (map_.get m v) as (λ o. is_some o ≡ false → reads_only (prot_in o) ≡ false) [ None ↦ λ h. refl | Some e ↦ λ h. cc ] unmapped

-- two tests of which each passes where the other does agree
pub same_test : (a b : Bool) → (a ≡ true → b ≡ true) → (b ≡ true → a ≡ true) → a ≡ b
same_test true b x y = sym (x refl)
same_test false true x y = y refl
same_test false false x y = refl

module _ (index : Index) (t : Table) (sound_index : IsIndex index.spans index.groups) (sound : IsSound t) (groups : t.groups ≡ groups_of index)
    (m : Entries) (arena : Pages) (laid : IsLaidOut (layout_of index) (stage_of (layout_of index) t.meshes) m arena) where
  -- the pages of a group of the table, and of the layout
  total_pages : (n : ℕ) (g : Group) → group_of t n ≡ Some g → length (virtual_pages g) ≡ page_total (layout_of index) n
  total_pages n g is = pages_long (pages_of g.class) g.members ∙ sym (total_is index t sound_index sound groups n g is)

  page_there : (n i : ℕ) (g : Group) → group_of t n ≡ Some g → i < page_total (layout_of index) n
      → slice_index (virtual_pages g) i ≡ virtual_page (layout_of index) n i
  page_there n i g is below = let e = entry_of index t sound_index sound groups n g is in rw e.same (page_is index n i e.entry e.there below)

  -- a test of a page of a group is one of the layout's
  protected_as : (n i : ℕ) (g : Group) (progress : Progress) → group_of t n ≡ Some g
      → is_protected (page_total (layout_of index) n) (slots_of ((layout_of index).class n)) progress i ≡ is_protected (page_count g) (slots_of g.class) progress i
  protected_as n i g progress is = rw (total_is index t sound_index sound groups n g is, (class_of index t sound_index sound groups n g is).0) refl

  listed_locked : (v : ℕ) → list_any (nat_eq v) (read_only_pages t) ≡ true → is_read_only m v ≡ true
  listed_locked v listed =
      let l : Layout = layout_of index in
      let test : Mesh → Bool = λ x. list_any (nat_eq v) (read_only_of (group_of t x.source) x) in
      let one = any_passes Mesh test t.meshes (sym (any_flat (λ x. read_only_of (group_of t x.source) x) (nat_eq v) t.meshes) ∙ listed) in
      let mesh : Mesh = one.x in
      let is = listed_sound t t.meshes one.i mesh sound.meshes one.there in
      let g : Group = is.source in
      let at = where_is (is_protected (page_count g) (slots_of g.class) mesh.progress) 0 (virtual_pages g) v (rw is.source_is at one.passes) in
      let i : ℕ = at.0 in
      let below : i < page_total l mesh.source = omega (arith, at.1, total_pages mesh.source g is.source_is) in
      let between = protected_is (page_total l mesh.source) (slots_of (l.class mesh.source)) mesh.destination mesh.progress i below
      (protected_as mesh.source i g mesh.progress is.source_is ∙ ap (is_protected (page_count g) (slots_of g.class) mesh.progress) (omega arith) ∙ at.3) in
      let stage = ap (stage_with l mesh.source) (from_listed t t.meshes one.i mesh one.there sound.meshes sound.one_a_class) in
      (laid.each mesh.source i v (record { within = below; at = sym (page_there mesh.source i g is.source_is below) ∙ at.2 })).locked (rw stage between.0) (rw stage between.1)

  -- where a page of a mesh's source is locked, it is listed
  locked_of_mesh : (v n i : ℕ) (h : IsFrom (layout_of index) t.meshes n) → (stage_of (layout_of index) t.meshes n).locked_from ≤ i
      → i < (stage_of (layout_of index) t.meshes n).locked_to → i < page_total (layout_of index) n → virtual_page (layout_of index) n i ≡ v
      → list_any (nat_eq v) (read_only_pages t) ≡ true
  locked_of_mesh v n i h low high within here =
      let l : Layout = layout_of index in
      let is = from_sound index t sound_index sound groups n h.mesh h.found in
      let at = source_there index t sound_index sound groups n h in
      let stage = ap (stage_with l n) h.found in
      let place = found_passes Mesh (λ x. nat_eq x.source n) t.meshes h.mesh h.found in
      let test = is_protected_in (page_total l n) (slots_of (l.class n)) h.mesh.destination h.mesh.progress i within (rw stage at low) (rw stage at high) in
      any_flat (λ x. read_only_of (group_of t x.source) x) (nat_eq v) t.meshes
      ∙ any_passes_from_place (λ x. list_any (nat_eq v) (read_only_of (group_of t x.source) x)) t.meshes place.0 h.mesh place.1
      (rw is.source_is (where_in (is_protected (page_count is.source) (slots_of is.source.class) h.mesh.progress) 0 (virtual_pages is.source) i v
      (omega (arith, within, total_pages n is.source at)) (page_there n i is.source at within ∙ here)
      (ap (is_protected (page_count is.source) (slots_of is.source.class) h.mesh.progress) (omega arith) ∙ sym (protected_as n i is.source h.mesh.progress at) ∙ test)))

  locked_listed : (v : ℕ) → is_read_only m v ≡ true → list_any (nat_eq v) (read_only_pages t) ≡ true
  locked_listed v locked = elim (cases_Bool (is_mapped m v)) [
    | inr unmapped ↦ absurd (let two : true ≡ false = sym locked ∙ unmapped_writable m v unmapped in cc two)
    | inl mapped ↦
        let l : Layout = layout_of index in
        let page = laid.only v mapped in
        let n : ℕ = page.n in
        let i : ℕ = page.i in
        let no_ : (i < (stage_of l t.meshes n).locked_from) ⊎ ((stage_of l t.meshes n).locked_to ≤ i) → ⊥
        = λ h. (let two : true ≡ false = sym locked ∙ (laid.each n i v page.is).writable h in absurd (cc two)) in
        let low : (stage_of l t.meshes n).locked_from ≤ i = elim (leb_tells (stage_of l t.meshes n).locked_from i) [ inl x ↦ x.1 | inr y ↦ absurd (no_ (inl y.1)) ] in
        let high : i < (stage_of l t.meshes n).locked_to = elim (leb_tells (stage_of l t.meshes n).locked_to i) [ inr y ↦ y.1 | inl x ↦ absurd (no_ (inr x.1)) ] in
        let has = has_mesh index t sound_index sound groups n (λ own.
        let none : (stage_of l t.meshes n).locked_to ≡ 0 = ap (λ (c : Stage). c.locked_to) (idle_there index t sound_index sound groups n own) in omega (arith, none, high)) in
        locked_of_mesh v n i has low high page.is.within page.is.at
  ]

  -- the read-only virtual pages are those of the running meshes
  pub read_only_is : (v : ℕ) → is_read_only m v ≡ list_any (nat_eq v) (read_only_pages t)
  read_only_is v = same_test (is_read_only m v) (list_any (nat_eq v) (read_only_pages t)) (locked_listed v) (listed_locked v)
