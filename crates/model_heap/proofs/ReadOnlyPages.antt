-- Which virtual pages are read-only, and which stores are blocked.
use Rattle.std.proofs.Common.{◌≡◌, ℕ, zero, suc, ◌+◌, ◌<◌, ◌≤◌, ◌/◌, Bool, true, nat_eq, List, [], ◌∷◌, ◌++◌, slice_get, ap, refl, sym, ◌∙◌, arith, ◌⊎◌, inl, inr, Option, Some, None}
use Rattle.std.specs.List.{flat_map, list_any}
use Rattle.std.proofs.lemmas.Bool.Decides.{eqb_tells}
use Rattle.model_words.proofs.Tests.{tells}
use Rattle.model_heap.proofs.AddressPlaces.{any_gives, gives_any}
use Rattle.model_words.specs.Classes.{slots_of}
use Rattle.model_heap.specs.ProtectionLaws.{IsReadOnlyBy}
use Rattle.model_heap.specs.Mesh.{is_blocked, is_protected, page_count, pages_where, read_only_of, read_only_pages, virtual_pages}
use Rattle.model_heap.specs.Table.{Group, Mesh, Table, group_of}

-- some element of two lists passes where one of the first or of the second does
any_append : (test : ℕ → Bool) (xs ys : List ℕ) → list_any test (xs ++ ys) ≡ true → (list_any test xs ≡ true) ⊎ (list_any test ys ≡ true)
any_append test [] ys h = inr h
any_append test (x ∷ xs) ys h = grind (arith, any_append test xs ys)

-- some element of a list passes where one of its beginning does
any_first : (test : ℕ → Bool) (xs ys : List ℕ) → list_any test xs ≡ true → list_any test (xs ++ ys) ≡ true
any_first test [] ys h = cc
any_first test (x ∷ xs) ys h = grind (arith, any_first test xs ys)

-- or of its end
any_last : (test : ℕ → Bool) (xs ys : List ℕ) → list_any test ys ≡ true → list_any test (xs ++ ys) ≡ true
any_last test [] ys h = h
any_last test (x ∷ xs) ys h = grind (arith, any_last test xs ys h)

-- a page told by a test of its number stands in the list, at a number that passes
told_page : (test : ℕ → Bool) (v k : ℕ) (vs : List ℕ) → list_any (nat_eq v) (pages_where test k vs) ≡ true
    → (j : ℕ) × (slice_get vs j ≡ Some v) × (test (k + j) ≡ true)
told_page test v k [] h = cc
told_page test v k (w ∷ vs) h = elim (tells (test k)) [
  | inl pass ↦ elim (eqb_tells v w) [
    | inl same ↦ (zero, ap Some (sym same.1), ap test (omega arith) ∙ pass)
    | inr other ↦ let later : list_any (nat_eq v) (pages_where test (k + 1) vs) ≡ true = rw (pass, other.0) at h in
        let rest = told_page test v (k + 1) vs later in (suc rest.0, rest.1, ap test (omega arith) ∙ rest.2)
  ]
  | inr fail ↦ let later : list_any (nat_eq v) (pages_where test (k + 1) vs) ≡ true = rw fail at h in
      let rest = told_page test v (k + 1) vs later in (suc rest.0, rest.1, ap test (omega arith) ∙ rest.2)
]

-- a page that stands at a number that passes is told
page_told : (test : ℕ → Bool) (v k j : ℕ) (vs : List ℕ) → slice_get vs j ≡ Some v → test (k + j) ≡ true
    → list_any (nat_eq v) (pages_where test k vs) ≡ true
page_told test v k j [] at pass = cc
page_told test v k zero (w ∷ vs) at pass = grind arith
page_told test v k (suc j) (w ∷ vs) at pass = grind (arith, page_told test v (k + 1) j vs at)

-- a page that is read-only by one mesh from this source
by_source : (t : Table) (v i : ℕ) (mesh : Mesh) (o : Option Group) → slice_get t.meshes i ≡ Some mesh → group_of t mesh.source ≡ o
    → list_any (nat_eq v) (read_only_of o mesh) ≡ true → IsReadOnlyBy t v
by_source t v i mesh None running is h = cc
by_source t v i mesh (Some a) running is h = grind (arith, told_page (is_protected (page_count a) (slots_of a.class) mesh.progress) v 0 (virtual_pages a) h)

-- a page of all is of one of the meshes
of_one : (t : Table) (v : ℕ) (ms : List Mesh) → list_any (nat_eq v) (flat_map (λ mesh. read_only_of (group_of t mesh.source) mesh) ms) ≡ true
    → (i : ℕ) × (mesh : Mesh) × (slice_get ms i ≡ Some mesh) × (list_any (nat_eq v) (read_only_of (group_of t mesh.source) mesh) ≡ true)
of_one t v [] h = cc
of_one t v (m ∷ ms) h =
    elim (any_append (nat_eq v) (read_only_of (group_of t m.source) m) (flat_map (λ mesh. read_only_of (group_of t mesh.source) mesh) ms) h) [
      | inl here ↦ (zero, m, refl, here)
      | inr later ↦ let rest = of_one t v ms later in (suc rest.0, rest.1, rest.2, rest.3)
    ]

-- a page of one of the meshes is of all
of_all : (t : Table) (v i : ℕ) (mesh : Mesh) (ms : List Mesh) → slice_get ms i ≡ Some mesh
    → list_any (nat_eq v) (read_only_of (group_of t mesh.source) mesh) ≡ true
    → list_any (nat_eq v) (flat_map (λ mesh. read_only_of (group_of t mesh.source) mesh) ms) ≡ true
of_all t v i mesh [] at h = cc
of_all t v zero mesh (m ∷ ms) at h = grind (arith, any_first (nat_eq v) (read_only_of (group_of t m.source) m))
of_all t v (suc i) mesh (m ∷ ms) at h = grind (arith, any_last (nat_eq v) (read_only_of (group_of t m.source) m), of_all t v i)

-- a read-only page is one by the formula
pub read_only_is : (t : Table) (v : ℕ) → list_any (nat_eq v) (read_only_pages t) ≡ true → IsReadOnlyBy t v
read_only_is t v h = let one = of_one t v t.meshes h in by_source t v one.0 one.1 (group_of t one.1.source) one.2 refl one.3

-- a page that is one by the formula is read-only
pub is_read_only : (t : Table) (v : ℕ) → IsReadOnlyBy t v → list_any (nat_eq v) (read_only_pages t) ≡ true
is_read_only t v by = grind (arith, of_all t v by.i by.mesh t.meshes by.running, page_told)

-- a blocked store has an address in a read-only page
pub blocked_by : (t : Table) (address len : ℕ) → is_blocked t address len ≡ true
    → (x : ℕ) × (address ≤ x) × (x < address + len) × IsReadOnlyBy t (x / 4096)
blocked_by t address len h = grind (arith, any_gives, read_only_is t)

-- a store with an address in a read-only page is blocked
pub by_blocked : (t : Table) (address len x : ℕ) → address ≤ x → x < address + len → IsReadOnlyBy t (x / 4096) → is_blocked t address len ≡ true
by_blocked t address len x low high by =
    gives_any (λ y. list_any (nat_eq (y / 4096)) (read_only_pages t)) address len x low high (is_read_only t (x / 4096) by)
