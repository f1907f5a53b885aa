-- The groups of a sound table, and their virtual pages.
use Rattle.std.proofs.Common.{◌≡◌, ℕ, ◌≤◌, Bool, not, List, filter, find, arith, Some}
use Rattle.model_heap.proofs.GroupLists.{ascend_filtered, find_sound, find_without_other, pages_without}
use Rattle.model_heap.specs.Mesh.{virtual_pages}
use Rattle.model_heap.specs.Sound.{IsSound, IsSoundGroup, times_in}
use Rattle.model_heap.specs.Table.{Group, Table, group_of, has_number}

-- a group found is sound
pub found_sound : (t : Table) (test : Group → Bool) (g : Group) → IsSound t → find test t.groups ≡ Some g → IsSoundGroup g
found_sound t test g sound found = find_sound test t.groups g found sound.groups

-- a virtual page is in a group once at most
pub page_once : (t : Table) (v n : ℕ) (g : Group) → IsSound t → group_of t n ≡ Some g → times_in v (virtual_pages g) ≤ 1
page_once t v n g sound is = grind (arith, pages_without v n 0 t.next_span t.groups g sound.numbers is)

-- a virtual page is of one group
pub page_of_one : (t : Table) (v m n : ℕ) (g h : Group) → IsSound t → group_of t m ≡ Some g → group_of t n ≡ Some h → 1 ≤ times_in v (virtual_pages g)
    → 1 ≤ times_in v (virtual_pages h) → m ≡ n
page_of_one t v m n g h sound is is' there there' =
    let rest : List Group = filter (λ x. not (has_number m x)) t.groups in
    let ascend = ascend_filtered 0 t.next_span (λ x. not (has_number m x)) t.groups sound.numbers in
    grind (
      arith,
      pages_without v m 0 t.next_span t.groups g sound.numbers is,
      find_without_other m n t.groups,
      pages_without v n 0 t.next_span rest h ascend,
      sound.pages_once v,
    )
