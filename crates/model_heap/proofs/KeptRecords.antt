-- The mesher leaves the record of each serial.
use Rattle.std.proofs.Common.{◌≡◌, ℕ, ◌+◌, Bool, true, false, cond, not, List, [], ◌∷◌, filter, find, count_by, flat_map, is_some, nat_lt, Option, Some, None, Ok, ap, refl, sym, ◌∙◌, arith, inl, inr}
use Rattle.std.proofs.lemmas.Bool.Decides.{leb_tells}
use Rattle.std.proofs.lemmas.List.Sums.{sum_by-cons}
use Rattle.model_heap.proofs.GroupLists.{first_or_later, without_none}
use Rattle.model_heap.proofs.SameRecords.{same_records}
use Rattle.model_heap.proofs.TableChanges.{step_sound, whole_sound, sweep_went}
use Rattle.model_heap.proofs.TiedTables.{begun_groups, step_tied, whole_tied}
use Rattle.model_memory.specs.Memory.{Memory}
use Rattle.model_heap.specs.Mesh.{Stepped, begin, cancel, mesh_whole, step}
use Rattle.model_heap.specs.Places.{Record, record_with, records_from, records_in, records_of}
use Rattle.model_heap.specs.RecordLaws.{KeepsRecords}
use Rattle.model_heap.specs.Sound.{AscendBetween, IsSound, IsTied}
use Rattle.model_heap.specs.Table.{Counted, Group, Mesh, Slot, Table, has_number, object_count, sweep}
use Rattle.model_heap.specs.TableLaws.{IsBusyTest}

-- a table with the same groups has the same records
same_groups : (t u : Table) → u.groups ≡ t.groups → KeepsRecords t u
same_groups t u same serial = ap (λ (gs : List Group). record_with serial (flat_map records_in gs)) same

-- a mesh begun leaves the records
pub begin_records : (busy : Table → ℕ → Bool) (t : Table) (source destination : ℕ) (begun : Counted) → begin busy t source destination ≡ Ok begun
    → KeepsRecords t begun.table
begin_records busy t source destination begun h =
    same_groups t begun.table (begun_groups busy t source destination begun h)

-- a cancel leaves them
pub cancel_records : (t : Table) (which : Option Mesh) (x : Counted) → cancel t which ≡ Ok x → KeepsRecords t x.table
cancel_records t which x h = grind arith

-- slots without objects have no records
no_records : (class from : ℕ) (slots : List (Option Slot)) → count_by is_some slots ≡ 0 → records_from class from slots ≡ []
no_records class from [] none = refl
no_records class from (None ∷ slots) none = grind (arith, no_records class (from + 1) slots)
no_records class from (Some x ∷ slots) none =
    let all : count_by is_some (Some x ∷ slots) ≡ 1 + count_by is_some slots = sum_by-cons (λ o. cond (is_some o) 1 0) (Some x) slots in
    absurd (omega (arith, all, none))

-- a group without records taken out leaves those of all groups
records_without : (n low high : ℕ) (gs : List Group) (g : Group) → AscendBetween low gs high → find (has_number n) gs ≡ Some g → records_in g ≡ []
    → flat_map records_in (filter (λ x. not (has_number n x)) gs) ≡ flat_map records_in gs
records_without n low high [] g ascend h none = absurd (cc h)
records_without n low high (x ∷ xs) g ascend h none =
    grind (arith, first_or_later n low high x xs g ascend h, without_none n xs, records_without n (x.number + 1) high xs g ascend.1)

-- an empty group has no object
none_counted : (n : ℕ) → nat_lt 0 n ≡ false → n ≡ 0
none_counted n h = elim (leb_tells 1 n) [ inl some ↦ absurd (let clash : true ≡ false = rw some.0 at h in cc clash) | inr none ↦ omega (arith, none.1) ]

-- a sweep leaves them
pub sweep_records : (t : Table) (n : ℕ) (swept : Counted) → IsSound t → sweep t n ≡ Ok swept → KeepsRecords t swept.table
sweep_records t n swept sound h serial =
    let went = sweep_went t n swept h in
    ap (λ (x : Counted). record_with serial (records_of x.table)) (sym went.is)
    ∙ ap (λ (rs : List Record). record_with serial rs) (records_without n 0 t.next_span t.groups went.group sound.numbers went.found
    (no_records went.group.class 0 went.group.slots (none_counted (object_count went.group) went.empty)))

-- a step leaves them
pub step_records : (m : Memory) (t : Table) (test : Mesh → Bool) (x : Stepped) → IsSound t → IsTied m t → step t (find test t.meshes) ≡ Ok x
    → KeepsRecords t x.table
step_records m t test x sound tied h = same_records m t x.table sound (step_sound t test x sound h) tied (step_tied m t test x sound tied h)

-- a whole mesh leaves them
pub whole_records : (m : Memory) (busy : Table → ℕ → Bool) (t : Table) (source destination : ℕ) (whole : Counted) → IsBusyTest busy t → IsSound t
    → IsTied m t → mesh_whole busy t source destination ≡ Ok whole → KeepsRecords t whole.table
whole_records m busy t source destination whole test sound tied h =
    same_records m t whole.table sound (whole_sound busy t source destination whole test sound h) tied
    (whole_tied m busy t source destination whole tied h)
