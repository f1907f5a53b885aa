-- Whether a mesh of two groups may begin, told by the index.
use Rattle.std.proofs.Common.{◌≡◌, ℕ, ◌<◌, Bool, length, IsSome, ap, subst, sym, ◌∙◌, arith}
use Rattle.mesh_page_heap.proofs.Beginnings.{Begins, Closes, page_heap_begins}
use Rattle.mesh_page_heap.proofs.Groups.{IsEntry, entry_in_table, table_entry}
use Rattle.mesh_page_heap.proofs.MadeSteps.{pages_counted}
use Rattle.mesh_page_heap.specs.Indexes.{layout_of}
use Rattle.mesh_page_heap.specs.PageHeapInvariant.{IsPageHeap}
use Rattle.model_heap.proofs.FewMeshes.{few_meshes}
use Rattle.model_heap.proofs.MayBegin.{may_begin_gives}
use Rattle.model_heap.proofs.GroupPages.{found_sound}
use Rattle.model_heap.proofs.MeshLists.{any_tells, class_tells}
use Rattle.model_heap.specs.Mesh.{step_count}
use Rattle.model_heap.specs.Table.{Group, Made, Table}
use Rattle.model_words.specs.Classes.{row_of}
use Rattle.model_heap.specs.Sound.{meshes_of}
use Rattle.model_heap.specs.TableLaws.{IsBusyTest}
use Rattle.mesh_spans.specs.Groups.{table_group}
use Rattle.mesh_spans.specs.Index.{GroupEntry, Index}
use Rattle.mesh_spans.specs.Pairs.{IsTableOf, MayMerge}
use Rattle.mesh_page_heap.specs.Meshes.{IsPair, busy_by}
use Rattle.mesh_page_heap.specs.PageHeap.{PageHeap, table_in}
use Rattle.mesh_page_heap.specs.StepOrders.{IsStepOrderOf}
use Rattle.mesh_page_heap.specs.declared.busy.Busy.{Busy}
use Rattle.mesh_page_heap.specs.declared.busy.Busy.TheVariants.{Any, OfClass}
use Rattle.mesh_running.specs.StepOrders.{order_steps}
use Rattle.mesh_running.specs.declared.step_order.StepOrder.{StepOrder}

-- a mesh of two groups that may be merged may begin
pub pair_allowed : (busy : Busy) (g : PageHeap) (s d : ℕ) (is_busy : Bool) (a : GroupEntry) → MayMerge g.index s d is_busy a
    → IsTableOf g.index s is_busy (busy_by busy) (table_in g) → IsPair busy g s d a.class
pair_allowed busy g s d is_busy a may of = record {
  pair = record { source = table_group g.index.spans s may.pair.a; destination = table_group g.index.spans d may.pair.b };
  may = may.begins (busy_by busy) (table_in g) of;
  class_is = ap (λ (x : GroupEntry). x.class) may.source_is;
}

-- where nothing keeps a class busy no mesh of it runs
pub busy_tells : (busy : Busy) (t : Table) → IsBusyTest (busy_by busy) t
busy_tells OfClass t class h = class_tells class t.meshes h
busy_tells Any t class h = any_tells class t.meshes h

-- what is known of a pair of groups of which a mesh may begin
pub record HasPair (busy : Busy) (g : PageHeap) (s d class : ℕ) : Type 0 where
  pub of : IsPair busy g s d class
  pub from : IsEntry g.index s of.pair.source
  pub into : IsEntry g.index d of.pair.destination
  pub idle : meshes_of class g.meshes ≡ 0

has_pair : (busy : Busy) (g : PageHeap) (s d class : ℕ) → IsPair busy g s d class → HasPair busy g s d class
has_pair busy g s d class is =
    let may = may_begin_gives (busy_by busy) (table_in g) s d is.pair is.may in
    record {
      of = is;
      from = table_entry g.index s is.pair.source may.source_is;
      into = table_entry g.index d is.pair.destination may.destination_is;
      idle = subst (λ (c : ℕ). meshes_of c g.meshes ≡ 0) is.class_is (busy_tells busy (table_in g) is.pair.source.class may.idle);
    }

-- the same of the page heap inside, where it is known of the one that is seen
pub pair_inside : (busy : Busy) (inside seen : PageHeap) (s d class : ℕ) → inside ≡ seen → IsPair busy seen s d class → HasPair busy inside s d class
pair_inside busy inside seen s d class same is = has_pair busy inside s d class (subst (λ (g : PageHeap). IsPair busy g s d class) (sym same) is)

-- so many steps has a mesh from the source
pub steps_told : (busy : Busy) (g : PageHeap) (s d class : ℕ) (order : StepOrder) → (h : HasPair busy g s d class) → IsStepOrderOf (layout_of g.index) s order
    → step_count h.of.pair.source ≡ order_steps order
steps_told busy g s d class order h is = grind (arith, pages_counted)

-- fewer than ten meshes run before one begins
pub few_running : (busy : Busy) (g : PageHeap) (s d class : ℕ) → IsPageHeap g.arena g.map g.index g.next_page g.meshes → HasPair busy g s d class → length g.meshes < 10
few_running busy g s d class paged h =
    let row = (found_sound _ _ _ paged.sound (entry_in_table _ _ _ h.from.there)).class in
    few_meshes _ _ paged.sound (subst (λ (c : ℕ). IsSome (row_of c)) (sym (ap (λ (x : Group). x.class) h.from.same) ∙ h.of.class_is) row) h.idle

-- what a mesh that begins leaves
pub begun_heap : (busy : Busy) (g : PageHeap) (index : Index) (s d class left : ℕ) → IsPageHeap g.arena g.map g.index g.next_page g.meshes
    → (h : HasPair busy g s d class) → Closes g.index index s d → step_count h.of.pair.source ≡ left
    → Begins (busy_by busy) g.arena g.map g.index index g.next_page g.meshes (record { class = class; source = s; destination = d; progress = Made 0 }) left
begun_heap busy g index s d class left paged h closes count =
    subst (λ (c : ℕ). Begins (busy_by busy) g.arena g.map g.index index g.next_page g.meshes (record { class = c; source = s; destination = d; progress = Made 0 }) left)
    h.of.class_is (page_heap_begins (busy_by busy) g.arena g.map g.index index g.next_page g.meshes h.of.pair s d left paged (busy_tells busy (table_in g)) h.of.may closes count)
