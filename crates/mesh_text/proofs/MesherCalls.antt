-- A mesher's call of a book, and what it is to the job.
use Rattle.std.proofs.Common.{◌≡◌, ℕ, length, List, [], ◌∷◌, Option, None, Some, Result, Ok, Err, ap, refl, sym, subst, ◌∙◌, inl, inr}
use Rattle.std.specs.Prelude.{find, nat_eq, true}
use Rattle.std.specs.Option.{option_map}
use Rattle.std.proofs.lemmas.Bool.Decides.{eqb_tells}
use Rattle.model_jobs.specs.Jobs.{Answer, Job, State, MesherRefused, Reported, StepMade, StepsLeft, counted, step_answered, told}
use Rattle.model_heap.specs.Mesh.{cancel, first_mesh, mesh_in, step}
use Rattle.model_heap.specs.Table.{Counted, Mesh, Table, report_of}
use Rattle.model_words.specs.declared.refusals.Refusal.{Refusal}
use Rattle.model_words.specs.declared.refusals.Refusal.TheVariants.{NoMesh}
use Rattle.mesh_mutator.specs.Book.{Book, table_of_book}
use Rattle.mesh_mutator.specs.Mesher.{KeepsBook}
use Rattle.mesh_steps.specs.HeapMeshes.{IsAnswered, IsStepMade}
use Rattle.model_words.specs.declared.answers.StepDone.{StepDone}
use Rattle.mesh_text.specs.Answers.{count_told, step_told}
use Rattle.mesh_steps.specs.Heap.{arena_of}
use Rattle.mesh_page_heap.specs.PageHeap.{counts_told}
use Rattle.mesh_page_heap.specs.declared.answers.Report.{Report}
use Rattle.mesh_text.specs.Turns.{IsAt, IsCall, IsNextAt}

-- where a job stands after a call that left this table
stands_after : (job : Job) (state : State) (old new : Book) (places : List ℕ) → IsAt job state old places → KeepsBook old new
    → IsAt job (record state { table = table_of_book new }) new places
stands_after job state old new places at kept = record {
  memory = kept.memory ∙ at.memory;
  table = refl;
  entries = ap (λ (b : Book). b.entries) kept.others ∙ at.entries;
  room = ap (λ (b : Book). b.room) kept.others ∙ at.room;
  pages = kept.heap.pages ∙ at.pages;
  workers = at.workers;
  scripts = at.scripts;
}

-- a call that answers a count is what the definition of the count says
pub counted_call : (say : ℕ → Answer) (what : Table → Result Counted Refusal) (old new : Book) (count : Result ℕ Refusal) {IsMade : ℕ → Type 0}
    → ((n : ℕ) → IsMade n → what (table_of_book old) ≡ Ok (record { count = n; table = table_of_book new }))
    → IsAnswered KeepsBook old new (what (table_of_book old)) count IsMade
    → IsCall (λ state. counted state say (what state.table)) old new (count_told say count)
counted_call say what old new (Ok n) table is job state places at =
    subst (λ r. IsNextAt job (counted state say r) new places (say n)) (sym (table n is.made) ∙ ap what at.table)
    (record { answer_is = refl; at = stands_after job state old new places at is.kept })
counted_call say what old new (Err refusal) table is job state places at =
    subst (λ r. IsNextAt job (counted state say r) new places (MesherRefused refusal)) (sym is.refused.0 ∙ ap what at.table)
    (record { answer_is = refl; at = subst (λ b. IsAt job state b places) (sym is.refused.1) at })

-- a step that was made, or not
pub stepped_call : (old new : Book) (class : ℕ) (done : Result StepDone Refusal)
    → IsAnswered KeepsBook old new (step (table_of_book old) (mesh_in (table_of_book old) class)) done (IsStepMade old.heap new.heap class)
    → IsCall (λ state. step_answered state (step state.table (mesh_in state.table class))) old new (step_told done)
stepped_call old new class (Ok done) is job state places at =
    subst (λ r. IsNextAt job (step_answered state r) new places (StepMade done.kind done.left)) (sym is.made.table ∙ ap (λ t. step t (mesh_in t class)) at.table)
    (record { answer_is = refl; at = stands_after job state old new places at is.kept })
stepped_call old new class (Err refusal) is job state places at =
    subst (λ r. IsNextAt job (step_answered state r) new places (MesherRefused refusal)) (sym is.refused.0 ∙ ap (λ t. step t (mesh_in t class)) at.table)
    (record { answer_is = refl; at = subst (λ b. IsAt job state b places) (sym is.refused.1) at })

-- a call that changes nothing
pub look_call : (what : Table → Answer) (book : Book) (given : Answer) → given ≡ what (table_of_book book)
    → IsCall (λ state. told state (what state.table)) book book given
look_call what book given is job state places at = record { answer_is = is ∙ ap what at.table; at = at }

-- what a book counts is what a job counts
pub report_call : (book : Book) (report : Report) → counts_told report ≡ report_of (length (arena_of book.heap)) (table_of_book book)
    → (job : Job) (state : State) (places : List ℕ) → IsAt job state book places
    → IsNextAt job (told state (Reported (report_of job.pages state.table))) book places (Reported (counts_told report))
report_call book report is job state places at = record {
  answer_is = ap Reported (is ∙ ap (λ n. report_of n (table_of_book book)) at.pages ∙ ap (λ t. report_of job.pages t) at.table);
  at = at;
}

-- a number is itself
eq_self : (n : ℕ) → nat_eq n n ≡ true
eq_self n = elim (eqb_tells n n) [ inl same ↦ same.0 | inr other ↦ absurd (other.1 refl) ]

-- the first mesh is that of its class
first_in_class : (t : Table) (class : ℕ) → Some class ≡ option_map (λ mesh. mesh.class) (first_mesh t) → first_mesh t ≡ mesh_in t class
first_in_class t class is = go t.meshes is
  where
    go : (meshes : List Mesh) → Some class ≡ option_map (λ mesh. mesh.class) (find (λ mesh. true) meshes)
        → find (λ mesh. true) meshes ≡ find (λ mesh. nat_eq mesh.class class) meshes
    go [] is = refl
    go (mesh ∷ meshes) is = let same : class ≡ mesh.class = cc is in rw same (rw (eq_self mesh.class) refl)

-- a step of the first mesh is one of the mesh of its class
pub first_stepped : (old new : Book) (class : ℕ) (given : Answer) → Some class ≡ option_map (λ mesh. mesh.class) (first_mesh (table_of_book old))
    → IsCall (λ state. step_answered state (step state.table (mesh_in state.table class))) old new given
    → IsCall (λ state. step_answered state (step state.table (first_mesh state.table))) old new given
first_stepped old new class given first call job state places at =
    let same : first_mesh state.table ≡ mesh_in state.table class = subst (λ t. first_mesh t ≡ mesh_in t class) at.table (first_in_class (table_of_book old) class first) in
    subst (λ which. IsNextAt job (step_answered state (step state.table which)) new places given) (sym same) (call job state places at)

-- and so is a cancel
pub first_cancelled : (old new : Book) (class : ℕ) (given : Answer) → Some class ≡ option_map (λ mesh. mesh.class) (first_mesh (table_of_book old))
    → IsCall (λ state. counted state StepsLeft (cancel state.table (mesh_in state.table class))) old new given
    → IsCall (λ state. counted state StepsLeft (cancel state.table (first_mesh state.table))) old new given
first_cancelled old new class given first call job state places at =
    let same : first_mesh state.table ≡ mesh_in state.table class = subst (λ t. first_mesh t ≡ mesh_in t class) at.table (first_in_class (table_of_book old) class first) in
    subst (λ which. IsNextAt job (counted state StepsLeft (cancel state.table which)) new places given) (sym same) (call job state places at)

-- where no mesh runs
none_first : (m : Option Mesh) → None ≡ option_map (λ mesh. mesh.class) m → m ≡ None
none_first None is = refl
none_first (Some mesh) is = absurd (cc is)

pub none_stepped : (book : Book) → None ≡ option_map (λ mesh. mesh.class) (first_mesh (table_of_book book))
    → IsCall (λ state. step_answered state (step state.table (first_mesh state.table))) book book (MesherRefused NoMesh)
none_stepped book none job state places at =
    subst (λ which. IsNextAt job (step_answered state (step state.table which)) book places (MesherRefused NoMesh))
    (sym (subst (λ t. first_mesh t ≡ None) at.table (none_first (first_mesh (table_of_book book)) none))) (record { answer_is = refl; at = at })

pub none_cancelled : (book : Book) → None ≡ option_map (λ mesh. mesh.class) (first_mesh (table_of_book book))
    → IsCall (λ state. counted state StepsLeft (cancel state.table (first_mesh state.table))) book book (MesherRefused NoMesh)
none_cancelled book none job state places at =
    subst (λ which. IsNextAt job (counted state StepsLeft (cancel state.table which)) book places (MesherRefused NoMesh))
    (sym (subst (λ t. first_mesh t ≡ None) at.table (none_first (first_mesh (table_of_book book)) none))) (record { answer_is = refl; at = at })
