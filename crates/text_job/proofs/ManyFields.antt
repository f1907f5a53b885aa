-- A line of more fields than any line has is refused for its word.
use Rattle.std.proofs.Common.{◌≡◌, ℕ, ◌<◌, ◌≤◌, Bool, true, false, not, if◌then◌else◌, List, [], ◌∷◌, Result, Err, length, ap, refl, arith, inl, inr}
use Rattle.std.specs.Prelude.{◌⊎◌, codes}
use Rattle.std.specs.List.{list_any}
use Rattle.std.proofs.lemmas.Bool.{true≢false}
use Rattle.model_jobs.specs.JobFiles.{Section, Draft, AtVersion, AtPages, AtHistory, AtWorkers, AtFirstWorker, InScript, InPlan, AtEnd, are_same, header_in, has_ended, is_empty, line_in, take_fields, take_in}
use Rattle.model_words.specs.Words.{◌>>=◌, refuse_if}
use Rattle.model_words.specs.declared.faults.FaultKind.{FaultKind}
use Rattle.model_words.specs.declared.faults.FaultKind.TheVariants.{Word}
use Rattle.model_words.specs.declared.versions.Version.{Version}

-- a choice of which both ways are refused, and a test before a step that is refused
both : {A : Type 0} (t : Bool) (x y : Result A FaultKind) → x ≡ Err Word → y ≡ Err Word → (if t then x else y) ≡ Err Word
both true x y p q = p
both false x y p q = q

tested : {A : Type 0} (t : Bool) (next : Result A FaultKind) → next ≡ Err Word → (refuse_if Word t >>= λ _. next) ≡ Err Word
tested true next h = refl
tested false next h = h

-- fields of which there are six and more
record Six (fields : List (List ℕ)) : Type 0 where
  pub a : List ℕ
  pub b : List ℕ
  pub c : List ℕ
  pub d : List ℕ
  pub e : List ℕ
  pub f : List ℕ
  pub more : List (List ℕ)
  pub is : fields ≡ a ∷ b ∷ c ∷ d ∷ e ∷ f ∷ more

no_line : (version : Version) (workers : ℕ) (word a b c d e f : List ℕ) (more : List (List ℕ)) → 29 ≤ length more
    → line_in version workers word (a ∷ b ∷ c ∷ d ∷ e ∷ f ∷ more) ≡ Err Word
no_line version workers word a b c d e f more many = grind arith

-- no header has six fields or more
no_header : (wanted : List ℕ) (least most : ℕ) (word a b c d e f : List ℕ) (more : List (List ℕ)) → header_in wanted least most word (a ∷ b ∷ c ∷ d ∷ e ∷ f ∷ more) ≡ Err Word
no_header wanted least most word a b c d e f more = tested (not (are_same word wanted)) (Err Word) refl

-- a step after a refusal
after : {A B : Type 0} (first : Result A FaultKind) (next : A → Result B FaultKind) → first ≡ Err Word → (first >>= next) ≡ Err Word
after first next is = ap (λ r. r >>= next) is

-- so many fields are refused in every section but the last
many_in : (section : Section) (draft : Draft) (word a b c d e f : List ℕ) (more : List (List ℕ)) → 29 ≤ length more → has_ended section ≡ false
    → take_in section draft word (a ∷ b ∷ c ∷ d ∷ e ∷ f ∷ more) ≡ Err Word
many_in AtVersion draft word a b c d e f more many going = after _ _ (no_header (codes "mesh") 1 2 word a b c d e f more)
many_in AtPages draft word a b c d e f more many going = after _ _ (no_header (codes "pages") 1 4096 word a b c d e f more)
many_in AtHistory draft word a b c d e f more many going = after _ _ (no_header (codes "history") 0 65536 word a b c d e f more)
many_in AtWorkers draft word a b c d e f more many going = after _ _ (no_header (codes "workers") 1 64 word a b c d e f more)
many_in AtFirstWorker draft word a b c d e f more many going = after _ _ (no_header (codes "worker") 0 0 word a b c d e f more)
many_in (InScript worker) draft word a b c d e f more many going = grind arith
many_in InPlan draft word a b c d e f more many going =
    both (are_same word (codes "end")) _ _ refl (after _ _ (no_line draft.version draft.workers word a b c d e f more many))
many_in AtEnd draft word a b c d e f more many going = absurd (true≢false going)

many_fields : (draft : Draft) (word : List ℕ) (fields : List (List ℕ)) → 35 ≤ length fields → has_ended draft.section ≡ false
    → take_in draft.section draft word fields ≡ Err Word
many_fields draft word fields many going = grind (arith, many_in)

-- fields of which one is empty, or which are too many
pub no_fields : (draft : Draft) (fields : List (List ℕ)) → (list_any is_empty fields ≡ true) ⊎ (35 < length fields) → has_ended draft.section ≡ false
    → take_fields draft fields ≡ Err Word
no_fields draft [] h going = refl
no_fields draft (word ∷ fields) (inl empty) going = ap (λ (t : Bool). refuse_if Word t >>= λ _. take_in draft.section draft word fields) empty
no_fields draft (word ∷ fields) (inr many) going =
    tested (list_any is_empty (word ∷ fields)) (take_in draft.section draft word fields) (many_fields draft word fields (omega (arith, many)) going)
