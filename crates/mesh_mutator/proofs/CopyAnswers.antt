-- What the heap answers a copy between the references of two cells, and what the plain memory answers it.
use Rattle.std.proofs.Common.{◌≡◌, ℕ, ◌+◌, Bool, true, false, ◌||◌, Option, Some, None, Result, Ok, Err, IsOk, ap, subst, refl, sym, ◌∙◌}
use Rattle.std.specs.Option.{option_map}
use Rattle.model_jobs.specs.Jobs.{copy_blocked}
use Rattle.model_memory.specs.Memory.{Memory, Object, object_of, root_of}
use Rattle.model_heap.specs.Mesh.{is_blocked}
use Rattle.model_memory.specs.Plain.{Named, both_named, copied, ends_outside, named_by, plain}
use Rattle.model_words.proofs.Chains.{refuse_if_went, went_on}
use Rattle.model_words.specs.Words.{◌>>=◌, or_refuse, refuse_if}
use Rattle.model_words.specs.declared.commands.Command.TheVariants.{Copy}
use Rattle.model_words.specs.declared.commands.Reply.TheVariants.{Done as ReplyDone}
use Rattle.model_words.specs.declared.refusals.Refusal.{Refusal}
use Rattle.model_words.specs.declared.refusals.Refusal.TheVariants.{Freed, Outside}
use Rattle.mesh_mutator.proofs.CellAnswers.{KeepAddresses, done_over, named_is, referred_is, root_is, stored_keeps}
use Rattle.mesh_mutator.proofs.Chains.{first_is, made_of, value_of}
use Rattle.mesh_mutator.specs.Book.{AreRooted, Cells, cell_at, memory_in, serial_of}
use Rattle.mesh_steps.specs.Heap.{Heap, copied_at, plain_of, referred, table_of}
use Rattle.mesh_steps.specs.declared.answers.Ref.{Ref}

-- two objects, named one after the other
abbrev in_turn : Result Named Refusal → Result Named Refusal → Result (Named × Named) Refusal
in_turn a b = a >>= λ target. b >>= λ source. Ok (target, source)

-- where both cells hold something, what they name is named in turn
both_in_turn : (m : Memory) (to from s u : ℕ) → root_of m to ≡ Some s → root_of m from ≡ Some u
    → both_named m to from ≡ in_turn (named_by m to) (named_by m from)
both_in_turn m to from s u at of = rw (at, of) (go (object_of m s) (object_of m u))
  where
    go : (o p : Option Object) → (or_refuse Freed o >>= λ a. or_refuse Freed p >>= λ b. Ok (record { serial = s; object = a }, record { serial = u; object = b }))
        ≡ in_turn (or_refuse Freed o >>= λ object. Ok (record { serial = s; object = object })) (or_refuse Freed p >>= λ object. Ok (record { serial = u; object = object }))
    go None p = refl
    go (Some a) None = refl
    go (Some a) (Some b) = refl

-- so what two cells name is what their references do, in turn
both_are : (h : Heap) (cells : Cells) (to from : ℕ) (target source : Ref) → AreRooted h cells → cell_at cells to ≡ Some target → cell_at cells from ≡ Some source
    → both_named (memory_in h cells) to from ≡ in_turn (referred (plain_of h) target) (referred (plain_of h) source)
both_are h cells to from target source rooted at of =
    both_in_turn (memory_in h cells) to from target.serial source.serial
    (root_is h cells to ∙ ap (λ (o : Option Ref). option_map serial_of o) at) (root_is h cells from ∙ ap (λ (o : Option Ref). option_map serial_of o) of)
    ∙ ap (λ (a : Result Named Refusal). in_turn a (named_by (memory_in h cells) from)) (sym (named_is h cells to target rooted at))
    ∙ ap (λ (b : Result Named Refusal). in_turn (referred (plain_of h) target) b) (sym (named_is h cells from source rooted of))

-- a copy between references, and the `copy` of their cells
pub copy_alike : (h : Heap) (cells : Cells) (to to_off from from_off len : ℕ) (target source : Ref) → AreRooted h cells → cell_at cells to ≡ Some target
    → cell_at cells from ≡ Some source
    → plain (memory_in h cells) 0 (Copy to to_off from from_off len) ≡ made_of (done_over cells) (copied_at (plain_of h) target to_off source from_off len)
copy_alike h cells to to_off from from_off len target source rooted at of =
    first_is _ _ _ (both_are h cells to from target source rooted at of) ∙ go (referred (plain_of h) target) (referred (plain_of h) source)
  where
    either : (a b : Named) (x y : Bool) → (refuse_if Outside (x || y) >>= λ _. Ok (ReplyDone, copied (memory_in h cells) a to_off b from_off len))
        ≡ made_of (done_over cells) (refuse_if Outside x >>= λ _. refuse_if Outside y >>= λ _. Ok (copied (plain_of h) a to_off b from_off len))
    either a b true y = refl
    either a b false true = refl
    either a b false false = refl

    go : (a b : Result Named Refusal)
        → (in_turn a b >>= λ pair. refuse_if Outside (ends_outside pair.0.object to_off len || ends_outside pair.1.object from_off len) >>= λ _.
        Ok (ReplyDone, copied (memory_in h cells) pair.0 to_off pair.1 from_off len))
        ≡ made_of (done_over cells) (a >>= λ x. b >>= λ y. refuse_if Outside (ends_outside x.object to_off len) >>= λ _.
        refuse_if Outside (ends_outside y.object from_off len) >>= λ _. Ok (copied (plain_of h) x to_off y from_off len))
    go (Err e) b = refl
    go (Ok a) (Err e) = refl
    go (Ok a) (Ok b) = either a b (ends_outside a.object to_off len) (ends_outside b.object from_off len)

-- a copy was made between these two objects, which the references name, and left this memory
record Copied (m : Memory) (to from : Ref) (to_off from_off len : ℕ) (n : Memory) : Type 0 where
  target : Named
  source : Named
  target_is : referred m to ≡ Ok target
  source_is : referred m from ≡ Ok source
  after : copied m target to_off source from_off len ≡ n

-- a copy that is not refused was made between what its references name
copy_went : (m n : Memory) (to from : Ref) (to_off from_off len : ℕ) → copied_at m to to_off from from_off len ≡ Ok n
    → Copied m to from to_off from_off len n
copy_went m n to from to_off from_off len is =
    let target = went_on (referred m to) _ n is in
    let source = went_on (referred m from) _ n target.then in
    let first = refuse_if_went Outside (ends_outside target.value.object to_off len) _ n source.then in
    let second = refuse_if_went Outside (ends_outside source.value.object from_off len) _ n first.1 in
    record { target = target.value; source = source.value; target_is = target.is; source_is = source.is; after = (let both = second.1 in cc both) }

-- a copy to the reference of a cell touches the pages that the command does
pub copy_touches : (h : Heap) (cells : Cells) (to to_off from from_off len : ℕ) (target source : Ref) → AreRooted h cells → cell_at cells to ≡ Some target
    → cell_at cells from ≡ Some source → IsOk (copied_at (plain_of h) target to_off source from_off len)
    → copy_blocked (table_of h) to_off len (both_named (memory_in h cells) to from) ≡ is_blocked (table_of h) (target.addr + to_off) len
copy_touches h cells to to_off from from_off len target source rooted at of went =
    let after = value_of (copied_at (plain_of h) target to_off source from_off len) went in
    let between = copy_went (plain_of h) after.0 target source to_off from_off len after.1 in
    ap (copy_blocked (table_of h) to_off len) (both_are h cells to from target source rooted at of
    ∙ ap (λ (a : Result Named Refusal). in_turn a (referred (plain_of h) source)) between.target_is
    ∙ ap (λ (b : Result Named Refusal). in_turn (Ok between.target) b) between.source_is)
    ∙ ap (λ (a : ℕ). is_blocked (table_of h) (a + to_off) len) (referred_is (plain_of h) target between.target between.target_is).address

-- a copy between references keeps the addresses
pub copied_at_keeps : (m n : Memory) (to : Ref) (to_off : ℕ) (from : Ref) (from_off len : ℕ) → copied_at m to to_off from from_off len ≡ Ok n → KeepAddresses m n
copied_at_keeps m n to to_off from from_off len is =
    let between = copy_went _ _ _ _ _ _ _ is in
    subst (λ (x : Memory). KeepAddresses m x) between.after (stored_keeps m _ to_off _ (referred_is m _ _ between.target_is).live)
