use Rattle.std.proofs.Common.{◌≡◌, ℕ, subst, take, arith}
use Rattle.std.proofs.lemmas.Option.{slice_get_within, get_or_from_slice_get}
use Rattle.model_memory.specs.Memory.{empty_memory}
use Rattle.model_memory.specs.Reads.{Kept, kept_by, is_marked, memory_after, read_reply}
use Rattle.model_memory.proofs.RightReads.{built_runs}
use Rattle.model_memory.proofs.read_laws.built_is_legal.Goals as goal

pub returns : goal.returns
returns c seats entries end told right =
    built_runs entries 0 empty_memory end seats told.legal (λ j d n i kept is at sees.
    let same : n ≡ d = omega (arith, is) in
    let within = slice_get_within (kept_by seats j) i kept at in
    let there = get_or_from_slice_get (kept_by seats j) i kept kept at in (
      subst (λ (x : Kept). is_marked x) there (told.marked j i kept within) n sees,
      subst (λ (x : ℕ). kept.reply ≡ read_reply (memory_after empty_memory (take x entries)) kept.command) same (right j i kept n at sees).1,
    ))
