use Rattle.std.proofs.Common.{◌≡◌, ◌<◌, ◌≤◌, ◌+◌, ℕ, true, false, length, slice_index_or, refl, sym, ◌∙◌, ap, arith, subst, List, [], ◌∷◌}
use Rattle.std.proofs.lemmas.Bool.{eq-eqb}
use Rattle.std.proofs.lemmas.List.{nil_from_length}
use Rattle.model_memory.specs.Plain.{Entry}
use Rattle.model_memory.specs.Reads.{Kept, call_of}
use Rattle.model_memory.proofs.WovenCalls.{entry_call}
use Rattle.mesh_lock.specs.RecordedCalls.{IsRecordedFirst}
use Rattle.mesh_lock.proofs.ComparedCalls.{SameSoFar, entry_at, entry_there, no_entry, differ_here, differ_some, differ_short, is_not_own, same_first, same_own, same_past}
use Rattle.mesh_lock.proofs.differing.first_difference.Goals.{then-worker+in-Some+else-not-is_of, else-worker}
use Rattle.mesh_lock.proofs.differing.first_difference.Goals as goal

pub loop-n-init : goal.loop-n-init
loop-n-init c = same_first c.args.calls.now c.skip_reads-rest.result.now c.args.worker c.args.journal.now.entries c.skip_reads-rest.ensures

pub returns-in_default-clause-differs : goal.returns-in_default-clause-differs
returns-in_default-clause-differs c =
    let below : c.loop-n.n < length c.args.journal.now.entries = omega (arith, c.len-n-end.ensures.value, c.loop-n-test.true) in
    let entry : Entry = entry_at c.args.journal.now.entries c.loop-n.n in
    let worker : entry.worker ≡ c.worker.result = sym (c.worker.ensures no_entry) in
    let none : c.loop-n.rest.now ≡ [] = nil_from_length c.loop-n.rest.now c.in_default.ensures.cases in
    differ_short _ _ _ _ _ _ _ below (entry_there _ _ below) (eq-eqb entry.worker c.args.worker (worker ∙ c.if-worker.true)) none c.loop-n.invariant

pub returns-then-not-is_of-clause-differs : goal.returns-then-not-is_of-clause-differs
returns-then-not-is_of-clause-differs c =
    let below : c.loop-n.n < length c.args.journal.now.entries = omega (arith, c.len-n-end.ensures.value, c.loop-n-test.true) in
    let entry : Entry = c.entry.result in
    let at : slice_index_or c.args.journal.now.entries c.loop-n.n entry ≡ entry = sym (c.entry.ensures entry) in
    let worker : entry.worker ≡ c.worker.result = ap (λ (e : Entry). e.worker) (sym at) ∙ sym (c.worker.ensures entry) in
    let kept : Kept = c.in-Some.kept.now in
    let head : c.loop-n.rest.now ≡ kept ∷ c.in-Some.tail.now = c.in-Some.ensures.cases.0 in
    let differs : call_of kept ≡ entry_call entry → ⊥ = λ same. let clash = c.if-not-is_of.ensures.1 same in cc clash in
    differ_here _ _ _ _ _ _ _ _ _ below at (eq-eqb entry.worker c.args.worker (worker ∙ c.if-worker.true)) head differs c.loop-n.invariant

pub loop-n-preserved : goal.loop-n-preserved
loop-n-preserved c =
    let many = c.len-n-end.ensures.value in
    let within = c.loop-n-test.true in
    let below : c.loop-n.n < length c.args.journal.now.entries = omega (arith, many, within) in
    elim c.if-worker.branch [
      | then-worker+in-Some+else-not-is_of w ↦
          let entry : Entry = w.entry.result in
          let at : slice_index_or c.args.journal.now.entries c.loop-n.n entry ≡ entry = sym (w.entry.ensures entry) in
          let worker : entry.worker ≡ c.worker.result = ap (λ (e : Entry). e.worker) (sym at) ∙ sym (c.worker.ensures entry) in
          let kept : Kept = w.in-Some.kept.now in
          let is : call_of kept ≡ entry_call entry = w.if-not-is_of.ensures.0 refl in
          let skipped : IsRecordedFirst w.in-Some.tail.now c.if-worker.rest.now = subst (λ (l : List Kept). IsRecordedFirst w.in-Some.tail.now l) (ap (λ r. r.now) (sym w.rest-is)) w.skip_reads-rest-then-worker.ensures in
          let same = same_own _ _ _ _ _ _ _ _ _ _ below at
          (eq-eqb entry.worker c.args.worker (worker ∙ w.if-worker.true)) w.in-Some.ensures.cases.0 is skipped c.loop-n.invariant in
          subst (λ (p : ℕ). SameSoFar c.args.calls.now c.if-worker.rest.now c.args.worker c.args.journal.now.entries (c.loop-n.n + 1) p) (sym w.place-is) same
      | else-worker w ↦
          let entry : Entry = entry_at c.args.journal.now.entries c.loop-n.n in
          let worker : entry.worker ≡ c.worker.result = sym (c.worker.ensures no_entry) in
          let at : slice_index_or c.args.journal.now.entries c.loop-n.n entry ≡ entry = entry_there _ _ below in
          let same = same_past _ _ _ _ _ _ _ below at (is_not_own _ _ (λ same. w.if-worker.false (sym worker ∙ same))) c.loop-n.invariant in
          let moved : SameSoFar c.args.calls.now c.if-worker.rest.now c.args.worker c.args.journal.now.entries (c.loop-n.n + 1) c.loop-n.place =
          subst (λ (l : List Kept). SameSoFar c.args.calls.now l c.args.worker c.args.journal.now.entries (c.loop-n.n + 1) c.loop-n.place) (ap (λ r. r.now) (sym w.rest-is)) same in
          subst (λ (p : ℕ). SameSoFar c.args.calls.now c.if-worker.rest.now c.args.worker c.args.journal.now.entries (c.loop-n.n + 1) p) (sym w.place-is) moved
    ]

pub returns-else-is_empty-clause-differs : goal.returns-else-is_empty-clause-differs
returns-else-is_empty-clause-differs c =
    let many = c.len-n-end.ensures.value in
    let past : length c.args.journal.now.entries ≤ c.loop-n.n = omega (arith, many, c.loop-n-test.false) in
    differ_some c.args.calls.now c.loop-n.rest.now c.args.worker c.args.journal.now.entries c.loop-n.n c.loop-n.place past (λ none. let many : length c.loop-n.rest.now ≡ 0 = ap (λ (l : List Kept). length l) none in let clash : false ≡ true = rw many at c.if-is_empty.ensures in cc clash) c.loop-n.invariant
