use Rattle.std.proofs.Common.{◌≡◌, [], ℕ, length, map, vec_len, List, Bor, ap, subst, sym, ◌∙◌}
use Rattle.std.proofs.lemmas.List.{length-map}
use Rattle.std.specs.List.{All}
use Rattle.model_words.specs.declared.commands.Command.{Command}
use Rattle.mesh_lock.specs.Seat.{Seat}
use Rattle.mesh_shared.proofs.WorkerRuns.{opened_empty, opened_many, run_begun, run_whole, run_worked}
use Rattle.mesh_shared.proofs.threads.run_within.Goals as goal

-- a book that was opened for a count of each script has a seat for each
all_seated : (scripts : List (Bor (List Command))) (counts items : List ℕ) (len seats : ℕ) → len ≡ length items → counts ≡ items → len ≡ length scripts
    → seats ≡ length counts → seats ≡ length (map (λ (script : Bor (List Command)). script.now) scripts)
all_seated scripts counts items len seats is same many count =
    count ∙ ap (λ (l : List ℕ). length l) same ∙ sym is ∙ many ∙ sym (length-map scripts (λ (script : Bor (List Command)). script.now))

pub serve_all-requires-clause-many : goal.serve_all-requires-clause-many
serve_all-requires-clause-many g c κs within =
    let counted : length c.as_slice.result.now ≡ vec_len c.in_ok-counts.counts = ap (λ (l : List ℕ). length l) c.as_slice.ensures.value ∙ sym c.in_ok-counts.counts.ok.0 in
    c.in_ok-shared.seats.ok.0 ∙ ap (λ (l : List Seat). length l) c.in_ok-shared.ensures.seats ∙ opened_many 0 c.as_slice.result.now ∙ counted ∙ c.in_ok-counts.ensures

pub serve_all-requires-clause-empty : goal.serve_all-requires-clause-empty
serve_all-requires-clause-empty g c κs within =
    subst (λ (l : List Seat). All (λ seat. seat.calls ≡ []) l) (sym c.in_ok-shared.ensures.seats) (opened_empty 0 c.as_slice.result.now)

pub returns-clause-begun : goal.returns-clause-begun
returns-clause-begun g c =
    let many = all_seated c.args.scripts.now c.as_slice.result.now _ _ _ c.in_ok-counts.counts.ok.0 c.as_slice.ensures.value c.in_ok-counts.ensures c.in_ok-shared.ensures.count in
    run_begun _ _ _ _ _ _ _ _ c.in_ok-service.ensures.served many c.in_ok-ended.ensures.ended.1

pub returns-clause-whole : goal.returns-clause-whole
returns-clause-whole g c no_end =
    let many = all_seated c.args.scripts.now c.as_slice.result.now _ _ _ c.in_ok-counts.counts.ok.0 c.as_slice.ensures.value c.in_ok-counts.ensures c.in_ok-shared.ensures.count in
    run_whole _ _ _ _ _ _ _ _ no_end c.in_ok-service.ensures.served many c.in_ok-ended.ensures.ended.1

pub returns-clause-meshed : goal.returns-clause-meshed
returns-clause-meshed g c = c.in_ok-service.ensures.meshed

pub returns-clause-worked : goal.returns-clause-worked
returns-clause-worked g c =
    let many = all_seated c.args.scripts.now c.as_slice.result.now _ _ _ c.in_ok-counts.counts.ok.0 c.as_slice.ensures.value c.in_ok-counts.ensures c.in_ok-shared.ensures.count in
    run_worked _ _ _ _ _ _ _ _ c.in_ok-service.ensures.served many c.in_ok-ended.ensures.ended.1
