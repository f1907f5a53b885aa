use Rattle.std.proofs.Common.{◌≡◌, List, ℕ, ◌++◌, ap, length, take, drop, rules, subst, sym, ◌∙◌}
use Rattle.std.proofs.Math.Seq.{take-append_seam}
use Rattle.text_job.specs.Read.{HasReadInto}
use Rattle.text_job.proofs.Pieces.{job_read, no_job_read}
use Rattle.text_job.proofs.device.read_job.Goals as goal

pub returns-clause-job : goal.returns-clause-job
returns-clause-job g c =
    let left = g.I.Source.remaining in
    let buffer = c.read_pieces.new.buffer in
    let same : c.deref.result.now ≡ buffer = c.deref.ensures.value
    ∙ ap (λ (n : ℕ). take n (buffer ++ drop (length buffer) c.in_ok-buffer.buffer.items)) (search rules)
    ∙ take-append_seam buffer (drop (length buffer) c.in_ok-buffer.buffer.items) in
    let into = subst (λ (bytes : List ℕ). HasReadInto (left c.args.input.now) (left c.read_pieces.new.input) c.read_pieces.new.reading (take c.in_ok-held.held bytes))
    (sym same) c.in_ok-held.ensures.held in
    job_read _ _ _ _ _ into c.in_ok-finish.ensures.ok

pub returns-in_err-finish-clause-none : goal.returns-in_err-finish-clause-none
returns-in_err-finish-clause-none g c =
    let left = g.I.Source.remaining in
    no_job_read _ _ _ _ _ _ _ _ _ _ c.deref.ensures.value (search rules) c.in_ok-held.ensures.held c.in_err-finish.ensures.fault
    c.from_residual-in_err-finish.ensures.1
