use Rattle.std.proofs.Common.{◌≡◌, ◌≤◌, ◌+◌, ◌++◌, List, ℕ, length, take, subst, ap, ◌∙◌, arith}
use Rattle.std.proofs.lemmas.List.{length-take}
use Rattle.run_program.specs.Runs.{HasTold}
use Rattle.run_program.proofs.UnopenedLines.{line_added}
use Rattle.run_program.proofs.unopened.unopened_reason_run.Goals as goal

pub returns : goal.returns
returns g c =
    let words = c.as_bytes-2.result.now in
    let name = take 4096 c.args.name.now in
    let begun : c.beginning.result.now ≡ name = c.beginning.ensures ∙ ap (λ (bytes : List ℕ). take 4096 bytes) c.as_bytes.ensures.value in
    let short : length name ≤ 4096 = (let many = length-take 4096 c.args.name.now in omega (arith, many)) in
    let few : length words ≤ 256 = (let same = ap (λ (bytes : List ℕ). length bytes) c.as_bytes-2.ensures.value in let all = c.without_code.ensures in omega (arith, same, all)) in
    let first : length c.new-line.result.items + length name ≤ 4608 → c.add.new.line.items ≡ c.new-line.result.items ++ name
    = subst (λ (bytes : List ℕ). length c.new-line.result.items + length bytes ≤ 4608 → c.add.new.line.items ≡ c.new-line.result.items ++ bytes) begun c.add.ensures in
    let line = c.as_slice.ensures.value ∙ line_added name words _ _ _ _ _ c.new-line.ensures short few first c.add-2.ensures c.add-3.ensures c.add-4.ensures in
    (words, subst (λ (text : List ℕ). HasTold (g.E.Sink.has_failed c.tell.new.sink) (g.E.Sink.written c.args.errors.now) (g.E.Sink.written c.tell.new.sink) text) line c.tell.ensures)
