use Rattle.std.proofs.Common.{ℕ, ◌++◌, ◌∙◌, List, ap, append_assoc, codes, sym}
use Rattle.std.proofs.lemmas.Result.{on_ok_weaker}
use Rattle.history_judge.specs.FlawTexts.{loads_text, possible_text}
use Rattle.history_overlaps.specs.declared.possible.Possible.{Possible}
use Rattle.history_judge.proofs.flaw_texts.add_possible.Goals as goal

pub returns-in_ok-extend_from_slice-in-Loads : goal.returns-in_ok-extend_from_slice-in-Loads
returns-in_ok-extend_from_slice-in-Loads c =
    let old = c.args.text.now.items in let loads = loads_text c.in-Loads.loads in
    on_ok_weaker c.add_loads.result (λ told. told ∙ ap (λ (s : List ℕ). s ++ loads) c.in_ok-extend_from_slice-in-Loads.ensures.items
    ∙ append_assoc old (codes "; possible if it took effect last: ") loads ∙ ap (λ (p : Possible). old ++ possible_text p) (sym c.in-Loads.is)) c.add_loads.ensures
