use Rattle.std.proofs.Common.{◌∙◌, ◌++◌, ◌+◌, ℕ, List, ap, arith, sym, take}
use Rattle.model_jobs.specs.Texts.{pair_text}
use Rattle.mesh_search.specs.Pairs.{pairing}
use Rattle.mesh_text.proofs.PartTexts.{texts_of_pairs}
use Rattle.text_words.proofs.PartTexts.{wrote_one}
use Rattle.mesh_text.proofs.answers.add_pairs.Goals as goal

pub loop-pair-preserved : goal.loop-pair-preserved
loop-pair-preserved c =
    let pairs : List (ℕ × ℕ) = c.args.pairs.now in
    let i : ℕ = c.loop-pair.pair-index in
    let before : List ℕ = c.args.text.now.items in
    wrote_one (λ (pair : ℕ × ℕ). pair_text (pairing pair)) pairs _ i before c.loop-pair.text.items c.add_pair.new.text.items (omega arith)
    (c.loop-pair.invariant ∙ ap (λ (text : List ℕ). before ++ text) (sym (texts_of_pairs (take i pairs)))) c.in_ok-add_pair.ensures
    ∙ ap (λ (text : List ℕ). before ++ text) (texts_of_pairs (take (i + 1) pairs))
