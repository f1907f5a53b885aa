use Rattle.std.proofs.Common.{◌≡◌, ◌∙◌, ◌++◌, [], ap, take, length, List, Vec, ℕ, Global}
use Rattle.std.specs.List.{flat_map}
use Rattle.std.specs.Vec.{vec_items}
use Rattle.std.proofs.lemmas.List.{take_all}
use Rattle.mesh_text.specs.Histories.{count_line}
use Rattle.mesh_text.proofs.HistoryParts.{whole_text}
use Rattle.text_words.proofs.PartTexts.{wrote_one}
use Rattle.mesh_text.proofs.histories.history_lines.Goals as goal

pub loop-part-preserved : goal.loop-part-preserved
loop-part-preserved c =
    wrote_one vec_items c.deref-part-items.result.now c.part-item.result c.loop-part.part-index [] c.loop-part.text.items c.extend_from_slice.new.self.items c.loop-part-test.true
    c.loop-part.invariant
    (c.in_ok-extend_from_slice.ensures.items ∙ ap (λ (bytes : List ℕ). c.loop-part.text.items ++ bytes) (c.as_slice.ensures.value ∙ ap (λ (part : Vec ℕ Global). part.items) c.part-item.is))

pub returns : goal.returns
returns c =
    let all : flat_map vec_items (take c.loop-part.part-index c.deref-part-items.result.now) ≡ flat_map vec_items c.in_ok-parts.parts.items
    = ap (λ (parts : List (Vec ℕ Global)). flat_map vec_items parts) (take_all c.loop-part.part-index c.deref-part-items.result.now c.loop-part-test.false ∙ c.deref-part-items.ensures.value) in
    whole_text c.args.workers c.args.history.now c.in_ok-parts.parts.items c.add_count_line.new.text.items c.in_ok-parts.ensures
    (c.in_ok-add_count_line.ensures ∙ ap (λ (front : List ℕ). front ++ count_line (length c.args.history.now)) (c.loop-part.invariant ∙ all))
