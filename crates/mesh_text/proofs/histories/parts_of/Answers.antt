use Rattle.std.proofs.Common.{◌≡◌, ◌∙◌, ◌+◌, ◌<◌, ◌++◌, ◌∷◌, [], ap, sym, map, get_or, take, List, arith}
use Rattle.std.specs.List.{range_with_len}
use Rattle.std.proofs.lemmas.List.{take_more}
use Rattle.std.proofs.lemmas.List.Elements.{All-get_or}
use Rattle.model_memory.specs.Plain.{Entry}
use Rattle.mesh_text.specs.Histories.{worker_text}
use Rattle.mesh_text.proofs.HistoryParts.{as_many, parts_more, parts_none}
use Rattle.mesh_text.proofs.histories.parts_of.Goals as goal

pub index_mut-requires : goal.index_mut-requires
index_mut-requires c = grind (arith, as_many)

pub loop-entry-init : goal.loop-entry-init
loop-entry-init c = c.in_ok-parts.ensures ∙ parts_none (range_with_len 0 c.args.workers)

pub loop-entry-preserved : goal.loop-entry-preserved
loop-entry-preserved c =
    let history : List Entry = c.args.history.now in
    let i = c.loop-entry.entry-index in
    let entry : Entry = record { worker = c.entry.inside.worker; command = c.entry.inside.command; reply = c.entry.inside.reply } in
    let at : entry ≡ get_or history i c.entry-item.result = c.entry.view_is ∙ c.entry-item.is in
    let below : entry.worker < c.args.workers
    = (let inside = All-get_or (λ (e : Entry). e.worker < c.args.workers) history i c.entry-item.result c.loop-entry-test.true c.requires in
    omega (arith, inside, ap (λ (e : Entry). e.worker) at)) in
    let next : take i history ++ entry ∷ [] ≡ take (i + 1) history
    = ap (λ (e : Entry). take i history ++ e ∷ []) at ∙ sym (take_more history i c.entry-item.result c.loop-entry-test.true) in
    parts_more _ _ _ _ _ _ below c.loop-entry.invariant c.index_mut.ensures.value c.in_ok-add_told.ensures
    ∙ ap (λ (entries : List Entry). map (worker_text entries) (range_with_len 0 c.args.workers)) next
