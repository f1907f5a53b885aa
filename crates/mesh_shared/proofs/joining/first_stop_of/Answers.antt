use Rattle.std.proofs.Common.{◌++◌, ◌∷◌, [], List, Option, None, map, slice_index_or, ap, sym, ◌∙◌}
use Rattle.std.proofs.lemmas.List.{append-nil, take_all}
use Rattle.mesh_shared.specs.Counts.{no_counts}
use Rattle.mesh_shared.specs.Stops.{either_stop, first_stop}
use Rattle.mesh_shared.specs.declared.mesher.MesherEnd.{MesherEnd}
use Rattle.mesh_shared.specs.declared.stops.EarlyExit.{EarlyExit}
use Rattle.mesh_shared.specs.declared.worker.Served.{Served}
use Rattle.mesh_shared.proofs.SeveralStops.{next_other_end}
use Rattle.mesh_shared.proofs.joining.first_stop_of.Goals as goal

-- what is read where no mesher tells
abbrev untold : MesherEnd
untold = record { meshed = record { number = 0; rounds = 0; calls = 0; counts = no_counts }; stop = None }

pub loop-q-preserved : goal.loop-q-preserved
loop-q-preserved c =
    c.either_stop-stop.ensures ∙ ap (λ (s : Option EarlyExit). either_stop s (slice_index_or c.args.ends.now c.loop-q.q untold).stop) c.loop-q.invariant
    ∙ sym (next_other_end (λ (one : MesherEnd). one.stop) c.args.refused [] c.args.ends.now c.loop-q.q untold c.loop-q-test.true)

pub loop-w-init : goal.loop-w-init
loop-w-init c =
    c.loop-q.invariant
    ∙ ap (λ (l : List MesherEnd). first_stop (c.args.refused ∷ map (λ (one : MesherEnd). one.stop) l)) (take_all c.loop-q.q c.args.ends.now c.loop-q-test.false)
    ∙ ap (λ (l : List (Option EarlyExit)). first_stop (c.args.refused ∷ l)) (sym (append-nil (map (λ (one : MesherEnd). one.stop) c.args.ends.now)))

pub loop-w-preserved : goal.loop-w-preserved
loop-w-preserved c =
    c.either_stop-stop-in-loop-w.ensures ∙ ap (λ (s : Option EarlyExit). either_stop s (slice_index_or c.args.served.now c.loop-w.w c.index-served-w.result).stop) c.loop-w.invariant
    ∙ sym (next_other_end (λ (one : Served). one.stop) c.args.refused (map (λ (one : MesherEnd). one.stop) c.args.ends.now) c.args.served.now c.loop-w.w c.index-served-w.result c.loop-w-test.true)

pub returns : goal.returns
returns c =
    c.loop-w.invariant
    ∙ ap (λ (l : List Served). first_stop (c.args.refused ∷ (map (λ (one : MesherEnd). one.stop) c.args.ends.now ++ map (λ (one : Served). one.stop) l))) (take_all c.loop-w.w c.args.served.now c.loop-w-test.false)
