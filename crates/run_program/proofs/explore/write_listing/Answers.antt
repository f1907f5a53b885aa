use Rattle.std.proofs.Common.{List, IfErr, subst}
use Rattle.explore_interleavings.specs.declared.pair.MeshPair.{MeshPair}
use Rattle.run_program.specs.Explores.{HasStoppedExplore}
use Rattle.run_program.proofs.ExploreEnds.{failed_of, known_of}
use Rattle.run_program.proofs.explore.write_listing.Goals as goal

pub returns-clause-stopped : goal.returns-clause-stopped
returns-clause-stopped g c =
    let left = g.I.Source.remaining c.args.input.now in
    let left' = g.I.Source.remaining c.explore.new.input in
    let written = g.O.Sink.written c.args.output.now in
    let written' = g.O.Sink.written c.explore.new.output in
    subst (λ (pairs : List MeshPair). IfErr c.explore.result (HasStoppedExplore pairs c.args.args.now.cancel c.args.args.now.states left left' written written'))
    c.as_slice.ensures
    (known_of c.explore.result c.as_slice.result.now c.args.args.now.cancel c.args.args.now.states left left' written written' c.explore.ensures.many)

pub returns-clause-failed : goal.returns-clause-failed
returns-clause-failed g c = failed_of c.explore.result _ _ c.explore.ensures.read c.explore.ensures.write
