use Rattle.std.proofs.Common.{◌≡◌, ◌≤◌, ◌∙◌, ap, arith, length, subst, sym}
use Rattle.std.proofs.lemmas.List.{length-map}
use Rattle.std.specs.Prelude.{map}
use Rattle.mesh_search.specs.Pairs.{pairing}
use Rattle.model_search.specs.Search.{Found}
use Rattle.savings_replay.specs.Mesher.{class_tries, meshing_of}
use Rattle.savings_replay.proofs.PairCounts.{search_few, tries_within}
use Rattle.savings_replay.proofs.Pairs.{class_is}
use Rattle.savings_replay.proofs.meshing.Mesher.mesh_class.Goals as goal
use Rattle.savings_replay.proofs.meshing.Mesher.mesh_class.Goals.{After-as_slice-2}

pairs_are : (c : After-as_slice-2) → map pairing c.as_slice-2.result.now ≡ c.in_ok-found.found.pairs
pairs_are c = c.as_slice-2.ensures ∙ ap (λ (f : Found). f.pairs) c.found.view_is

pairs_few : (c : After-as_slice-2) → length c.as_slice-2.result.now ≤ 32768
pairs_few c =
    rw (sym (length-map c.as_slice-2.result.now pairing), pairs_are c, c.in_ok-found.ensures.value) (search_few c.in_ok-view.view c.as_slice.result.now c.args.probe (subst (λ n. n ≤ 65536) c.len.ensures.value c.len.ensures.few))

probes_are : (c : After-as_slice-2) → c.from.result ≡ c.in_ok-found.found.probes
probes_are c = c.from.ensures ∙ ap (λ (f : Found). f.probes) c.found.view_is

tries_few : (c : After-as_slice-2) → c.from.result ≤ class_tries
tries_few c =
    let count = c.len.ensures.few in
    let most = tries_within c.args.probe (length c.in_ok-view.view.candidates) c.in_ok-found.found.probes c.ranges.probe.fits
    (subst (λ n. n ≤ 65536) c.len.ensures.value count) c.in_ok-found.ensures.probes in
    let is = probes_are c in omega (arith, most, is)

pub mesh_pairs-requires : goal.mesh_pairs-requires
mesh_pairs-requires c =
    let few = pairs_few c in
    let tried = tries_few c in
    record {
      counted = omega (arith, few, c.requires.counted);
      moved = omega (arith, few, c.requires.moved);
      tried = omega (arith, tried, c.requires.tried);
    }

pub returns-clause-value : goal.returns-clause-value
returns-clause-value c =
    let at = (goal.at.returns-clause-value c).After-as_slice-2 in
    class_is c.args.probe c.args.class (meshing_of c.args.self.now) _ c.in_ok-view.view c.len.result c.as_slice.result.now c.draw.new.generator
    c.in_ok-found.found (map pairing c.as_slice-2.result.now) c.in_ok-view.ensures c.len.ensures.value (c.as_slice.ensures.value ∙ c.in_ok-words.ensures.words)
    c.in_ok-words.ensures.after c.in_ok-found.ensures.value (pairs_are at) (rw (probes_are at) at c.mesh_pairs.ensures.value)

pub returns-clause-counts : goal.returns-clause-counts
returns-clause-counts c =
    let few = pairs_few (goal.at.returns-clause-counts c).After-as_slice-2 in
    let tried = tries_few (goal.at.returns-clause-counts c).After-as_slice-2 in
    record {
      counted = omega (arith, few, c.mesh_pairs.ensures.counts.counted);
      moved = omega (arith, few, c.mesh_pairs.ensures.counts.moved);
      tried = omega (arith, tried, c.mesh_pairs.ensures.counts.tried);
    }
