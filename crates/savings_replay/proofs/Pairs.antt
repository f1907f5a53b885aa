-- A pair meshed or refused, a class searched and meshed, and a whole round.
use Rattle.std.proofs.Common.{◌≡◌, ◌∙◌, ℕ, ◌+◌, ◌≤◌, List, length, Option, Some, Ok, Err, ap, sym, refl}
use Rattle.std.specs.Prelude.{option_map, unwrap_or}
use Rattle.std.proofs.lemmas.Bool.{le-ltb}
use Rattle.model_heap.specs.Mesh.{mesh_of_class, mesh_whole}
use Rattle.model_heap.specs.Table.{Table, group_of}
use Rattle.model_search.specs.Search.{Found, Pairing, View, search, view_of}
use Rattle.model_words.specs.declared.refusals.Refusal.{Refusal}
use Rattle.savings_replay.specs.Sweeps.{swept}
use Rattle.mesh_spans.specs.Counts.{byte_count}
use Rattle.rand_core.specs.Steps.{first_words}
use Rattle.rand_xoshiro.specs.Xoshiro256.{plus_plus}
use Rattle.savings_replay.specs.Words.{after_words}
use Rattle.savings_replay.specs.Meshing.{Heaps, Meshing, after_mesh, after_round, class_meshed, class_sizes, classes_meshed, members_at, mesh_within, pair_meshed, pairs_meshed}

pub meshed_is : (m : Meshing) (pair : Pairing) (pages bytes : ℕ) (after : Table)
    → members_at m.table pair.source + members_at m.table pair.destination ≤ m.members
    → mesh_whole mesh_of_class m.table pair.source pair.destination ≡ Ok (record { count = pages; table = after })
    → option_map byte_count (group_of m.table pair.source) ≡ Some bytes
    → record {
      table = after;
      counts = record { meshes = m.counts.meshes + 1; refused = m.counts.refused; moved = m.counts.moved + bytes; tries = m.counts.tries };
      words = m.words;
      members = m.members;
    } ≡ pair_meshed m pair
unfolding pair_meshed
meshed_is m pair pages bytes after few e f =
    let moved : Option ℕ → Meshing = λ o. record {
      table = after;
      counts = record { meshes = m.counts.meshes + 1; refused = m.counts.refused; moved = m.counts.moved + unwrap_or o 0; tries = m.counts.tries };
      words = m.words;
      members = m.members;
    } in
    let within : mesh_within m.members m.table pair ≡ Ok (record { count = pages; table = after }) = rw (le-ltb m.members (members_at m.table pair.source + members_at m.table pair.destination) few) e in
    sym (ap (after_mesh m pair.source) within ∙ ap moved f)

pub refused_is : (m : Meshing) (pair : Pairing) (refusal : Refusal) → mesh_within m.members m.table pair ≡ Err refusal
    → record {
      table = m.table;
      counts = record { meshes = m.counts.meshes; refused = m.counts.refused + 1; moved = m.counts.moved; tries = m.counts.tries };
      words = m.words;
      members = m.members;
    } ≡ pair_meshed m pair
unfolding pair_meshed
refused_is m pair refusal e = sym (ap (after_mesh m pair.source) e)

pub class_is : (probe class : ℕ) (m after : Meshing) (view : View) (count : ℕ) (words state : List ℕ) (found : Found) (pairs : List Pairing)
    → view ≡ view_of m.table class → count ≡ length view.candidates → words ≡ first_words plus_plus count m.words → state ≡ after_words count m.words
    → found ≡ search view words probe → pairs ≡ found.pairs
    → after ≡ pairs_meshed (record m { words = state; counts = record m.counts { tries = m.counts.tries + found.probes } }) pairs
    → after ≡ class_meshed probe m class
unfolding class_meshed
class_is probe class m after view count words state found pairs e1 e2 e3 e4 e5 e6 e7 = rw (e7, e6, e5, e3, e4, e2, e1) refl

pub round_is : (probe : ℕ) (h : Heaps) (without table : Table) (after : Meshing) → without ≡ swept h.without → table ≡ swept h.meshing.table
    → after ≡ classes_meshed probe (record h.meshing { table = table }) class_sizes → record { without = without; meshing = after } ≡ after_round probe h
unfolding after_round
round_is probe h without table after e1 e2 e3 = rw (e3, e2, e1) refl
