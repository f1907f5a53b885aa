use Rattle.std.proofs.Common.{◌≡◌, ◌<◌, ◌*◌, ◌/◌, ◌^◌, slice_index, arith, rules}
use Rattle.std.proofs.lemmas.Nat.{ones-le}
use Rattle.mesh_bits.proofs.BitsLemmas.{clear_count_word}
use Rattle.mesh_bits.proofs.bitmap.skip_words.Goals as goal

pub loop-first-preserved : goal.loop-first-preserved
loop-first-preserved c =
    let fits : slice_index c.args.words.now (c.loop-first.first / 64) < 2 ^ 64 = search rules in
    let from : 64 * (c.loop-first.first / 64) ≡ c.loop-first.first = omega arith in
    let word = clear_count_word c.args.words.now (c.loop-first.first / 64) c.loop-first.first from fits in
    let most = ones-le 64 (slice_index c.args.words.now (c.loop-first.first / 64)) fits in
    record {
      within = omega arith;
      whole = omega arith;
      count = omega (arith, word, most);
    }

pub returns-then-left-clear-clause-last : goal.returns-then-left-clear-clause-last
returns-then-left-clear-clause-last c = grind (arith, clear_count_word)
