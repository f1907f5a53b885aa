use Rattle.std.proofs.Common.{◌≡◌, ◌<◌, ◌+◌, ◌*◌, ◌/◌, ◌%◌, None, Some, slice_index, true, length, arith, rules}
use Rattle.std.proofs.lemmas.Grind.{common_steps}
use Rattle.mesh_bins.specs.Words.{IsFirst, IsLeast, has, bit}
use Rattle.mesh_bins.proofs.WordLemmas.{found_by_summary, found_in_word, least_contained, marked_some, none_by_summary, passed_start, passed_word}
use Rattle.mesh_bins.proofs.bin.Bin.least.Goals as goal

pub returns-in-Some : goal.returns-in-Some
returns-in-Some c =
    let word : c.in_ok-word.field-0.now ≡ slice_index c.self.inside.words.items (c.args.from / 64) = grind (arith, common_steps) in
    let inside : c.args.from / 64 < 1024 = grind (arith, common_steps) in
    let low : IsFirst (bit (slice_index c.self.inside.words.items (c.args.from / 64))) (c.args.from % 64) 64 c.in-Some.bit = rw word at c.in-Some.ensures in
    least_contained c.self.inside.words.items c.args.self.now c.args.from 65536 (Some (c.args.from / 64 * 64 + c.in-Some.bit)) c.self.view_is
    (found_in_word c.self.inside.words.items c.args.from 65536 (c.args.from / 64) (c.args.from % 64) c.in-Some.bit _
    (passed_start c.self.inside.words.items c.args.from) (omega arith) (omega arith) low (omega (arith, inside)) (omega arith))

pub returns-in_err-next : goal.returns-in_err-next
returns-in_err-next c =
    let word : c.in_ok-word.field-0.now ≡ slice_index c.self.inside.words.items (c.args.from / 64) = grind (arith, common_steps) in
    let none : IsLeast (bit (slice_index c.self.inside.words.items (c.args.from / 64))) (c.args.from % 64) 64 None = rw word at c.in_default.ensures in
    let passed = passed_word c.self.inside.words.items c.args.from (c.args.from / 64) (c.args.from % 64) (passed_start c.self.inside.words.items c.args.from) none in
    rw c.from_residual-in_err-next.ensures (least_contained c.self.inside.words.items c.args.self.now c.args.from 65536 None c.self.view_is
    (none_by_summary c.self.inside.words.items c.self.inside.summary c.args.from (64 * length c.self.inside.summary) 65536 (c.args.from / 64 + 1) c.self.invariant.marked passed
    c.in_err-next.ensures (let summed = c.self.invariant.summed in omega (arith, summed))))

pub returns-in_err-bit : goal.returns-in_err-bit
returns-in_err-bit c =
    let at : c.index.result.now ≡ slice_index c.self.inside.words.items c.in_ok-next.next = grind (arith, common_steps) in
    let none : IsLeast (bit (slice_index c.self.inside.words.items c.in_ok-next.next)) 0 64 None = rw at at c.in_err-bit.ensures in
    let passes : has c.self.inside.summary c.in_ok-next.next ≡ true = (let first : IsFirst (has c.self.inside.summary) (c.args.from / 64 + 1) (64 * length c.self.inside.summary) c.in_ok-next.next = c.in_ok-next.ensures in first.passes) in
    absurd (marked_some c.self.inside.words.items c.self.inside.summary c.in_ok-next.next c.self.invariant.marked (search rules) passes none)

pub returns : goal.returns
returns c =
    let word : c.in_ok-word.field-0.now ≡ slice_index c.self.inside.words.items (c.args.from / 64) = grind (arith, common_steps) in
    let none : IsLeast (bit (slice_index c.self.inside.words.items (c.args.from / 64))) (c.args.from % 64) 64 None = rw word at c.in_default.ensures in
    let passed = passed_word c.self.inside.words.items c.args.from (c.args.from / 64) (c.args.from % 64) (passed_start c.self.inside.words.items c.args.from) none in
    let next : IsFirst (has c.self.inside.summary) (c.args.from / 64 + 1) (64 * length c.self.inside.summary) c.in_ok-next.next = c.in_ok-next.ensures in
    let at : c.index.result.now ≡ slice_index c.self.inside.words.items c.in_ok-next.next = grind (arith, common_steps) in
    let low : IsFirst (bit (slice_index c.self.inside.words.items c.in_ok-next.next)) 0 64 c.in_ok-bit.bit = rw at at c.in_ok-bit.ensures in
    least_contained c.self.inside.words.items c.args.self.now c.args.from 65536 (Some (c.in_ok-next.next * 64 + c.in_ok-bit.bit)) c.self.view_is
    (found_by_summary c.self.inside.words.items c.self.inside.summary c.args.from (64 * length c.self.inside.summary) 65536 (c.args.from / 64 + 1) c.in_ok-next.next c.in_ok-bit.bit _
    c.self.invariant.marked passed (omega arith) next (let below = next.below in let summed = c.self.invariant.summed in omega (arith, below, summed)) low (omega arith))
