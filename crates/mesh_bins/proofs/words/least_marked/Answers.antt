use Rattle.std.proofs.Common.{◌≡◌, ◌+◌, ◌*◌, ◌/◌, ◌%◌, None, slice_index, true, length, arith, rules}
use Rattle.std.proofs.lemmas.Grind.{common_steps}
use Rattle.mesh_bins.specs.Words.{IsFirst, IsLeast, has, bit}
use Rattle.mesh_bins.proofs.WordLemmas.{found_by_summary, marked_inside, marked_some, none_by_summary, passed_start, passed_word}
use Rattle.mesh_bins.proofs.words.least_marked.Goals as goal

pub returns-in_err-next : goal.returns-in_err-next
returns-in_err-next c =
    let word : c.in_ok-word.field-0.now ≡ slice_index c.args.words.now (c.args.from / 64) = grind (arith, common_steps) in
    let none : IsLeast (bit (slice_index c.args.words.now (c.args.from / 64))) (c.args.from % 64) 64 None = rw word at c.in_default.ensures in
    let passed = passed_word _ _ _ _ (passed_start _ _) none in
    rw c.from_residual-in_err-next.ensures (none_by_summary _ _ _ _ _ _
    c.requires.marked passed c.in_err-next.ensures (let long = c.requires.long in omega (arith, long)))

pub returns-in_err-bit : goal.returns-in_err-bit
returns-in_err-bit c =
    let passes : has c.args.marks.now c.in_ok-next.next ≡ true = (let first : IsFirst (has c.args.marks.now) (c.args.from / 64 + 1) (64 * length c.args.marks.now) c.in_ok-next.next = c.in_ok-next.ensures in first.passes) in
    absurd (marked_some c.args.words.now c.args.marks.now c.in_ok-next.next c.requires.marked (search rules) passes c.in_err-bit.ensures)

pub returns : goal.returns
returns c =
    let word : c.in_ok-word.field-0.now ≡ slice_index c.args.words.now (c.args.from / 64) = grind (arith, common_steps) in
    let passed = passed_word _ _ _ _ (passed_start _ _) (rw word at c.in_default.ensures) in
    let next : IsFirst (has c.args.marks.now) (c.args.from / 64 + 1) (64 * length c.args.marks.now) c.in_ok-next.next = c.in_ok-next.ensures in
    let inside = marked_inside _ _ _ c.requires.marked next.passes in
    found_by_summary _ _ _ _ _ _ _ _ _ c.requires.marked passed (omega arith) next (omega (arith, inside)) c.in_ok-bit.ensures (omega arith)
