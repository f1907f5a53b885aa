use Rattle.std.proofs.Common.{◌≡◌, ℕ, List, nat_eq, ap, sym, ◌∙◌, arith, bit_or}
use Rattle.std.proofs.lemmas.Bool.{eqb-true}
use Rattle.std.specs.Simd.Lanes.{fold_l}
use Rattle.mesh_bits.proofs.FourLanes.{lanes_are}
use Rattle.mesh_bits.proofs.TwoSets.{bits_apart, one_word_apart, shared_bits, words_apart}
use Rattle.mesh_bits.proofs.bitmap.share_no_bit.Goals as goal

pub returns-then-words-others-eq0 : goal.returns-then-words-others-eq0
returns-then-words-others-eq0 c =
    let is : c.any_lane.result ≡ shared_bits c.args.words.now c.args.others.now
    = c.any_lane.ensures ∙ ap (λ (ws : List ℕ). fold_l bit_or 0 ws) c.both_lanes.ensures.both
    ∙ lanes_are c.args.words.now c.args.others.now c.both_lanes.ensures.many c.both_lanes.ensures.as_many in (
      λ h. bits_apart c.args.words.now c.args.others.now (sym is ∙ eqb-true _ 0 h),
      λ h. ap {B = _} (λ (n : ℕ). nat_eq n 0) (is ∙ words_apart c.args.words.now c.args.others.now c.both_lanes.ensures.words h),
    )

pub returns-else-words-others-eq0 : goal.returns-else-words-others-eq0
returns-else-words-others-eq0 c = (
  λ h. absurd (c.if-words-others-eq0.false (eqb-true _ 0 h)),
  λ h. absurd (c.if-words-others-eq0.false (one_word_apart c.args.words.now c.args.others.now 0 (c.fits-words 0) (omega arith) h)),
)
