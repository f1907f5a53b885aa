use Rattle.std.proofs.Common.{◌≡◌, ℕ, ◌+◌, ◌-◌, ◌<◌, ◌≤◌, ◌&&◌, true, nat_eq, nat_le, nat_lt, inl, inr, map, arith, refl, subst, sym}
use Rattle.std.proofs.lemmas.Bool.{and_parts}
use Rattle.std.proofs.lemmas.Bool.Decides.{leb_tells, nat_tests}
use Rattle.text_fields.specs.Commands.{plain_command}
use Rattle.text_fields.specs.declared.commands.SpeltCommand.{SpeltCommand}
use Rattle.history_reading.specs.CallWords.{plain_call}
use Rattle.model_intervals.specs.OverlappingCalls.{cell_of}
use Rattle.history_witness.specs.Slices.{TakesStoresAt, loads_at}
use Rattle.history_witness.specs.TakenLines.{taken_in}
use Rattle.history_witness.proofs.slices.takes_stores.Goals as goal

pub loop-distance-preserved : goal.loop-distance-preserved
loop-distance-preserved c = λ k below. elim (leb_tells (k + 1) c.loop-distance.distance) [
  | inl less ↦ (let l = less.1 in c.loop-distance.invariant k (omega (arith, l)))
  | inr last ↦ (
      let l = last.1 in
      let from = c.from.ensures in
      let same : c.in-Some.at ≡ c.in-Get.off + k = first_of (omega (arith, l, below, from), grind (arith, l, below, from)) in
      subst (λ (n : ℕ). TakesStoresAt (map plain_call c.args.calls.now) (taken_in c.args.taken.now) c.in-Get.cell n (plain_call c.args.call.now)) same
      (c.if-not-takes_stores_at.ensures refl))
]

pub returns : goal.returns
returns c = λ told at loads.
    let cell = c.in-Get.cell in
    let off = c.in-Get.off in
    let len = c.in-Get.len in
    let loads' : (nat_eq cell cell && nat_le off at && nat_lt at (off + len)) ≡ true =
    subst (λ (command : SpeltCommand). loads_at (cell_of (plain_command command)) at (plain_command command) ≡ true) c.in-Get.is loads in
    let parts = and_parts (nat_eq cell cell && nat_le off at) (nat_lt at (off + len)) loads' in
    let from = (and_parts (nat_eq cell cell) (nat_le off at) parts.0).1 in
    let to = parts.1 in
    let from' : off ≤ at = grind (arith, nat_tests, from) in
    let to' : at < off + len = grind (arith, nat_tests, to) in
    let over = c.loop-distance-test.false in
    let calls = map plain_call c.args.calls.now in
    let taken = taken_in c.args.taken.now in
    let load = plain_call c.args.call.now in
    let back : off + (at - off) ≡ at = omega (arith, from') in
    subst (λ (command : SpeltCommand). TakesStoresAt calls taken (cell_of (plain_command command)) at load) (sym c.in-Get.is)
    (subst (λ (n : ℕ). TakesStoresAt calls taken cell n load) back (c.loop-distance.invariant (at - off) (omega (arith, from', to', over))))
