use Rattle.std.proofs.Common.{◌*◌, ◌≤◌, ap, length, arith}
use Rattle.mesh_spans.proofs.CountLemmas.{group_few}
use Rattle.mesh_spans.proofs.filing.counts_of.Goals as goal

pub overflow_cast-result : goal.overflow_cast-result
overflow_cast-result c =
    omega (arith, c.bytes.ensures.sound.few_members, ap length c.members.ensures.value)

pub overflow_mul-result : goal.overflow_mul-result
overflow_mul-result c =
    let few : length c.members.result.now * c.pages.result ≤ 24
    = rw (c.members.ensures.value, c.pages.ensures.value, c.class.ensures) (group_few c.in-Some.group c.bytes.ensures.sound).mapped in
    omega (arith, few)

pub returns-in-Some-clause-few : goal.returns-in-Some-clause-few
returns-in-Some-clause-few c = grind (arith, group_few)
