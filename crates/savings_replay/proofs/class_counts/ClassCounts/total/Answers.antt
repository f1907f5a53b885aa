use Rattle.std.proofs.Common.{◌≡◌, length, rules, arith}
use Rattle.savings_replay.proofs.ClassCounts.{ten_added}
use Rattle.savings_replay.proofs.class_counts.ClassCounts.total.Goals as goal

pub overflow_add-result-4 : goal.overflow_add-result-4
overflow_add-result-4 c = let ten : length c.args.self.now.counts ≡ 10 = search rules in
    let added = ten_added c.args.self.now.counts ten in omega (arith, added, c.requires)

pub overflow_add-result-5 : goal.overflow_add-result-5
overflow_add-result-5 c = let ten : length c.args.self.now.counts ≡ 10 = search rules in
    let added = ten_added c.args.self.now.counts ten in omega (arith, added, c.requires)

pub overflow_add-result-6 : goal.overflow_add-result-6
overflow_add-result-6 c = let ten : length c.args.self.now.counts ≡ 10 = search rules in
    let added = ten_added c.args.self.now.counts ten in omega (arith, added, c.requires)

pub overflow_add-result-7 : goal.overflow_add-result-7
overflow_add-result-7 c = let ten : length c.args.self.now.counts ≡ 10 = search rules in
    let added = ten_added c.args.self.now.counts ten in omega (arith, added, c.requires)

pub overflow_add-result-8 : goal.overflow_add-result-8
overflow_add-result-8 c = let ten : length c.args.self.now.counts ≡ 10 = search rules in
    let added = ten_added c.args.self.now.counts ten in omega (arith, added, c.requires)
