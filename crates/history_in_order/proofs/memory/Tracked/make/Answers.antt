use Rattle.std.proofs.Common.{ℕ, List, Some, arith, subst}
use Rattle.std.specs.Ordering.{nat_cmp}
use Rattle.std.specs.BTreeMap.{get}
use Rattle.history_in_order.specs.Stands.{IsSetAt}
use Rattle.history_in_order.proofs.Lines.{set_makes_one}
use Rattle.history_in_order.proofs.Trees.{made_stands, objects_set, serials_set}
use Rattle.history_in_order.proofs.memory.Tracked.make.Goals as goal

pub returns-clause-made : goal.returns-clause-made
returns-clause-made c = λ r st vacant.
    let g = get nat_cmp c.args.self.now.objects in
    let g' = get nat_cmp c.set.new.map in
    let added = subst (λ (bytes : List ℕ). IsSetAt g g' c.args.self.now.made
    (Some (record { object = record { address = c.args.address; bytes = bytes }; serial = c.args.serial; made_at = c.args.line }))) c.new-bytes.ensures c.in_ok-set.ensures.set in
    made_stands _ _ _ r _ _ _ _ _ _ _ _ c.args.cell c.args.len c.args.address c.args.serial st c.ranges.cell.fits c.requires.some
    (let narrow = c.requires.narrow in let long = c.requires.long in omega (arith, narrow, long)) vacant
    (objects_set g g' c.args.self.now.made _ added) (serials_set g g' c.args.self.now.made _ added)
    c.in_ok-set_start.ensures c.in_ok-point.ensures c.in_ok-add.ensures.added

pub returns-clause-lined : goal.returns-clause-lined
returns-clause-lined c = set_makes_one (get nat_cmp c.args.self.now.objects) (get nat_cmp c.set.new.map) c.args.self.now.made c.args.line c.args.serial c.args.address c.new-bytes.result c.in_ok-set.ensures.set
