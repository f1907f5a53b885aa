use Rattle.std.proofs.Common.{◌++◌, [], List, refl, subst}
use Rattle.explore_verdict.specs.Conditions.{condition_pieces}
use Rattle.explore_verdict.specs.Pieces.{HasWritten, Piece}
use Rattle.explore_verdict.proofs.PiecesMore.{conditions_end, conditions_more, hold_more}
use Rattle.explore_verdict.proofs.Runs.{has_both, has_none}
use Rattle.explore_verdict.proofs.conditions.add_conditions.Goals as goal

pub loop-rest-preserved : goal.loop-rest-preserved
loop-rest-preserved c =
    let reached = c.args.reached.now in let x = reached.system.setting in let states = reached.system.states in
    let outcomes = c.args.outcomes.now in let condition = c.condition-item.result in let l = c.loop-rest in
    record {
      hold = hold_more states outcomes l.hold c.in_ok-hold.field-0 _ l.rest.now condition _ c.in-len1-up.len_at_least l.invariant.hold c.condition-item.is
          c.in_ok-hold.ensures.holds;
      pieces = l.invariant.pieces ++ condition_pieces states outcomes condition;
      written = has_both x reached l.invariant.pieces (condition_pieces states outcomes condition) c.args.text.now.items l.text.items c.add_condition.new.text.items
          l.invariant.written c.in_ok-hold.ensures.written;
      all = conditions_more states outcomes l.invariant.pieces _ l.rest.now condition _ c.in-len1-up.len_at_least c.condition-item.is l.invariant.all;
    }

pub loop-rest-init : goal.loop-rest-init
loop-rest-init c = record {
  hold = refl;
  pieces = [];
  written = has_none c.args.reached.now.system.setting c.args.reached.now c.args.text.now.items;
  all = refl;
}

pub returns-clause-written : goal.returns-clause-written
returns-clause-written c =
    let reached = c.args.reached.now in let l = c.loop-rest in
    subst (λ (pieces : List Piece). HasWritten reached.system.setting reached pieces c.args.text.now.items l.text.items)
    (conditions_end reached.system.states c.args.outcomes.now l.invariant.pieces _ l.rest.now c.in_default.len_below l.invariant.all) l.invariant.written
