use Rattle.std.proofs.Common.{◌++◌, [], ℕ, arith, List, false, if◌then◌else◌, length, refl, slice_get, slice_index_or, subst}
use Rattle.explore_verdict.specs.Pieces.{HasWritten, Piece}
use Rattle.explore_verdict.specs.Runs.{shown_at}
use Rattle.explore_verdict.proofs.PiecesMore.{few_more, unexpected_end, unexpected_more}
use Rattle.explore_verdict.proofs.Runs.{has_both, has_none}
use Rattle.explore_verdict.proofs.report.add_unexpected.Goals as goal

pub loop-rest-init : goal.loop-rest-init
loop-rest-init c = record {
  pieces = [];
  written = has_none c.args.reached.now.system.setting c.args.reached.now c.args.text.now.items;
  all = refl;
  few = omega arith;
}

pub loop-rest-preserved : goal.loop-rest-preserved
loop-rest-preserved c =
    let reached = c.args.reached.now in let outcomes = c.args.outcomes.now in let flags = c.args.flags.now in let l = c.loop-rest in
    let place : ℕ = slice_index_or l.rest.now 0 0 in
    let added : List Piece = if slice_index_or flags place false then shown_at l.number (slice_get outcomes place) else [] in
    record {
      pieces = l.invariant.pieces ++ added;
      written = has_both reached.system.setting reached l.invariant.pieces added c.args.text.now.items l.text.items c.add_unexpected_at.new.text.items
          l.invariant.written c.in_ok-add_unexpected_at.ensures;
      all = unexpected_more outcomes flags l.number l.invariant.pieces _ l.rest.now place 0 c.in-len1-up.len_at_least refl l.invariant.all;
      few = few_more l.number (length c.args.order.now) l.rest.now c.in-len1-up.len_at_least l.invariant.few;
    }

pub returns : goal.returns
returns c =
    let reached = c.args.reached.now in let l = c.loop-rest in
    subst (λ (pieces : List Piece). HasWritten reached.system.setting reached pieces c.args.text.now.items l.text.items)
    (unexpected_end c.args.outcomes.now c.args.flags.now l.number l.invariant.pieces _ l.rest.now c.in_default.len_below l.invariant.all) l.invariant.written
