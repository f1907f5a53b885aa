use Rattle.explore_report.proofs.Sorting.{is_put}
use Rattle.explore_report.proofs.sorted.put.Goals as goal

pub returns-clause-numbered : goal.returns-clause-numbered
returns-clause-numbered g c =
    (is_put g.K.Ord.cmp c.args.key _ c.args.value _ _ c.requires c.len-number.ensures.len c.in_ok-insert.ensures.entries).numbered

pub returns-clause-entries : goal.returns-clause-entries
returns-clause-entries g c =
    (is_put g.K.Ord.cmp c.args.key _ c.args.value _ _ c.requires c.len-number.ensures.len c.in_ok-insert.ensures.entries).entries
