use Rattle.std.proofs.Common.{◌++◌, ap, ◌∙◌}
use Rattle.draw_job.specs.Frames.{first_in, leads_of_member, listing}
use Rattle.draw_job.proofs.Rows.{rows_more}
use Rattle.draw_job.proofs.shown.add_leads.Goals as goal

pub loop-place-preserved : goal.loop-place-preserved
loop-place-preserved c =
    let leads = leads_of_member c.args.heap.now c.args.class in
    rows_more (λ place. listing (first_in c.args.heap.now c.args.group place) leads) c.loop-place.place c.args.rows.now.items c.loop-place.rows.items
    c.add_member_leads.new.rows.items c.loop-place.invariant
    (c.in_ok-add_member_leads.ensures ∙ ap (λ first. c.loop-place.rows.items ++ listing first leads) c.member.ensures.value)
