use Rattle.std.proofs.lemmas.Result.{on_ok_weaker}
use Rattle.draw_html.specs.Pages.{page_end}
use Rattle.draw_job.proofs.Described.{ended_as, ended_by}
use Rattle.draw_job.proofs.Presented.{end_stopped, front_written, page_written, points_stopped, start_stopped}
use Rattle.draw_job.proofs.pages.write_page.Goals as goal
use Rattle.draw_job.specs.Forms.{HasStoppedIn}
use Rattle.draw_job.specs.Pages.{HasStoppedPage}

pub returns-in_err-write_start-clause-stopped : goal.returns-in_err-write_start-clause-stopped
returns-in_err-write_start-clause-stopped g c =
    let title = c.args.title.now in
    let job = c.args.job.now in
    let old = g.O.Sink.written c.args.output.now in
    let new = g.O.Sink.written c.write_start.new.output in
    ended_by (HasStoppedPage title c.args.from c.args.to job old new) c.in_err-write_start.field-0.0 c.from_residual.result
    c.from_residual.ensures.1 (start_stopped title c.args.from c.args.to job old new c.in_err-write_start.field-0.0 c.in_err-write_start.ensures.stopped)

pub returns-in_err-write_points-clause-stopped : goal.returns-in_err-write_points-clause-stopped
returns-in_err-write_points-clause-stopped g c =
    let title = c.args.title.now in
    let job = c.args.job.now in
    let old = g.O.Sink.written c.args.output.now in
    let new = g.O.Sink.written c.write_points.new.output in
    ended_by (HasStoppedPage title c.args.from c.args.to job old new) c.in_err-write_points.field-0.0 c.from_residual-in_err-write_points.result
    c.from_residual-in_err-write_points.ensures.1 (points_stopped title c.args.from c.args.to job old new (g.O.Sink.written c.write_start.new.output)
    c.in_ok-write_start.ensures.wrote c.in_err-write_points.field-0.0 c.in_err-write_points.ensures.stopped)

pub returns-clause-written : goal.returns-clause-written
returns-clause-written g c =
    let title = c.args.title.now in
    let job = c.args.job.now in
    let old = g.O.Sink.written c.args.output.now in
    let mid = g.O.Sink.written c.write_points.new.output in
    let front = front_written title c.args.from c.args.to job old mid (g.O.Sink.written c.write_start.new.output) c.in_ok-write_start.ensures.wrote c.in_ok-write_points.ensures.written in
    on_ok_weaker c.write_end.result (λ wrote. page_written title c.args.from c.args.to job old (g.O.Sink.written c.write_end.new.output) mid front wrote) c.write_end.ensures.wrote

pub returns-clause-stopped : goal.returns-clause-stopped
returns-clause-stopped g c =
    let title = c.args.title.now in
    let job = c.args.job.now in
    let old = g.O.Sink.written c.args.output.now in
    let mid = g.O.Sink.written c.write_points.new.output in
    let new = g.O.Sink.written c.write_end.new.output in
    let front = front_written title c.args.from c.args.to job old mid (g.O.Sink.written c.write_start.new.output) c.in_ok-write_start.ensures.wrote c.in_ok-write_points.ensures.written in
    ended_as (HasStoppedIn page_end mid new) (HasStoppedPage title c.args.from c.args.to job old new) c.write_end.result c.write_end.ensures.stopped
    (λ error stopped. end_stopped title c.args.from c.args.to job old new mid front error stopped)
