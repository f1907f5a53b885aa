use Rattle.std.proofs.Common.{◌≡◌, ◌++◌, List, [], ℕ, slice_index, slice_index_or, ap, refl, sym, ◌∙◌}
use Rattle.model_jobs.specs.Jobs.{Job}
use Rattle.model_jobs.specs.Texts.{line_text}
use Rattle.draw_job.specs.Captions.{next_command}
use Rattle.draw_job.proofs.Captions.{command_is_next, line_is_planned, other_caption}
use Rattle.text_job.specs.Plan.{line_of}
use Rattle.mesh_text.specs.Turns.{places_of, state_up_to}
use Rattle.draw_job.proofs.points.caption_at.Goals as goal

pub returns-in_ok-add_attempt-in-Run : goal.returns-in_ok-add_attempt-in-Run
returns-in_ok-add_attempt-in-Run c =
    let state = state_up_to c.args.job.now c.args.place in
    let plan = c.lines.ensures ∙ ap (λ (job : Job). job.plan) c.job.view_is in
    let command : c.next_command-command.result ≡ next_command state c.in-Run.worker
    = c.next_command-command.ensures ∙ command_is_next state c.in-Run.worker (slice_index (places_of c.args.turns.now) c.in-Run.worker)
    (slice_index_or c.args.job.now.scripts c.in-Run.worker []) (c.requires.stands.at.scripts c.in-Run.worker) in
    record {
      line = line_of c.index-lines-place.result;
      planned = line_is_planned _ _ c.args.place c.index-lines-place.result plan c.requires.within c.index-lines-place.is;
      says = rw (c.in_ok-add_attempt-in-Run.ensures, c.new-words.ensures.items, c.in-Run.is, command) refl;
    }

pub returns-in_ok-add_plan_line-in_default : goal.returns-in_ok-add_plan_line-in_default
returns-in_ok-add_plan_line-in_default c =
    let plan = c.lines.ensures ∙ ap (λ (job : Job). job.plan) c.job.view_is in
    record {
      line = line_of c.index-lines-place.result;
      planned = line_is_planned _ _ c.args.place c.index-lines-place.result plan c.requires.within c.index-lines-place.is;
      says = c.in_ok-add_plan_line-in_default.ensures
          ∙ (ap (λ (words : List ℕ). words ++ line_text (line_of c.index-lines-place.result)) c.new-words.ensures.items
          ∙ sym (other_caption (state_up_to c.args.job.now c.args.place) c.index-lines-place.result c.in_default.not-Run));
    }
