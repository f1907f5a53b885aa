use Rattle.std.proofs.Common.{◌+◌, List, ℕ, inr, refl, subst, sym}
use Rattle.std.proofs.lemmas.Result.{on_ok_weaker}
use Rattle.draw_text.specs.Points.{point_text}
use Rattle.draw_job.specs.Points.{IsPoint, IsPointFrom}
use Rattle.draw_job.proofs.texts.describe_point.Goals as goal

pub returns-clause-added : goal.returns-clause-added
returns-clause-added c =
    let played = c.in-Some.played in
    let number = c.args.place + 1 in
    let point = subst (IsPointFrom c.args.job.now c.args.from number) c.in-Some.is c.in_ok-played.ensures.point in
    let said = subst (λ (words : List ℕ). IsPoint c.args.job.now number words played.answer.items played.frame) (sym c.as_slice.ensures.value) point.1 in
    let told = subst (λ (answer : List ℕ). IsPoint c.args.job.now number c.as_slice.result.now answer played.frame) (sym c.as_slice-2.ensures.value) said in
    on_ok_weaker c.add_point.result (λ added. record {
      first = c.args.text.now.items;
      last = point_text number c.as_slice.result.now c.as_slice-2.result.now played.frame;
      is_first = refl;
      is_last = inr (
        point.0,
        record {
          words = c.as_slice.result.now;
          answer = c.as_slice-2.result.now;
          frame = played.frame;
          point = told;
          is = refl;
        },
      );
      all = added;
    }) c.add_point.ensures
