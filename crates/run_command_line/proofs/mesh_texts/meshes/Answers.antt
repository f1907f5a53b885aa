use Rattle.std.proofs.Common.{◌≡◌, ◌∙◌, ◌≤◌, ap, length, map, option_map, rules}
use Rattle.std.proofs.lemmas.List.{length-map}
use Rattle.std.specs.Borrow.{Bor}
use Rattle.clap.specs.Words.{Text, found_of}
use Rattle.run_command_line.specs.Meshes.{pairs_of}
use Rattle.run_command_line.proofs.ExplorationsRead.{enough_given, no_text, none_given, some_given, texts_read, texts_unread, too_many_given}
use Rattle.run_command_line.proofs.mesh_texts.meshes.Goals as goal
use Rattle.run_command_line.proofs.mesh_texts.meshes.Goals.{then-is_empty-via-then-is_empty, then-is_empty-via-else-is_empty+then-texts-gt-MOST_MESHES}

pub returns-in_err-texts-clause-value : goal.returns-in_err-texts-clause-value
returns-in_err-texts-clause-value c = ap (option_map pairs_of) c.from_residual.ensures ∙ no_text (found_of c.args.matches.now) c.in_err-texts.ensures

pub returns-then-is_empty-clause-value : goal.returns-then-is_empty-clause-value
returns-then-is_empty-clause-value c =
    let texts = map (λ (t : Bor Text). t.now) c.in_ok-texts.texts.now in
    elim c.then-is_empty.branch [
      | then-is_empty-via-then-is_empty w ↦ texts_unread (found_of c.args.matches.now) texts c.in_ok-texts.ensures
          (rw (length-map c.in_ok-texts.texts.now (λ (t : Bor Text). t.now)) (none_given (length c.in_ok-texts.texts.now) w.if-is_empty.ensures))
      | then-is_empty-via-else-is_empty+then-texts-gt-MOST_MESHES w ↦ texts_unread (found_of c.args.matches.now) texts c.in_ok-texts.ensures
          (rw (length-map c.in_ok-texts.texts.now (λ (t : Bor Text). t.now)) (too_many_given (length c.in_ok-texts.texts.now) w.if-texts-gt-MOST_MESHES.true))
    ]

pub returns-clause-value : goal.returns-clause-value
returns-clause-value c =
    let texts = map (λ (t : Bor Text). t.now) c.in_ok-texts.texts.now in
    let long : length texts ≡ length c.in_ok-texts.texts.now = length-map c.in_ok-texts.texts.now (λ (t : Bor Text). t.now) in
    let low : 1 ≤ length c.in_ok-texts.texts.now = some_given (length c.in_ok-texts.texts.now) c.if-is_empty.ensures in
    let high : length c.in_ok-texts.texts.now ≤ 10 = search rules in
    c.pairs.ensures.pairs ∙ texts_read (found_of c.args.matches.now) texts c.in_ok-texts.ensures (rw long (enough_given (length c.in_ok-texts.texts.now) low high))
