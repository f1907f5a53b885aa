use Rattle.std.proofs.Common.{◌≡◌, ◌∙◌, ap, subst, sym, ◌+◌, drop}
use Rattle.std.proofs.lemmas.Option.{slice_get_read}
use Rattle.std.proofs.lemmas.Result.{IfOk-weaker}
use Rattle.std.specs.List.{fold}
use Rattle.explore_report.specs.CommandTexts.{answer_entries, answer_order, answers_order}
use Rattle.explore_report.specs.Sorting.{AreNumbered, entry_values, put_entry, sort_entries, unnumbered}
use Rattle.explore_report.proofs.CommandTexts.{plain_key, put_all, put_answer, put_next, skip_next}
use Rattle.explore_report.proofs.Sorting.{numbered_values, with_keys, with_values}
use Rattle.explore_report.proofs.answer_text.answers_order.Goals as goal
use Rattle.explore_report.proofs.answer_text.answers_order.Goals.{then-is_note_of+in_ok-key+in_ok-put, else-is_note_of}

pub loop-at-preserved : goal.loop-at-preserved
loop-at-preserved c =
    let notes = c.args.notes.now in
    let at = c.loop-at.at in
    let note = c.index-notes-at.result in
    let worker = c.args.worker in
    let place = c.args.place in
    let all = sort_entries answer_order (answer_entries worker place 0 notes) in
    let there = slice_get_read notes _ at note c.loop-at.invariant.end c.loop-at-test.true c.index-notes-at.is in
    record {
      end = c.loop-at.invariant.end;
      numbered = elim c.if-is_note_of.branch [
        | then-is_note_of+in_ok-key+in_ok-put w ↦ subst (λ sorted. AreNumbered sorted.entries) (sym w.sorted-is) w.in_ok-put.ensures.numbered
        | else-is_note_of w ↦ subst (λ sorted. AreNumbered sorted.entries) (sym w.sorted-is) c.loop-at.invariant.numbered
      ];
      entries = elim c.if-is_note_of.branch [
        | then-is_note_of+in_ok-key+in_ok-put w ↦
            subst (λ sorted. fold (put_entry answer_order) (with_keys plain_key (unnumbered sorted.entries)) (answer_entries worker place (at + 1) (drop (at + 1) notes)) ≡ all)
            (sym w.sorted-is)
            (put_next worker place notes at note _ _ all there w.if-is_note_of.ensures c.loop-at.invariant.entries
            (put_answer _ at _ w.in_ok-key.key (unnumbered c.loop-at.sorted.entries) (unnumbered w.put.new.sorted.entries) w.in_ok-key.ensures.blocked
            w.in_ok-key.ensures.text w.in_ok-put.ensures.entries))
        | else-is_note_of w ↦
            subst (λ sorted. fold (put_entry answer_order) (with_keys plain_key (unnumbered sorted.entries)) (answer_entries worker place (at + 1) (drop (at + 1) notes)) ≡ all)
            (sym w.sorted-is) (skip_next worker place notes at note _ all there w.if-is_note_of.ensures c.loop-at.invariant.entries)
      ];
    }

pub returns : goal.returns
returns c =
    let entries = c.loop-at.sorted.entries in
    let notes = c.args.notes.now in
    let all : with_keys plain_key (unnumbered entries) ≡ sort_entries answer_order (answer_entries c.args.worker c.args.place 0 notes) =
    put_all c.args.worker c.args.place notes c.loop-at.at (with_keys plain_key (unnumbered entries)) _ c.loop-at-test.false c.loop-at.invariant.entries in
    let values : entry_values entries ≡ answers_order c.args.worker c.args.place notes =
    sym (numbered_values entries) ∙ (sym (with_values plain_key (unnumbered entries)) ∙ ap entry_values all) in
    IfOk-weaker c.values_of.result _ _ (λ order is. is ∙ values) c.values_of.ensures
