use Rattle.std.proofs.Common.{◌≡◌, ◌++◌, ℕ, ◌+◌, true, false, List, [], drop, ap, sym, ◌∙◌, append-nil, Global, Vec}
use Rattle.std.proofs.lemmas.List.{drop_all}
use Rattle.text_fields.specs.Lines.{texts}
use Rattle.history_witness.specs.TakenLines.{is_kept, lines_at, taken_in}
use Rattle.history_witness.proofs.KeptLines.{line_kept, line_left, lines_end, lines_first}
use Rattle.history_witness.proofs.lines.taken_lines.Goals as goal
use Rattle.history_witness.proofs.lines.taken_lines.Goals.{then-is_kept+in_ok-add_line, else-is_kept}

pub loop-place-init : goal.loop-place-init
loop-place-init c =
    let kept = is_kept (taken_in c.args.taken.now) in
    ap (λ (l : List ℕ). l ++ lines_at (λ i. kept (0 + i)) (texts (drop 0 c.args.lines.now))) c.new-text.ensures.items ∙ lines_first kept c.args.lines.now

pub loop-place-preserved : goal.loop-place-preserved
loop-place-preserved c =
    let kept = is_kept (taken_in c.args.taken.now) in
    let place = c.loop-place.place in
    let lines = c.args.lines.now in
    let text = c.loop-place.text.items in
    let rest = lines_at (λ i. kept (place + 1 + i)) (texts (drop (place + 1) lines)) in
    elim c.if-is_kept.branch [
      | then-is_kept+in_ok-add_line w ↦ (
          let on : kept place ≡ true = sym c.is_kept.ensures ∙ w.if-is_kept.true in
          ap (λ (v : Vec ℕ Global). v.items ++ rest) w.text-is
          ∙ line_kept kept lines place _ text w.add_line.new.text.items c.loop-place-test.true on w.in_ok-add_line.ensures ∙ c.loop-place.invariant)
      | else-is_kept w ↦ (
          let off : kept place ≡ false = sym c.is_kept.ensures ∙ w.if-is_kept.false in
          ap (λ (v : Vec ℕ Global). v.items ++ rest) w.text-is
          ∙ line_left kept lines place (record { ref_ptr = c.args.lines.ref_ptr; now = [] }) text c.loop-place-test.true off ∙ c.loop-place.invariant)
    ]

pub returns : goal.returns
returns c =
    let kept = is_kept (taken_in c.args.taken.now) in
    let place = c.loop-place.place in
    let lines = c.args.lines.now in
    sym (append-nil c.loop-place.text.items) ∙ ap (λ (l : List ℕ). c.loop-place.text.items ++ l) (sym (lines_end kept lines place (drop_all place lines c.loop-place-test.false)))
    ∙ c.loop-place.invariant
