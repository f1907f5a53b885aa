use Rattle.std.proofs.Common.{◌++◌, ap, sym, subst, ◌∙◌, List, ℕ}
use Rattle.savings_report.specs.FigureSamples.{lives_no_less, saves_no_less}
use Rattle.savings_report.specs.Figures.{Gathered, IsOf}
use Rattle.savings_report.specs.FigureTexts.{figures_text}
use Rattle.savings_report.proofs.FigureLemmas.{six_pieces}
use Rattle.savings_report.proofs.MomentLemmas.{found_best, lives_comparison, saves_comparison}
use Rattle.savings_report.proofs.table.figures.Figures.text.Goals as goal

pub returns : goal.returns
unfolding figures_text
returns c = λ window samples h.
    let g = subst (λ (f : Gathered). IsOf f window samples) (sym c.self.view_is) h in
    let saved = sym (found_best saves_no_less saves_comparison _ _ g.measured_is.most_saved_is) in
    let live = sym (found_best lives_no_less lives_comparison _ _ g.measured_is.most_live_is) in
    let calls = rw g.calls_are at c.in_ok-add_calls.ensures in
    let rows = rw live at (c.in_ok-add_rows.ensures _ _ g.measured_is) in
    let most = rw (saved, live) at c.in_ok-add_most.ensures in
    let empty = c.in_ok-add_empty.ensures _ _ g.measured_is in
    let classes = c.in_ok-add_classes.ensures _ _ g.measured_is in
    six_pieces _ _ _ _ _ _ _ _ _ _ _ _ _ calls rows most empty c.in_ok-add_meshes.ensures classes
    ∙ ap (λ (o : List ℕ). o ++ figures_text window samples c.args.counts.now) c.new-text.ensures.items
