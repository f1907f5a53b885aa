-- The text of a plot, after its parts were added.
use Rattle.std.proofs.Common.{◌≡◌, ◌⊎◌, inl, inr, ℕ, ◌*◌, ◌≤◌, max, List, [], ◌++◌, Option, Some, None, Result, Ok, Err, IfOk, IfSome, codes, sym, subst, refl}
use Rattle.draw_svg.proofs.Adding.{adds_both, adds_to}
use Rattle.draw_svg.specs.Files.{root_text, style_text}
use Rattle.draw_svg.specs.Shapes.{Draws, shapes_text}
use Rattle.draw_svg.specs.Texts.{Adds}
use Rattle.savings_report.specs.Courses.{Series}
use Rattle.savings_report.specs.PlotCurves.{IsPlot, curve_text, curves_text, most_in}
use Rattle.savings_report.specs.declared.plot.lines.Curve.TheVariants.{Without, With, Perfect, Live}

-- the whole text, unless an allocation failed
is_whole : (new : Option (List ℕ)) (words : List ℕ) (P : List ℕ → Type 0) → (new ≡ Some words) ⊎ (new ≡ None) → P words → IfSome new P
is_whole new words P (inl is) h = subst (λ (o : Option (List ℕ)). IfSome o P) (sym is) h
is_whole new words P (inr failed) h = subst (λ (o : Option (List ℕ)). IfSome o P) (sym failed) tt

-- the four curves were added
pub curves_added : (a b c d e : Option (List ℕ)) (series : Series) (top : ℕ) → Adds a b (curve_text series top Without) → Adds b c (curve_text series top With)
    → Adds c d (curve_text series top Perfect) → Adds d e (curve_text series top Live) → Adds a e (curves_text series top)
curves_added a b c d e series top one two three four =
    let W : List ℕ = curve_text series top Without in
    let M : List ℕ = curve_text series top With in
    let P : List ℕ = curve_text series top Perfect in
    let L : List ℕ = curve_text series top Live in
    adds_both a d e (W ++ M ++ P) L (adds_both a c d (W ++ M) P (adds_both a b c W M one two) three) four

-- all parts were added
pub plot_added : (a b c d e f g : Option (List ℕ)) (series : Series) (title : List ℕ) (width height : ℕ) (rules dark : List ℕ) (top : ℕ) → a ≡ Some []
    → Adds a b (root_text title width height) → Adds b c (style_text rules dark) → Draws c d → Adds d e (curves_text series top) → Draws e f
    → Adds f g (codes "</svg>\n") → most_in series.intervals ≤ top → 5 * top ≤ 6 * max (most_in series.intervals) 1 → IfSome g (IsPlot series)
plot_added a b c d e f g series title width height rules dark top empty root style (frame, framed) curves (labels, labelled) end covers fills =
    let R : List ℕ = root_text title width height in
    let S : List ℕ = style_text rules dark in
    let F : List ℕ = shapes_text frame in
    let C : List ℕ = curves_text series top in
    let L : List ℕ = shapes_text labels in
    let E : List ℕ = codes "</svg>\n" in
    let styled : Adds a c (R ++ S) = adds_both a b c R S root style in
    let drawn : Adds a e (R ++ S ++ F ++ C) = adds_both a d e (R ++ S ++ F) C (adds_both a c d (R ++ S) F styled framed) curves in
    let whole : Adds a g (R ++ S ++ F ++ C ++ L ++ E) = adds_both a f g (R ++ S ++ F ++ C ++ L) E (adds_both a e f (R ++ S ++ F ++ C) L drawn labelled) end in
    is_whole g (R ++ S ++ F ++ C ++ L ++ E) (IsPlot series) (adds_to a g [] (R ++ S ++ F ++ C ++ L ++ E) empty whole)
    (record {
      title = title;
      width = width;
      height = height;
      rules = rules;
      dark = dark;
      frame = frame;
      top = top;
      labels = labels;
      covers = covers;
      fills = fills;
      text_is = refl;
    })

-- what holds of a text that was finished
pub finished : {X E : Type 0} (result : Result X E) (items : X → List ℕ) (text : Option (List ℕ)) (P : List ℕ → Type 0)
    → IfOk result (λ bytes. text ≡ Some (items bytes)) → IfSome text P → IfOk result (λ bytes. P (items bytes))
finished (Ok bytes) items text P is h = subst (λ (o : Option (List ℕ)). IfSome o P) is h
finished (Err e) items text P is h = tt
