-- The curves of the plot, as lists of points. All lengths are in tenths of a pixel.
use Rattle.std.specs.Prelude.{◌≡◌, ℕ, ◌+◌, ◌-◌, ◌*◌, ◌/◌, ◌≤◌, min, max, Bool, true, nat_le, if◌then◌else◌, List, [], ◌∷◌, ◌++◌, Option, Some, None, codes}
use Rattle.draw_svg.specs.Files.{root_text, style_text}
use Rattle.draw_svg.specs.Shapes.{path_text, plain, shapes_text}
use Rattle.draw_svg.specs.declared.shapes.Point.{Point}
use Rattle.draw_svg.specs.declared.shapes.Shape.{Shape}
use Rattle.draw_svg.specs.declared.shapes.Way.{Way}
use Rattle.draw_svg.specs.declared.shapes.Way.TheVariants.{Move, Line}
use Rattle.savings_report.specs.Courses.{Series}
use Rattle.savings_report.specs.declared.plot.lines.Curve.{Curve}
use Rattle.savings_report.specs.declared.plot.lines.Curve.TheVariants.{Without, With, Perfect, Live}
use Rattle.savings_report.specs.declared.plot.spans.Interval.{Interval}
use Rattle.savings_report.specs.declared.plot.spans.Span.{Span}

-- the least and the greatest value of a curve in an interval
abbrev pub curve_span : Curve → Interval → Span
curve_span Without i = i.without
curve_span With i = i.with
curve_span Perfect i = i.perfect
curve_span Live i = i.live

-- the name of a curve's style rule
abbrev pub curve_name : Curve → List ℕ
curve_name Without = codes "without"
curve_name With = codes "with"
curve_name Perfect = codes "perfect"
curve_name Live = codes "live"

-- the greatest value of any curve in an interval, and in a list of intervals
unfoldable pub most_of : Interval → ℕ
most_of i = max (max i.without.greatest i.with.greatest) (max i.perfect.greatest i.live.greatest)

abbrev pub most_in : List Interval → ℕ
most_in [] = 0
most_in (i ∷ is) = max (most_of i) (most_in is)

-- this share of a length, rounded down; at most the length
abbrev pub share : ℕ → ℕ → ℕ → ℕ
share length part whole = min (length * part / whole) length

-- the number of the call at the right end of the plot, which has room for at least one call
abbrev pub calls_end : Series → ℕ
calls_end series = max series.last (series.before + 1)

-- the horizontal position of a call, between 1,250 and 7,850
unfoldable pub across : Series → ℕ → ℕ
across series call = 1250 + share 6600 (call - series.before) (calls_end series - series.before)

-- the vertical position of a number of pages, between 4,350 for none and 1,150 for `top`
unfoldable pub height : ℕ → ℕ → ℕ
height top pages = 4350 - share 3200 pages top

-- how the path reaches the first point of an interval, by the span of the interval before
abbrev pub way_after : Option Span → Way
way_after None = Move
way_after (Some before) = Line

-- whether a curve doesn't fall from the interval before to this one, by the middles of its spans
unfoldable pub is_rising : Option Span → Span → Bool
is_rising None span = true
is_rising (Some before) span = nat_le (before.least + before.greatest) (span.least + span.greatest)

-- the number of pages at the first call and at the last call of an interval: the least is first if the curve rises
unfoldable pub first_height : Bool → Span → ℕ
first_height rising span = if rising then span.least else span.greatest

unfoldable pub last_height : Bool → Span → ℕ
last_height rising span = if rising then span.greatest else span.least

-- the point of a call at which a curve has this number of pages
abbrev pub point : Series → ℕ → Way → ℕ → ℕ → Point
point series top way call pages = record { way = way; x = across series call; y = height top pages }

-- the points of a curve in intervals that begin after the call number `done`: for each interval one at its first call,
-- and one at its last call
abbrev pub points_from : Series → ℕ → Curve → ℕ → Option Span → List Interval → List Point
points_from series top curve done before [] = []
points_from series top curve done before (i ∷ is) =
    point series top (way_after before) (min (done + 1) (min (done + series.width) series.last))
    (first_height (is_rising before (curve_span curve i)) (curve_span curve i))
    ∷ point series top Line (min (done + series.width) series.last) (last_height (is_rising before (curve_span curve i)) (curve_span curve i))
    ∷ points_from series top curve (min (done + series.width) series.last) (Some (curve_span curve i)) is

-- the points of a curve, if the axis of pages ends at `top` pages
abbrev pub curve_points : Series → ℕ → Curve → List Point
curve_points series top curve = points_from series top curve series.before None series.intervals

-- the path of a curve
unfoldable pub curve_text : Series → ℕ → Curve → List ℕ
curve_text series top curve = path_text (plain (curve_name curve)) (curve_points series top curve)

-- the paths of the four curves
abbrev pub curves_text : Series → ℕ → List ℕ
curves_text series top = curve_text series top Without ++ curve_text series top With ++ curve_text series top Perfect ++ curve_text series top Live

-- the text is an SVG file that draws the four curves of a series, after some shapes and before others. The axis of
-- pages ends at `top` pages, which is above the greatest value by at most a fifth
pub record IsPlot (series : Series) (text : List ℕ) : Type 0 where
  pub title : List ℕ
  pub width : ℕ
  pub height : ℕ
  pub rules : List ℕ
  pub dark : List ℕ
  pub frame : List Shape
  pub top : ℕ
  pub labels : List Shape
  pub covers : most_in series.intervals ≤ top
  pub fills : 5 * top ≤ 6 * max (most_in series.intervals) 1
  pub text_is : text ≡ root_text title width height ++ style_text rules dark ++ shapes_text frame ++ curves_text series top ++ shapes_text labels
      ++ codes "</svg>\n"
