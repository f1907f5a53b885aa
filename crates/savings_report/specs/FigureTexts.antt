-- The table of the figures, as bytes.
use Rattle.std.specs.Prelude.{ℕ, ◌-◌, ◌*◌, ◌/◌, ◌%◌, nat_eq, nat_lt, if◌then◌else◌, Bool, false, List, [], ◌++◌, length, replicate, slice_index_or, Option, Some, None, codes, decimal}
use Rattle.std.specs.Int.{abs_diff}
use Rattle.std.specs.List.{flat_map, range_with_len}
use Rattle.mesh_class.specs.Class.{size_at}
use Rattle.savings_report.specs.FigureSamples.{measured, of_class, peak, mean, last, rounded, pages_by, row_by, row_at, empty_by, moment_live, most_live, most_saved}
use Rattle.savings_report.specs.declared.table.samples.Sample.{Sample}
use Rattle.savings_report.specs.declared.table.samples.Window.{Window}
use Rattle.savings_report.specs.declared.table.samples.Counts.{Counts}
use Rattle.savings_report.specs.declared.table.moments.Moment.{Moment}
use Rattle.savings_report.specs.declared.table.pages.Both.{Both}
use Rattle.savings_report.specs.declared.table.pages.Pages.{Pages}
use Rattle.savings_report.specs.declared.table.pages.Row.{Row}

-- the text at the right or at the left of a field of this width, filled with spaces; a longer text is not cut
abbrev pub right : ℕ → List ℕ → List ℕ
right width text = replicate (width - length text) 32 ++ text

abbrev pub left : ℕ → List ℕ → List ℕ
left width text = text ++ replicate (width - length text) 32

-- the text of a number of tenths, with one decimal
unfoldable pub tenths_text : ℕ → List ℕ
tenths_text n = decimal (n / 10) ++ codes "." ++ decimal (n % 10)

-- the tenths of a percent of `without` in the difference of `without` and `with`, rounded half up
unfoldable pub saved_tenths : ℕ → ℕ → ℕ
saved_tenths without with = rounded (1000 * abs_diff without with) without

-- a minus sign if `without` is below `with` by more than rounds to 0 tenths, or else nothing
unfoldable pub sign_text : ℕ → ℕ → ℕ → List ℕ
sign_text without with tenths = if nat_lt without with then (if nat_eq tenths 0 then [] else codes "-") else []

-- the share of pages that is saved, in percent: rounded half up without its sign, which is that of `without - with` if
-- the rounded share isn't 0; a dash if `without` is 0
unfoldable pub saved_text : ℕ → ℕ → List ℕ
saved_text without with =
    if nat_eq without 0 then codes "-"
    else sign_text without with (saved_tenths without with) ++ tenths_text (saved_tenths without with) ++ codes "%"

-- a number after its name
unfoldable pub counted : List ℕ → ℕ → List ℕ
counted name n = name ++ decimal n

unfoldable pub calls_line : ℕ → Counts → List ℕ
calls_line calls counts =
    counted (codes "calls ") calls ++ counted (codes "  objects at most ") counts.most_objects ++ counted (codes "  above 2048: ") counts.large
    ++ codes ", not meshed\n"

unfoldable pub heading_line : List ℕ
heading_line = codes "pages              without     with  saved  perfect  live bytes  above 2048  of all\n"

-- a number at the right of a field of this width
abbrev pub column : ℕ → ℕ → List ℕ
column width n = right width (decimal n)

-- the share of pages that is saved, at the right of a field of this width and after a space
abbrev pub share_column : ℕ → ℕ → ℕ → List ℕ
share_column width without with = codes " " ++ right width (saved_text without with)

-- the columns of small objects: their pages without meshing and with it, the share saved, and their pages by perfect
-- packing
unfoldable pub small_columns : Pages → List ℕ
small_columns pages =
    column 9 pages.without ++ column 9 pages.with ++ share_column 6 pages.without pages.with ++ column 9 pages.perfect

-- a row of the table: its name, the columns of small objects, their live bytes in pages, the pages of large objects,
-- and the share that is saved of the pages of all objects
unfoldable pub row_line : List ℕ → Row → List ℕ
row_line name row =
    left 17 name ++ small_columns row.small ++ column 12 row.live ++ column 12 row.large ++ share_column 7 row.all.without row.all.with
    ++ codes "\n"

-- the difference of pages at a moment, the pages without meshing, the share saved, the call and the live bytes in pages
unfoldable pub saving_text : Moment → List ℕ
saving_text m =
    decimal (m.without - m.with) ++ counted (codes " of ") m.without ++ codes " pages (" ++ saved_text m.without m.with
    ++ counted (codes ") at call ") m.call ++ counted (codes ", live bytes ") (moment_live m)

-- the moment at which the most pages are saved; a dash if there is none, or if none are saved at it
unfoldable pub most_saved_text : Option Moment → List ℕ
most_saved_text None = codes "-"
most_saved_text (Some best) = if nat_lt best.with best.without then saving_text best else codes "-"

-- the call after which the live objects have the most bytes; a dash if there is none
unfoldable pub most_live_text : Option Moment → List ℕ
most_live_text None = codes " -"
most_live_text (Some best) = counted (codes "at call ") best.call

unfoldable pub most_line : Option Moment → Option Moment → List ℕ
most_line saved live = codes "most saved  " ++ most_saved_text saved ++ codes "  most live " ++ most_live_text live ++ codes "\n"

-- pages without meshing and with it
unfoldable pub both_text : Both → List ℕ
both_text both = decimal both.without ++ counted (codes " -> ") both.with

-- the line of the pages of empty spans in both heaps
unfoldable pub empty_line : List Sample → List ℕ
empty_line samples =
    codes "empty spans  peak " ++ both_text (empty_by peak samples) ++ codes "  mean " ++ both_text (empty_by mean samples) ++ codes "  end "
    ++ both_text (empty_by last samples) ++ codes "\n"

unfoldable pub meshes_line : Counts → List ℕ
meshes_line counts =
    counted (codes "meshes ") counts.meshes ++ counted (codes "  refused ") counts.refused ++ codes "  copied "
    ++ tenths_text (rounded counts.copied 100000) ++ counted (codes " MB  rounds ") counts.rounds
    ++ counted (codes "  tries ") counts.tries ++ counted (codes "  virtual pages ") counts.virtual_pages ++ codes "\n"

-- pages of a class without meshing and with it, and by perfect packing
unfoldable pub class_pages : Pages → List ℕ
class_pages pages =
    column 5 pages.without ++ codes " -> " ++ column 5 pages.with ++ codes "  perfect " ++ column 5 pages.perfect

-- the line of the class of this size: its mean pages and its pages at the end
unfoldable pub class_line : ℕ → Pages → Pages → List ℕ
class_line size means ends =
    codes "class " ++ left 6 (decimal size) ++ codes "mean " ++ class_pages means ++ codes "  end " ++ class_pages ends ++ codes "\n"

-- the line of the class at a place of the class table if the class ever held an object, or else nothing
abbrev pub used_line : List Bool → List Sample → ℕ → List ℕ
used_line used samples k =
    if slice_index_or used k false then class_line (size_at k) (pages_by mean (of_class k) samples) (pages_by last (of_class k) samples)
    else []

-- the lines of the classes that ever held an object
unfoldable pub class_lines : List Bool → List Sample → List ℕ
class_lines used samples = flat_map (used_line used samples) (range_with_len 0 10)

-- the heading and the rows, of these samples and of the moment with the most live bytes
unfoldable pub rows : List Sample → Option Moment → List ℕ
rows samples most =
    heading_line ++ row_line (codes "peak") (row_by peak samples) ++ row_line (codes "mean of calls") (row_by mean samples)
    ++ row_line (codes "most live") (row_at most) ++ row_line (codes "end") (row_by last samples)

-- the whole table
unfoldable pub figures_text : Window → List Sample → Counts → List ℕ
figures_text window samples counts =
    calls_line (length samples) counts ++ rows (measured window samples) (most_live window samples)
    ++ most_line (most_saved window samples) (most_live window samples) ++ empty_line (measured window samples) ++ meshes_line counts
    ++ class_lines counts.used (measured window samples)
