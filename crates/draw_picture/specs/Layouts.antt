-- The places of pages in a card.
use Rattle.std.specs.Prelude.{ℕ, ◌-◌, ◌&&◌, Bool, Option, find, nat_le, nat_lt}
use Rattle.model_words.specs.Classes.{pages_of}
use Rattle.draw_picture.specs.Numbers.{plus, times}
use Rattle.draw_picture.specs.declared.layout.Layout.{Layout}
use Rattle.draw_picture.specs.declared.layout.Span.{Span}

-- the width of some pages with a gap after each
abbrev pub pages_width : ℕ → ℕ → ℕ
pages_width pages page = times pages (plus page 60)

-- the left side of a physical page
abbrev pub physical_left : Layout → ℕ → ℕ
physical_left layout page = plus 120 (pages_width page layout.page)

-- the left side of the page at a place of a span
abbrev pub page_left : Layout → Span → ℕ → ℕ
page_left layout span place = plus span.x (pages_width place layout.page)

-- the width of a span of a class
abbrev pub span_width : Layout → ℕ → ℕ
span_width layout class = pages_width (pages_of class) layout.page - 60

-- whether a virtual page belongs to a span
abbrev pub has : ℕ → Span → Bool
has page span = nat_le span.first page && nat_lt (page - span.first) (pages_of span.class)

-- the span that has a virtual page
abbrev pub span_of : Layout → ℕ → Option Span
span_of layout page = find (has page) layout.spans.items
