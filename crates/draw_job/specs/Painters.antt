-- The lines that the two painters are shown next.
use Rattle.std.specs.Prelude.{ℕ}
use Rattle.draw_job.specs.declared.painters.Drawing.{Drawing}
use Rattle.draw_job.specs.declared.painters.Measuring.{Measuring}

-- the number of the line that the measuring painter is shown next
abbrev pub next_measured : Measuring → ℕ
next_measured painter = painter.measure

-- the number of the line that the drawing painter is shown next
abbrev pub next_drawn : Drawing → ℕ
next_drawn painter = painter.picture.next
