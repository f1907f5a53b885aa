use Rattle.std.proofs.Common.{append_assoc}
use Rattle.draw_svg.proofs.files.write_style.Goals as goal

pub returns : goal.returns
returns c =
    rw (
      c.in_ok-extend_from_slice-4.ensures.items,
      c.in_ok-extend_from_slice-3.ensures.items,
      c.in_ok-extend_from_slice-2.ensures.items,
      c.in_ok-extend_from_slice.ensures.items,
      c.in_ok-write_font.ensures,
      c.as_bytes.ensures.value,
      c.as_bytes-2.ensures.value,
    )
    (simp append_assoc)
