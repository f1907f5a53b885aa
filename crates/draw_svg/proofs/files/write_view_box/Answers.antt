use Rattle.std.proofs.Common.{append_assoc}
use Rattle.draw_svg.proofs.files.write_view_box.Goals as goal

pub returns : goal.returns
returns c =
    rw (c.in_ok-extend_from_slice-3.ensures.items, c.in_ok-write_number-2.ensures, c.in_ok-extend_from_slice-2.ensures.items, c.in_ok-write_number.ensures, c.in_ok-extend_from_slice.ensures.items)
    (simp append_assoc)
