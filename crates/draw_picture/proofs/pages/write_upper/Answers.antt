use Rattle.draw_picture.specs.Pages.{upper_text}
use Rattle.draw_picture.proofs.Rows.{ok_four_more}
use Rattle.draw_picture.proofs.pages.write_upper.Goals as goal

pub returns : goal.returns
unfolding upper_text
returns c =
    ok_four_more c.write_all_unmapped.result c.args.text.now.items c.write_pages_name.new.text.items c.write_spans.new.text.items
    c.write_all_mapped.new.text.items c.write_all_unmapped.new.text.items _ _ _ _
    c.in_ok-write_pages_name.ensures c.in_ok-write_spans.ensures c.in_ok-write_all_mapped.ensures c.write_all_unmapped.ensures
