-- The text of a line of a plan, and of the heap after it. The format is this project's own choice.
use Rattle.std.specs.Prelude.{ℕ, List, ◌++◌, codes}
use Rattle.std.specs.List.{flat_map}
use Rattle.model_jobs.specs.Texts.{ended, number_field}
use Rattle.draw_picture.specs.declared.frame.Frame.{Frame}
use Rattle.draw_text.specs.Rows.{counts_line, home_line, lead_line, member_line, mesh_line, object_line}

-- the rows of a frame, a line each: its members, the mappings of their pages, their objects, the physical pages of the
-- groups, the running meshes, and the counts
abbrev pub frame_text : Frame → List ℕ
frame_text f =
    flat_map member_line f.members.items ++ flat_map lead_line f.leads.items ++ flat_map object_line f.objects.items ++ flat_map home_line f.homes.items
    ++ flat_map mesh_line f.meshes.items ++ counts_line f.counts

-- the line of a plan with this number, with its answer
abbrev pub head_line : ℕ → List ℕ → List ℕ → List ℕ
head_line number words answer = ended (codes "line" ++ number_field number ++ codes ": " ++ words ++ codes " -> " ++ answer)

-- the line of a plan, and the frame of the heap after it
abbrev pub point_text : ℕ → List ℕ → List ℕ → Frame → List ℕ
point_text number words answer frame = head_line number words answer ++ frame_text frame
