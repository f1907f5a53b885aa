-- The bars of running meshes.
use Rattle.std.specs.Prelude.{ℕ, ◌-◌, ◌/◌, ◌++◌, ◌∷◌, [], List, codes, if◌then◌else◌, min, nat_eq, nat_lt}
use Rattle.draw_picture.specs.Alike.{order_in}
use Rattle.draw_picture.specs.Lettering.{beginning, centred, label_text}
use Rattle.draw_picture.specs.Numbers.{plus, share, times}
use Rattle.draw_picture.specs.declared.frame.Frame.{Frame}
use Rattle.draw_picture.specs.declared.frame.MeshProgress.{MeshProgress}
use Rattle.draw_picture.specs.declared.frame.MeshProgress.TheVariants.{Steps, Moves}
use Rattle.draw_picture.specs.declared.frame.RunningMesh.{RunningMesh}
use Rattle.draw_picture.specs.declared.lettering.Face.TheVariants.{Plain, Strong}
use Rattle.draw_svg.specs.Shapes.{group_end, group_text, plain, rect_text}
use Rattle.draw_svg.specs.Templates.{filled}
use Rattle.draw_svg.specs.declared.shapes.Area.{Area}
use Rattle.mesh_running.specs.StepOrders.{steps_before, steps_of}
use Rattle.mesh_running.specs.declared.progress.Progress.{Progress}
use Rattle.mesh_running.specs.declared.progress.Progress.TheVariants.{Made, Unwinding}
use Rattle.mesh_running.specs.declared.step_order.StepOrder.{StepOrder}
use Rattle.model_jobs.specs.Texts.{kind_text}
use Rattle.model_words.specs.declared.commands.StepKind.{StepKind}
use Rattle.model_words.specs.declared.commands.StepKind.TheVariants.{Protect, Copy, Remap, Unprotect, Release}

-- how many steps of a kind are among the first ones
abbrev pub made_of : StepOrder → ℕ → StepKind → ℕ
made_of order made kind = min (made - steps_before order kind) (steps_of order kind)

-- the area of a part of a bar
abbrev pub part_area : ℕ → ℕ → Area
part_area x w = record { x = x; y = 160; w = w; h = 160 }

-- the name of a kind of step with the number of steps that were made and that of all steps
abbrev pub counted_words : StepKind → ℕ → ℕ → List ℕ
counted_words kind done all = kind_text kind ++ filled (codes " #/#") (done ∷ all ∷ [])

-- the same in a part of a bar, without the numbers if there is no room for them
unfoldable pub kind_words : StepKind → ℕ → ℕ → Area → List ℕ
kind_words kind done all area =
    if nat_lt area.w 1000 then label_text (centred Plain (codes "ink") (plus area.x (area.w / 2)) 278) (kind_text kind)
    else label_text (centred Plain (codes "ink") (plus area.x (area.w / 2)) 278) (counted_words kind done all)

-- the part of a bar for one kind of step, of this place and width
abbrev pub part_at : StepOrder → ℕ → StepKind → ℕ → ℕ → List ℕ
part_at order made kind x w =
    rect_text (plain (codes "ahead")) (part_area x w) 30
    ++ rect_text (plain (codes "made")) (part_area x (share w (made_of order made kind) (steps_of order kind))) 30
    ++ kind_words kind (made_of order made kind) (steps_of order kind) (part_area x w)

unfoldable pub kind_part : StepOrder → ℕ → ℕ → StepKind → ℕ → List ℕ
kind_part order made width kind place = part_at order made kind (times place width) (width - 30)

-- a part for each kind of step
unfoldable pub bar_text : StepOrder → ℕ → ℕ → List ℕ
bar_text order made width =
    kind_part order made width Protect 0 ++ kind_part order made width Copy 1 ++ kind_part order made width Remap 2
    ++ kind_part order made width Unprotect 3 ++ kind_part order made width Release 4

-- what a cancelled mesh has to do
abbrev pub unwinding_words : ℕ → List ℕ
unwinding_words pages = if nat_eq pages 1 then codes "cancelled: # page to unprotect" else codes "cancelled: # pages to unprotect"

unfoldable pub unwinding_text : ℕ → List ℕ
unwinding_text pages = label_text (beginning Strong (codes "red") 0 280) (filled (unwinding_words pages) (pages ∷ []))

-- the progress of a mesh's steps
unfoldable pub steps_text : Frame → ℕ → RunningMesh → Progress → List ℕ
steps_text frame card mesh (Made made) = bar_text (order_in frame mesh) made ((card - 240) / 5)
steps_text frame card mesh (Unwinding all undone) = unwinding_text (all - undone)

-- the number of moves that a mesh by another list of steps has made
unfoldable pub moves_text : ℕ → List ℕ
moves_text made = label_text (beginning Plain (codes "ink") 0 280) (filled (codes "moves made: #") (made ∷ []))

-- the progress of a mesh
unfoldable pub progress_text : Frame → ℕ → RunningMesh → MeshProgress → List ℕ
progress_text frame card mesh (Steps progress) = steps_text frame card mesh progress
progress_text frame card mesh (Moves made copied) = moves_text made

-- the bar of a running mesh: its two groups, and its progress
unfoldable pub mesh_text : Frame → ℕ → ℕ → RunningMesh → List ℕ
mesh_text frame card y mesh =
    group_text 120 y
    ++ label_text (beginning Strong (codes "blue") 0 120) (filled (codes "mesh # -> #") (mesh.source ∷ mesh.destination ∷ []))
    ++ progress_text frame card mesh mesh.progress ++ group_end
