use Rattle.std.proofs.Common.{◌≡◌, ◌++◌, take}
use Rattle.draw_svg.specs.Shapes.{shapes_text}
use Rattle.draw_svg.proofs.writer.write_shapes.Given as goal

abbrev pub invariant-loop-shape : goal.invariant-loop-shape
invariant-loop-shape l = l.text.items ≡ l.initial.text.items ++ shapes_text (take l.shape-index l.shapes)
