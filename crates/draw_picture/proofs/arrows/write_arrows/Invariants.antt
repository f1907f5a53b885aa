use Rattle.std.proofs.Common.{◌≡◌, ◌++◌, take}
use Rattle.std.specs.List.{flat_map}
use Rattle.draw_picture.specs.Arrows.{lead_text}
use Rattle.draw_picture.proofs.arrows.write_arrows.Given as goal

abbrev pub invariant-loop-lead : goal.invariant-loop-lead
invariant-loop-lead l = l.text.items ≡ l.initial.text.items ++ flat_map (lead_text l.scene.layout.now l.scene.now.now l.scene.before.now) (take l.lead-index l.lead-items)
