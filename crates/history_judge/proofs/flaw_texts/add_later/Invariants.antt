use Rattle.std.proofs.Common.{◌≡◌, ◌++◌, take}
use Rattle.std.specs.List.{flat_map}
use Rattle.history_judge.specs.FlawTexts.{later_text}
use Rattle.history_judge.proofs.flaw_texts.add_later.Given as goal

abbrev pub invariant-loop-load : goal.invariant-loop-load
invariant-loop-load l = l.text.items ≡ l.initial.text.items ++ flat_map later_text (take l.load-index l.later)
