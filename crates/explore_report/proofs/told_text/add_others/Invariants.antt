use Rattle.std.proofs.Common.{◌≡◌, ◌++◌, take}
use Rattle.std.specs.List.{flat_map}
use Rattle.explore_report.specs.ToldTexts.{next_text}
use Rattle.explore_report.proofs.told_text.add_others.Given as goal

abbrev pub invariant-loop-reply : goal.invariant-loop-reply
invariant-loop-reply l = l.text.items ≡ l.initial.text.items ++ flat_map next_text (take l.reply-index l.others)
