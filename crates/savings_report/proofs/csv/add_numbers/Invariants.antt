use Rattle.std.proofs.Common.{◌≡◌, ◌++◌, codes, decimal, take}
use Rattle.std.specs.List.{flat_map}
use Rattle.savings_report.proofs.csv.add_numbers.Given as goal

abbrev pub invariant-loop-number : goal.invariant-loop-number
invariant-loop-number l =
    l.text.items ≡ l.initial.text.items ++ flat_map (λ n. codes "," ++ decimal n) (take l.number-index l.others)
