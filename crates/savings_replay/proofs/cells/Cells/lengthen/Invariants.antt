use Rattle.std.proofs.Common.{◌≡◌, ℕ}
use Rattle.savings_replay.specs.Cells.{held_in}
use Rattle.savings_replay.proofs.cells.Cells.lengthen.Given as goal

abbrev pub invariant-loop : goal.invariant-loop
invariant-loop l = (c : ℕ) →
    held_in record { near = l.self-inside.near.items; far = l.self-inside.far.entries } c ≡ held_in record { near = l.initial.self-inside.near.items; far = l.initial.self-inside.far.entries } c
