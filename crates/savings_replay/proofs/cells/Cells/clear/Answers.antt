use Rattle.std.proofs.Common.{◌≡◌, None, nat_eq}
use Rattle.std.specs.Map.{lookup}
use Rattle.savings_replay.proofs.CellLemmas.{emptied_far, emptied_near, lookup_empty}
use Rattle.savings_replay.proofs.cells.Cells.clear.Goals as goal
use Rattle.savings_replay.proofs.cells.Cells.clear.Goals.{in-Some, in_default}

-- The map is empty, so what a cell holds is what the array has.
pub returns-else-not-is_empty : goal.returns-else-not-is_empty
returns-else-not-is_empty c k =
    let far = c.match-get_mut.self-inside.far.entries in
    let none : lookup (nat_eq k) far ≡ None = lookup_empty (nat_eq k) far (c.is_empty.ensures.0 c.if-not-is_empty.false) in
    let near = c.self.inside.near.items in
    elim c.match-get_mut.branch [
      | in-Some w ↦ rw (w.self-inside-is, ← c.self.view_is, rw w.self-inside-is at none) (emptied_near near c.args.cell k)
      | in_default w ↦ rw (w.self-inside-is, ← c.self.view_is, rw w.self-inside-is at none) (emptied_far near c.args.cell k w.in_default.ensures.item.3)
    ]
