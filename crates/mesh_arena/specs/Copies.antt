-- The precondition of a copy from one page to another.
use Rattle.std.specs.Prelude.{◌≢◌, ℕ, ◌+◌, ◌≤◌}
use Rattle.mesh_arena.specs.Pages.{Pages, IsTaken}

-- both pages are taken and different, and each range of `len` bytes is within its page
pub record MayCopy (pages : Pages) (from from_off to to_off len : ℕ) : Type 0 where
  pub from_taken : IsTaken pages from
  pub to_taken : IsTaken pages to
  pub apart : from ≢ to
  pub from_fits : from_off + len ≤ 4096
  pub to_fits : to_off + len ≤ 4096
