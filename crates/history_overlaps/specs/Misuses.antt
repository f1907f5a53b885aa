-- Calls that break a rule of use: no history has them.
use Rattle.std.specs.Prelude.{◌≡◌, ◌≢◌, ℕ, ◌<◌, List}
use Rattle.model_intervals.specs.Intervals.{Call}
use Rattle.model_intervals.specs.OverlappingCalls.{IsAt, IsFree, IsMadeBefore, IsNew, cell_at}
use Rattle.history_overlaps.specs.declared.misuses.Misuse.{Misuse}
use Rattle.history_overlaps.specs.declared.misuses.Misuse.TheVariants.{CellAgain, NotAfterNew, NotBeforeFree}

-- the call at this place is a `new`, and another `new` has its cell
pub record IsOfUsedCell (calls : List Call) (number : ℕ) : Type 0 where
  pub call : Call
  pub there : IsAt calls number call
  pub is_new : IsNew call.entry.command
  pub place : ℕ
  pub other : Call
  pub at : IsAt calls place other
  pub other_is_new : IsNew other.entry.command
  pub apart : place ≢ number
  pub same : cell_at other ≡ cell_at call

-- the call at this place is no `new`, and no `new` of its cell made an object and ended before the call began
pub record IsBeforeNew (calls : List Call) (number : ℕ) : Type 0 where
  pub call : Call
  pub there : IsAt calls number call
  pub no_new : IsNew call.entry.command → ⊥
  pub none : IsMadeBefore calls (cell_at call) call.begin → ⊥

-- another call than the one at this place frees the object of the same cell, and began before this one ended
pub record IsBehindFree (calls : List Call) (number : ℕ) : Type 0 where
  pub call : Call
  pub there : IsAt calls number call
  pub place : ℕ
  pub free : Call
  pub at : IsAt calls place free
  pub frees : IsFree free.entry.command
  pub apart : number ≢ place
  pub same : cell_at call ≡ cell_at free
  pub begun : call.end < free.begin → ⊥

-- the call at this place breaks this rule
abbrev pub IsMisusedAt : List Call → ℕ → Misuse → Type 0
IsMisusedAt calls number CellAgain = IsOfUsedCell calls number
IsMisusedAt calls number NotAfterNew = IsBeforeNew calls number
IsMisusedAt calls number NotBeforeFree = IsBehindFree calls number
