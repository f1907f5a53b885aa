-- When neither heap has a page of a group without an object.
use Rattle.std.specs.Prelude.{◌≡◌, List}
use Rattle.savings_replay.specs.ClassCounts.{empty_pages}
use Rattle.savings_replay.specs.Followed.{Followed, Goes, run, start}
use Rattle.savings_replay.specs.Meshing.{Heaps}
use Rattle.savings_replay.specs.declared.calls.Call.{Call}
use Rattle.savings_replay.specs.declared.settings.Settings.{Settings}

-- in both heaps, the groups without an object have no pages
pub record HaveNoneEmpty (h : Heaps) : Type 0 where
  pub without : empty_pages h.without ≡ 0
  pub with : empty_pages h.meshing.table ≡ 0

-- if calls can be made, and no small object was freed since the last round, or since the start if there was no round,
-- then neither heap has a group without an object
abbrev pub RoundsLeaveNoneEmpty : Type 0
RoundsLeaveNoneEmpty = (settings : Settings) (calls : List Call) (f : Followed) → run settings (start settings) calls ≡ Goes f
    → f.counts.since ≡ 0 → HaveNoneEmpty f.heaps
