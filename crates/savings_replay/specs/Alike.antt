-- Both heaps are always sound and have the same objects.
use Rattle.std.specs.Prelude.{◌≡◌, ℕ, Bool, false, List, ◌++◌, Option, Some, None, count_by, sum_by}
use Rattle.model_heap.specs.Sound.{IsSound}
use Rattle.model_heap.specs.Table.{Group, Slot, Table}
use Rattle.savings_replay.specs.ClassCounts.{class_objects}
use Rattle.savings_replay.specs.Followed.{Followed, Goes, Outcome, run, run_on, start}
use Rattle.savings_replay.specs.Meshing.{Heaps}
use Rattle.savings_replay.specs.declared.calls.Call.{Call}
use Rattle.savings_replay.specs.declared.settings.Settings.{Settings}

-- a test of objects, by class, serial and length
abbrev pub Test : Type 0
Test = ℕ → ℕ → ℕ → Bool

-- whether the slot of a group of the class has an object, and the object passes the test
abbrev pub passes : Test → ℕ → Option Slot → Bool
passes test class None = false
passes test class (Some slot) = test class slot.serial slot.len

-- the number of the group's objects that pass the test
abbrev pub count_in : Test → Group → ℕ
count_in test group = count_by (passes test group.class) group.slots

-- the number of the table's objects that pass the test
abbrev pub objects_where : Test → Table → ℕ
objects_where test t = sum_by (count_in test) t.groups

-- each test of class, serial and length is passed by equally many objects of both tables
abbrev pub AreAlike : Table → Table → Type 0
AreAlike t u = (test : Test) → objects_where test t ≡ objects_where test u

-- if calls can be made, both heaps have the same objects after them
abbrev pub HeapsAreAlike : Type 0
HeapsAreAlike = (settings : Settings) (calls : List Call) (f : Followed) → run settings (start settings) calls ≡ Goes f
    → AreAlike f.heaps.without f.heaps.meshing.table

-- if calls can be made, both heaps have equally many objects of each class after them
abbrev pub ClassesAreAlike : Type 0
ClassesAreAlike = (settings : Settings) (calls : List Call) (f : Followed) (class : ℕ) → run settings (start settings) calls ≡ Goes f
    → class_objects f.heaps.without class ≡ class_objects f.heaps.meshing.table class

-- both heaps are sound
pub record AreSound (h : Heaps) : Type 0 where
  pub without : IsSound h.without
  pub with : IsSound h.meshing.table

-- if calls can be made, both heaps are sound after them
abbrev pub HeapsAreSound : Type 0
HeapsAreSound = (settings : Settings) (calls : List Call) (f : Followed) → run settings (start settings) calls ≡ Goes f → AreSound f.heaps

-- the outcome of two lists of calls, one after the other, is that of the joined list
abbrev pub RunsGoOn : Type 0
RunsGoOn = (settings : Settings) (outcome : Outcome) (calls more : List Call)
    → run_on settings outcome (calls ++ more) ≡ run_on settings (run_on settings outcome calls) more
