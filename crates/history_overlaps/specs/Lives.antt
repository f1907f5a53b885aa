-- The objects of overlapping calls, at a moment when some of the calls have ended.
use Rattle.std.specs.Prelude.{◌≡◌, ◌≢◌, ◌⊎◌, ℕ, ◌≤◌, List, ◌++◌, Option, Some}
use Rattle.model_intervals.specs.Intervals.{Call}
use Rattle.model_intervals.specs.Objects.{Object, IsExplainedByObject, IsFairNew, IsFreedBy, IsMadeAt, Meet}
use Rattle.model_intervals.specs.OverlappingCalls.{IsAt, IsFree, IsHistory, IsNew, cell_at}

-- no call frees the object of a cell
abbrev pub NoneFrees : List Call → ℕ → Type 0
NoneFrees calls cell = (place : ℕ) (free : Call) → IsAt calls place free → IsFree free.entry.command → cell_at free ≡ cell → ⊥

-- a call frees the object of a cell
pub record IsFreed (calls : List Call) (cell : ℕ) : Type 0 where
  pub place : ℕ
  pub free : Call
  pub there : IsAt calls place free
  pub frees : IsFree free.entry.command
  pub names : cell_at free ≡ cell

-- a call that has ended made this object
pub record IsMade (calls : List Call) (ended : ℕ → Type 0) (object : Object) : Type 0 where
  pub place : ℕ
  pub call : Call
  pub over : ended place
  pub there : IsMadeAt calls place call object

-- a `new` has this cell
pub record IsNamed (calls : List Call) (cell : ℕ) : Type 0 where
  pub place : ℕ
  pub call : Call
  pub there : IsAt calls place call
  pub is_new : IsNew call.entry.command
  pub names : cell_at call ≡ cell

-- if the calls in `ended` have ended: `live` has the live objects by their cells, and `serials` the serials that ended
-- `new`s returned. The ended calls meet the conditions on the objects of a history
pub record Lives (calls : List Call) (ended : ℕ → Type 0) (live : ℕ → Option Object) (serials : ℕ → Type 0) : Type 0 where
  pub fair : (i : ℕ) (a : Call) → ended i → IsAt calls i a → IsFairNew a.entry.command a.entry.reply
  pub has_serial : (i : ℕ) (a : Call) (x : Object) → ended i → IsMadeAt calls i a x → serials x.serial
  pub of_serial : (s : ℕ) → serials s → (x : Object) × IsMade calls ended x × (x.serial ≡ s)
  pub serials_once : (i j : ℕ) (a b : Call) (x y : Object) → i ≢ j → ended i → ended j → IsMadeAt calls i a x → IsMadeAt calls j b y → x.serial ≢ y.serial
  pub apart : (i j : ℕ) (a b : Call) (x y : Object) → i ≢ j → ended i → ended j → IsMadeAt calls i a x → IsMadeAt calls j b y → Meet x y
      → IsFreedBy calls x.cell b.end ⊎ IsFreedBy calls y.cell a.end
  pub live_is : (c : ℕ) (x : Object) → live c ≡ Some x → (x.cell ≡ c) × NoneFrees calls c × IsMade calls ended x
  pub made_is : (i : ℕ) (a : Call) (x : Object) → ended i → IsMadeAt calls i a x → (live x.cell ≡ Some x) ⊎ IsFreed calls x.cell

-- each of these calls begins at the moment or later
abbrev pub BeginFrom : ℕ → List Call → Type 0
BeginFrom moment more = (place : ℕ) (call : Call) → IsAt more place call → moment ≤ call.begin

-- no calls that begin from the moment on continue these calls to a history
abbrev pub NoneGoesOn : List Call → ℕ → Type 0
NoneGoesOn calls moment = (more : List Call) → BeginFrom moment more → IsHistory (calls ++ more) → ⊥

-- no calls that begin from the moment on continue these calls to a history that is explained by object
abbrev pub CannotBe : List Call → ℕ → Type 0
CannotBe calls moment = (more : List Call) → BeginFrom moment more → IsHistory (calls ++ more) → IsExplainedByObject (calls ++ more) → ⊥
