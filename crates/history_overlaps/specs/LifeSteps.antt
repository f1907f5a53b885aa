-- Accesses to a live object begin and end.
use Rattle.std.specs.Prelude.{◌≡◌, ◌≢◌, ◌⊎◌, ◌↔◌, ℕ, Bool, true, false, List, [], ◌∷◌, ◌++◌, Some, None, IsTrue}
use Rattle.history_object.specs.ObjectBytes.{effect, first_state}
use Rattle.history_object.specs.declared.access.Access.{Access as AnAccess}
use Rattle.history_object.specs.Following.{CanBegin, HasSome, IsCallOf, IsJudgeOf, IsOpen}
use Rattle.history_object.specs.TimedCalls.{Timed}
use Rattle.history_overlaps.specs.Judges.{AccessJudge}
use Rattle.history_overlaps.specs.Possible.{IsUnexplainedBy}
use Rattle.history_overlaps.specs.declared.life.AccessEnd.{AccessEnd}
use Rattle.history_overlaps.specs.declared.life.AccessEnd.TheVariants.{Explained, Unexplained}
use Rattle.history_overlaps.specs.declared.life.Life.{Life}

-- whether some configuration is left at the end of an access
abbrev pub is_explained : AccessEnd → Bool
is_explained Explained = true
is_explained (Unexplained answer) = false

-- the judge is new: it has followed no access and has a configuration
pub record IsNewJudge (len : ℕ) (judge : AccessJudge) : Type 0 where
  pub follows : IsJudgeOf effect (first_state len) [] judge
  pub some : HasSome effect judge
  pub none_open : (number : ℕ) → IsOpen judge number → ⊥

-- `first` is the object's judge, or a new judge if the object had none
abbrev pub IsFirst : Life → AccessJudge → Type 0
IsFirst old first = (old.judge ≡ Some first) ⊎ ((old.judge ≡ None) × IsNewJudge old.object.len first)

-- the object has a judge now: its old one, or a new one if it had none
abbrev pub HasJudge : Life → Life → Type 0
HasJudge old new = (judge : AccessJudge) × (new.judge ≡ Some judge) × IsFirst old judge

-- the object's judge, or a new one if it had none, has followed the begin of the access `number`, which is open now
pub record HasBegun (old new : Life) (number : ℕ) (access : AnAccess) : Type 0 where
  pub first : AccessJudge
  pub is_first : IsFirst old first
  pub judge : AccessJudge
  pub now : new.judge ≡ Some judge
  pub follows : (calls : List (Timed AnAccess)) (begin end : ℕ) → IsJudgeOf effect (first_state old.object.len) calls first
      → CanBegin calls first (record { number = number; begin = begin; end = end; call = access })
      → IsJudgeOf effect (first_state old.object.len) (calls ++ record { number = number; begin = begin; end = end; call = access } ∷ []) judge
  pub is_open : (n : ℕ) → IsOpen judge n ↔ ((n ≡ number) ⊎ IsOpen first n)
  pub some : HasSome effect first → HasSome effect judge
  pub is_call : (n : ℕ) (other : AnAccess) → IsCallOf judge n other → ((n ≡ number) × (other ≡ access)) ⊎ IsCallOf first n other

-- the object's judge has followed the end of the access `number`, and `left` is whether some configuration is left
pub record HasEndedAt (old new : Life) (number : ℕ) (left : Bool) : Type 0 where
  pub first : AccessJudge
  pub is_first : old.judge ≡ Some first
  pub was_open : IsOpen first number
  pub judge : AccessJudge
  pub now : new.judge ≡ Some judge
  pub follows : (calls : List (Timed AnAccess)) → IsJudgeOf effect (first_state old.object.len) calls first
      → IsJudgeOf effect (first_state old.object.len) calls judge
  pub is_open : (n : ℕ) → IsOpen judge n ↔ (IsOpen first n × (n ≢ number))
  pub some : IsTrue left ↔ HasSome effect judge
  pub is_call : (n : ℕ) (access : AnAccess) → IsCallOf judge n access → IsCallOf first n access

-- if no configuration is left at the end of the access `number`, the object, its answer and the possible answers are
-- returned
abbrev pub IsToldAtEnd : Life → ℕ → AccessEnd → Type 0
IsToldAtEnd old number Explained = Unit {0}
IsToldAtEnd old number (Unexplained told) = (judge : AccessJudge) × (access : AnAccess) × (old.judge ≡ Some judge) × IsCallOf judge number access
    × IsUnexplainedBy old.object.address old.object.len access told × (told.object ≡ old.object)
