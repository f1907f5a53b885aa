-- What follows from the definition of a verdict.
use Rattle.std.specs.Prelude.{◌≡◌, ◌↔◌, ℕ, ◌+◌, ◌<◌, List, [], ◌∷◌, ◌++◌, Ok, length}
use Rattle.model_memory.specs.Plain.{Entry}
use Rattle.model_history.specs.Recorded.{IsRecorded, Recorded, RecordedStep, any_allocator}
use Rattle.text_fields.specs.Lines.{text_lines}
use Rattle.history_reading.specs.HistoryFiles.{entry_in, head_in}
use Rattle.history_in_order.specs.Outcomes.{IsVerdict, Legal, Outcome, Wrong}

-- the lines are read as these entries, one by one
abbrev pub AreEntries : List (List ℕ) → List Entry → Type 0
AreEntries [] [] = Unit {0}
AreEntries (line ∷ lines) (entry ∷ entries) = (entry_in line ≡ Ok entry) × AreEntries lines entries
AreEntries lines entries = ⊥

-- the text is the head of a history and then the lines of these entries, each with its end; there are fewer than
-- 4,294,967,295 entries
pub record IsHistory (text : List ℕ) (entries : List Entry) : Type 0 where
  pub head : List ℕ
  pub lines : List (List ℕ)
  pub split : text_lines text ≡ head ∷ (lines ++ [] ∷ [])
  pub is_head : head_in head ≡ Ok tt
  pub are_entries : AreEntries lines entries
  pub few : length entries < 4294967295

-- `Legal` is the outcome of a text if and only if it is a legal history, with this number of entries
abbrev pub LegalIsLegal : Type 0
LegalIsLegal = (text : List ℕ) (n : ℕ)
    → IsVerdict text (Legal n) ↔ ((entries : List Entry) × IsHistory text entries × (length entries ≡ n) × ((end : Recorded) × IsRecorded any_allocator entries end))

-- the first rejected entry is on this line: the entries before it are a legal history, and it is no step that continues
-- this history
pub record IsFirstWrong (text : List ℕ) (line : ℕ) : Type 0 where
  pub head : List ℕ
  pub lines : List (List ℕ)
  pub wrong : List ℕ
  pub later : List (List ℕ)
  pub split : text_lines text ≡ head ∷ (lines ++ wrong ∷ later)
  pub is_head : head_in head ≡ Ok tt
  pub entries : List Entry
  pub are_entries : AreEntries lines entries
  pub left : Recorded
  pub legal : IsRecorded any_allocator entries left
  pub entry : Entry
  pub is_entry : entry_in wrong ≡ Ok entry
  pub no_step : (n : Recorded) → RecordedStep any_allocator left entry.command entry.reply n → ⊥
  pub number : line ≡ length lines + 2

-- if the outcome rejects a line, it is the line of the first rejected entry
abbrev pub WrongIsFirst : Type 0
WrongIsFirst = (text : List ℕ) (line : ℕ) → IsVerdict text (Wrong line) → IsFirstWrong text line

-- a text has at most one outcome
abbrev pub VerdictsAreOne : Type 0
VerdictsAreOne = (text : List ℕ) (o o' : Outcome) → IsVerdict text o → IsVerdict text o' → o ≡ o'
