-- What is found of the entries of a text.
use Rattle.std.proofs.Common.{◌≡◌, ◌⊎◌, ℕ, suc, ◌+◌, ◌-◌, ◌≤◌, Bool, true, false, List, [], ◌∷◌, ◌++◌, append_assoc, append-nil, if◌then◌else◌, length, length-append, ap, refl, sym, subst, ◌∙◌, arith, inl, inr, Option, Some, None, Result, Ok, Err}
use Rattle.std.specs.Io.KnownBytes.{IsAtEnd}
use Rattle.std.specs.Prelude.{IfSome, IsNone}
use Rattle.std.proofs.lemmas.Bool.{ne_eqb}
use Rattle.model_memory.specs.Plain.{Entry}
use Rattle.model_history.specs.Recorded.{IsRecorded, Recorded, RecordedRuns, RecordedStep, any_allocator, nothing_recorded}
use Rattle.model_jobs.specs.JobFiles.{or_fault}
use Rattle.model_words.specs.declared.faults.FaultKind.{FaultKind}
use Rattle.model_words.specs.declared.faults.TextFault.{TextFault}
use Rattle.text_fields.specs.Lines.{text_lines}
use Rattle.text_fields.proofs.Splits.{Parts, some_part}
use Rattle.text_devices.specs.declared.faults.ReplayError.{ReplayError}
use Rattle.text_devices.specs.declared.faults.ReplayError.TheVariants.{Read, Write, Text, Memory}
use Rattle.history_reading.specs.EntryInputs.{HasCome, HasEnded, HasRead, HasStopped, IsFresh, lines_before, reading_left}
use Rattle.history_reading.specs.Readers.{next_line}
use Rattle.history_reading.specs.Readings.{Head, LineRead, OfEntry, Reading, line_in, read_on, reading_from, reading_of, with_entries}
use Rattle.text_devices.specs.Ends.{end_fault, is_full, too_long}
use Rattle.history_reading.specs.declared.entry_inputs.HistoryInput.{HistoryInput}
use Rattle.history_reading.proofs.EntryInputs.{none_come}
use Rattle.history_in_order.specs.Checks.{HasJudged, HasNotJudged}
use Rattle.history_in_order.specs.Judged.{IsTaken, IsWrong}
use Rattle.history_in_order.specs.Outcomes.{Faulty, IsJudged, IsVerdict, Legal, Outcome, Wrong, ended}
use Rattle.history_in_order.specs.Stands.{Stands}
use Rattle.history_in_order.specs.declared.memory.Tracked.{Tracked}
use Rattle.history_in_order.proofs.Laws.{entry_of_read, head_of_read}

-- what is found of the entries that are left, of which the next one stands at this line, and of the text's fault behind
-- them
abbrev pub IsFound : Recorded → ℕ → List Entry → Option TextFault → Outcome → Type 0
IsFound r line [] None o = o ≡ Legal (line - 2)
IsFound r line [] (Some fault) o = o ≡ Faulty fault
IsFound r line (entry ∷ entries) fault o =
    (((n : Recorded) → RecordedStep any_allocator r entry.command entry.reply n → ⊥) × (o ≡ Wrong line))
    ⊎ ((n : Recorded) × RecordedStep any_allocator r entry.command entry.reply n × IsFound n (line + 1) entries fault o)

-- what is found of a reading
abbrev pub IsFoundOf : Recorded → ℕ → Reading → Outcome → Type 0
IsFoundOf r line reading o = IsFound r line reading.entries reading.fault o

-- where no entry is left, it is found where the text ends
found_end : (r : Recorded) (lines line : ℕ) (fault : Option TextFault) (o : Outcome) → line - 2 ≡ lines - 1 → IsFound r line [] fault o → o ≡ ended lines fault
found_end r lines line None o same h = h ∙ ap (λ (n : ℕ). Legal n) same
found_end r lines line (Some fault) o same h = h

-- what is found of the entries behind a line is found of the lines
found_lines : (lines : ℕ) (r : Recorded) (left : List (List ℕ)) (o : Outcome) → 1 ≤ lines → Parts left → IsFoundOf r (lines + 1) (reading_from lines left) o
    → IsJudged lines r left o
found_lines lines r [] o later some h = absurd (cc some.is)
found_lines lines r (rest ∷ []) o later some h = found_end r lines (lines + 1) (end_fault lines rest) o (omega arith) h
found_lines lines r (line ∷ next ∷ more) o later some h =
    go (is_full lines) (line_in lines line) refl refl h
    (λ n found. found_lines (lines + 1) n (next ∷ more) o (omega arith) (record { first = next; later = more; is = refl }) found)
  where
    go : (full : Bool) (read : Result LineRead FaultKind) → is_full lines ≡ full → line_in lines line ≡ read
        → IsFoundOf r (lines + 1) (read_on (if full then Err too_long else or_fault (lines + 1) read) (reading_from (lines + 1) (next ∷ more))) o
        → ((n : Recorded) → IsFoundOf n (lines + 1 + 1) (reading_from (lines + 1) (next ∷ more)) o → IsJudged (lines + 1) n (next ∷ more) o)
        → IsJudged lines r (line ∷ next ∷ more) o
    go true read full is found behind = inl (inr (inr (full, found)))
    go false (Err kind) full is found behind = inl (inl (full, (kind, is, found)))
    go false (Ok Head) full is found behind =
        let entry = entry_of_read lines line Head later is in let both : Head ≡ OfEntry entry.entry = entry.is_read in absurd (cc both)
    go false (Ok (OfEntry entry)) full is (inl wrong) behind = inl (inr (inl (full, (OfEntry entry, is, wrong.0, wrong.1))))
    go false (Ok (OfEntry entry)) full is (inr on) behind = inr (on.0, (full, (OfEntry entry, is, on.1)), behind on.0 on.2)

-- the first line is the head
found_text : (r : Recorded) (left : List (List ℕ)) (o : Outcome) → Parts left → IsFoundOf r 2 (reading_from 0 left) o → IsJudged 0 r left o
found_text r [] o some h = absurd (cc some.is)
found_text r (rest ∷ []) o some h = found_end r 0 2 (end_fault 0 rest) o refl h
found_text r (line ∷ next ∷ more) o some h = go (line_in 0 line) refl h
  where
    go : (read : Result LineRead FaultKind) → line_in 0 line ≡ read → IsFoundOf r 2 (read_on (or_fault 1 read) (reading_from 1 (next ∷ more))) o
        → IsJudged 0 r (line ∷ next ∷ more) o
    go (Err kind) is found = inl (inl (refl, (kind, is, found)))
    go (Ok (OfEntry entry)) is found = let both : OfEntry entry ≡ Head = (head_of_read line (OfEntry entry) is).1 in absurd (cc both)
    go (Ok Head) is found =
        inr (r, (refl, (Head, is, refl)), found_lines 1 r (next ∷ more) o (omega arith) (record { first = next; later = more; is = refl }) found)

-- what is found of the entries of a text is its verdict
pub found_verdict : (text : List ℕ) (o : Outcome) → IsFoundOf (nothing_recorded any_allocator) 2 (reading_of text) o → IsVerdict text o
found_verdict text o h = found_text (nothing_recorded any_allocator) (text_lines text) o (some_part 10 text) h

-- what is found behind entries that were taken is found of all
found_behind : (r n : Recorded) (line : ℕ) (entries later : List Entry) (fault : Option TextFault) (o : Outcome) → RecordedRuns any_allocator r entries n
    → IsFound n (line + length entries) later fault o → IsFound r line (entries ++ later) fault o
found_behind r n line [] later fault o runs h =
    let here : line + 0 ≡ line = omega arith in
    subst (λ (from : Recorded). IsFound from line later fault o) runs (subst (λ (at : ℕ). IsFound n at later fault o) here h)
found_behind r n line (entry ∷ entries) later fault o runs h =
    let next : line + suc (length entries) ≡ (line + 1) + length entries = omega arith in
    inr (runs.0, runs.1, found_behind runs.0 n (line + 1) entries later fault o runs.2 (subst (λ (at : ℕ). IsFound n at later fault o) next h))

-- one entry more is taken
runs_more : (r n k : Recorded) (entries : List Entry) (entry : Entry) → RecordedRuns any_allocator r entries n
    → RecordedStep any_allocator n entry.command entry.reply k → RecordedRuns any_allocator r (entries ++ entry ∷ []) k
runs_more r n k [] entry runs step = (k, subst (λ (from : Recorded). RecordedStep any_allocator from entry.command entry.reply k) runs step, refl)
runs_more r n k (first ∷ entries) entry runs step = (runs.0, runs.1, runs_more runs.0 n k entries entry runs.2 step)

-- a verdict of the text that was read
judged : (left left' : Option (List ℕ)) (reading : Reading) (o : Outcome) → HasRead left left' reading
    → IsFoundOf (nothing_recorded any_allocator) 2 reading o → HasJudged left left' o
judged left left' reading o read h = record { text = read.text; taken = read.taken; found = go read.is_read }
  where
    go : ((more : List ℕ) → reading_of (read.text ++ more) ≡ reading) ⊎ ((reading_of read.text ≡ reading) × IsAtEnd left')
        → ((more : List ℕ) → IsVerdict (read.text ++ more) o) ⊎ (IsVerdict read.text o × IsAtEnd left')
    go (inl always) = inl (λ more.
        found_verdict (read.text ++ more) o (subst (λ (found : Reading). IsFoundOf (nothing_recorded any_allocator) 2 found o) (sym (always more)) h))
    go (inr here) = inr (found_verdict read.text o (subst (λ (found : Reading). IsFoundOf (nothing_recorded any_allocator) 2 found o) (sym here.0) h), here.1)

-- the entries that have come were taken, and the trees stand for what they leave
pub record HasTaken (history : HistoryInput) (memory : Tracked) (left left' : Option (List ℕ)) : Type 0 where
  pub entries : List Entry
  pub come : HasCome history left left' entries
  pub few : memory.made ≤ length entries
  pub recorded : Recorded
  pub stands : Stands memory recorded
  pub legal : IsRecorded any_allocator entries recorded

-- none has come
pub none_taken : (history : HistoryInput) (memory : Tracked) (left : Option (List ℕ)) → IsFresh history → Stands memory (nothing_recorded any_allocator)
    → memory.made ≡ 0 → HasTaken history memory left left
none_taken history memory left fresh stands made = record {
  entries = [];
  come = none_come history left fresh;
  few = omega (arith, made);
  recorded = nothing_recorded any_allocator;
  stands = stands;
  legal = refl;
}

-- one more has come and is taken
pub more_taken : (old new : HistoryInput) (memory memory' : Tracked) (left mid left' : Option (List ℕ)) (entry : Entry) (before : HasTaken old memory left mid)
    → HasCome new left left' (before.entries ++ entry ∷ []) → IsTaken memory memory' entry.command entry.reply → memory'.made ≤ memory.made + 1
    → HasTaken new memory' left left'
more_taken old new memory memory' left mid left' entry before come taken made =
    let next = taken before.recorded before.stands in
    let few = before.few in record {
      entries = before.entries ++ entry ∷ [];
      come = come;
      few = omega (arith, made, few, length-append before.entries (entry ∷ []));
      recorded = next.0;
      stands = next.2;
      legal = runs_more (nothing_recorded any_allocator) before.recorded next.0 before.entries entry before.legal next.1;
    }

-- all entries of the text were taken
all_found : (history : HistoryInput) (memory : Tracked) (left mid : Option (List ℕ)) (before : HasTaken history memory left mid)
    (fault : Option TextFault) (o : Outcome) → IsFound before.recorded (2 + length before.entries) [] fault o → IsFound (nothing_recorded any_allocator) 2 before.entries fault o
all_found history memory left mid before fault o h =
    subst (λ (entries : List Entry). IsFound (nothing_recorded any_allocator) 2 entries fault o) (append-nil before.entries)
    (found_behind (nothing_recorded any_allocator) before.recorded 2 before.entries [] fault o before.legal h)

-- the line of an entry that has come
pub line_of : (history : HistoryInput) (left left' : Option (List ℕ)) (entries : List Entry) (entry : Entry) (line : ℕ)
    → HasCome history left left' (entries ++ entry ∷ []) → line ≡ lines_before history → 1 ≤ line → line ≡ length entries + 2
line_of history left left' entries entry line come is some =
    let next : next_line history.reader ≡ lines_before history + 1 = rw (ne_eqb (lines_before history) 0 (λ none. omega (arith, none, is, some))) refl in
    omega (arith, is, next, come.line, length-append entries (entry ∷ []))

-- one more has come and is wrong
pub wrong_judged : (old new : HistoryInput) (memory : Tracked) (left mid left' : Option (List ℕ)) (entry : Entry) (line : ℕ)
    (before : HasTaken old memory left mid) → HasCome new left left' (before.entries ++ entry ∷ []) → IsWrong memory entry.command entry.reply → line ≡ length before.entries + 2
    → HasJudged left left' (Wrong line)
wrong_judged old new memory left mid left' entry line before come wrong is = record {
  text = come.text;
  taken = come.taken;
  found = inl (λ more.
      found_verdict (come.text ++ more) (Wrong line)
      (subst (λ (reading : Reading). IsFoundOf (nothing_recorded any_allocator) 2 reading (Wrong line)) (sym (come.reads more))
      (here (reading_left new more))));
}
  where
    at : line ≡ 2 + length before.entries
    at = omega (arith, is)

    here : (later : Reading) → IsFoundOf (nothing_recorded any_allocator) 2 (with_entries (before.entries ++ entry ∷ []) later) (Wrong line)
    here later =
        subst (λ (entries : List Entry). IsFound (nothing_recorded any_allocator) 2 entries later.fault (Wrong line))
        (sym (append_assoc before.entries (entry ∷ []) later.entries))
        (found_behind (nothing_recorded any_allocator) before.recorded 2 before.entries (entry ∷ later.entries) later.fault (Wrong line) before.legal
        (inl (wrong before.recorded before.stands, ap (λ (n : ℕ). Wrong n) at)))

-- the text ends behind them
pub ended_judged : (old new : HistoryInput) (memory : Tracked) (left mid left' : Option (List ℕ)) (lines : ℕ) (before : HasTaken old memory left mid)
    → HasEnded new left left' before.entries → lines ≡ lines_before new → HasJudged left left' (Legal (lines - 1))
ended_judged old new memory left mid left' lines before ends is =
    let count : lines - 1 ≡ 2 + length before.entries - 2 = omega (arith, is, ends.lines) in
    judged left left' _ (Legal (lines - 1)) ends.read (all_found _ _ _ _ before None (Legal (lines - 1)) (ap (λ (n : ℕ). Legal n) count))

-- or it has a fault there
pub fault_judged : (old : HistoryInput) (memory : Tracked) (left mid left' : Option (List ℕ)) (error : ReplayError) (before : HasTaken old memory left mid)
    → HasStopped left left' before.entries error → HasNotJudged left left' error
fault_judged old memory left mid left' (Text fault) before stopped =
    judged left left' _ (Faulty fault) stopped (all_found _ _ _ _ before (Some fault) (Faulty fault) refl)
fault_judged old memory left mid left' Read before stopped = tt
fault_judged old memory left mid left' Memory before stopped = tt
fault_judged old memory left mid left' Write before stopped = absurd stopped

-- what holds of an option's value, where it has this one
pub some_holds : {X : Type 0} (P : X → Type 0) (o : Option X) (x : X) → o ≡ Some x → IfSome o P → P x
some_holds P o x is h = subst (λ (o : Option _). IfSome o P) is h

-- an option that is none has no value
pub none_is : {X : Type 0} (o : Option X) → o ≡ None → IsNone o
none_is o is = rw is refl
