-- What is found of a text, by its lines.
use Rattle.std.proofs.Common.{◌≡◌, ℕ, suc, ◌+◌, ◌-◌, ◌<◌, ◌≤◌, Bool, true, false, nat_eq, if◌then◌else◌, List, [], ◌∷◌, ◌++◌, length, ap, refl, sym, subst, ◌∙◌, arith, inl, inr, Some, None, Result, Ok, Err}
use Rattle.std.proofs.lemmas.Bool.{true≢false}
use Rattle.std.proofs.lemmas.Bool.Decides.{eqb_tells, leb_tells}
use Rattle.model_memory.specs.Plain.{Entry}
use Rattle.model_history.specs.Recorded.{Recorded, RecordedRuns, RecordedStep, any_allocator, nothing_recorded}
use Rattle.model_history.proofs.Steps.{one_step}
use Rattle.model_jobs.specs.JobFiles.{fault_at, is_empty}
use Rattle.model_words.specs.Words.{◌>>=◌}
use Rattle.model_words.specs.declared.faults.FaultKind.{FaultKind}
use Rattle.model_words.specs.declared.faults.FaultKind.TheVariants.{Cut}
use Rattle.model_words.specs.declared.faults.TextFault.{TextFault}
use Rattle.text_fields.specs.KeptLines.{rest_fault}
use Rattle.text_fields.specs.Lines.{text_lines}
use Rattle.text_fields.proofs.Splits.{Parts}
use Rattle.history_reading.specs.HistoryFiles.{entry_in, head_in}
use Rattle.history_reading.specs.Readings.{Head, LineRead, OfEntry, line_in}
use Rattle.text_devices.specs.Ends.{is_full, too_long}
use Rattle.history_in_order.specs.Outcomes.{Faulty, IsJudged, IsStopLine, IsTakenLine, IsVerdict, LeadsTo, Legal, Outcome, Wrong, end_of, ended}
use Rattle.history_in_order.specs.VerdictLaws.{AreEntries, IsFirstWrong, IsHistory}

-- a line that is taken, and what is found behind it
judged_on : (lines : ℕ) (r n : Recorded) (line : List ℕ) (later : List (List ℕ)) (o : Outcome) → Parts later → IsTakenLine lines r line n
    → IsJudged (lines + 1) n later o → IsJudged lines r (line ∷ later) o
judged_on lines r n line [] o some taken h = absurd (cc some.is)
judged_on lines r n line (next ∷ later) o some taken h = inr (n, taken, h)

-- a line that is an entry
entry_line : (lines : ℕ) (line : List ℕ) (entry : Entry) → 1 ≤ lines → entry_in line ≡ Ok entry → line_in lines line ≡ Ok (OfEntry entry)
entry_line lines line entry later read = elim (eqb_tells lines 0) [
  | inl first ↦ let f = first.1 in absurd (omega (arith, f, later))
  | inr other ↦ rw other.0 (rw read refl)
]

-- a history may have a line more
not_full : (lines : ℕ) → lines < 4294967295 → is_full lines ≡ false
not_full lines few = elim (leb_tells 4294967295 lines) [ inl many ↦ (let m = many.1 in absurd (omega (arith, m, few))) | inr not ↦ not.0 ]

-- it is taken where it is a step
right_line : (lines : ℕ) (r n : Recorded) (line : List ℕ) (entry : Entry) → 1 ≤ lines → lines < 4294967295 → entry_in line ≡ Ok entry
    → RecordedStep any_allocator r entry.command entry.reply n → IsTakenLine lines r line n
right_line lines r n line entry later few read step = (not_full lines few, (OfEntry entry, entry_line lines line entry later read, step))

-- a line is read as one thing
same_read : (lines : ℕ) (line : List ℕ) (read read' : LineRead) → line_in lines line ≡ Ok read → line_in lines line ≡ Ok read' → read ≡ read'
same_read lines line read read' h h' = let both : Ok read ≡ Ok read' = sym h ∙ h' in cc both

not_both_read : (lines : ℕ) (line : List ℕ) (read : LineRead) (kind : FaultKind) → line_in lines line ≡ Ok read → line_in lines line ≡ Err kind → ⊥
not_both_read lines line read kind h h' = let both : Ok read ≡ Err kind = sym h ∙ h' in cc both

-- and stops for one reason
one_stop : (lines : ℕ) (r : Recorded) (line : List ℕ) (o o' : Outcome) → IsStopLine lines r line o → IsStopLine lines r line o' → o ≡ o'
one_stop lines r line o o' (inl a) (inl b) =
    a.1.2 ∙ ap (λ (kind : FaultKind). Faulty (fault_at (lines + 1) kind)) (cc (sym a.1.1 ∙ b.1.1)) ∙ sym b.1.2
one_stop lines r line o o' (inl a) (inr (inl b)) = absurd (not_both_read lines line b.1.0 a.1.0 b.1.1 a.1.1)
one_stop lines r line o o' (inl a) (inr (inr b)) = absurd (true≢false (sym b.0 ∙ a.0))
one_stop lines r line o o' (inr (inl a)) (inl b) = absurd (not_both_read lines line a.1.0 b.1.0 a.1.1 b.1.1)
one_stop lines r line o o' (inr (inl a)) (inr (inl b)) = a.1.3 ∙ sym b.1.3
one_stop lines r line o o' (inr (inl a)) (inr (inr b)) = absurd (true≢false (sym b.0 ∙ a.0))
one_stop lines r line o o' (inr (inr a)) (inl b) = absurd (true≢false (sym a.0 ∙ b.0))
one_stop lines r line o o' (inr (inr a)) (inr (inl b)) = absurd (true≢false (sym a.0 ∙ b.0))
one_stop lines r line o o' (inr (inr a)) (inr (inr b)) = a.1 ∙ sym b.1

-- a line that is taken doesn't stop
not_both : (lines : ℕ) (r n : Recorded) (line : List ℕ) (o : Outcome) → IsStopLine lines r line o → IsTakenLine lines r line n → ⊥
not_both lines r n line o (inl a) taken = not_both_read lines line taken.1.0 a.1.0 taken.1.1 a.1.1
not_both lines r n line o (inr (inl a)) taken =
    let same = same_read lines line taken.1.0 a.1.0 taken.1.1 a.1.1 in a.1.2 n (subst (λ (read : LineRead). LeadsTo r read n) same taken.1.2)
not_both lines r n line o (inr (inr a)) taken = true≢false (sym a.0 ∙ taken.0)

-- a line leads to one place
one_lead : (r n n' : Recorded) (read : LineRead) → LeadsTo r read n → LeadsTo r read n' → n ≡ n'
one_lead r n n' Head h h' = h ∙ sym h'
one_lead r n n' (OfEntry entry) h h' = one_step any_allocator r entry.command entry.reply n n' h h'

one_taken : (lines : ℕ) (r n n' : Recorded) (line : List ℕ) → IsTakenLine lines r line n → IsTakenLine lines r line n' → n ≡ n'
one_taken lines r n n' line taken taken' =
    let same = same_read lines line taken.1.0 taken'.1.0 taken.1.1 taken'.1.1 in
    one_lead r n n' taken'.1.0 (subst (λ (read : LineRead). LeadsTo r read n) same taken.1.2) taken'.1.2

one_found : (lines : ℕ) (r : Recorded) (left : List (List ℕ)) (o o' : Outcome) → IsJudged lines r left o → IsJudged lines r left o' → o ≡ o'
one_found lines r [] o o' h h' = absurd h
one_found lines r (rest ∷ []) o o' h h' = h ∙ sym h'
one_found lines r (line ∷ next ∷ more) o o' (inl stop) (inl stop') = one_stop lines r line o o' stop stop'
one_found lines r (line ∷ next ∷ more) o o' (inl stop) (inr on) = absurd (not_both lines r on.0 line o stop on.1)
one_found lines r (line ∷ next ∷ more) o o' (inr on) (inl stop') = absurd (not_both lines r on.0 line o' stop' on.1)
one_found lines r (line ∷ next ∷ more) o o' (inr on) (inr on') =
    let same = one_taken lines r on.0 on'.0 line on.1 on'.1 in
    one_found (lines + 1) on'.0 (next ∷ more) o o' (subst (λ (n : Recorded). IsJudged (lines + 1) n (next ∷ more) o) same on.2) on'.2

pub verdicts_are_one : (text : List ℕ) (o o' : Outcome) → IsVerdict text o → IsVerdict text o' → o ≡ o'
verdicts_are_one text o o' h h' = one_found 0 (nothing_recorded any_allocator) (text_lines text) o o' h h'

-- a line behind the first is an entry
pub record IsEntryLine (line : List ℕ) (read : LineRead) : Type 0 where
  pub entry : Entry
  pub is_entry : entry_in line ≡ Ok entry
  pub is_read : read ≡ OfEntry entry

pub entry_of_read : (lines : ℕ) (line : List ℕ) (read : LineRead) → 1 ≤ lines → line_in lines line ≡ Ok read → IsEntryLine line read
entry_of_read lines line read later h = elim (eqb_tells lines 0) [
  | inl first ↦ let f = first.1 in absurd (omega (arith, f, later))
  | inr other ↦ go (entry_in line) refl (rw other.0 at h)
]
  where
    go : (r : Result Entry FaultKind) → entry_in line ≡ r → (r >>= λ entry. Ok (OfEntry entry)) ≡ Ok read → IsEntryLine line read
    go (Ok entry) is same = record { entry = entry; is_entry = is; is_read = (let both : Ok (OfEntry entry) ≡ Ok read = same in cc both) }
    go (Err kind) is same = absurd (cc same)

-- the first is the head
pub head_of_read : (line : List ℕ) (read : LineRead) → line_in 0 line ≡ Ok read → (head_in line ≡ Ok tt) × (read ≡ Head)
head_of_read line read h = go (head_in line) refl h
  where
    go : (r : Result (Unit {0}) FaultKind) → head_in line ≡ r → (r >>= λ _. Ok Head) ≡ Ok read → (head_in line ≡ Ok tt) × (read ≡ Head)
    go (Ok tt) is same = (is, (let both : Ok Head ≡ Ok read = same in cc both))
    go (Err kind) is same = absurd (cc same)

-- what is found where a text ends, by what is left and how many lines there are
ended_by : (full empty none : Bool) (lines : ℕ) (f f' f'' : TextFault)
    → ended lines (if full then (if empty then None else Some f) else (if empty then (if none then Some f' else None) else Some f''))
    ≡ (if full then (if empty then Legal (lines - 1) else Faulty f) else (if empty then (if none then Faulty f' else Legal (lines - 1)) else Faulty f''))
ended_by true true none lines f f' f'' = refl
ended_by true false none lines f f' f'' = refl
ended_by false true true lines f f' f'' = refl
ended_by false true false lines f f' f'' = refl
ended_by false false none lines f f' f'' = refl

end_cases : (lines : ℕ) (rest : List ℕ)
    → end_of lines rest
    ≡ (if is_full lines then (if is_empty rest then Legal (lines - 1) else Faulty too_long)
    else (if is_empty rest then (if nat_eq lines 0 then Faulty (fault_at 1 Cut) else Legal (lines - 1)) else Faulty (fault_at (lines + 1) (rest_fault 16384 rest))))
end_cases lines rest = ended_by (is_full lines) (is_empty rest) (nat_eq lines 0) lines too_long (fault_at 1 Cut) (fault_at (lines + 1) (rest_fault 16384 rest))

-- where a text ends no entry is found wrong
not_wrong : (full empty none : Bool) (k line : ℕ) (f f' f'' : TextFault)
    → Wrong line ≡ (if full then (if empty then Legal k else Faulty f) else (if empty then (if none then Faulty f' else Legal k) else Faulty f'')) → ⊥
not_wrong true true none k line f f' f'' h = cc h
not_wrong true false none k line f f' f'' h = cc h
not_wrong false true true k line f f' f'' h = cc h
not_wrong false true false k line f f' f'' h = cc h
not_wrong false false none k line f f' f'' h = cc h

-- it is legal where no byte is left
if_legal : (full empty none : Bool) (k n : ℕ) (f f' f'' : TextFault)
    → Legal n ≡ (if full then (if empty then Legal k else Faulty f) else (if empty then (if none then Faulty f' else Legal k) else Faulty f''))
    → (empty ≡ true) × (n ≡ k)
if_legal true true none k n f f' f'' h = (refl, cc h)
if_legal true false none k n f f' f'' h = absurd (cc h)
if_legal false true true k n f f' f'' h = absurd (cc h)
if_legal false true false k n f f' f'' h = (refl, cc h)
if_legal false false none k n f f' f'' h = absurd (cc h)

nothing_left : (rest : List ℕ) → is_empty rest ≡ true → rest ≡ []
nothing_left [] h = refl
nothing_left (b ∷ bs) h = absurd (cc h)

-- the first wrong entry behind so many lines
record IsWrongFrom (n : ℕ) (r : Recorded) (left : List (List ℕ)) (line : ℕ) : Type 0 where
  pub lines : List (List ℕ)
  pub wrong : List ℕ
  pub later : List (List ℕ)
  pub split : left ≡ lines ++ wrong ∷ later
  pub entries : List Entry
  pub are_entries : AreEntries lines entries
  pub leads : Recorded
  pub runs : RecordedRuns any_allocator r entries leads
  pub entry : Entry
  pub is_entry : entry_in wrong ≡ Ok entry
  pub no_step : (m : Recorded) → RecordedStep any_allocator leads entry.command entry.reply m → ⊥
  pub number : line ≡ length lines + (n + 1)

wrong_from : (n : ℕ) (r : Recorded) (left : List (List ℕ)) (line : ℕ) → 1 ≤ n → IsJudged n r left (Wrong line) → IsWrongFrom n r left line
wrong_from n r [] line some h = absurd h
wrong_from n r (rest ∷ []) line some h = absurd (not_wrong (is_full n) (is_empty rest) (nat_eq n 0) (n - 1) line _ _ _ (h ∙ end_cases n rest))
wrong_from n r (first ∷ next ∷ more) line some (inl (inl faulty)) = let is : Wrong line ≡ Faulty _ = faulty.1.2 in absurd (cc is)
wrong_from n r (first ∷ next ∷ more) line some (inl (inr (inr full))) = let is : Wrong line ≡ Faulty too_long = full.1 in absurd (cc is)
wrong_from n r (first ∷ next ∷ more) line some (inl (inr (inl wrong))) =
    let entry = entry_of_read n first wrong.1.0 some wrong.1.1 in
    let same : line ≡ n + 1 = cc wrong.1.3 in record {
      lines = [];
      wrong = first;
      later = next ∷ more;
      split = refl;
      entries = [];
      are_entries = tt;
      leads = r;
      runs = refl;
      entry = entry.entry;
      is_entry = entry.is_entry;
      no_step = λ m step. wrong.1.2 m (subst (λ (read : LineRead). LeadsTo r read m) (sym entry.is_read) step);
      number = omega (arith, same);
    }
wrong_from n r (first ∷ next ∷ more) line some (inr on) =
    let entry = entry_of_read n first on.1.1.0 some on.1.1.1 in
    let behind = wrong_from (n + 1) on.0 (next ∷ more) line (omega arith) on.2 in
    let number = behind.number in record {
      lines = first ∷ behind.lines;
      wrong = behind.wrong;
      later = behind.later;
      split = ap (λ (left : List (List ℕ)). first ∷ left) behind.split;
      entries = entry.entry ∷ behind.entries;
      are_entries = (entry.is_entry, behind.are_entries);
      leads = behind.leads;
      runs = (on.0, (subst (λ (read : LineRead). LeadsTo r read on.0) entry.is_read on.1.1.2), behind.runs);
      entry = behind.entry;
      is_entry = behind.is_entry;
      no_step = behind.no_step;
      number = omega (arith, number);
    }

none_wrong : (rest : List ℕ) (line : ℕ) → Wrong line ≡ end_of 0 rest → ⊥
none_wrong [] line h = let same : Wrong line ≡ Faulty _ = h in cc same
none_wrong (b ∷ bs) line h = let same : Wrong line ≡ Faulty _ = h in cc same

wrong_in : (r : Recorded) (text : List ℕ) (left : List (List ℕ)) (line : ℕ) → r ≡ nothing_recorded any_allocator → text_lines text ≡ left
    → IsJudged 0 r left (Wrong line) → IsFirstWrong text line
wrong_in r text [] line start is h = absurd h
wrong_in r text (rest ∷ []) line start is h = absurd (none_wrong rest line h)
wrong_in r text (first ∷ next ∷ more) line start is (inl (inl faulty)) = let same : Wrong line ≡ Faulty _ = faulty.1.2 in absurd (cc same)
wrong_in r text (first ∷ next ∷ more) line start is (inl (inr (inr full))) = let same : Wrong line ≡ Faulty too_long = full.1 in absurd (cc same)
wrong_in r text (first ∷ next ∷ more) line start is (inl (inr (inl wrong))) =
    absurd (wrong.1.2 r (subst (λ (read : LineRead). LeadsTo r read r) (sym (head_of_read first wrong.1.0 wrong.1.1).1) refl))
wrong_in r text (first ∷ next ∷ more) line start is (inr on) =
    let head = head_of_read first on.1.1.0 on.1.1.1 in
    let stays : on.0 ≡ r = subst (λ (read : LineRead). LeadsTo r read on.0) head.1 on.1.1.2 in
    let behind = wrong_from 1 on.0 (next ∷ more) line (omega arith) on.2 in
    let number = behind.number in record {
      head = first;
      lines = behind.lines;
      wrong = behind.wrong;
      later = behind.later;
      split = is ∙ ap (λ (left : List (List ℕ)). first ∷ left) behind.split;
      is_head = head.0;
      entries = behind.entries;
      are_entries = behind.are_entries;
      left = behind.leads;
      legal = subst (λ (from : Recorded). RecordedRuns any_allocator from behind.entries behind.leads) (stays ∙ start) behind.runs;
      entry = behind.entry;
      is_entry = behind.is_entry;
      no_step = behind.no_step;
      number = omega (arith, number);
    }

pub wrong_is_first : (text : List ℕ) (line : ℕ) → IsVerdict text (Wrong line) → IsFirstWrong text line
wrong_is_first text line h = wrong_in (nothing_recorded any_allocator) text (text_lines text) line refl refl h

-- a legal history behind so many lines
record IsLegalFrom (n : ℕ) (r : Recorded) (left : List (List ℕ)) (k : ℕ) : Type 0 where
  pub lines : List (List ℕ)
  pub split : left ≡ lines ++ [] ∷ []
  pub entries : List Entry
  pub are_entries : AreEntries lines entries
  pub end : Recorded
  pub runs : RecordedRuns any_allocator r entries end
  pub count : length entries + n ≡ k + 1
  pub few : length entries + n ≤ 4294967295

-- fewer lines than a history may have
below_full : (n : ℕ) → is_full n ≡ false → n < 4294967295
below_full n h = elim (leb_tells 4294967295 n) [ inl full ↦ absurd (true≢false (sym full.0 ∙ h)) | inr below ↦ (let b = below.1 in omega (arith, b)) ]

legal_from : (n : ℕ) (r : Recorded) (left : List (List ℕ)) (k : ℕ) → 1 ≤ n → n ≤ 4294967295 → IsJudged n r left (Legal k) → IsLegalFrom n r left k
legal_from n r [] k some few h = absurd h
legal_from n r (rest ∷ []) k some few h =
    let is = if_legal (is_full n) (is_empty rest) (nat_eq n 0) (n - 1) k _ _ _ (h ∙ end_cases n rest) in
    let same = is.1 in record {
      lines = [];
      split = ap (λ (bytes : List ℕ). bytes ∷ []) (nothing_left rest is.0);
      entries = [];
      are_entries = tt;
      end = r;
      runs = refl;
      count = omega (arith, same, some);
      few = omega (arith, few);
    }
legal_from n r (first ∷ next ∷ more) k some few (inl (inl faulty)) = let is : Legal k ≡ Faulty _ = faulty.1.2 in absurd (cc is)
legal_from n r (first ∷ next ∷ more) k some few (inl (inr (inl wrong))) = let is : Legal k ≡ Wrong _ = wrong.1.3 in absurd (cc is)
legal_from n r (first ∷ next ∷ more) k some few (inl (inr (inr full))) = let is : Legal k ≡ Faulty too_long = full.1 in absurd (cc is)
legal_from n r (first ∷ next ∷ more) k some few (inr on) =
    let entry = entry_of_read n first on.1.1.0 some on.1.1.1 in
    let behind = legal_from (n + 1) on.0 (next ∷ more) k (omega arith) (omega (arith, below_full n on.1.0)) on.2 in
    let count = behind.count in
    let few' = behind.few in record {
      lines = first ∷ behind.lines;
      split = ap (λ (left : List (List ℕ)). first ∷ left) behind.split;
      entries = entry.entry ∷ behind.entries;
      are_entries = (entry.is_entry, behind.are_entries);
      end = behind.end;
      runs = (on.0, (subst (λ (read : LineRead). LeadsTo r read on.0) entry.is_read on.1.1.2), behind.runs);
      count = omega (arith, count);
      few = omega (arith, few');
    }

-- what a legal history is: its entries, as many as are told, and where they end
abbrev pub IsLegalText : List ℕ → ℕ → Type 0
IsLegalText text n =
    (entries : List Entry) × IsHistory text entries × (length entries ≡ n) × ((end : Recorded) × RecordedRuns any_allocator (nothing_recorded any_allocator) entries end)

legal_in : (r : Recorded) (text : List ℕ) (left : List (List ℕ)) (k : ℕ) → r ≡ nothing_recorded any_allocator → text_lines text ≡ left
    → IsJudged 0 r left (Legal k) → IsLegalText text k
legal_in r text [] k start is h = absurd h
legal_in r text ([] ∷ []) k start is h = let same : Legal k ≡ Faulty _ = h in absurd (cc same)
legal_in r text ((b ∷ bs) ∷ []) k start is h = let same : Legal k ≡ Faulty _ = h in absurd (cc same)
legal_in r text (first ∷ next ∷ more) k start is (inl (inl faulty)) = let same : Legal k ≡ Faulty _ = faulty.1.2 in absurd (cc same)
legal_in r text (first ∷ next ∷ more) k start is (inl (inr (inl wrong))) = let same : Legal k ≡ Wrong _ = wrong.1.3 in absurd (cc same)
legal_in r text (first ∷ next ∷ more) k start is (inl (inr (inr full))) = let same : Legal k ≡ Faulty too_long = full.1 in absurd (cc same)
legal_in r text (first ∷ next ∷ more) k start is (inr on) =
    let head = head_of_read first on.1.1.0 on.1.1.1 in
    let stays : on.0 ≡ r = subst (λ (read : LineRead). LeadsTo r read on.0) head.1 on.1.1.2 in
    let behind = legal_from 1 on.0 (next ∷ more) k (omega arith) (omega arith) on.2 in
    let few = behind.few in (
      behind.entries,
      record {
        head = first;
        lines = behind.lines;
        split = is ∙ ap (λ (left : List (List ℕ)). first ∷ left) behind.split;
        is_head = head.0;
        are_entries = behind.are_entries;
        few = omega (arith, few);
      },
      omega (arith, behind.count),
      (behind.end, subst (λ (from : Recorded). RecordedRuns any_allocator from behind.entries behind.end) (stays ∙ start) behind.runs),
    )

-- lines and what follows the last line end
some_lines : (lines : List (List ℕ)) (rest : List ℕ) → Parts (lines ++ rest ∷ [])
some_lines [] rest = record { first = rest; later = []; is = refl }
some_lines (line ∷ lines) rest = record { first = line; later = lines ++ rest ∷ []; is = refl }

-- where nothing is left it is legal
ends_legal : (full none : Bool) (k : ℕ) (f f' : TextFault) → none ≡ false → Legal k ≡ (if full then Legal k else (if none then Faulty f' else Legal k))
ends_legal true none k f f' h = refl
ends_legal false false k f f' h = refl
ends_legal false true k f f' h = absurd (true≢false h)

from_legal : (n : ℕ) (r end : Recorded) (lines : List (List ℕ)) (entries : List Entry) → 1 ≤ n → length entries + n ≤ 4294967295 → AreEntries lines entries
    → RecordedRuns any_allocator r entries end → IsJudged n r (lines ++ [] ∷ []) (Legal (length entries + n - 1))
from_legal n r end [] [] some few are run =
    ap (λ (k : ℕ). Legal k) (omega arith) ∙ ends_legal (is_full n) (nat_eq n 0) (n - 1) too_long (fault_at 1 _) not_none
    ∙ sym (end_cases n [])
  where
    not_none : nat_eq n 0 ≡ false
    not_none = elim (eqb_tells n 0) [ inl none ↦ (let is = none.1 in absurd (omega (arith, is, some))) | inr other ↦ other.0 ]
from_legal n r end [] (entry ∷ entries) some few are run = absurd are
from_legal n r end (line ∷ lines) [] some few are run = absurd are
from_legal n r end (line ∷ lines) (entry ∷ entries) some few are run =
    let taken = right_line n r run.0 line entry some (omega (arith, few)) are.0 run.1 in
    let behind = from_legal (n + 1) run.0 end lines entries (omega arith) (omega (arith, few)) are.1 run.2 in
    judged_on n r run.0 line (lines ++ [] ∷ []) (Legal (suc (length entries) + n - 1)) (some_lines lines []) taken
    (subst (λ (k : ℕ). IsJudged (n + 1) run.0 (lines ++ [] ∷ []) (Legal k)) (omega arith) behind)

-- the head is taken
head_taken : (r : Recorded) (head : List ℕ) → head_in head ≡ Ok tt → IsTakenLine 0 r head r
head_taken r head is = (refl, (Head, rw is refl, refl))

pub legal_text : (text : List ℕ) (n : ℕ) → IsVerdict text (Legal n) → IsLegalText text n
legal_text text n h = legal_in (nothing_recorded any_allocator) text (text_lines text) n refl refl h

pub text_legal : (text : List ℕ) (n : ℕ) → IsLegalText text n → IsVerdict text (Legal n)
text_legal text n legal =
    let history = legal.1 in
    let start = nothing_recorded any_allocator in
    let behind = from_legal 1 start legal.3.0 history.lines legal.0 (omega arith) (omega (arith, history.few)) history.are_entries legal.3.1 in
    let many : length legal.0 + 1 - 1 ≡ n = (let l = legal.2 in omega (arith, l)) in
    subst (λ (lines : List (List ℕ)). IsJudged 0 start lines (Legal n)) (sym history.split)
    (judged_on 0 start start history.head (history.lines ++ [] ∷ []) (Legal n) (some_lines history.lines []) (head_taken start history.head history.is_head)
    (subst (λ (k : ℕ). IsJudged (0 + 1) start (history.lines ++ [] ∷ []) (Legal k)) many behind))
