-- The calls that a device gives, line by line.
use Rattle.std.proofs.Common.{◌≡◌, ◌≢◌, ℕ, ◌+◌, ◌<◌, ◌≤◌, ◌^◌, true, false, List, [], ◌∷◌, ◌++◌, Option, Some, None, Ok, Err, length, length-append, ap, refl, sym, ◌∙◌, arith, inl, inr, ne_eqb}
use Rattle.std.proofs.lemmas.Bool.{lt-leb}
use Rattle.model_intervals.specs.Intervals.{Call}
use Rattle.model_words.specs.declared.faults.TextFault.{TextFault}
use Rattle.text_devices.specs.declared.faults.ReplayError.{ReplayError}
use Rattle.text_devices.specs.declared.faults.ReplayError.TheVariants.{Text as FaultyText, Read as FailedRead, Write as FailedWrite, Memory as OfMemory}
use Rattle.text_fields.specs.Lines.{text_lines}
use Rattle.text_fields.proofs.Splits.{some_part}
use Rattle.text_devices.specs.LineInputs.{BadEnd, HasCome as LinesCome, HasEnded as LinesEnded, HasStopped as LinesStopped, Long, OneTooMany, unread_of}
use Rattle.text_devices.proofs.LineInputs.{none_come}
use Rattle.history_reading.specs.CallFaults.{call_error_of}
use Rattle.history_reading.specs.CallFiles.{call_in}
use Rattle.history_reading.specs.CallInputs.{HasCome, HasEnded, HasNext, HasStopped, IsFaultOf, IsFresh, lines_before, next_line}
use Rattle.history_reading.specs.CallOrders.{IsOrderOf}
use Rattle.history_reading.specs.CallReadings.{CallFault, Head, OfCall, OfText, OutOfOrder, calls_from, calls_of, is_in_order, next_in}
use Rattle.history_reading.specs.CallWords.{plain_call}
use Rattle.history_reading.specs.declared.faults.CallError.{CallError}
use Rattle.history_reading.specs.declared.faults.CallError.TheVariants.{Text, Order, Read, Memory}
use Rattle.history_reading.specs.declared.call_inputs.CallInput.{CallInput}
use Rattle.history_reading.specs.declared.words.TimedCall.{TimedCall}
use Rattle.history_reading.proofs.LinesRead.{call_read, end_read, fault_read, full_read, head_read, long_read, no_end_fault, none_read}

-- a line that came has those before it
pub lines_before_it : (new : CallInput) (left left' : Option (List ℕ)) (lines : List (List ℕ)) (line : List ℕ) → LinesCome new.lines left left' (lines ++ line ∷ [])
    → length lines + 1 ≡ lines_before new
lines_before_it new left left' lines line come = omega (arith, come.count, length-append lines (line ∷ []))

-- the line of the next call, behind the first line
later_line : (history : CallInput) → 1 ≤ lines_before history → next_line history ≡ lines_before history + 1
later_line history later = rw (ne_eqb (lines_before history) 0 (λ none. omega (arith, none, later))) refl

-- the head came
pub head_came : (old new : CallInput) (left before left' : Option (List ℕ)) (calls : List Call) (line : List ℕ) (come : HasCome old left before calls)
    → LinesCome new.lines left left' (come.lines ++ line ∷ []) → lines_before new ≡ 1 → next_in (length come.lines) calls line ≡ Ok Head → IsOrderOf new.order calls
    → HasCome new left left' calls
head_came old new left before left' calls line come lines first is order = record {
  lines = come.lines ++ line ∷ [];
  come = lines;
  read = head_read come.lines calls line come.read is;
  line =
      let none : lines_before old ≡ 0 = omega (arith, lines_before_it new left left' come.lines line lines, first, come.come.count) in
      let two : next_line old ≡ 2 = rw none refl in
      later_line new (omega (arith, first)) ∙ omega (arith, first, two, come.line);
  order = order;
}

-- a call came
pub call_came : (old new : CallInput) (left before left' : Option (List ℕ)) (calls : List Call) (line : List ℕ) (call : TimedCall) (come : HasCome old left before calls)
    → LinesCome new.lines left left' (come.lines ++ line ∷ []) → 2 ≤ lines_before new → next_in (length come.lines) calls line ≡ Ok (OfCall (plain_call call))
    → is_in_order calls (plain_call call) ≡ true → IsOrderOf new.order (calls ++ plain_call call ∷ []) → HasNext new left left' calls call
call_came old new left before left' calls line call come lines later is in_order order =
    let next : lines_before old + 1 ≡ lines_before new = omega (arith, lines_before_it new left left' come.lines line lines, come.come.count) in
    let here : lines_before new ≡ length calls + 2 = omega (arith, next, later_line old (omega (arith, next, later)), come.line) in record {
      come = record {
        lines = come.lines ++ line ∷ [];
        come = lines;
        read = call_read come.lines calls line (plain_call call) come.read is;
        line = later_line new (omega (arith, later)) ∙ omega (arith, here, length-append calls (plain_call call ∷ []));
        order = order;
      };
      in_order = in_order;
      line = here;
    }

-- what is read of the text behind a line that has a fault
behind_fault : (history : CallInput) (left left' : Option (List ℕ)) (calls : List Call) (line : List ℕ) (lines : List (List ℕ)) (fault : CallFault)
    (come : LinesCome history.lines left left' (lines ++ line ∷ [])) → (next : List ℕ) (later : List (List ℕ)) → (more : List ℕ) → text_lines (unread_of history.lines ++ more) ≡ next ∷ later
    → calls_from 0 [] ((lines ++ line ∷ []) ++ next ∷ later) ≡ record { calls = calls; fault = Some fault }
    → calls_of (come.text ++ more) ≡ record { calls = calls; fault = Some fault }
behind_fault history left left' calls line lines fault come next later more parts read =
    ap (calls_from 0 []) (come.reads more ∙ ap (λ (behind : List (List ℕ)). (lines ++ line ∷ []) ++ behind) parts) ∙ read

-- a line has a fault
pub line_stopped : (old new : CallInput) (left before left' : Option (List ℕ)) (calls : List Call) (line : List ℕ) (error : CallError) (come : HasCome old left before calls)
    → LinesCome new.lines left left' (come.lines ++ line ∷ []) → IsFaultOf (next_in (length come.lines) calls line) error → HasStopped left left' calls error
line_stopped old new left before left' calls line (Text fault) come lines is = record {
  text = lines.text;
  taken = lines.taken;
  is_read = inl (λ more.
      let parts = some_part 10 (unread_of new.lines ++ more) in
      behind_fault new left left' calls line come.lines (OfText fault) lines parts.first parts.later more parts.is
      (fault_read come.lines calls line parts.first parts.later (OfText fault) come.read is));
}
line_stopped old new left before left' calls line (Order number) come lines is = record {
  text = lines.text;
  taken = lines.taken;
  is_read = inl (λ more.
      let parts = some_part 10 (unread_of new.lines ++ more) in
      behind_fault new left left' calls line come.lines (OutOfOrder number) lines parts.first parts.later more parts.is
      (fault_read come.lines calls line parts.first parts.later (OutOfOrder number) come.read is));
}
line_stopped old new left before left' calls line Read come lines is = tt
line_stopped old new left before left' calls line Memory come lines is = tt

-- the text has a fault where the lines end
fault_ahead : (old : CallInput) (left before left' : Option (List ℕ)) (calls : List Call) (come : HasCome old left before calls)
    → (error : ReplayError) → LinesStopped left left' come.lines error → HasStopped left left' calls (call_error_of error)
fault_ahead old left before left' calls come (FaultyText fault) stopped = elim stopped.is [
  | Long goes is ↦ record {
    text = stopped.text;
    taken = stopped.taken;
    is_read = inl (λ more.
        let ahead = goes more in
        ap (calls_from 0 []) ahead.is ∙ long_read come.lines calls ahead.long ahead.rest come.read ahead.over
        ∙ ap (λ (found : TextFault). record { calls = calls; fault = Some (OfText found) }) (sym is));
  }
  | OneTooMany full first rest reads is ↦ record {
    text = stopped.text;
    taken = stopped.taken;
    is_read = inl (λ more.
        ap (calls_from 0 []) (reads more) ∙ full_read come.lines calls first (rest ++ more) come.read full
        ∙ ap (λ (found : TextFault). record { calls = calls; fault = Some (OfText found) }) (sym is));
  }
  | BadEnd at_end rest is fault_is ↦ record {
    text = stopped.text;
    taken = stopped.taken;
    is_read = inr (ap (calls_from 0 []) is ∙ end_read come.lines calls rest (Some fault) come.read fault_is, at_end);
  }
]
fault_ahead old left before left' calls come FailedRead stopped = tt
fault_ahead old left before left' calls come FailedWrite stopped = absurd stopped
fault_ahead old left before left' calls come OfMemory stopped = tt

pub input_stopped : (old : CallInput) (left before left' : Option (List ℕ)) (calls : List Call) (error : ReplayError) (come : HasCome old left before calls)
    → LinesStopped left left' come.lines error → HasStopped left left' calls (call_error_of error)
input_stopped old left before left' calls error come stopped = fault_ahead old left before left' calls come error stopped

-- the input ended, and the text has no fault
pub input_ended : (old new : CallInput) (left before left' : Option (List ℕ)) (calls : List Call) (come : HasCome old left before calls)
    → LinesEnded left left' come.lines → lines_before new ≡ lines_before old → HasEnded new left left' calls
input_ended old new left before left' calls come ended same = record {
  text = ended.text;
  taken = ended.taken;
  at_end = ended.at_end;
  is = ap (calls_from 0 []) ended.is ∙ end_read come.lines calls [] None come.read (no_end_fault (length come.lines) ended.some);
  lines =
      let some : 1 ≤ lines_before old = omega (arith, ended.some, come.come.count) in
      omega (arith, same, come.line, later_line old some);
}

-- of a history of which nothing was read no call has come
pub no_call_came : (history : CallInput) (left : Option (List ℕ)) → IsFresh history → HasCome history left left []
no_call_came history left fresh = record {
  lines = [];
  come = none_come history.lines left fresh.lines;
  read = none_read;
  line = rw fresh.lines.lines refl;
  order = fresh.order;
}

-- a call that isn't in order
pub out_of_order : (lines number : ℕ) (calls : List Call) (line : List ℕ) (call : Call) → lines + 1 ≡ number → number < 2 ^ 32 → number ≢ 1
    → call_in line ≡ Ok call → is_in_order calls call ≡ false → next_in lines calls line ≡ Err (OutOfOrder number)
out_of_order lines number calls line call counted few later read out =
    rw (lt-leb 4294967295 lines (omega (arith, counted, few)), ne_eqb lines 0 (λ is. later (omega (arith, is, counted))), read, out, counted) refl
