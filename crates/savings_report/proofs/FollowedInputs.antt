-- What is reported of the entries that a device gives, one by one.
use Rattle.std.proofs.Common.{◌≡◌, ℕ, ◌+◌, Bool, false, true, List, [], ◌∷◌, ◌++◌, append-nil, append_assoc, if◌then◌else◌, length, length-append, is_some, nat_eq, ne_eqb, Option, Some, None, ap, refl, suc, sym, subst, ◌∙◌, arith, inl, inr, zero}
use Rattle.std.specs.Prelude.{IfSome}
use Rattle.model_memory.specs.Plain.{Entry}
use Rattle.model_words.specs.declared.faults.TextFault.{TextFault}
use Rattle.text_devices.specs.declared.faults.ReplayError.{ReplayError}
use Rattle.text_devices.specs.declared.faults.ReplayError.TheVariants.{Read, Write, Text, Memory}
use Rattle.savings_report.specs.declared.table.samples.Sample.{Sample}
use Rattle.history_reading.proofs.EntryInputs.{none_come}
use Rattle.history_reading.specs.EntryInputs.{HasCome, HasEnded, HasRead, HasStopped, IsFresh, lines_before, reading_left}
use Rattle.history_reading.specs.Readings.{Reading, reading_of}
use Rattle.history_reading.specs.declared.entry_inputs.HistoryInput.{HistoryInput}
use Rattle.savings_replay.specs.Calls.{call_of}
use Rattle.savings_replay.specs.Followed.{Followed, start}
use Rattle.savings_replay.specs.declared.settings.Settings.{Settings}
use Rattle.savings_report.specs.Inputs.{HasFollowed, HasNotReported, HasReported}
use Rattle.savings_report.specs.Reports.{Report, at_end, by_call, report_of, reported}
use Rattle.savings_report.specs.Runs.{Fails, IsAt, IsRun, Passes, UsesUp}
use Rattle.savings_report.specs.declared.errors.SavingsError.{SavingsError}
use Rattle.savings_report.specs.declared.errors.SavingsError.TheVariants.{Replay, NotAHistory}
use Rattle.savings_report.specs.declared.options.SavingsOptions.{SavingsOptions}
use Rattle.savings_report.specs.declared.runs.Run.{Run}

-- what is reported of a history with these entries and this fault
pub of_entries : Settings → List Entry → Option TextFault → Report
of_entries settings entries fault = reported settings (start settings) [] 2 entries fault

-- the calls of these entries have led the run here
pub record IsLed (run : Run) (options : SavingsOptions) (entries : List Entry) : Type 0 where
  pub next : Followed
  pub seen : List Sample
  pub at : IsAt run (length entries + 2) options next seen
  pub on : (later : List Entry) (fault : Option TextFault) → of_entries options.settings (entries ++ later) fault
      ≡ reported options.settings next seen (length entries + 2) later fault

-- of what a device gave, some entries have come, and their calls were made
pub record HasGone (history : HistoryInput) (old new : Run) (left left' : Option (List ℕ)) : Type 0 where
  pub entries : List Entry
  pub come : HasCome history left left' entries
  pub led : (options : SavingsOptions) → IsRun old options (start options.settings) [] → IsLed new options entries

-- before the first entry the run is at the start
none_led : (run : Run) (options : SavingsOptions) → IsRun run options (start options.settings) [] → IsLed run options []
unfolding of_entries
none_led run options at = record { next = start options.settings; seen = []; at = record { is_run = at; few = omega arith }; on = λ later fault. refl }

-- so it is with a history of which nothing was read
pub none_gone : (history : HistoryInput) (run : Run) (left : Option (List ℕ)) → IsFresh history → HasGone history run run left left
none_gone history run left fresh = record {
  entries = [];
  come = none_come history left fresh;
  led = none_led run;
}

-- a reader that will take line n + 3 next has taken n + 2 lines
line_from : (lines n : ℕ) → (if nat_eq lines 0 then 2 else lines + 1) ≡ n + 3 → lines ≡ n + 2
line_from zero n is = absurd (omega (arith, is))
line_from (suc k) n is =
    let some : nat_eq (suc k) 0 ≡ false = ne_eqb (suc k) 0 (λ none. omega (arith, none)) in
    let behind : suc k + 1 ≡ n + 3 = subst (λ (b : Bool). (if b then 2 else suc k + 1) ≡ n + 3) some is in omega (arith, behind)

-- the line of the entry that came last
last_line : (history : HistoryInput) (left left' : Option (List ℕ)) (entries : List Entry) (entry : Entry) (line : ℕ)
    → line ≡ lines_before history → HasCome history left left' (entries ++ entry ∷ []) → line ≡ length entries + 2
last_line history left left' entries entry line is come =
    let len = length-append entries (entry ∷ []) in
    is ∙ line_from (lines_before history) (length entries) (come.line ∙ omega (arith, len))

-- what is reported where an entry follows
at_entry : (run : Run) (options : SavingsOptions) (entries : List Entry) (entry : Entry) (later : List Entry) (fault : Option TextFault) (line : ℕ)
    → (led : IsLed run options entries) → line ≡ length entries + 2
    → of_entries options.settings ((entries ++ entry ∷ []) ++ later) fault
    ≡ by_call options.settings led.next led.seen line (call_of entry) (λ next seen. reported options.settings next seen (line + 1) later fault)
at_entry run options entries entry later fault line led is =
    ap (λ (es : List Entry). of_entries options.settings es fault) (append_assoc entries (entry ∷ []) later) ∙ led.on (entry ∷ later) fault
    ∙ ap (λ (n : ℕ). by_call options.settings led.next led.seen n (call_of entry) (λ g gs. reported options.settings g gs (n + 1) later fault)) (sym is)

-- the run is where the entry finds it
at_line : (run : Run) (options : SavingsOptions) (entries : List Entry) (line : ℕ) → (led : IsLed run options entries) → line ≡ length entries + 2
    → IsAt run line options led.next led.seen
at_line run options entries line led is = subst (λ (n : ℕ). IsAt run n options led.next led.seen) (sym is) led.at

-- an entry has led on
entry_led : (old new : Run) (options : SavingsOptions) (entries : List Entry) (entry : Entry) (line : ℕ) → line ≡ length entries + 2
    → Passes old new line (call_of entry) → IsLed old options entries → IsLed new options (entries ++ entry ∷ [])
entry_led old new options entries entry line is passes led =
    let len = length-append entries (entry ∷ []) in
    let behind : line + 1 ≡ length (entries ++ entry ∷ []) + 2 = omega (arith, is, len) in
    let passed = passes options led.next led.seen (at_line old options entries line led is) in record {
      next = passed.next;
      seen = passed.seen;
      at = subst (λ (n : ℕ). IsAt new n options passed.next passed.seen) behind passed.at;
      on = λ later fault.
          at_entry old options entries entry later fault line led is ∙ passed.on (λ next seen. reported options.settings next seen (line + 1) later fault)
          ∙ ap (λ (n : ℕ). reported options.settings passed.next passed.seen n later fault) behind;
    }

-- an entry came, and has led on
pub entry_gone : (history next : HistoryInput) (first old new : Run) (left left' left'' : Option (List ℕ)) (entry : Entry) (line : ℕ) → line ≡ lines_before next
    → (gone : HasGone history first old left left') → HasCome next left left'' (gone.entries ++ entry ∷ []) → Passes old new line (call_of entry)
    → HasGone next first new left left''
entry_gone history next first old new left left' left'' entry line is gone come passes = record {
  entries = gone.entries ++ entry ∷ [];
  come = come;
  led = λ options at.
      entry_led old new options gone.entries entry line (last_line next left left'' gone.entries entry line is come) passes (gone.led options at);
}

-- what is reported of a text, by its reading
text_reported : (settings : Settings) (text : List ℕ) (reading : Reading) → reading_of text ≡ reading
    → report_of settings text ≡ of_entries settings reading.entries reading.fault
unfolding report_of of_entries
text_reported settings text reading is = ap (λ (r : Reading). reported settings (start settings) [] 2 r.entries r.fault) is

-- an entry for whose call a heap has no virtual pages left
pub entry_used_up : (history next : HistoryInput) (first old new : Run) (left left' left'' : Option (List ℕ)) (entry : Entry) (line : ℕ) (used_up : Option ℕ)
    (options : SavingsOptions) → line ≡ lines_before next → (gone : HasGone history first old left left')
    → HasCome next left left'' (gone.entries ++ entry ∷ [])
    → is_some used_up ≡ true → IfSome used_up (UsesUp old new line (call_of entry)) → IsRun first options (start options.settings) []
    → HasFollowed new options left left'' used_up
entry_used_up history next first old new left left' left'' entry line None options is gone come some uses at = absurd (cc some)
entry_used_up history next first old new left left' left'' entry line (Some call) options is gone come some uses at =
    let led = gone.led options at in
    let here = last_line next left left'' gone.entries entry line is come in
    let used = uses options led.next led.seen (at_line old options gone.entries line led here) in record {
      followed = led.next;
      samples = led.seen;
      is_run = used.is_run;
      reported = record {
        text = come.text;
        taken = come.taken;
        reported = inl (λ more.
            let behind = reading_left next more in
            text_reported options.settings (come.text ++ more) _ (come.reads more)
            ∙ at_entry old options gone.entries entry behind.entries behind.fault line led here
            ∙ used.ends (λ next seen. reported options.settings next seen (line + 1) behind.entries behind.fault));
      };
    }

-- an entry that leads nowhere
pub entry_fails : (history next : HistoryInput) (first old : Run) (left left' left'' : Option (List ℕ)) (entry : Entry) (line : ℕ) (error : SavingsError)
    (options : SavingsOptions) → line ≡ lines_before next → (gone : HasGone history first old left left')
    → HasCome next left left'' (gone.entries ++ entry ∷ [])
    → Fails old line (call_of entry) error → IsRun first options (start options.settings) [] → HasNotReported options left left'' error
entry_fails history next first old left left' left'' entry line (NotAHistory number) options is gone come fails at =
    let led = gone.led options at in
    let here = last_line next left left'' gone.entries entry line is come in record {
      text = come.text;
      taken = come.taken;
      reported = inl (λ more.
          let behind = reading_left next more in
          text_reported options.settings (come.text ++ more) _ (come.reads more)
          ∙ at_entry old options gone.entries entry behind.entries behind.fault line led here
          ∙ fails options led.next led.seen (at_line old options gone.entries line led here)
          (λ next seen. reported options.settings next seen (line + 1) behind.entries behind.fault));
    }
entry_fails history next first old left left' left'' entry line (Replay (Text fault)) options is gone come fails at =
    let led = gone.led options at in
    absurd (fails options led.next led.seen (at_line old options gone.entries line led (last_line next left left'' gone.entries entry line is come)))
entry_fails history next first old left left' left'' entry line (Replay Memory) options is gone come fails at = tt
entry_fails history next first old left left' left'' entry line (Replay Read) options is gone come fails at = absurd fails
entry_fails history next first old left left' left'' entry line (Replay Write) options is gone come fails at = absurd fails

-- what is reported where the text ends behind these entries, with this fault or with none
end_reported : (run : Run) (options : SavingsOptions) (left left' : Option (List ℕ)) (entries : List Entry) (fault : Option TextFault)
    → (led : IsLed run options entries) → HasRead left left' (record { entries = entries; fault = fault })
    → HasReported options.settings left left' (at_end led.next led.seen fault)
end_reported run options left left' entries fault led read =
    let ends : of_entries options.settings entries fault ≡ at_end led.next led.seen fault
    = ap (λ (es : List Entry). of_entries options.settings es fault) (sym (append-nil entries)) ∙ led.on [] fault in record {
      text = read.text;
      taken = read.taken;
      reported = elim read.is_read [
        | inl is ↦ inl (λ more. text_reported options.settings (read.text ++ more) _ (is more) ∙ ends)
        | inr is ↦ inr (text_reported options.settings read.text _ is.0 ∙ ends, is.1)
      ];
    }

-- the input has ended
pub end_gone : (history next : HistoryInput) (first run : Run) (left left' left'' : Option (List ℕ)) (options : SavingsOptions)
    → (gone : HasGone history first run left left') → HasEnded next left left'' gone.entries → IsRun first options (start options.settings) []
    → HasFollowed run options left left'' None
end_gone history next first run left left' left'' options gone ended at =
    let led = gone.led options at in record {
      followed = led.next;
      samples = led.seen;
      is_run = led.at.is_run;
      reported = end_reported run options left left'' gone.entries None led ended.read;
    }

-- no entry comes
pub stop_gone : (history : HistoryInput) (first run : Run) (left left' left'' : Option (List ℕ)) (error : ReplayError) (options : SavingsOptions)
    → (gone : HasGone history first run left left') → HasStopped left left'' gone.entries error → IsRun first options (start options.settings) []
    → HasNotReported options left left'' (Replay error)
stop_gone history first run left left' left'' (Text fault) options gone stopped at =
    end_reported run options left left'' gone.entries (Some fault) (gone.led options at) stopped
stop_gone history first run left left' left'' Read options gone stopped at = tt
stop_gone history first run left left' left'' Memory options gone stopped at = tt
stop_gone history first run left left' left'' Write options gone stopped at = absurd stopped
