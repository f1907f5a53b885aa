-- The calls that come of a text are its first ones.
use Rattle.std.proofs.Common.{◌≡◌, ℕ, ◌+◌, List, [], ◌∷◌, ◌++◌, append_assoc, append-nil, length, map, ap, sym, subst, ◌∙◌, Option, Some, None, Result, Ok, Err}
use Rattle.std.proofs.lemmas.List.{map-append}
use Rattle.model_intervals.specs.Intervals.{Call}
use Rattle.text_fields.proofs.Splits.{some_part}
use Rattle.text_devices.specs.LineInputs.{unread_of}
use Rattle.history_reading.specs.CallInputs.{HasCome, HasNext, IsFresh}
use Rattle.history_reading.specs.CallReadings.{CallFault, CallLine, Head, OfCall, calls_from, calls_of, next_in, read_on}
use Rattle.history_reading.specs.CallWords.{plain_call}
use Rattle.history_reading.specs.declared.call_inputs.CallInput.{CallInput}
use Rattle.history_reading.specs.declared.words.TimedCall.{TimedCall}
use Rattle.history_reading.proofs.CallInputs.{no_call_came}
use Rattle.history_overlaps.specs.Checks.{AreFirstCalls}

-- ---- what is read behind calls

-- the calls that are read begin with those before
abbrev BeginWith : List Call → List Call → Type 0
BeginWith calls all = (later : List Call) × (all ≡ calls ++ later)

on_read : (read : Result CallLine CallFault) (lines : ℕ) (calls : List Call) (rest : List (List ℕ)) → ((behind : List Call) → BeginWith behind (calls_from lines behind rest).calls)
    → BeginWith calls (read_on read calls (λ behind. calls_from lines behind rest)).calls
on_read (Ok Head) lines calls rest each = each calls
on_read (Ok (OfCall call)) lines calls rest each = let found = each (calls ++ call ∷ []) in (call ∷ found.0, found.1 ∙ append_assoc calls (call ∷ []) found.0)
on_read (Err fault) lines calls rest each = ([], sym (append-nil calls))

read_behind : (lines : ℕ) (calls : List Call) (rest : List (List ℕ)) → BeginWith calls (calls_from lines calls rest).calls
read_behind lines calls [] = ([], sym (append-nil calls))
read_behind lines calls (line ∷ []) = ([], sym (append-nil calls))
read_behind lines calls (line ∷ next ∷ more) = on_read (next_in lines calls line) (lines + 1) calls (next ∷ more) (λ behind. read_behind (lines + 1) behind (next ∷ more))

-- ---- the calls that came

first_by_lines : (history : CallInput) (left' : Option (List ℕ)) (text : List ℕ) (calls : List Call) (come : HasCome history (Some text) left' calls)
    → (rest : List ℕ) → text ≡ come.come.text ++ rest → AreFirstCalls calls text
first_by_lines history left' text calls come rest is =
    let parts = some_part 10 (unread_of history.lines ++ rest) in
    let read : calls_of text ≡ calls_from (length come.lines) calls (parts.first ∷ parts.later) =
    ap (λ (bytes : List ℕ). calls_of bytes) is ∙ ap (λ (lines : List (List ℕ)). calls_from 0 [] lines) (come.come.reads rest)
    ∙ ap (λ (behind : List (List ℕ)). calls_from 0 [] (come.lines ++ behind)) parts.is ∙ come.read.reads parts.first parts.later in
    let behind = read_behind (length come.lines) calls (parts.first ∷ parts.later) in
    (behind.0, ap (λ reading. reading.calls) read ∙ behind.1)

first_by_rest : (history : CallInput) (left' : Option (List ℕ)) (text : List ℕ) (calls : List Call) → HasCome history (Some text) left' calls → AreFirstCalls calls text
first_by_rest history None text calls come = absurd come.come.taken
first_by_rest history (Some rest) text calls come = first_by_lines history (Some rest) text calls come rest come.come.taken

-- they are the first of the text
pub come_first : (history : CallInput) (left left' : Option (List ℕ)) (text : List ℕ) (calls : List Call) → left ≡ Some text → HasCome history left left' calls → AreFirstCalls calls text
come_first history left left' text calls is come = first_by_rest history left' text calls (subst (λ (o : Option (List ℕ)). HasCome history o left' calls) is come)

-- ---- the list of the calls

-- none came at first
pub none_came : (history : CallInput) (left : Option (List ℕ)) (calls : List TimedCall) → calls ≡ [] → IsFresh history → HasCome history left left (map plain_call calls)
none_came history left calls none fresh = subst (λ (l : List TimedCall). HasCome history left left (map plain_call l)) (sym none) (no_call_came history left fresh)

-- one more came
pub one_came : (history : CallInput) (left left' : Option (List ℕ)) (calls more : List TimedCall) (call : TimedCall) → HasNext history left left' (map plain_call calls) call
    → more ≡ calls ++ call ∷ [] → HasCome history left left' (map plain_call more)
one_came history left left' calls more call next is =
    subst (λ (l : List Call). HasCome history left left' l) (sym (ap (λ (l : List TimedCall). map plain_call l) is ∙ map-append plain_call calls (call ∷ []))) next.come
