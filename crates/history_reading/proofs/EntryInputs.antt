-- The entries that a device gives, read by read.
use Rattle.std.proofs.Common.{◌≡◌, ℕ, ◌+◌, ◌<◌, ◌≤◌, Bool, false, List, [], ◌∷◌, ◌++◌, Option, Some, None, append-nil, append_assoc, length, length-append, ap, refl, sym, ◌∙◌, arith, inl, inr, ne_eqb}
use Rattle.std.proofs.KnownBytes.{Consumes-trans}
use Rattle.std.specs.Io.KnownBytes.{Consumes}
use Rattle.std.proofs.lemmas.Bool.Decides.{eqb_tells}
use Rattle.model_memory.specs.Plain.{Entry}
use Rattle.model_words.specs.declared.faults.TextFault.{TextFault}
use Rattle.text_devices.specs.Faults.{replay_error_of}
use Rattle.text_devices.specs.declared.faults.ReplayError.{ReplayError}
use Rattle.text_devices.specs.declared.faults.ReplayError.TheVariants.{Memory, Read, Text, Write}
use Rattle.text_fields.specs.declared.faults.ReadFault.{ReadFault}
use Rattle.text_fields.specs.declared.faults.ReadFault.TheVariants.{Text as FaultyText, Memory as OfMemory}
use Rattle.history_reading.specs.EntryInputs.{EndsWithFault, HasCome, HasEnded, HasStopped, IsFault, IsFresh, IsNext, IsUsedUp, MayEnd, lines_before, reading_left}
use Rattle.text_devices.specs.Pendings.{HasBytes}
use Rattle.history_reading.specs.Readers.{lines_of, next_line, reading_behind}
use Rattle.history_reading.specs.Readings.{Reading, ends_with, reading_of, with_entries}
use Rattle.text_words.specs.RecordedWords.{plain_entry}
use Rattle.history_reading.specs.declared.entry_inputs.HistoryInput.{HistoryInput}
use Rattle.history_reading.specs.declared.reading.EntryReader.{EntryReader}
use Rattle.text_words.specs.declared.recorded.RecordedEntry.{RecordedEntry}

-- the next line stands behind those that were taken
pub next_behind : (reader : EntryReader) → lines_of reader < next_line reader
next_behind reader = elim (eqb_tells (lines_of reader) 0) [
  | inl none ↦ rw none.0 (let n = none.1 in omega (arith, n))
  | inr some ↦ rw some.0 (omega arith)
]

next_later : (reader : EntryReader) → 1 ≤ lines_of reader → next_line reader ≡ lines_of reader + 1
next_later reader later = rw (ne_eqb (lines_of reader) 0 (λ none. omega (arith, none, later))) refl

-- the bytes that were read are used up, and others came
pub read_on : (old mid new : HistoryInput) (left left' left'' : Option (List ℕ)) (entries : List Entry) (some : Bool) → HasCome old left left' entries → IsUsedUp old mid
    → new.reader ≡ mid.reader → HasBytes new.pending left' left'' some → HasCome new left left'' entries
read_on old mid new left left' left'' entries some come used same bytes = record {
  text = come.text ++ new.pending;
  taken = Consumes-trans left left' left'' come.text new.pending come.taken bytes.taken;
  reads = λ more.
      ap reading_of (append_assoc come.text new.pending more) ∙ come.reads (new.pending ++ more)
      ∙ ap (λ (r : Reading). with_entries entries r)
      (used.reads (new.pending ++ more) ∙ ap (λ (begun : List ℕ). reading_behind mid.reader (begun ++ (new.pending ++ more))) used.used_up
      ∙ ap (λ (reader : EntryReader). reading_behind reader (new.pending ++ more)) (sym same));
  line = ap next_line same ∙ used.line ∙ come.line;
}

-- an entry came
pub one_more : (old new : HistoryInput) (left left' : Option (List ℕ)) (entries : List Entry) (entry : RecordedEntry) → HasCome old left left' entries → IsNext old new entry
    → HasCome new left left' (entries ++ plain_entry entry ∷ [])
one_more old new left left' entries entry come next = record {
  text = come.text;
  taken = come.taken;
  reads = λ more.
      come.reads more ∙ ap (λ (r : Reading). with_entries entries r) (next.reads more)
      ∙ ap (λ (all : List Entry). record { entries = all; fault = (reading_left new more).fault }) (sym (append_assoc entries (plain_entry entry ∷ []) (reading_left new more).entries));
  line =
      let lines : lines_before new ≡ length entries + 2 = next.line ∙ come.line in
      next_later new.reader (omega (arith, lines)) ∙ omega (arith, lines, length-append entries (plain_entry entry ∷ []));
}

-- the text has a fault in the bytes that were read
pub stopped : (old : HistoryInput) (left left' : Option (List ℕ)) (entries : List Entry) (fault : ReadFault) → HasCome old left left' entries → IsFault old fault
    → HasStopped left left' entries (replay_error_of fault)
stopped old left left' entries (FaultyText fault) come found = record {
  text = come.text;
  taken = come.taken;
  is_read = inl (λ more.
      come.reads more ∙ ap (λ (r : Reading). with_entries entries r) (found more)
      ∙ ap (λ (all : List Entry). record { entries = all; fault = Some fault }) (append-nil entries));
}
stopped old left left' entries OfMemory come found = tt

-- the text that came is read so where it ends
ends_so : (new : HistoryInput) (left left' : Option (List ℕ)) (entries : List Entry) (fault : Option TextFault) (come : HasCome new left left' entries)
    → reading_left new [] ≡ ends_with fault → reading_of come.text ≡ record { entries = entries; fault = fault }
ends_so new left left' entries fault come ends =
    ap reading_of (sym (append-nil come.text)) ∙ come.reads [] ∙ ap (λ (r : Reading). with_entries entries r) ends
    ∙ ap (λ (all : List Entry). record { entries = all; fault = fault }) (append-nil entries)

-- the input ended, and so does the history
pub ended : (new : HistoryInput) (left left' left'' : Option (List ℕ)) (entries : List Entry) → HasCome new left left'' entries → HasBytes new.pending left' left'' false
    → MayEnd new → HasEnded new left left'' entries
ended new left left' left'' entries come bytes may = record {
  read = record { text = come.text; taken = come.taken; is_read = inr (ends_so new left left'' entries None come may.reads, (bytes.is_none refl).1) };
  lines = (let some = may.some in omega (arith, come.line, next_later new.reader some));
}

-- the input ended where the text has a fault
pub ended_faulty : (new : HistoryInput) (left left' left'' : Option (List ℕ)) (entries : List Entry) (error : ReplayError) → HasCome new left left'' entries
    → HasBytes new.pending left' left'' false → EndsWithFault new error → HasStopped left left'' entries error
ended_faulty new left left' left'' entries (Text fault) come bytes ends =
    record { text = come.text; taken = come.taken; is_read = inr (ends_so new left left'' entries (Some fault) come ends, (bytes.is_none refl).1) }
ended_faulty new left left' left'' entries Read come bytes ends = tt
ended_faulty new left left' left'' entries Memory come bytes ends = tt
ended_faulty new left left' left'' entries Write come bytes ends = absurd ends

nothing_read : (left : Option (List ℕ)) → Consumes left left []
nothing_read None = tt
nothing_read (Some xs) = refl

-- of a history of which nothing was read no entry has come
pub none_come : (history : HistoryInput) (left : Option (List ℕ)) → IsFresh history → HasCome history left left []
none_come history left fresh = record {
  text = [];
  taken = nothing_read left;
  reads = λ more. sym (fresh.reads more);
  line = rw fresh.lines refl;
}
