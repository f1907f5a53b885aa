-- What is read of a text that comes in pieces.
use Rattle.std.proofs.Common.{◌≡◌, ℕ, ◌+◌, ◌-◌, ◌<◌, ◌≤◌, Bool, true, false, nat_eq, List, [], ◌∷◌, ◌++◌, append-nil, append_assoc, length, length-append, ap, refl, sym, subst, ◌∙◌, arith, inl, inr, Option, Some, None, Result, Ok, Err}
use Rattle.std.specs.Prelude.{IfErr, IfOk, IsErrAnd, IsNone}
use Rattle.std.proofs.lemmas.Bool.{le-leb, ne_eqb}
use Rattle.std.proofs.lemmas.Bool.Decides.{leb_tells}
use Rattle.std.proofs.lemmas.List.Splits.{slice_split_at, slice_split_none}
use Rattle.model_words.specs.declared.faults.TextFault.{TextFault}
use Rattle.text_fields.specs.Commands.{IsRecordable, plain_command}
use Rattle.text_fields.specs.KeptLines.{IsUnended}
use Rattle.text_fields.specs.Lines.{text_lines}
use Rattle.text_fields.proofs.KeptLines.{both_unended, rest_too_long}
use Rattle.text_fields.proofs.Splits.{Parts, first_line, some_part, unended_more}
use Rattle.text_fields.specs.declared.faults.ReadFault.{ReadFault}
use Rattle.text_fields.specs.declared.faults.ReadFault.TheVariants.{Text, Memory as OfMemory}
use Rattle.history_reading.specs.QuickEntries.{IsQuickEntry}
use Rattle.history_reading.specs.Readers.{HasFault, HasRead, HasTaken, IfRead, IsFaultOf, begun_of, bytes_left, lines_of, next_line, reading_behind}
use Rattle.history_reading.specs.Readings.{Head, LineRead, OfEntry, Reading, ends_with, next_in, read_on, reading_from, with_entry}
use Rattle.text_devices.specs.Ends.{end_fault, is_full, long_line}
use Rattle.text_words.specs.RecordedWords.{IsNarrow, IsSized, plain_entry}
use Rattle.history_reading.specs.declared.reading.EntryReader.{EntryReader}
use Rattle.text_words.specs.declared.recorded.RecordedEntry.{RecordedEntry}
use denote.Ref.{Bor}

-- a line, and the lines behind it
from_line : (lines : ℕ) (line : List ℕ) (later : List (List ℕ)) → Parts later → reading_from lines (line ∷ later) ≡ read_on (next_in lines line) (reading_from (lines + 1) later)
from_line lines line [] some = absurd (cc some.is)
from_line lines line (next ∷ later) some = refl

-- a line of which a beginning has come, its last bytes, its end, and what follows
read_line : (lines : ℕ) (begun last more : List ℕ) → IsUnended begun → IsUnended last
    → reading_from lines (text_lines (begun ++ ((last ++ 10 ∷ []) ++ more))) ≡ read_on (next_in lines (begun ++ last)) (reading_from (lines + 1) (text_lines more))
read_line lines begun last more first second =
    let text : begun ++ ((last ++ 10 ∷ []) ++ more) ≡ (begun ++ last) ++ 10 ∷ more
    = ap (λ (behind : List ℕ). begun ++ behind) (append_assoc last (10 ∷ []) more) ∙ sym (append_assoc begun last (10 ∷ more)) in
    ap (λ (all : List ℕ). reading_from lines (text_lines all)) text
    ∙ ap (reading_from lines) (slice_split_at (λ b. nat_eq b 10) (begun ++ last) 10 more (both_unended begun last first second) refl)
    ∙ from_line lines (begun ++ last) (text_lines more) (some_part 10 more)

-- a reader at the beginning of a line
at_line : (reader : EntryReader) (lines : ℕ) (more : List ℕ) → lines_of reader ≡ lines → begun_of reader ≡ [] → reading_from lines (text_lines more) ≡ reading_behind reader more
at_line reader lines more is none = sym (ap (λ (n : ℕ). reading_from n (text_lines (begun_of reader ++ more))) is ∙ ap (λ (begun : List ℕ). reading_from lines (text_lines (begun ++ more))) none)

-- the line of the next entry, where the head was taken
later_line : (reader : EntryReader) → 1 ≤ lines_of reader → lines_of reader + 1 ≡ next_line reader
later_line reader later = rw (ne_eqb (lines_of reader) 0 (λ is. omega (arith, is, later))) refl

-- the line of an entry ends
pub entry_ended : (old new : EntryReader) (last : List ℕ) (entry : RecordedEntry) → IsUnended last → next_in (lines_of old) (begun_of old ++ last) ≡ Ok (OfEntry (plain_entry entry))
    → 1 ≤ lines_of old → lines_of new ≡ lines_of old + 1 → begun_of new ≡ [] → IsRecordable (plain_command entry.command)
    → IsSized (plain_command entry.command) → IsNarrow entry.reply → HasRead old new (last ++ 10 ∷ []) entry []
entry_ended old new last entry unended read later lines begun in_range sized narrow = record {
  reads = λ more.
      read_line (lines_of old) (begun_of old) last more old.begun.unended unended
      ∙ ap (λ (line : Result LineRead TextFault). read_on line (reading_from (lines_of old + 1) (text_lines more))) read
      ∙ ap (λ (behind : Reading). with_entry (plain_entry entry) behind) (at_line new (lines_of old + 1) more lines begun);
  line = lines ∙ later_line old later;
  begun = begun;
  front = last ++ 10 ∷ [];
  whole = sym (append-nil (last ++ 10 ∷ []));
  shorter = omega (arith, length-append last (10 ∷ []));
  in_range = in_range;
  sized = sized;
  narrow = narrow;
}

-- behind the first line fewer bytes are left than within it
head_nearer : (old new : EntryReader) → lines_of old ≡ 0 → lines_of new ≡ 1 → begun_of new ≡ [] → bytes_left new < bytes_left old
head_nearer old new first lines begun = rw (first, lines, begun) (omega arith)

-- the first line ends
pub head_ended : (old new : EntryReader) (last : List ℕ) → IsUnended last → next_in (lines_of old) (begun_of old ++ last) ≡ Ok Head → lines_of old ≡ 0
    → lines_of new ≡ 1 → begun_of new ≡ [] → HasTaken old new (last ++ 10 ∷ [])
head_ended old new last unended read first lines begun =
    let next : lines_of new ≡ lines_of old + 1 = omega (arith, first, lines) in record {
      reads = λ more.
          read_line (lines_of old) (begun_of old) last more old.begun.unended unended
          ∙ ap (λ (line : Result LineRead TextFault). read_on line (reading_from (lines_of old + 1) (text_lines more))) read
          ∙ at_line new (lines_of old + 1) more next begun;
      line = rw (first, lines) refl;
      no_more = omega (arith, head_nearer old new first lines begun);
      fewer = λ _. head_nearer old new first lines begun;
    }

-- a line ends that has a fault
pub line_faulty : (old : EntryReader) (last : List ℕ) (fault : ReadFault) → IsUnended last → IsFaultOf (next_in (lines_of old) (begun_of old ++ last)) fault
    → HasFault old (last ++ 10 ∷ []) fault
line_faulty old last (Text fault) unended read = λ more.
    read_line (lines_of old) (begun_of old) last more old.begun.unended unended
    ∙ ap (λ (line : Result LineRead TextFault). read_on line (reading_from (lines_of old + 1) (text_lines more))) read
line_faulty old last OfMemory unended read = tt

-- a line whose reading has a fault, which is handed on
pub line_stops : {T : Type 0} (result : Result T ReadFault) (old : EntryReader) (last : List ℕ) (fault : ReadFault) (read : Result LineRead TextFault) → IsUnended last
    → IsErrAnd result (λ e. e ≡ fault) → read ≡ next_in (lines_of old) (begun_of old ++ last) → IsFaultOf read fault → IfErr result (HasFault old (last ++ 10 ∷ []))
line_stops (Ok x) old last fault read unended same line is = absurd same
line_stops (Err e) old last fault read unended same line is =
    subst (HasFault old (last ++ 10 ∷ [])) (sym same) (line_faulty old last fault unended (subst (λ (r : Result LineRead TextFault). IsFaultOf r fault) line is))

-- a line that was kept
pub next_kept : (old mid : EntryReader) (last line : List ℕ) → begun_of mid ≡ begun_of old ++ last → lines_of mid ≡ lines_of old → line ≡ begun_of mid
    → next_in (lines_of mid) line ≡ next_in (lines_of old) (begun_of old ++ last)
next_kept old mid last line begun lines is = ap (λ (n : ℕ). next_in n line) lines ∙ ap (next_in (lines_of old)) (is ∙ begun)

-- a line that hasn't begun
pub next_whole : (old : EntryReader) (last : List ℕ) → begun_of old ≡ [] → next_in (lines_of old) last ≡ next_in (lines_of old) (begun_of old ++ last)
next_whole old last none = ap (λ (begun : List ℕ). next_in (lines_of old) (begun ++ last)) (sym none)

-- a line that is too long
long_next : (lines : ℕ) (line : List ℕ) → 16384 < length line → next_in lines line ≡ Err (long_line lines)
long_next lines line long = go (is_full lines) (nat_eq lines 0) refl refl
  where
    go : (full first : Bool) → is_full lines ≡ full → nat_eq lines 0 ≡ first → next_in lines line ≡ Err (long_line lines)
    go true first is head = rw is refl
    go false true is head = rw (is, head, le-leb 16385 (length line) (omega (arith, long))) refl
    go false false is head = rw (is, head, le-leb 16385 (length line) (omega (arith, long))) refl

long_end : (lines : ℕ) (line : List ℕ) → 16384 < length line → end_fault lines line ≡ Some (long_line lines)
long_end lines [] long = absurd (omega (arith, long))
long_end lines (b ∷ bs) long = go (is_full lines) refl
  where
    go : (full : Bool) → is_full lines ≡ full → end_fault lines (b ∷ bs) ≡ Some (long_line lines)
    go true is = rw is refl
    go false is = rw (is, rest_too_long 16384 (b ∷ bs) long) refl

long_first : (lines : ℕ) (line : List ℕ) (later : List (List ℕ)) → 16384 < length line → reading_from lines (line ∷ later) ≡ ends_with (Some (long_line lines))
long_first lines line [] long = ap ends_with (long_end lines line long)
long_first lines line (next ∷ later) long = ap (λ (read : Result LineRead TextFault). read_on read (reading_from (lines + 1) (next ∷ later))) (long_next lines line long)

-- bytes of a line come that are too many
pub long_kept : (old : EntryReader) (bytes : List ℕ) (fault : ReadFault) → IsUnended bytes → 16384 - length (begun_of old) < length bytes
    → fault ≡ Text (long_line (lines_of old)) → HasFault old bytes fault
long_kept old bytes fault unended many is = subst (λ (f : ReadFault). HasFault old bytes f) (sym is) (λ more.
    let line = unended_more (begun_of old ++ bytes) more (slice_split_none (λ b. nat_eq b 10) (begun_of old ++ bytes) (both_unended (begun_of old) bytes old.begun.unended unended)) in
    let long : 16384 < length ((begun_of old ++ bytes) ++ line.behind)
    = omega (arith, many, length-append (begun_of old ++ bytes) line.behind, length-append (begun_of old) bytes) in
    ap (λ (text : List ℕ). reading_from (lines_of old) (text_lines text)) (sym (append_assoc (begun_of old) bytes more))
    ∙ ap (reading_from (lines_of old)) line.is ∙ long_first (lines_of old) ((begun_of old ++ bytes) ++ line.behind) line.later long)

-- the text ends
pub finished : (reader : EntryReader) → reading_behind reader [] ≡ ends_with (end_fault (lines_of reader) (begun_of reader))
finished reader =
    ap (λ (begun : List ℕ). reading_from (lines_of reader) (text_lines begun)) (append-nil (begun_of reader))
    ∙ ap (reading_from (lines_of reader)) (slice_split_none (λ b. nat_eq b 10) (begun_of reader) reader.begun.unended)

-- an entry that ends a piece, and a rest
pub read_in_piece : (old new : EntryReader) (piece front rest : List ℕ) (entry : RecordedEntry) → HasRead old new front entry [] → piece ≡ front ++ rest
    → HasRead old new piece entry rest
read_in_piece old new piece front rest entry read whole = record {
  reads = λ more.
      ap (λ (bytes : List ℕ). reading_behind old (bytes ++ more)) whole ∙ ap (λ (bytes : List ℕ). reading_behind old bytes) (append_assoc front rest more)
      ∙ read.reads (rest ++ more);
  line = read.line;
  begun = read.begun;
  front = front;
  whole = whole;
  shorter = omega (arith, read.shorter, ap (λ (bytes : List ℕ). length bytes) whole, length-append front rest);
  in_range = read.in_range;
  sized = read.sized;
  narrow = read.narrow;
}

-- a common entry at the beginning of a line
pub quick_read : (old new : EntryReader) (piece : List ℕ) (entry : RecordedEntry) (rest : List ℕ) → IsQuickEntry piece entry rest → begun_of old ≡ []
    → 1 ≤ lines_of old → lines_of old < 4294967295 → lines_of new ≡ lines_of old + 1 → begun_of new ≡ [] → HasRead old new piece entry rest
quick_read old new piece entry rest quick none later few lines begun =
    let full : is_full (lines_of old) ≡ false = elim (leb_tells 4294967295 (lines_of old)) [ inl many ↦ (let m = many.1 in absurd (omega (arith, m, few))) | inr not ↦ not.0 ] in
    let first : nat_eq (lines_of old) 0 ≡ false = ne_eqb (lines_of old) 0 (λ is. omega (arith, is, later)) in
    let read : next_in (lines_of old) quick.line ≡ Ok (OfEntry (plain_entry entry)) = rw (full, first, quick.read) refl in
    let ended = entry_ended old new quick.line entry quick.unended (sym (next_whole old quick.line none) ∙ read) later lines begun quick.in_range quick.sized quick.narrow in
    read_in_piece old new piece (quick.line ++ 10 ∷ []) rest entry ended (quick.whole ∙ sym (append_assoc quick.line (10 ∷ []) rest))

-- a fault in the front of a piece
pub fault_in_piece : (old : EntryReader) (piece front rest : List ℕ) (fault : ReadFault) → HasFault old front fault → piece ≡ front ++ rest → HasFault old piece fault
fault_in_piece old piece front rest (Text fault) found whole = λ more.
    ap (λ (bytes : List ℕ). reading_behind old (bytes ++ more)) whole ∙ ap (λ (bytes : List ℕ). reading_behind old bytes) (append_assoc front rest more) ∙ found (rest ++ more)
fault_in_piece old piece front rest OfMemory found whole = tt

-- the front of a piece was taken, and then an entry was read, the rest was taken, or a fault was found
pub taken_then_read : (old mid new : EntryReader) (piece front rest left : List ℕ) (entry : RecordedEntry) → HasTaken old mid front → piece ≡ front ++ rest
    → HasRead mid new rest entry left → HasRead old new piece entry left
taken_then_read old mid new piece front rest left entry taken whole read = record {
  reads = λ more.
      ap (λ (bytes : List ℕ). reading_behind old (bytes ++ more)) whole ∙ ap (λ (bytes : List ℕ). reading_behind old bytes) (append_assoc front rest more)
      ∙ taken.reads (rest ++ more) ∙ read.reads more;
  line = read.line ∙ taken.line;
  begun = read.begun;
  front = front ++ read.front;
  whole = whole ∙ ap (λ (bytes : List ℕ). front ++ bytes) read.whole ∙ sym (append_assoc front read.front left);
  shorter = omega (arith, read.shorter, ap (λ (bytes : List ℕ). length bytes) whole, length-append front rest);
  in_range = read.in_range;
  sized = read.sized;
  narrow = read.narrow;
}

pub taken_then_taken : (old mid new : EntryReader) (piece front rest : List ℕ) → HasTaken old mid front → piece ≡ front ++ rest → HasTaken mid new rest → HasTaken old new piece
taken_then_taken old mid new piece front rest taken whole later = record {
  reads = λ more.
      ap (λ (bytes : List ℕ). reading_behind old (bytes ++ more)) whole ∙ ap (λ (bytes : List ℕ). reading_behind old bytes) (append_assoc front rest more)
      ∙ taken.reads (rest ++ more) ∙ later.reads more;
  line = later.line ∙ taken.line;
  no_more = omega (arith, later.no_more, taken.no_more);
  fewer = λ some.
      let len : length piece ≡ length front + length rest = ap (λ (bytes : List ℕ). length bytes) whole ∙ length-append front rest in
      elim (leb_tells 1 (length front)) [
        | inl first ↦ omega (arith, taken.fewer first.1, later.no_more)
        | inr none ↦ (let n = none.1 in omega (arith, later.fewer (omega (arith, n, len, some)), taken.no_more))
      ];
}

pub taken_then_fault : (old mid : EntryReader) (piece front rest : List ℕ) (fault : ReadFault) → HasTaken old mid front → piece ≡ front ++ rest → HasFault mid rest fault
    → HasFault old piece fault
taken_then_fault old mid piece front rest (Text fault) taken whole found = λ more.
    ap (λ (bytes : List ℕ). reading_behind old (bytes ++ more)) whole ∙ ap (λ (bytes : List ℕ). reading_behind old bytes) (append_assoc front rest more)
    ∙ taken.reads (rest ++ more) ∙ found more
taken_then_fault old mid piece front rest OfMemory taken whole found = tt

-- a piece that was cut behind its first line
pub cut_whole : (piece last rest : List ℕ) → text_lines piece ≡ last ∷ text_lines rest → piece ≡ (last ++ 10 ∷ []) ++ rest
cut_whole piece last rest cut = (first_line piece last rest cut).whole ∙ sym (append_assoc last (10 ∷ []) rest)

-- results that are handed on
pub read_weaker : (result : Result (Option (RecordedEntry × Bor (List ℕ))) ReadFault) (P Q : RecordedEntry → List ℕ → Type 0) → ((entry : RecordedEntry) (rest : List ℕ) → P entry rest → Q entry rest)
    → IfRead result P → IfRead result Q
read_weaker (Ok None) P Q weaker holds = tt
read_weaker (Ok (Some read)) P Q weaker holds = weaker read.0 read.1.now holds
read_weaker (Err fault) P Q weaker holds = tt

pub none_weaker : (result : Result (Option (RecordedEntry × Bor (List ℕ))) ReadFault) (P Q : Type 0) → (P → Q)
    → IfOk result (λ next. IsNone next → P) → IfOk result (λ next. IsNone next → Q)
none_weaker (Ok next) P Q weaker holds = λ none. weaker (holds none)
none_weaker (Err fault) P Q weaker holds = tt

pub err_weaker : {T E : Type 0} (result : Result T E) (P Q : E → Type 0) → ((fault : E) → P fault → Q fault) → IfErr result P → IfErr result Q
err_weaker (Ok x) P Q weaker holds = tt
err_weaker (Err fault) P Q weaker holds = weaker fault holds

pub handed_on : {T E : Type 0} (result : Result T E) (fault : E) (P : E → Type 0) → IsErrAnd result (λ e. e ≡ fault) → P fault → IfErr result P
handed_on (Ok x) fault P same holds = absurd same
handed_on (Err e) fault P same holds = subst P (sym same) holds
