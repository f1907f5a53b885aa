-- The calls that are read of lines, whatever follows.
use Rattle.std.proofs.Common.{◌≡◌, ℕ, ◌+◌, ◌<◌, ◌≤◌, Bool, true, false, nat_eq, List, [], ◌∷◌, ◌++◌, append_assoc, length, length-append, ap, refl, sym, ◌∙◌, arith, inl, inr, Option, Some, None, Result, Ok, Err}
use Rattle.std.specs.Prelude.{option_map}
use Rattle.std.specs.List.{onto_first}
use Rattle.std.proofs.lemmas.Bool.{le-leb, ne_eqb}
use Rattle.std.proofs.lemmas.Bool.Decides.{eqb_tells}
use Rattle.std.proofs.lemmas.List.Splits.{slice_split-cons_no, slice_split-cons_yes}
use Rattle.model_intervals.specs.Intervals.{Call}
use Rattle.model_words.specs.declared.faults.TextFault.{TextFault}
use Rattle.text_fields.specs.Lines.{text_lines}
use Rattle.text_fields.proofs.KeptLines.{rest_too_long}
use Rattle.text_fields.proofs.Splits.{some_part}
use Rattle.text_devices.specs.Ends.{end_fault, is_full, long_line, too_long}
use Rattle.history_reading.specs.CallInputs.{AreRead}
use Rattle.history_reading.specs.CallReadings.{CallFault, CallLine, Head, OfCall, OfText, calls_from, next_in, read_on}

-- no line was read
pub none_read : AreRead [] []
none_read = record { reads = λ next later. refl }

-- one more line, and what follows it
read_further : (lines : List (List ℕ)) (calls : List Call) (line next : List ℕ) (later : List (List ℕ)) → AreRead lines calls
    → calls_from 0 [] ((lines ++ line ∷ []) ++ next ∷ later) ≡ read_on (next_in (length lines) calls line) calls (λ behind. calls_from (length lines + 1) behind (next ∷ later))
read_further lines calls line next later read = ap (calls_from 0 []) (append_assoc lines (line ∷ []) (next ∷ later)) ∙ read.reads line (next ∷ later)

one_longer : (lines : List (List ℕ)) (line : List ℕ) → length lines + 1 ≡ length (lines ++ line ∷ [])
one_longer lines line = omega (arith, length-append lines (line ∷ []))

-- the line is the head
pub head_read : (lines : List (List ℕ)) (calls : List Call) (line : List ℕ) → AreRead lines calls → next_in (length lines) calls line ≡ Ok Head → AreRead (lines ++ line ∷ []) calls
head_read lines calls line read is = record {
  reads = λ next later.
      read_further lines calls line next later read
      ∙ ap (λ (found : Result CallLine CallFault). read_on found calls (λ behind. calls_from (length lines + 1) behind (next ∷ later))) is
      ∙ ap (λ (count : ℕ). calls_from count calls (next ∷ later)) (one_longer lines line);
}

-- the line is a call
pub call_read : (lines : List (List ℕ)) (calls : List Call) (line : List ℕ) (call : Call) → AreRead lines calls → next_in (length lines) calls line ≡ Ok (OfCall call)
    → AreRead (lines ++ line ∷ []) (calls ++ call ∷ [])
call_read lines calls line call read is = record {
  reads = λ next later.
      read_further lines calls line next later read
      ∙ ap (λ (found : Result CallLine CallFault). read_on found calls (λ behind. calls_from (length lines + 1) behind (next ∷ later))) is
      ∙ ap (λ (count : ℕ). calls_from count (calls ++ call ∷ []) (next ∷ later)) (one_longer lines line);
}

-- the line has a fault
pub fault_read : (lines : List (List ℕ)) (calls : List Call) (line next : List ℕ) (later : List (List ℕ)) (fault : CallFault) → AreRead lines calls
    → next_in (length lines) calls line ≡ Err fault → calls_from 0 [] ((lines ++ line ∷ []) ++ next ∷ later) ≡ record { calls = calls; fault = Some fault }
fault_read lines calls line next later fault read is =
    read_further lines calls line next later read
    ∙ ap (λ (found : Result CallLine CallFault). read_on found calls (λ behind. calls_from (length lines + 1) behind (next ∷ later))) is

-- ---- a line that is too long

long_next : (lines : ℕ) (calls : List Call) (line : List ℕ) → 16384 < length line → next_in lines calls line ≡ Err (OfText (long_line lines))
long_next lines calls line long = go (is_full lines) (nat_eq lines 0) refl refl
  where
    go : (full first : Bool) → is_full lines ≡ full → nat_eq lines 0 ≡ first → next_in lines calls line ≡ Err (OfText (long_line lines))
    go true first is head = rw is refl
    go false true is head = elim (eqb_tells lines 0) [
      | inl zero ↦ (let none = zero.1 in rw (is, head, le-leb 16385 (length line) (omega (arith, long)), none) refl)
      | inr some ↦ (let e : true ≡ false = sym head ∙ some.0 in absurd (cc e))
    ]
    go false false is head = rw (is, head, le-leb 16385 (length line) (omega (arith, long))) refl

long_end : (lines : ℕ) (line : List ℕ) → 16384 < length line → end_fault lines line ≡ Some (long_line lines)
long_end lines [] long = absurd (omega (arith, long))
long_end lines (b ∷ bs) long = go (is_full lines) refl
  where
    go : (full : Bool) → is_full lines ≡ full → end_fault lines (b ∷ bs) ≡ Some (long_line lines)
    go true is = rw is refl
    go false is = rw (is, rest_too_long 16384 (b ∷ bs) long) refl

long_first : (lines : ℕ) (calls : List Call) (line : List ℕ) (later : List (List ℕ)) → 16384 < length line
    → calls_from lines calls (line ∷ later) ≡ record { calls = calls; fault = Some (OfText (long_line lines)) }
long_first lines calls line [] long =
    ap (λ (fault : Option TextFault). record { calls = calls; fault = option_map OfText fault }) (long_end lines line long)
long_first lines calls line (next ∷ later) long =
    ap (λ (found : Result CallLine CallFault). read_on found calls (λ behind. calls_from (lines + 1) behind (next ∷ later))) (long_next lines calls line long)

pub long_read : (lines : List (List ℕ)) (calls : List Call) (long : List ℕ) (rest : List (List ℕ)) → AreRead lines calls → 16384 < length long
    → calls_from 0 [] (lines ++ long ∷ rest) ≡ record { calls = calls; fault = Some (OfText (long_line (length lines))) }
long_read lines calls long rest read over = read.reads long rest ∙ long_first (length lines) calls long rest over

-- ---- one line too many

full_first : (lines : ℕ) (calls : List Call) (line : List ℕ) (later : List (List ℕ)) → is_full lines ≡ true → 1 ≤ length line + length later
    → calls_from lines calls (line ∷ later) ≡ record { calls = calls; fault = Some (OfText too_long) }
full_first lines calls [] [] full some = absurd (omega (arith, some))
full_first lines calls (b ∷ bs) [] full some = rw full refl
full_first lines calls line (next ∷ later) full some = rw full refl

-- bytes begin a line
record BeginLine (lines : List (List ℕ)) : Type 0 where
  line : List ℕ
  later : List (List ℕ)
  is : lines ≡ line ∷ later
  some : 1 ≤ length line + length later

begin_line : (first : ℕ) (rest : List ℕ) → BeginLine (text_lines (first ∷ rest))
begin_line first rest = let parts = some_part 10 rest in elim (eqb_tells first 10) [
  | inl ends ↦ record {
    line = [];
    later = parts.first ∷ parts.later;
    is = slice_split-cons_yes (λ b. nat_eq b 10) first rest ends.0 ∙ ap (λ (later : List (List ℕ)). [] ∷ later) parts.is;
    some = omega arith;
  }
  | inr other ↦ record {
    line = first ∷ parts.first;
    later = parts.later;
    is = slice_split-cons_no (λ b. nat_eq b 10) first rest other.0 ∙ ap (onto_first first) parts.is;
    some = omega arith;
  }
]

pub full_read : (lines : List (List ℕ)) (calls : List Call) (first : ℕ) (rest : List ℕ) → AreRead lines calls → is_full (length lines) ≡ true
    → calls_from 0 [] (lines ++ text_lines (first ∷ rest)) ≡ record { calls = calls; fault = Some (OfText too_long) }
full_read lines calls first rest read full =
    let begun = begin_line first rest in
    ap (λ (behind : List (List ℕ)). calls_from 0 [] (lines ++ behind)) begun.is ∙ read.reads begun.line begun.later
    ∙ full_first (length lines) calls begun.line begun.later full begun.some

-- ---- the end of a text

pub end_read : (lines : List (List ℕ)) (calls : List Call) (rest : List ℕ) (fault : Option TextFault) → AreRead lines calls → end_fault (length lines) rest ≡ fault
    → calls_from 0 [] (lines ++ rest ∷ []) ≡ record { calls = calls; fault = option_map OfText fault }
end_read lines calls rest fault read is =
    read.reads rest [] ∙ ap (λ (end : Option TextFault). record { calls = calls; fault = option_map OfText end }) is

-- a text may end behind a line end
pub no_end_fault : (lines : ℕ) → 1 ≤ lines → end_fault lines [] ≡ None
no_end_fault lines some = go (is_full lines) refl
  where
    go : (full : Bool) → is_full lines ≡ full → end_fault lines [] ≡ None
    go true is = rw is refl
    go false is = rw (is, ne_eqb lines 0 (λ none. omega (arith, none, some))) refl
