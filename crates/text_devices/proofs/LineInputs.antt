-- The lines that a device gives, read by read.
use Rattle.std.proofs.Common.{◌≡◌, ℕ, ◌≤◌, Bool, true, false, nat_eq, List, [], ◌∷◌, ◌++◌, Option, Some, None, append-nil, append_assoc, length, length-append, ap, refl, sym, ◌∙◌, arith, inl, inr}
use Rattle.std.proofs.KnownBytes.{Consumes-trans}
use Rattle.std.specs.Io.KnownBytes.{Consumes, IsAtEnd}
use Rattle.std.proofs.lemmas.Bool.Decides.{eqb_tells, leb_tells}
use Rattle.std.proofs.lemmas.List.Splits.{slice_split_none}
use Rattle.text_devices.specs.declared.faults.ReplayError.{ReplayError}
use Rattle.text_devices.specs.declared.faults.ReplayError.TheVariants.{Memory, Read, Text, Write}
use Rattle.text_fields.specs.Lines.{text_lines}
use Rattle.text_devices.specs.Ends.{end_fault, is_full}
use Rattle.text_devices.specs.LineInputs.{BadEnd, HasCome, HasEnded, HasStopped, IsFresh, Long, OneTooMany, line_of, lines_of, unread_of}
use Rattle.text_devices.specs.LineSteps.{EndsWithFault, HasBegun, IsFaulty, IsUsedUp, LongAhead, OneMore}
use Rattle.text_devices.specs.Pendings.{HasBytes}
use Rattle.text_devices.specs.declared.lines.LineInput.{LineInput}

-- the bytes that came are used up, and others came
pub read_on : (old mid new : LineInput) (left left' left'' : Option (List ℕ)) (lines : List (List ℕ)) (some : Bool) → HasBegun old left left' lines → IsUsedUp old mid
    → line_of new ≡ line_of mid → lines_of new ≡ lines_of mid → HasBytes (unread_of new) left' left'' some → HasBegun new left left'' lines
read_on old mid new left left' left'' lines some begun used same count bytes = record {
  text = begun.text ++ unread_of new;
  taken = Consumes-trans left left' left'' begun.text (unread_of new) begun.taken bytes.taken;
  reads = λ more.
      ap text_lines (append_assoc begun.text (unread_of new) more) ∙ begun.reads (unread_of new ++ more)
      ∙ ap (λ (all : List ℕ). lines ++ text_lines all) (sym (append_assoc (line_of old) (unread_of old) (unread_of new ++ more)))
      ∙ ap (λ (begin : List ℕ). lines ++ text_lines (begin ++ (unread_of new ++ more))) (sym (same ∙ used.line));
  count = begun.count ∙ sym (count ∙ used.count);
}

-- bytes, of which there are some
record AreSome (bytes : List ℕ) : Type 0 where
  first : ℕ
  rest : List ℕ
  is : bytes ≡ first ∷ rest

some_bytes : (bytes : List ℕ) → 1 ≤ length bytes → AreSome bytes
some_bytes [] some = absurd (omega (arith, some))
some_bytes (first ∷ rest) some = record { first = first; rest = rest; is = refl }

-- the text has a fault in the bytes that came
pub stopped : (old : LineInput) (left left' : Option (List ℕ)) (lines : List (List ℕ)) (error : ReplayError) → HasBegun old left left' lines → IsFaulty old error
    → HasStopped left left' lines error
stopped old left left' lines (Text fault) begun (LongAhead goes is) = record {
  text = begun.text;
  taken = begun.taken;
  is = Long (λ more.
      let ahead = goes more in record {
        long = ahead.long;
        rest = ahead.rest;
        is = begun.reads more ∙ ap (λ (all : List (List ℕ)). lines ++ all) ahead.is;
        over = ahead.over;
      })
      (rw begun.count is);
}
stopped old left left' lines (Text fault) begun (OneMore full some is) =
    let bytes = some_bytes (line_of old ++ unread_of old) (omega (arith, some, length-append (line_of old) (unread_of old))) in record {
      text = begun.text;
      taken = begun.taken;
      is = OneTooMany (rw begun.count full) bytes.first bytes.rest (λ more.
          begun.reads more ∙ ap (λ (all : List ℕ). lines ++ text_lines all) (sym (append_assoc (line_of old) (unread_of old) more))
          ∙ ap (λ (all : List ℕ). lines ++ text_lines (all ++ more)) bytes.is)
          is;
    }
stopped old left left' lines Memory begun faulty = tt
stopped old left left' lines Read begun faulty = absurd faulty
stopped old left left' lines Write begun faulty = absurd faulty

-- the lines of the text that came, if it ends here
whole : (input : LineInput) (left left' : Option (List ℕ)) (lines : List (List ℕ)) (begun : HasBegun input left left' lines) → unread_of input ≡ []
    → text_lines begun.text ≡ lines ++ line_of input ∷ []
whole input left left' lines begun none =
    ap text_lines (sym (append-nil begun.text)) ∙ begun.reads []
    ∙ ap (λ (bytes : List ℕ). lines ++ text_lines (line_of input ++ (bytes ++ []))) none
    ∙ ap (λ (bytes : List ℕ). lines ++ text_lines bytes) (append-nil (line_of input))
    ∙ ap (λ (all : List (List ℕ)). lines ++ all) (slice_split_none (λ b. nat_eq b 10) (line_of input) input.line.unended)

-- a text that may end here is behind a line end
ends_well : (lines : ℕ) (rest : List ℕ) → end_fault lines rest ≡ None → (rest ≡ []) × (1 ≤ lines)
ends_well lines [] none = (refl, go (is_full lines) (nat_eq lines 0) refl refl)
  where
    go : (full first : Bool) → is_full lines ≡ full → nat_eq lines 0 ≡ first → 1 ≤ lines
    go true first is head = elim (leb_tells 4294967295 lines) [
      | inl many ↦ (let m = many.1 in omega (arith, m))
      | inr few ↦ (let e : true ≡ false = sym is ∙ few.0 in absurd (cc e))
    ]
    go false true is head = let e = rw (is, head) at none in absurd (cc e)
    go false false is head = elim (eqb_tells lines 0) [
      | inl zero ↦ (let e : true ≡ false = sym zero.0 ∙ head in absurd (cc e))
      | inr some ↦ (let n = some.1 in omega (arith, n))
    ]
ends_well lines (b ∷ bs) none = go (is_full lines) refl
  where
    go : (full : Bool) → is_full lines ≡ full → ((b ∷ bs) ≡ []) × (1 ≤ lines)
    go true is = let e = rw is at none in absurd (cc e)
    go false is = let e = rw is at none in absurd (cc e)

-- the input ended, and so does the text
pub ended : (input : LineInput) (left left' : Option (List ℕ)) (lines : List (List ℕ)) → HasBegun input left left' lines → unread_of input ≡ [] → IsAtEnd left'
    → end_fault (lines_of input) (line_of input) ≡ None → HasEnded left left' lines
ended input left left' lines begun none at_end may =
    let well = ends_well (lines_of input) (line_of input) may in record {
      text = begun.text;
      taken = begun.taken;
      at_end = at_end;
      is = whole input left left' lines begun none ∙ ap (λ (line : List ℕ). lines ++ line ∷ []) well.0;
      some = rw begun.count well.1;
    }

-- the input ended where the text has a fault
pub ended_faulty : (input : LineInput) (left left' : Option (List ℕ)) (lines : List (List ℕ)) (error : ReplayError) → HasBegun input left left' lines
    → unread_of input ≡ [] → IsAtEnd left' → EndsWithFault input error → HasStopped left left' lines error
ended_faulty input left left' lines (Text fault) begun none at_end ends = record {
  text = begun.text;
  taken = begun.taken;
  is = BadEnd at_end (line_of input) (whole input left left' lines begun none) (rw begun.count ends);
}
ended_faulty input left left' lines Memory begun none at_end ends = absurd ends
ended_faulty input left left' lines Read begun none at_end ends = absurd ends
ended_faulty input left left' lines Write begun none at_end ends = absurd ends

nothing_read : (left : Option (List ℕ)) → Consumes left left []
nothing_read None = tt
nothing_read (Some xs) = refl

-- of a text of which nothing was read no line has come
pub none_come : (input : LineInput) (left : Option (List ℕ)) → IsFresh input → HasCome input left left []
none_come input left fresh = record {
  text = [];
  taken = nothing_read left;
  reads = λ more. ap (λ (bytes : List ℕ). text_lines (bytes ++ more)) (sym fresh.unread);
  count = sym fresh.lines;
  few = omega arith;
}
