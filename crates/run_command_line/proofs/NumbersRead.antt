-- Numbers as `clap` reads them.
use Rattle.std.proofs.Common.{◌≡◌, ◌∙◌, ◌≤◌, ℕ, Bool, true, false, List, Option, None, Some, Result, Ok, Err, ap, refl, sym, subst}
use Rattle.std.specs.Prelude.{option_and_then}
use Rattle.std.specs.Result.{result_ok}
use Rattle.std.specs.Str.Parse.{ExplainsUnsignedError, HasUnsignedDigitsIfOk, ParsesUnsigned}
use Rattle.std.specs.declared.num.ParseIntError.{ParseIntError}
use Rattle.clap.specs.ValueTests.{is_unsigned_in}
use Rattle.clap.specs.Words.{Accepts, ReadsOne, Text, one_text, rows_of}
use Rattle.clap.specs.declared.builder.value_parser.ValueParser.TheVariants.{Unsigned}
use Rattle.clap.specs.declared.parser.matches.Found.{Found}
use Rattle.clap.proofs.ValueTestLemmas.{Accepts-accepts, accepts-Accepts}
use Rattle.clap.proofs.WalkLemmas.{one_text-rows}
use Rattle.run_command_line.specs.CommandLine.{number_in, number_of}

-- what `u64` reads from a text
abbrev Gives : List ℕ → Result ℕ ParseIntError → Type 0
Gives text read = ParsesUnsigned 64 10 text read × ExplainsUnsignedError 10 text read × HasUnsignedDigitsIfOk text read

module _ (least most : ℕ) where
  -- a text that isn't taken has no number
  refused : (t : Text) → (Accepts false (Unsigned least most) t → ⊥) → None ≡ number_of least most t
  refused t not_taken = go (is_unsigned_in least most t) refl
    where
      go : (b : Bool) → is_unsigned_in least most t ≡ b → None ≡ number_of least most t
      go true e = absurd (not_taken (accepts-Accepts false (Unsigned least most) t e))
      go false e = rw e refl

  -- a number that was read and is in the range is the text's
  taken : (n : ℕ) (t : Text) → ReadsOne Gives t (Some n) → least ≤ n → n ≤ most → Some n ≡ number_of least most t
  taken n t read low high =
      let parsed = read.0 in
      let accepted : Accepts false (Unsigned least most) t =
      (parsed.0.0, parsed.0.1, subst (λ k. least ≤ k) parsed.1 low, subst (λ k. k ≤ most) parsed.1 high) in
      rw (Accepts-accepts false (Unsigned least most) t accepted, parsed.1) refl

  outside : (n : ℕ) (t : Text) → ReadsOne Gives t (Some n) → (least ≤ n → n ≤ most → ⊥) → None ≡ number_of least most t
  outside n t read apart =
      let parsed = read.0 in
      refused t (λ taken. apart (subst (λ k. least ≤ k) (sym parsed.1) taken.2) (subst (λ k. k ≤ most) (sym parsed.1) taken.3))

  unread : (t : Text) → ReadsOne Gives t None → None ≡ number_of least most t
  unread t read = refused t (λ taken. read.1.0 (taken.0, taken.1))

  module _ (found : Found) (name : Text) (read : Option ℕ) (none : one_text found name ≡ None → read ≡ None)
      (value : (t : Text) → one_text found name ≡ Some t → ReadsOne Gives t read) where
    in_rows : option_and_then (number_of least most) (one_text found name) ≡ number_in name least most (rows_of found)
    in_rows = ap (option_and_then (number_of least most)) (one_text-rows found name)

    -- a number in the range is the one that the matches have
    pub number_taken : (n : ℕ) → read ≡ Some n → least ≤ n → n ≤ most → Some n ≡ number_in name least most (rows_of found)
    number_taken n is low high = go (one_text found name) refl ∙ in_rows
      where
        go : (o : Option Text) → one_text found name ≡ o → Some n ≡ option_and_then (number_of least most) o
        go None e = let bad : Some n ≡ None = sym is ∙ none e in absurd (cc bad)
        go (Some t) e = taken n t (subst (λ r. ReadsOne Gives t r) is (value t e)) low high

    -- the matches have no number in the range where the one that was read is outside
    pub number_outside : (n : ℕ) → read ≡ Some n → (least ≤ n → n ≤ most → ⊥) → None ≡ number_in name least most (rows_of found)
    number_outside n is apart = go (one_text found name) refl ∙ in_rows
      where
        go : (o : Option Text) → one_text found name ≡ o → None ≡ option_and_then (number_of least most) o
        go None e = refl
        go (Some t) e = outside n t (subst (λ r. ReadsOne Gives t r) is (value t e)) apart

    -- or where none was read
    pub no_number : read ≡ None → None ≡ number_in name least most (rows_of found)
    no_number is = go (one_text found name) refl ∙ in_rows
      where
        go : (o : Option Text) → one_text found name ≡ o → None ≡ option_and_then (number_of least most) o
        go None e = refl
        go (Some t) e = unread t (subst (λ r. ReadsOne Gives t r) is (value t e))

-- a text that is read as no number has none
pub not_spelt : (least most : ℕ) (t : Text) (read : Result ℕ ParseIntError) → Gives t read → result_ok read ≡ None → None ≡ number_of least most t
not_spelt least most t (Ok n) gives is = let bad : Some n ≡ None = is in absurd (cc bad)
not_spelt least most t (Err e) gives is = unread least most t (e, gives)

-- a number in the range is that of the text
pub spelt_taken : (least most : ℕ) (t : Text) (read : Result ℕ ParseIntError) (n : ℕ) → Gives t read → result_ok read ≡ Some n → least ≤ n → n ≤ most
    → Some n ≡ number_of least most t
spelt_taken least most t (Ok m) n gives is low high =
    let same : Some m ≡ Some n = is in
    let number : m ≡ n = cc same in
    taken least most n t (subst (λ k. Gives t (Ok k)) number gives) low high
spelt_taken least most t (Err e) n gives is low high = let bad : None ≡ Some n = is in absurd (cc bad)

-- one outside isn't
pub spelt_outside : (least most : ℕ) (t : Text) (read : Result ℕ ParseIntError) (n : ℕ) → Gives t read → result_ok read ≡ Some n → (least ≤ n → n ≤ most → ⊥)
    → None ≡ number_of least most t
spelt_outside least most t (Ok m) n gives is apart =
    let same : Some m ≡ Some n = is in
    let number : m ≡ n = cc same in
    outside least most n t (subst (λ k. Gives t (Ok k)) number gives) apart
spelt_outside least most t (Err e) n gives is apart = let bad : None ≡ Some n = is in absurd (cc bad)
