-- What the command line's words say of what is told of an exploration.
use Rattle.std.proofs.Common.{◌≡◌, ◌∙◌, ◌<◌, ℕ, Bool, true, false, List, [], Option, None, Some, ap, arith, codes, if◌then◌else◌, inl, inr, length, nat_le, option_map, sym}
use Rattle.std.proofs.lemmas.Bool.Decides.{leb_tells}
use Rattle.std.specs.Prelude.{option_and_then}
use Rattle.clap.specs.Words.{Text, first_of, first_value, matched_of, raw_values, rows_of}
use Rattle.clap.specs.declared.parser.matches.Found.{Found}
use Rattle.clap.proofs.WalkLemmas.{first_value-rows, raw_values-rows}
use Rattle.model_otherwise.specs.declared.timing.Timing.{Timing}
use Rattle.run_command_line.specs.CommandLine.{ShownAnswer, Stepped, ToldOf, asks_verdict, by_client, drawn_steps_in, few_texts, given_in, lacks_client, listing_told_in, of_given, other_list, picture_in, shown_given_in, shown_of_text, texts_in, timing_in, told_by, told_in, told_where, told_with}
use Rattle.run_command_line.specs.Conditions.{ConditionTexts}

-- more than ten
pub not_few : (n : ℕ) → 10 < n → nat_le n 10 ≡ false
not_few n many = elim (leb_tells n 10) [ inl few ↦ absurd (omega (arith, few.1, many)) | inr is ↦ is.0 ]

module _ (found : Found) where
  -- an answer that is named
  pub shown_given : (value : Text) (read : Option ShownAnswer) → Some value ≡ first_value found (codes "show") → read ≡ shown_of_text value
      → option_map Some read ≡ shown_given_in (rows_of found)
  shown_given value read is answer = ap (option_map Some) answer ∙ ap (of_given shown_of_text) (is ∙ first_value-rows found (codes "show"))

  -- and none
  pub none_shown : None ≡ first_value found (codes "show") → Some None ≡ shown_given_in (rows_of found)
  none_shown is = ap (of_given shown_of_text) (is ∙ first_value-rows found (codes "show"))

  -- an option isn't given
  pub none_given : (name : Text) → None ≡ option_map raw_values (matched_of found name) → Some [] ≡ texts_in name (rows_of found)
  none_given name is = ap few_texts (is ∙ raw_values-rows found name)

  -- or some are, by how many these are
  given : (name : Text) (texts : List Text) (few : Bool) → Some texts ≡ option_map raw_values (matched_of found name) → nat_le (length texts) 10 ≡ few
      → (if few then Some texts else None) ≡ texts_in name (rows_of found)
  given name texts few is long =
      ap (λ (b : Bool). if b then Some texts else None) (sym long) ∙ ap few_texts (is ∙ raw_values-rows found name)

  pub some_given : (name : Text) (texts : List Text) → Some texts ≡ option_map raw_values (matched_of found name) → nat_le (length texts) 10 ≡ true
      → Some texts ≡ texts_in name (rows_of found)
  some_given name texts is few = given name texts true is few

  pub too_many_given : (name : Text) (texts : List Text) → Some texts ≡ option_map raw_values (matched_of found name) → nat_le (length texts) 10 ≡ false
      → None ≡ texts_in name (rows_of found)
  too_many_given name texts is many = given name texts false is many

  -- what is told of outcomes, by what was read
  abbrev listing_with : ConditionTexts → Option ℕ → Option ToldOf
  listing_with conditions witness = option_and_then (told_where (first_of (codes "expect") (rows_of found)) conditions witness) (shown_given_in (rows_of found))

  pub listing_is : (conditions : ConditionTexts) (expect : Option Text) (witness : Option ℕ) (shown : Option ShownAnswer) (verdict : Bool) (told : Option ToldOf)
      → Some witness ≡ given_in (codes "witness") 0 4294967295 (rows_of found) → Some shown ≡ shown_given_in (rows_of found)
      → expect ≡ first_value found (codes "expect") → verdict ≡ asks_verdict expect conditions
      → told ≡ told_by witness shown verdict (record { expect = expect; conditions = conditions }) → told ≡ listing_told_in conditions (rows_of found)
  listing_is conditions expect witness shown verdict told witness_is shown_is expect_is verdict_is is =
      is
      ∙ ap (λ (b : Bool). told_by witness shown b (record { expect = expect; conditions = conditions })) verdict_is
      ∙ ap (λ (e : Option Text). told_where e conditions witness shown) (expect_is ∙ first_value-rows found (codes "expect"))
      ∙ ap (option_and_then (told_where (first_of (codes "expect") (rows_of found)) conditions witness)) shown_is
      ∙ ap (option_and_then (listing_with conditions)) witness_is

  -- an outcome or an answer that can't be read
  pub no_witness : (conditions : ConditionTexts) → None ≡ given_in (codes "witness") 0 4294967295 (rows_of found) → None ≡ listing_told_in conditions (rows_of found)
  no_witness conditions is = ap (option_and_then (listing_with conditions)) is

  pub no_answer : (conditions : ConditionTexts) (witness : Option ℕ) → Some witness ≡ given_in (codes "witness") 0 4294967295 (rows_of found)
      → None ≡ shown_given_in (rows_of found) → None ≡ listing_told_in conditions (rows_of found)
  no_answer conditions witness witness_is is =
      ap (option_and_then (told_where (first_of (codes "expect") (rows_of found)) conditions witness)) is ∙ ap (option_and_then (listing_with conditions)) witness_is

  -- what is told, by what is told of outcomes, by how many commands a client gives, and by how accesses are made
  abbrev told_timed : ToldOf → Option ℕ → Timing → Option ToldOf
  told_timed listing commands timing = told_with (other_list (first_of (codes "steps") (rows_of found))) commands timing listing

  abbrev told_after : ToldOf → Option ℕ → Option ToldOf
  told_after listing commands = option_and_then (told_timed listing commands) (timing_in (rows_of found))

  abbrev told_beside : ToldOf → Option ToldOf
  told_beside listing = option_and_then (told_after listing) (given_in (codes "any") 0 1000 (rows_of found))

  pub told_is : (conditions : ConditionTexts) (listing : ToldOf) (commands : Option ℕ) (timing : Timing) (steps list : Option Text) (told : Option ToldOf)
      → Some listing ≡ listing_told_in conditions (rows_of found) → Some commands ≡ given_in (codes "any") 0 1000 (rows_of found)
      → Some timing ≡ timing_in (rows_of found) → steps ≡ first_value found (codes "steps") → list ≡ other_list steps
      → told ≡ told_with list commands timing listing → told ≡ told_in conditions (rows_of found)
  told_is conditions listing commands timing steps list told listing_is commands_are timing_is steps_are list_is is =
      is
      ∙ ap (λ (l : Option Text). told_with l commands timing listing) (list_is ∙ ap other_list (steps_are ∙ first_value-rows found (codes "steps")))
      ∙ ap (option_and_then (told_timed listing commands)) timing_is
      ∙ ap (option_and_then (told_after listing)) commands_are
      ∙ ap (option_and_then told_beside) listing_is

  -- the list of steps, the client and the picture that `draw` is asked for, by the columns, by how many commands a
  -- client gives, and by how accesses are made
  abbrev stepped_timed : ℕ → Option ℕ → Timing → Option Stepped
  stepped_timed columns commands timing =
      by_client (record { list = other_list (first_of (codes "steps") (rows_of found)); commands = commands; timing = timing; picture = Some columns })

  abbrev stepped_after : ℕ → Option ℕ → Option Stepped
  stepped_after columns commands = option_and_then (stepped_timed columns commands) (timing_in (rows_of found))

  abbrev stepped_beside : ℕ → Option Stepped
  stepped_beside columns = option_and_then (stepped_after columns) (given_in (codes "any") 0 1000 (rows_of found))

  pub stepped_is : (columns : ℕ) (commands : Option ℕ) (timing : Timing) (steps list : Option Text) → Some columns ≡ picture_in (rows_of found)
      → Some commands ≡ given_in (codes "any") 0 1000 (rows_of found) → Some timing ≡ timing_in (rows_of found) → false ≡ lacks_client commands timing
      → steps ≡ first_value found (codes "steps") → list ≡ other_list steps
      → Some (record { list = list; commands = commands; timing = timing; picture = Some columns }) ≡ drawn_steps_in (rows_of found)
  stepped_is columns commands timing steps list columns_are commands_are timing_is lacks_none steps_are list_is =
      ap (λ (lacks : Bool). if lacks then None else Some (record { list = list; commands = commands; timing = timing; picture = Some columns })) lacks_none
      ∙ ap (λ (l : Option Text). by_client (record { list = l; commands = commands; timing = timing; picture = Some columns }))
      (list_is ∙ ap other_list (steps_are ∙ first_value-rows found (codes "steps")))
      ∙ ap (option_and_then (stepped_timed columns commands)) timing_is
      ∙ ap (option_and_then (stepped_after columns)) commands_are
      ∙ ap (option_and_then stepped_beside) columns_are
