-- What the command line's words say of the seed of a report on savings.
use Rattle.std.proofs.Common.{◌≡◌, ◌∙◌, ℕ, Bool, true, false, Option, None, Some, ap, codes, is_some, option_map, sym, if◌then◌else◌}
use Rattle.std.specs.Prelude.{option_and_then}
use Rattle.clap.specs.Words.{Text, first_value, rows_of}
use Rattle.clap.specs.declared.parser.matches.Found.{Found}
use Rattle.clap.proofs.WalkLemmas.{first_value-rows}
use Rattle.run_command_line.specs.CommandLine.{flag_in, number_in, seed_by, seed_in}

module _ (found : Found) (first_fit : Bool) (flag : Some first_fit ≡ flag_in (codes "first-fit") (rows_of found)) where
  -- the seed, by the text that its option was given
  abbrev chosen : Option Text → Bool → Option (Option ℕ)
  chosen text flagged =
      if is_some text then (if flagged then None else option_map Some (number_in (codes "seed") 0 18446744073709551615 (rows_of found)))
      else Some (if flagged then None else Some 1)

  chosen_is : (text : Option Text) → text ≡ first_value found (codes "seed") → chosen text first_fit ≡ seed_in (rows_of found)
  chosen_is text is =
      ap (λ (t : Option Text). chosen t first_fit) (is ∙ first_value-rows found (codes "seed"))
      ∙ ap (option_and_then (λ (b : Bool). seed_by b (rows_of found))) flag

  -- beside the flag a seed may not stand
  pub seed_beside : (value : Text) → Some value ≡ first_value found (codes "seed") → first_fit ≡ true → None ≡ seed_in (rows_of found)
  seed_beside value is flagged = ap (chosen (Some value)) (sym flagged) ∙ chosen_is (Some value) is

  -- without it it is a number
  pub seed_given : (value : Text) (read : Option ℕ) → Some value ≡ first_value found (codes "seed") → first_fit ≡ false
      → read ≡ number_in (codes "seed") 0 18446744073709551615 (rows_of found) → option_map Some read ≡ seed_in (rows_of found)
  seed_given value read is unflagged number = ap (option_map Some) number ∙ ap (chosen (Some value)) (sym unflagged) ∙ chosen_is (Some value) is

  -- with the flag there is none
  pub no_seed : None ≡ first_value found (codes "seed") → first_fit ≡ true → Some None ≡ seed_in (rows_of found)
  no_seed is flagged = ap (chosen None) (sym flagged) ∙ chosen_is None is

  -- and with neither it is 1
  pub default_seed : None ≡ first_value found (codes "seed") → first_fit ≡ false → Some (Some 1) ≡ seed_in (rows_of found)
  default_seed is unflagged = ap (chosen None) (sym unflagged) ∙ chosen_is None is
