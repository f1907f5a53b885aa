-- What the command line's words say of how accesses are made.
use Rattle.std.proofs.Common.{◌≡◌, ◌∙◌, Option, Some, ap, codes, option_map}
use Rattle.std.specs.Prelude.{option_and_then}
use Rattle.clap.specs.Words.{Text, first_of, first_value, rows_of}
use Rattle.clap.specs.declared.parser.matches.Found.{Found}
use Rattle.clap.proofs.WalkLemmas.{first_value-rows}
use Rattle.model_otherwise.specs.declared.timing.Making.{Making}
use Rattle.model_otherwise.specs.declared.timing.Timing.{Timing}
use Rattle.run_command_line.specs.CommandLine.{free_making, load_making, store_making, timing_in}

module _ (found : Found) where
  -- how accesses of one kind are made, by the text of their option
  of_rows : (name : Text) (making : Option Text → Option Making) (text : Option Text) (read : Option Making) → text ≡ first_value found name
      → read ≡ making text → read ≡ making (first_of name (rows_of found))
  of_rows name making text read is reads = reads ∙ ap making (is ∙ first_value-rows found name)

  -- how all are made, by what was read
  abbrev with_frees : Making → Making → Option Making → Option Timing
  with_frees stores loads = option_map (λ frees. record { loads = loads; stores = stores; frees = frees })

  abbrev with_loads : Making → Option Making → Option Timing
  with_loads stores = option_and_then (λ loads. with_frees stores loads (free_making (first_of (codes "free") (rows_of found))))

  abbrev with_stores : Option Making → Option Timing
  with_stores = option_and_then (λ stores. with_loads stores (load_making (first_of (codes "load") (rows_of found))))

  -- stores, by what they are read as
  pub stores_read : (text : Option Text) (read : Option Making) → text ≡ first_value found (codes "store") → read ≡ store_making text
      → with_stores read ≡ timing_in (rows_of found)
  stores_read text read is reads = ap with_stores (of_rows (codes "store") store_making text read is reads)

  -- loads
  pub loads_read : (stores : Making) (text : Option Text) (read : Option Making) → text ≡ first_value found (codes "load") → read ≡ load_making text
      → with_stores (Some stores) ≡ timing_in (rows_of found) → with_loads stores read ≡ timing_in (rows_of found)
  loads_read stores text read is reads all = ap (with_loads stores) (of_rows (codes "load") load_making text read is reads) ∙ all

  -- and frees
  pub frees_read : (stores loads : Making) (text : Option Text) (read : Option Making) → text ≡ first_value found (codes "free") → read ≡ free_making text
      → with_loads stores (Some loads) ≡ timing_in (rows_of found) → with_frees stores loads read ≡ timing_in (rows_of found)
  frees_read stores loads text read is reads all = ap (with_frees stores loads) (of_rows (codes "free") free_making text read is reads) ∙ all
