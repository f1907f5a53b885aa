-- The text of an address of up to 64 bits. This project's own choice.
use Rattle.std.specs.Prelude.{ℕ, List}
use Rattle.model_jobs.specs.Texts.{hex_from}

-- an address below 2^64 in hexadecimal digits, without a leading zero. If the address is below 2^32, this text is the
-- address's text in a job
unfoldable pub wide_text : ℕ → List ℕ
wide_text address = hex_from 15 address
