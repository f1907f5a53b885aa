-- The length of an object that a command of a history asks for.
use Rattle.std.proofs.Common.{ℕ}
use Rattle.text_fields.specs.Commands.{IsWithin, plain_command}
use Rattle.text_fields.specs.declared.commands.SpeltCommand.{SpeltCommand}
use Rattle.text_fields.specs.declared.commands.SpeltCommand.TheVariants.{New as SpeltNew, Put as SpeltPut, Get as SpeltGet, Free as SpeltFree, Alias as SpeltAlias, Addr as SpeltAddr, Peek as SpeltPeek, Poke as SpeltPoke, Copy as SpeltCopy}
use Rattle.text_words.specs.RecordedWords.{IsSized}

-- a command within the ranges of a history asks for 2^47 bytes at most
pub sized_within : (cells places : ℕ) (command : SpeltCommand) → IsWithin cells 140737488355328 places command → IsSized (plain_command command)
sized_within cells places (SpeltNew cell len word) within = within.1
sized_within cells places (SpeltPut cell off bytes) within = tt
sized_within cells places (SpeltGet cell off len) within = tt
sized_within cells places (SpeltFree cell) within = tt
sized_within cells places (SpeltAlias to from) within = tt
sized_within cells places (SpeltAddr cell) within = tt
sized_within cells places (SpeltPeek address) within = tt
sized_within cells places (SpeltPoke address byte) within = tt
sized_within cells places (SpeltCopy to to_off from from_off len) within = tt
