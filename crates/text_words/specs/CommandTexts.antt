-- Which commands a history of overlapping calls has.
use Rattle.model_words.specs.declared.commands.Command.{Command}
use Rattle.model_words.specs.declared.commands.Command.TheVariants.{New, Put, Get, Free, Addr}

-- the command names one object by its cell
abbrev pub NamesObject : Command → Type 0
NamesObject (New cell len word) = Unit {0}
NamesObject (Put cell off bytes) = Unit {0}
NamesObject (Get cell off len) = Unit {0}
NamesObject (Free cell) = Unit {0}
NamesObject (Addr cell) = Unit {0}
NamesObject command = ⊥
