-- What an answer says of the reference memory.
use Rattle.std.specs.Prelude.{◌≡◌, ◌⊎◌, ℕ}
use Rattle.model_memory.specs.Memory.{Memory}
use Rattle.model_memory.specs.Plain.{PlainStep}
use Rattle.model_otherwise.specs.Heaps.{Heap}
use Rattle.model_otherwise.specs.Timed.{attempted}
use Rattle.model_otherwise.specs.Tries.{tried}
use Rattle.model_otherwise.specs.declared.timing.Timing.{Timing}
use Rattle.model_otherwise.specs.declared.tried.Tried.TheVariants.{Answered, Begun, Ended, Wrong}
use Rattle.model_words.specs.declared.commands.Command.{Command}
use Rattle.model_words.specs.declared.commands.Reply.{Reply}

-- an answer that is a move is one that the reference memory may give, and leads to the memory after it
abbrev pub AnswersArePlain : Type 0
AnswersArePlain = (pages : ℕ) (m : Memory) (heap : Heap) (command : Command) (reply : Reply)
    → (tried pages m heap command).tried ≡ Answered reply → PlainStep m command reply (tried pages m heap command).memory

-- the same where commands may be made in two moves: an answer comes with the only move or with the second one
abbrev pub TimedAnswersArePlain : Type 0
TimedAnswersArePlain = (t : Timing) (n pages : ℕ) (m : Memory) (heap : Heap) (command : Command) (reply : Reply)
    → (attempted t n pages m heap command).tried ≡ Answered reply ⊎ (attempted t n pages m heap command).tried ≡ Ended reply
    → PlainStep m command reply (attempted t n pages m heap command).memory

-- the first of two moves changes nothing in the reference memory
abbrev pub BegunChangesNothing : Type 0
BegunChangesNothing = (t : Timing) (n pages : ℕ) (m : Memory) (heap : Heap) (command : Command)
    → (attempted t n pages m heap command).tried ≡ Begun → (attempted t n pages m heap command).memory ≡ m

-- a wrong answer is none that the reference memory may give
abbrev pub WrongAnswersAreWrong : Type 0
WrongAnswersAreWrong = (pages : ℕ) (m n : Memory) (heap : Heap) (command : Command) (got wanted : Reply)
    → (tried pages m heap command).tried ≡ Wrong got wanted → PlainStep m command got n → ⊥

-- nor is one that comes in two moves
abbrev pub TimedWrongAnswersAreWrong : Type 0
TimedWrongAnswersAreWrong = (t : Timing) (k pages : ℕ) (m n : Memory) (heap : Heap) (command : Command) (got wanted : Reply)
    → (attempted t k pages m heap command).tried ≡ Wrong got wanted → PlainStep m command got n → ⊥
