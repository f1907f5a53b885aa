-- Commands and replies as numbers.
use Rattle.std.specs.Prelude.{◌≡◌, ℕ, if◌then◌else◌, nat_eq, pred, List, [], ◌∷◌, slice_index, slice_index_or, refl}
use mathlib.Core.Path.{ap}
use Rattle.model_words.specs.Refusals.{number_of}
use Rattle.model_words.specs.declared.commands.Command.{Command}
use Rattle.model_words.specs.declared.commands.Command.TheVariants.{New, Put, Get, Free, Alias, Addr, Peek, Poke, Copy as CopyBytes}
use Rattle.model_words.specs.declared.commands.Reply.{Reply}
use Rattle.model_words.specs.declared.commands.Reply.TheVariants.{Object as Made, Done, Bytes, At, Byte, Refused}
use Rattle.model_words.specs.declared.refusals.Refusal.{Refusal}
use Rattle.model_words.specs.declared.refusals.Refusal.TheVariants.{Zero, TooLarge, NoPages, NoAddresses, Empty, Freed, Outside, Stray, NoGroup, Same, Class, Busy, Overlap, Members, NoMesh, TooLate, NotEmpty}

-- the refusals in the order of their numbers, which begin with 1
abbrev refusals : List Refusal
refusals =
    Zero ∷ TooLarge ∷ NoPages ∷ NoAddresses ∷ Empty ∷ Freed ∷ Outside ∷ Stray ∷ NoGroup ∷ Same ∷ Class ∷ Busy ∷ Overlap ∷ Members ∷ NoMesh
    ∷ TooLate ∷ NotEmpty ∷ []

-- the refusal of a number
pub refusal_of : ℕ → Refusal
refusal_of number = slice_index_or refusals (pred number) NotEmpty

-- `refusal_of` returns each refusal for its number
pub refusal_back : (refusal : Refusal) → refusal_of (number_of refusal) ≡ refusal
unfolding refusal_of
refusal_back Zero = refl
refusal_back TooLarge = refl
refusal_back NoPages = refl
refusal_back NoAddresses = refl
refusal_back Empty = refl
refusal_back Freed = refl
refusal_back Outside = refl
refusal_back Stray = refl
refusal_back NoGroup = refl
refusal_back Same = refl
refusal_back Class = refl
refusal_back Busy = refl
refusal_back Overlap = refl
refusal_back Members = refl
refusal_back NoMesh = refl
refusal_back TooLate = refl
refusal_back NotEmpty = refl

-- a command as numbers
pub command_numbers : Command → List ℕ
command_numbers (New cell len word) = 0 ∷ cell ∷ len ∷ word ∷ []
command_numbers (Put cell off bytes) = 1 ∷ cell ∷ off ∷ 0 ∷ bytes.items
command_numbers (Get cell off len) = 2 ∷ cell ∷ off ∷ len ∷ []
command_numbers (Free cell) = 3 ∷ cell ∷ 0 ∷ 0 ∷ []
command_numbers (Alias to from) = 4 ∷ to ∷ from ∷ 0 ∷ []
command_numbers (Addr cell) = 5 ∷ cell ∷ 0 ∷ 0 ∷ []
command_numbers (Peek place) = 6 ∷ place ∷ 0 ∷ 0 ∷ []
command_numbers (Poke place byte) = 7 ∷ place ∷ byte ∷ 0 ∷ []
command_numbers (CopyBytes to to_off from from_off len) = 8 ∷ to ∷ to_off ∷ from ∷ from_off ∷ len ∷ []

-- the command of these numbers
pub command_of : List ℕ → Command
command_of (tag ∷ a ∷ b ∷ d ∷ items) =
    if nat_eq tag 0 then New a b d else (if nat_eq tag 1 then Put a b (record { items = items }) else (if nat_eq tag 2 then Get a b d
    else (if nat_eq tag 3 then Free a else (if nat_eq tag 4 then Alias a b else (if nat_eq tag 5 then Addr a
    else (if nat_eq tag 6 then Peek a else (if nat_eq tag 7 then Poke a b
    else CopyBytes a b d (slice_index items 0) (slice_index items 1))))))))
command_of _ = Free 0

-- `command_of` returns each command for its numbers
pub command_back : (command : Command) → command_of (command_numbers command) ≡ command
unfolding command_of command_numbers
command_back (New cell len word) = refl
command_back (Put cell off bytes) = refl
command_back (Get cell off len) = refl
command_back (Free cell) = refl
command_back (Alias to from) = refl
command_back (Addr cell) = refl
command_back (Peek place) = refl
command_back (Poke place byte) = refl
command_back (CopyBytes to to_off from from_off len) = refl

-- a reply as numbers
pub reply_numbers : Reply → List ℕ
reply_numbers (Made serial address) = 0 ∷ serial ∷ address ∷ []
reply_numbers Done = 1 ∷ 0 ∷ 0 ∷ []
reply_numbers (Bytes bytes) = 2 ∷ 0 ∷ 0 ∷ bytes.items
reply_numbers (At address) = 3 ∷ address ∷ 0 ∷ []
reply_numbers (Byte byte) = 4 ∷ byte ∷ 0 ∷ []
reply_numbers (Refused refusal) = 5 ∷ number_of refusal ∷ 0 ∷ []

-- the reply of these numbers
pub reply_of : List ℕ → Reply
reply_of (tag ∷ a ∷ b ∷ items) =
    if nat_eq tag 0 then Made a b else (if nat_eq tag 1 then Done else (if nat_eq tag 2 then Bytes (record { items = items })
    else (if nat_eq tag 3 then At a else (if nat_eq tag 4 then Byte a else Refused (refusal_of a)))))
reply_of _ = Done

-- `reply_of` returns each reply for its numbers
pub reply_back : (reply : Reply) → reply_of (reply_numbers reply) ≡ reply
unfolding reply_of reply_numbers
reply_back (Made serial address) = refl
reply_back Done = refl
reply_back (Bytes bytes) = refl
reply_back (At address) = refl
reply_back (Byte byte) = refl
reply_back (Refused refusal) = ap (λ (r : Refusal). Refused r) (refusal_back refusal)
