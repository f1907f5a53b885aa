-- The plain step: the replies that one command may have in a reference memory, and the memory after each reply. This
-- project's own choice.
use Rattle.std.specs.Prelude.{◌≡◌, ℕ, ◌+◌, ◌-◌, ◌<◌, ◌≤◌, Bool, false, ◌||◌, nat_eq, nat_lt, List, [], ◌∷◌, Some, None, Result, Ok, Err, length, slice_index, slice_range}
use Rattle.model_memory.specs.Memory.{Object, Memory, empty_memory, next_serial, object_of, root_of, has_address, holder_of, overwritten, with_new, with_object, with_root}
use Rattle.model_words.specs.Words.{◌>>=◌, or_refuse, refuse_if}
use Rattle.model_words.specs.declared.commands.Command.{Command}
use Rattle.model_words.specs.declared.commands.Command.TheVariants.{New, Put, Get, Free, Alias, Addr, Peek, Poke, Copy as CopyBytes}
use Rattle.model_words.specs.declared.commands.Reply.{Reply}
use Rattle.model_words.specs.declared.commands.Reply.TheVariants.{Object as Made, Done, Bytes, At, Byte, Refused}
use Rattle.model_words.specs.declared.refusals.Refusal.{Refusal}
use Rattle.model_words.specs.declared.refusals.Refusal.TheVariants.{Zero, TooLarge, NoPages, NoAddresses, Empty, Freed, Outside, Stray}

-- a live object with its serial
pub record Named : Type 0 where
  pub serial : ℕ
  pub object : Object

-- the live object that a cell names, or the refusal
abbrev pub named_by : Memory → ℕ → Result Named Refusal
named_by m cell =
    or_refuse Empty (root_of m cell) >>= λ serial. or_refuse Freed (object_of m serial) >>= λ object. Ok (record { serial = serial; object = object })

-- the live objects that two cells name, or the refusal. First both cells are tested, then both objects, the first
-- before the second
abbrev pub both_named : Memory → ℕ → ℕ → Result (Named × Named) Refusal
both_named m to from =
    or_refuse Empty (root_of m to) >>= λ s. or_refuse Empty (root_of m from) >>= λ u.
    or_refuse Freed (object_of m s) >>= λ a. or_refuse Freed (object_of m u) >>= λ b.
    Ok (record { serial = s; object = a }, record { serial = u; object = b })

-- the live object that has an address, or the refusal
abbrev pub holding : Memory → ℕ → Result Named Refusal
holding m address =
    or_refuse Stray (holder_of m address) >>= λ serial. or_refuse Stray (object_of m serial) >>= λ object. Ok (record { serial = serial; object = object })

-- whether the range ends past the object
abbrev pub ends_outside : Object → ℕ → ℕ → Bool
ends_outside object off len = nat_lt (length object.bytes) (off + len)

-- the memory with these bytes stored in an object from an offset on
abbrev pub stored : Memory → Named → ℕ → List ℕ → Memory
stored m named off bytes = with_object m named.serial (Some (record named.object { bytes = overwritten named.object.bytes off bytes }))

-- the memory in which a range of one object holds the bytes that a range of another object, or of this object, had
-- before
abbrev pub copied : Memory → Named → ℕ → Named → ℕ → ℕ → Memory
copied m to to_off from from_off len = stored m to to_off (slice_range from.object.bytes from_off (from_off + len))

-- the memory with a new object of `len` zeros, named by the cell
abbrev pub made : Memory → ℕ → ℕ → ℕ → Memory
made m cell len address = with_root (with_new m len address) cell (next_serial m)

-- the reply and the memory after a command, or the refusal. A new object is put at the given address
abbrev pub plain : Memory → ℕ → Command → Result (Reply × Memory) Refusal
plain m address (New cell len word) =
    refuse_if Zero (nat_eq len 0) >>= λ _. refuse_if TooLarge (nat_lt 2048 len) >>= λ _. Ok (Made (next_serial m) address, made m cell len address)
plain m address (Put cell off bytes) =
    named_by m cell >>= λ named. refuse_if Outside (ends_outside named.object off (length bytes.items)) >>= λ _.
    Ok (Done, stored m named off bytes.items)
plain m address (Get cell off len) =
    named_by m cell >>= λ named. refuse_if Outside (ends_outside named.object off len) >>= λ _.
    Ok (Bytes (record { items = slice_range named.object.bytes off (off + len) }), m)
plain m address (Free cell) = named_by m cell >>= λ named. Ok (Done, with_object m named.serial None)
plain m address (Alias to from) = named_by m from >>= λ named. Ok (Done, with_root m to named.serial)
plain m address (Addr cell) = named_by m cell >>= λ named. Ok (At named.object.address, m)
plain m address (Peek place) =
    holding m place >>= λ named. Ok (Byte (slice_index named.object.bytes (place - named.object.address)), m)
plain m address (Poke place byte) =
    holding m place >>= λ named. Ok (Done, stored m named (place - named.object.address) (byte ∷ []))
plain m address (CopyBytes to to_off from from_off len) =
    both_named m to from >>= λ pair.
    refuse_if Outside (ends_outside pair.0.object to_off len || ends_outside pair.1.object from_off len) >>= λ _.
    Ok (Done, copied m pair.0 to_off pair.1 from_off len)

-- no live object has an address of the range
abbrev pub IsVacantRange : Memory → ℕ → ℕ → Type 0
IsVacantRange m address len =
    (serial x : ℕ) (object : Object) → object_of m serial ≡ Some object → address ≤ x → x < address + len → has_address object x ≡ false

-- when a `new` may be refused: for its length, or for lack of pages or addresses if the length is allowed. The
-- reference memory has no pages, so it can't decide the latter
abbrev pub IsNewRefusal : ℕ → Refusal → Type 0
IsNewRefusal len Zero = len ≡ 0
IsNewRefusal len TooLarge = 2048 < len
IsNewRefusal len NoPages = (1 ≤ len) × (len ≤ 2048)
IsNewRefusal len NoAddresses = (1 ≤ len) × (len ≤ 2048)
IsNewRefusal len _ = ⊥

-- the replies that a `new` may have, and the memory after each: the next serial at any vacant range, with the object
-- made, or a refusal, with the memory unchanged
abbrev pub MakesObject : Memory → ℕ → ℕ → Reply → Memory → Type 0
MakesObject m cell len (Made serial address) n =
    (1 ≤ len) × (len ≤ 2048) × (serial ≡ next_serial m) × IsVacantRange m address len × (n ≡ made m cell len address)
MakesObject m cell len (Refused refusal) n = IsNewRefusal len refusal × (n ≡ m)
MakesObject m cell len _ n = ⊥

-- reply and memory are those of the result; if the result is a refusal, the reply is this refusal and the memory is
-- unchanged
abbrev pub Follows : Result (Reply × Memory) Refusal → Memory → Reply → Memory → Type 0
Follows (Ok x) m reply n = (reply ≡ x.0) × (n ≡ x.1)
Follows (Err refusal) m reply n = (reply ≡ Refused refusal) × (n ≡ m)

-- the plain step: in the memory `m` the command may have this reply and lead to the memory `n`
abbrev pub PlainStep : Memory → Command → Reply → Memory → Type 0
PlainStep m (New cell len word) reply n = MakesObject m cell len reply n
PlainStep m command reply n = Follows (plain m 0 command) m reply n

-- an entry of a history: a command, the worker that made it, and the reply
pub record Entry : Type 0 where
  pub worker : ℕ
  pub command : Command
  pub reply : Reply

-- the entries run from the first memory to the last: each entry is a plain step
abbrev pub Runs : Memory → List Entry → Memory → Type 0
Runs m [] n = n ≡ m
Runs m (entry ∷ entries) n = (k : Memory) × PlainStep m entry.command entry.reply k × Runs k entries n

-- a legal history: the entries run from the empty memory to the end
abbrev pub IsLegal : List Entry → Memory → Type 0
IsLegal entries end = Runs empty_memory entries end
