-- Examples of which calls are a slice. The old byte is 0, which a new object contains, and the new byte is 7.
use Rattle.std.specs.Prelude.{ℕ, Bool, not, nat_eq, List, [], ◌∷◌}
use Rattle.model_words.specs.declared.commands.Command.TheVariants.{Put, Get}
use Rattle.model_words.specs.declared.commands.Reply.TheVariants.{Done, Bytes}
use Rattle.model_intervals.specs.ExampleLaws.{call, first_object, free_first, get_byte, put_byte}
use Rattle.model_intervals.specs.Intervals.{Call}
use Rattle.history_witness.specs.Slices.{IsSlice}

-- all calls but the one at this place
abbrev pub all_but : ℕ → ℕ → Bool
all_but place i = not (nat_eq i place)

-- two `put` of the same byte, of which the first ends at `end` and the second begins at `begin`. A `get` of this byte
-- begins at `moment`, and the second `put` ends at 6
abbrev pub two_puts : ℕ → ℕ → ℕ → List Call
two_puts end begin moment = first_object ∷ put_byte 0 2 end ∷ put_byte 1 begin 6 ∷ get_byte 2 moment 9 7 ∷ []

-- the first `put` may be left out if it ends before the second begins and the second ends before the `get` begins. If
-- two of them touch, it may not
abbrev pub OverwrittenStoresMayGo : Type 0
OverwrittenStoresMayGo = IsSlice (two_puts 3 4 7) (all_but 1) × (IsSlice (two_puts 4 4 7) (all_but 1) → ⊥) × (IsSlice (two_puts 3 4 6) (all_but 1) → ⊥)

-- the second `put` may not be left out
abbrev pub LastStoresStay : Type 0
LastStoresStay = IsSlice (two_puts 3 4 7) (all_but 2) → ⊥

-- a `get` that ends at 4, and a `put` that begins at `begin`
abbrev pub get_and_put : ℕ → List Call
get_and_put begin = first_object ∷ get_byte 0 2 4 0 ∷ put_byte 1 begin 6 ∷ []

-- the `put` may be left out if it begins after the end of the `get`. If the two touch, it may not
abbrev pub LaterStoresMayGo : Type 0
LaterStoresMayGo = IsSlice (get_and_put 5) (all_but 2) × (IsSlice (get_and_put 4) (all_but 2) → ⊥)

-- a `put` of the second byte of an object, and a `get` of both bytes
abbrev pub put_second_byte : List Call
put_second_byte = first_object ∷ call 0 2 3 (Put 0 1 (record { items = 7 ∷ [] })) Done ∷ call 1 4 5 (Get 0 0 2) (Bytes (record { items = 0 ∷ 7 ∷ [] })) ∷ []

-- the stores of each byte count
abbrev pub EachByteCounts : Type 0
EachByteCounts = IsSlice put_second_byte (all_but 1) → ⊥

-- a `put` on an object that is freed later
abbrev pub put_and_free : List Call
put_and_free = first_object ∷ put_byte 0 2 3 ∷ free_first 0 4 5 ∷ []

-- the `put` may be left out, and the object's `new` and `free` may not
abbrev pub NewAndFreeStay : Type 0
NewAndFreeStay = IsSlice put_and_free (all_but 1) × (IsSlice put_and_free (all_but 0) → ⊥) × (IsSlice put_and_free (all_but 2) → ⊥)
