-- The headline: what holds of a book at any moment, whatever calls were made before.
use Rattle.std.specs.Prelude.{◌≡◌, ℕ, List, [], ◌∷◌, ◌++◌, Some}
use Rattle.mesh_page_heap.specs.PageHeapInvariant.{targets_of}
use Rattle.model_words.specs.declared.commands.Command.{Command}
use Rattle.model_words.specs.declared.commands.Command.TheVariants.{New}
use Rattle.model_words.specs.declared.commands.Reply.{Reply}
use Rattle.model_words.specs.declared.commands.Reply.TheVariants.{Object as Made}
use Rattle.model_memory.specs.AddressLaws.{IsKeptOrFreed}
use Rattle.model_memory.specs.Memory.{Memory, empty_memory}
use Rattle.model_heap.specs.Places.{Record, place_of, IsIn, record_with}
use Rattle.model_memory.specs.Plain.{Entry, IsLegal}
use Rattle.mesh_mutator.specs.Book.{Book, memory_of_book}
use Rattle.mesh_steps.specs.Heap.{Heap, live_records, map_of}

-- the entries are a legal history of the reference memory
abbrev pub IsHistory : List Entry → Type 0
IsHistory entries = (end : Memory) × IsLegal entries end

-- if the entries lead to a memory, it is the memory that heap and cells mean
abbrev pub EndsInMeaning : Book → Type 0
EndsInMeaning b = (end : Memory) → IsLegal b.entries end → end ≡ memory_of_book b

-- each object that the journal's entries made is live at the address and with the length of its `new`, or a later entry
-- has freed it
abbrev pub HasObjectsAtAddresses : Book → Type 0
HasObjectsAtAddresses b = (before after : List Entry) (worker cell len word serial address : ℕ)
    → b.entries ≡ before ++ record { worker = worker; command = New cell len word; reply = Made serial address } ∷ after
    → IsKeptOrFreed empty_memory (before ++ record { worker = worker; command = New cell len word; reply = Made serial address } ∷ []) serial address len
    after (memory_of_book b)

-- with the command and this reply of any worker added, the journal is a legal history that ends in the memory that heap
-- and cells mean
abbrev pub CouldBeAdded : Book → Command → Reply → Type 0
CouldBeAdded b command reply =
    (worker : ℕ) → IsLegal (b.entries ++ record { worker = worker; command = command; reply = reply } ∷ []) (memory_of_book b)

-- if two bytes of live objects have one place, they are one byte of one object
abbrev pub HasBytesApart : Heap → Type 0
HasBytesApart h = (i j x y : ℕ) (r q : Record) → record_with i (live_records h) ≡ Some r → record_with j (live_records h) ≡ Some q
    → IsIn r x → IsIn q y → place_of (targets_of (map_of h)) x ≡ place_of (targets_of (map_of h)) y → (i ≡ j) × (x ≡ y)
