-- What the headline says of a heap's bytes.
use Rattle.std.proofs.Common.{◌≡◌, ℕ, List, [], ◌∷◌, ◌++◌, subst, sym, inl, inr}
use Rattle.std.proofs.lemmas.Bool.Decides.{eqb_tells}
use Rattle.model_heap.specs.Places.{IsIn}
use Rattle.model_memory.specs.AddressLaws.{IsKeptOrFreed, MadeKeepsAddress}
use Rattle.model_memory.specs.HistoryLaws.{LegalGoesOn}
use Rattle.model_memory.specs.Memory.{Memory, empty_memory}
use Rattle.model_memory.specs.Plain.{Entry, Follows, IsLegal, PlainStep, plain}
use Rattle.model_words.specs.declared.commands.Command.{Command}
use Rattle.model_words.specs.declared.commands.Command.TheVariants.{New, Put, Get, Free, Alias, Addr, Peek, Poke, Copy}
use Rattle.model_words.specs.declared.commands.Reply.{Reply}
use Rattle.model_words.specs.declared.commands.Reply.TheVariants.{Object as Made}
use Rattle.mesh_mutator.specs.Attempts.{IsLook}
use Rattle.mesh_mutator.specs.Book.{Book, IsLooked, memory_of_book}
use Rattle.mesh_mutator.specs.Headline.{CouldBeAdded, HasBytesApart}
use Rattle.mesh_steps.specs.Always.{HasObjectsApart, HasPlacesApart}
use Rattle.mesh_steps.specs.Heap.{Heap}

-- where objects and places are apart, so are the bytes
pub bytes_apart : (h : Heap) → HasObjectsApart h → HasPlacesApart h → HasBytesApart h
bytes_apart h objects places = λ i j x y r q at_i at_j in_r in_q same. elim (eqb_tells x y) [
  | inl one ↦ elim (eqb_tells i j) [
    | inl this ↦ (this.1, one.1)
    | inr other ↦ absurd (objects i j x r q at_i at_j other.1 in_r (subst (λ (z : ℕ). IsIn q z) (sym one.1) in_q))
  ]
  | inr other ↦ absurd (places i j x y r q at_i at_j in_r in_q other.1 same)
]

-- the objects that the entries of a legal history made are at their addresses, or freed
pub objects_at_addresses : (entries : List Entry) (end : Memory) → MadeKeepsAddress → IsLegal entries end
    → (before after : List Entry) (worker cell len word serial address : ℕ)
    → entries ≡ before ++ record { worker = worker; command = New cell len word; reply = Made serial address } ∷ after
    → IsKeptOrFreed empty_memory (before ++ record { worker = worker; command = New cell len word; reply = Made serial address } ∷ []) serial address len
    after end
objects_at_addresses entries end kept legal before after worker cell len word serial address is =
    kept before after worker cell len word serial address end (subst (λ (es : List Entry). IsLegal es end) is legal)

-- a command that only reads, with the reference memory's reply, is a plain step that changes nothing
pub looked_step : (m : Memory) (command : Command) (reply : Reply) → IsLook command → Follows (plain m 0 command) m reply m → PlainStep m command reply m
looked_step m (New cell len word) reply look follows = elim look [ ]
looked_step m (Put cell off bytes) reply look follows = follows
looked_step m (Get cell off len) reply look follows = follows
looked_step m (Free cell) reply look follows = follows
looked_step m (Alias to from) reply look follows = follows
looked_step m (Addr cell) reply look follows = follows
looked_step m (Peek addr) reply look follows = follows
looked_step m (Poke addr byte) reply look follows = follows
looked_step m (Copy to to_off from from_off len) reply look follows = follows

-- a reply of the reference memory to a command that only reads could be added to the journal
pub could_be_added : (b : Book) (command : Command) (reply : Reply) → LegalGoesOn → IsLegal b.entries (memory_of_book b)
    → IsLook command → IsLooked b.heap b.cells command reply → CouldBeAdded b command reply
could_be_added b command reply on legal look looked worker =
    on b.entries (memory_of_book b) (memory_of_book b) (record { worker = worker; command = command; reply = reply }) legal
    (looked_step (memory_of_book b) command reply look looked)
