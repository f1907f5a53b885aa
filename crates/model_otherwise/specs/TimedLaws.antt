-- Commands in two moves, by examples: an object of two bytes in slot 1 of the source.
use Rattle.std.specs.Prelude.{◌≡◌, ℕ, true, false, List, [], ◌∷◌, Some, None, map, option_map}
use Rattle.model_memory.specs.Memory.{Memory}
use Rattle.model_otherwise.specs.Effects.{effect}
use Rattle.model_otherwise.specs.Heaps.{Heap}
use Rattle.model_otherwise.specs.MoveLaws.{part}
use Rattle.model_otherwise.specs.Spots.{byte_at}
use Rattle.model_otherwise.specs.States.{is_fenced}
use Rattle.model_otherwise.specs.StepLaws.{before, memory, mesh}
use Rattle.model_otherwise.specs.Timed.{attempted}
use Rattle.model_otherwise.specs.Tries.{Outcome}
use Rattle.model_otherwise.specs.declared.steps.Step.{Step}
use Rattle.model_otherwise.specs.declared.steps.Step.TheVariants.{Protect, Remap, Unmap, Unprotect, Release, Merge, Fence, Look}
use Rattle.model_otherwise.specs.declared.timing.Making.TheVariants.{Whole, Split, Stale}
use Rattle.model_otherwise.specs.declared.timing.Timing.{Timing}
use Rattle.model_otherwise.specs.declared.tried.Tried.TheVariants.{Answered, Begun, Ended, Held, Waits, NoPage, Wrong, GroupGone}
use Rattle.model_words.specs.declared.commands.Command.{Command}
use Rattle.model_words.specs.declared.commands.Command.TheVariants.{Free, Peek, Poke}
use Rattle.model_words.specs.declared.commands.Reply.TheVariants.{Byte, Done}

-- loads are one move, and stores are made so
abbrev pub storing : Timing
storing = record { loads = Whole; stores = Split; frees = Whole }

abbrev pub storing_late : Timing
storing_late = record { loads = Whole; stores = Stale; frees = Whole }

abbrev pub loading_late : Timing
loading_late = record { loads = Stale; stores = Whole; frees = Whole }

abbrev pub freeing : Timing
freeing = record { loads = Whole; stores = Whole; frees = Split }

-- heap and mesh after a step is made for a number on this heap
abbrev pub after_step : Memory → Step → ℕ → Heap → Heap
after_step m step i heap = (effect m step i (record { heap = heap; mesh = mesh })).heap

-- the heap on which the object's page allows loads and stores
abbrev pub ready : Heap
ready = after_step memory Unprotect 1 before.heap

-- what the command of number 7 becomes
abbrev pub made : Timing → Memory → Heap → Command → Outcome
made t m heap command = attempted t 7 16 m heap command

-- the heap after the first move of a store to the object's first byte
abbrev pub checked : Heap
checked = (made storing memory ready (Poke 10240 99)).heap

abbrev pub found : Heap
found = (made storing_late memory ready (Poke 10240 99)).heap

-- the bytes on the source's page and on the destination's page where the object's first byte may be
abbrev pub bytes_there : Heap → List ℕ
bytes_there heap = map (byte_at heap.spots) (22528 ∷ 30720 ∷ [])

-- the second move of a store isn't blocked by a protection that came between, and goes through the page map. A stale
-- store goes to the page that was found
abbrev pub StoresEndLate : Type 0
StoresEndLate =
    ((made storing memory ready (Poke 10240 99)).tried ≡ Begun)
    × ((made storing memory before.heap (Poke 10240 99)).tried ≡ Held)
    × (bytes_there checked ≡ 17 ∷ 0 ∷ [])
    × ((made storing memory (after_step memory Protect 1 checked) (Poke 10240 99)).tried ≡ Ended Done)
    × (bytes_there (made storing memory (after_step memory Protect 1 checked) (Poke 10240 99)).heap ≡ 99 ∷ 0 ∷ [])
    × (bytes_there (made storing memory (after_step memory Remap 1 checked) (Poke 10240 99)).heap ≡ 17 ∷ 99 ∷ [])
    × ((made storing memory (after_step memory Unmap 1 checked) (Poke 10240 99)).tried ≡ NoPage)
    × (bytes_there (made storing_late memory (after_step memory Remap 1 found) (Poke 10240 99)).heap ≡ 99 ∷ 0 ∷ [])

-- a stale load gets the bytes of the page that was found
abbrev pub LoadsEndLate : Type 0
LoadsEndLate =
    ((made loading_late memory (after_step memory Remap 1 (made loading_late memory ready (Peek 10240)).heap) (Peek 10240)).tried ≡ Ended (Byte 17))
    × ((made loading_late memory (after_step memory Release 0 (made loading_late memory ready (Peek 10240)).heap) (Peek 10240)).tried ≡ Wrong (Byte 0) (Byte 17))

-- between the two moves there is no other command in two moves, and none that changes what the first one touches. A
-- fence isn't made
abbrev pub OthersWait : Type 0
OthersWait =
    ((attempted storing 8 16 memory checked (Poke 10241 5)).tried ≡ Waits)
    × ((attempted loading_late 8 16 memory (made loading_late memory ready (Peek 10240)).heap (Poke 10240 5)).tried ≡ Waits)
    × ((attempted loading_late 8 16 memory (made loading_late memory ready (Peek 10240)).heap (Poke 10241 5)).tried ≡ Answered Done)
    × ((attempted storing 8 16 memory checked (Peek 10240)).tried ≡ Answered (Byte 17))
    × (is_fenced checked (part Look 0 ∷ part Fence 0 ∷ []) ≡ true)
    × (is_fenced checked (part Look 0 ∷ []) ≡ false)
    × (is_fenced ready (part Fence 0 ∷ []) ≡ false)

-- cell 0 names the object
abbrev pub named : Memory
named = record memory { roots = Some 0 ∷ [] }

-- the heap after the first move of a free
abbrev pub looked_up : Heap
looked_up = (made freeing named ready (Free 0)).heap

-- the second move of a free needs the group that was looked up
abbrev pub FreesNeedTheirGroup : Type 0
FreesNeedTheirGroup =
    (option_map (λ f. f.group) looked_up.flight ≡ Some (Some 0))
    × ((made freeing named looked_up (Free 0)).tried ≡ Ended Done)
    × ((made freeing named looked_up (Free 0)).memory.objects ≡ None ∷ [])
    × ((made freeing named (after_step named Merge 0 looked_up) (Free 0)).tried ≡ GroupGone 0)
