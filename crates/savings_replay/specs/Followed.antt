-- The state to which a program's calls lead: the objects and the cells, both heaps, and the counts.
use Rattle.std.specs.Prelude.{ℕ, ◌+◌, ◌*◌, Bool, ◌&&◌, if◌then◌else◌, nat_eq, nat_le, max, List, [], ◌∷◌, Option, Some, None, Result, Ok, option_map, sum_by}
use Rattle.model_heap.specs.Table.{Placed, Table, empty_table, object_count, place_new, without_object}
use Rattle.model_words.specs.Classes.{class_for}
use Rattle.model_words.specs.declared.refusals.Refusal.{Refusal}
use Rattle.savings_replay.specs.Placement.{supply}
use Rattle.savings_replay.specs.Counts.{alias_counted, large_free_counted, large_new_counted, no_count, no_mesh, small_free_counted, small_new_counted}
use Rattle.savings_replay.specs.Meshing.{Heaps, after_round}
use Rattle.savings_replay.specs.Words.{after_new_word, new_seed, new_word, shuffle_seed, state_of}
use Rattle.savings_replay.specs.declared.calls.Call.{Call}
use Rattle.savings_replay.specs.declared.calls.Call.TheVariants.{New, Free, Alias}
use Rattle.savings_replay.specs.declared.counts.Counts.{Counts}
use Rattle.savings_replay.specs.declared.settings.Rounds.{Rounds}
use Rattle.savings_replay.specs.declared.settings.Rounds.TheVariants.{Every, Share}
use Rattle.savings_replay.specs.declared.settings.Settings.{Settings}

-- a live object: small, of up to 2,048 bytes, with its serial in both heaps; or large, and in neither heap
pub data Live : Type 0 where
  Small : (serial len : ℕ) → Live
  Large : (len : ℕ) → Live

-- the state: the number of the object last stored in each cell; the live objects by number; the counts; the state of
-- the generator of the words of `new`; and both heaps
pub record Followed : Type 0 where
  pub cells : ℕ → Option ℕ
  pub live : ℕ → Option Live
  pub counts : Counts
  pub new_words : List ℕ
  pub heaps : Heaps

-- the outcome of a call: the state after it, or why the call can't be made
pub data Outcome : Type 0 where
  Goes : Followed → Outcome
  -- the cell holds no live object
  NoObject : Outcome
  -- a heap has too few virtual pages left
  NoAddresses : Outcome

-- both heaps without an object, the generator of the shuffles' words, with this seed, and the most members of a group
abbrev pub empty_heaps : ℕ → ℕ → Heaps
empty_heaps seed members = record {
  without = empty_table supply;
  meshing = record { table = empty_table supply; counts = no_mesh; words = state_of seed; members = members };
}

-- the state before the first call
abbrev pub start : Settings → Followed
start settings = record {
  cells = λ cell. None;
  live = λ number. None;
  counts = no_count;
  new_words = state_of (new_seed settings.words);
  heaps = empty_heaps (shuffle_seed settings.words) settings.members;
}

-- the function with another value at `n`
abbrev pub with_at : {A : Type 0} → ℕ → A → (ℕ → A) → ℕ → A
with_at n value f k = if nat_eq n k then value else f k

-- the live object with this number, if there is one, and its number
abbrev pub object_of : Followed → Option ℕ → Option (ℕ × Live)
object_of f None = None
object_of f (Some number) = option_map (λ live. (number, live)) (f.live number)

-- the live object that a cell holds, if there is one, and its number
abbrev pub object_in : Followed → ℕ → Option (ℕ × Live)
object_in f cell = object_of f (f.cells cell)

-- the state with the next object live and held by the cell
abbrev pub with_object : Followed → ℕ → Live → Followed
with_object f cell live = record f { cells = with_at cell (Some f.counts.made) f.cells; live = with_at f.counts.made (Some live) f.live }

-- the state with the object of this number no longer live, and an empty cell
abbrev pub forgotten : Followed → ℕ → ℕ → Followed
forgotten f cell number = record f { cells = with_at cell None f.cells; live = with_at number None f.live }

-- the state after a large object was made
abbrev pub large_made : Followed → ℕ → ℕ → Followed
large_made f cell len = record (with_object f cell (Large len)) { counts = large_new_counted f.counts len }

-- the state after a small object was made in both heaps, whose tables are `without` and `with` then
abbrev pub small_made : Settings → Followed → ℕ → ℕ → ℕ → Table → Table → Followed
small_made settings f cell len class without with = record (with_object f cell (Small f.counts.small len)) {
  counts = small_new_counted f.counts class (sum_by object_count without.groups);
  new_words = after_new_word settings.words f.new_words;
  heaps = record { without = without; meshing = record f.heaps.meshing { table = with } };
}

-- the outcome of the placements of a small object in both heaps: if a heap refuses it, it lacks addresses
abbrev pub small_placed : Settings → Followed → ℕ → ℕ → ℕ → Result Placed Refusal → Result Placed Refusal → Outcome
small_placed settings f cell len class (Ok without) (Ok with) = Goes (small_made settings f cell len class without.table with.table)
small_placed settings f cell len class _ _ = NoAddresses

-- the outcome of a `new`: a small object is made in both heaps, with one length, one word and one serial. An object
-- above 2,048 bytes has no class and is only counted
abbrev pub made : Settings → Followed → ℕ → ℕ → Option ℕ → Outcome
made settings f cell len None = Goes (large_made f cell len)
made settings f cell len (Some class) =
    let word = new_word settings.words f.new_words in
    small_placed settings f cell len class (place_new f.heaps.without len word f.counts.small) (place_new f.heaps.meshing.table len word f.counts.small)

-- whether a round is due after this many frees of small objects since the last round, the last free included, if `live`
-- small objects are left
abbrev pub is_due : Rounds → ℕ → ℕ → Bool
is_due (Every frees) since live = nat_eq since frees
is_due (Share part) since live = nat_le 64 since && nat_le live (since * part)

-- both heaps without the object of this serial
abbrev pub without_serial : Heaps → ℕ → Heaps
without_serial heaps serial = record {
  without = without_object heaps.without serial;
  meshing = record heaps.meshing { table = without_object heaps.meshing.table serial };
}

-- the heaps after a free, and after the round that follows if one is due
abbrev pub after_free : ℕ → Heaps → Bool → Heaps
after_free probe heaps due = if due then after_round probe heaps else heaps

-- the number of small objects in the heaps
abbrev pub small_live : Heaps → ℕ
small_live heaps = sum_by object_count heaps.without.groups

-- the state after a small object was freed in both heaps
abbrev pub small_freed : Settings → Followed → ℕ → ℕ → ℕ → Followed
small_freed settings f cell number serial =
    let left = without_serial f.heaps serial in
    let due = is_due settings.rounds (f.counts.since + 1) (small_live left) in
    record (forgotten f cell number) {
      counts = small_free_counted f.counts due;
      heaps = after_free settings.probe left due;
    }

-- the state after a large object was freed
abbrev pub large_freed : Followed → ℕ → ℕ → ℕ → Followed
large_freed f cell number len = record (forgotten f cell number) { counts = large_free_counted f.counts len }

-- the outcome of freeing the live object that a cell holds, if there is one
abbrev pub freed : Settings → Followed → ℕ → Option (ℕ × Live) → Outcome
freed settings f cell None = NoObject
freed settings f cell (Some (number, Small serial len)) = Goes (small_freed settings f cell number serial)
freed settings f cell (Some (number, Large len)) = Goes (large_freed f cell number len)

-- the outcome of storing a live object, if there is one, in another cell
abbrev pub aliased : Followed → ℕ → Option (ℕ × Live) → Outcome
aliased f to None = NoObject
aliased f to (Some (number, live)) = Goes (record f { cells = with_at to (Some number) f.cells; counts = alias_counted f.counts })

-- the outcome of a call. A `new` of 0 bytes makes an object of 1 byte
unfoldable pub step : Settings → Followed → Call → Outcome
step settings f (New cell len) = made settings f cell (max len 1) (class_for (max len 1))
step settings f (Free cell) = freed settings f cell (object_in f cell)
step settings f (Alias to from) = aliased f to (object_in f from)

-- the outcome of calls, one after another, up to the first that can't be made
abbrev pub run_on : Settings → Outcome → List Call → Outcome
run_on settings outcome [] = outcome
run_on settings (Goes f) (call ∷ calls) = run_on settings (step settings f call) calls
run_on settings NoObject (call ∷ calls) = NoObject
run_on settings NoAddresses (call ∷ calls) = NoAddresses

-- the outcome of calls from a state on
abbrev pub run : Settings → Followed → List Call → Outcome
run settings f calls = run_on settings (Goes f) calls
