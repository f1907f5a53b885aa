-- The state of a cell while a history runs: unmade, live with an object, or freed. A call changes the state of its own
-- cell only.
use Rattle.std.proofs.Common.{◌≡◌, ℕ, ◌<◌, ◌≤◌, ◌⊎◌, inl, inr, List, [], ◌∷◌, length, replicate, arith, ap, refl, sym, subst, ◌∙◌, Option, Some, None, Ok, Err}
use Rattle.std.specs.Option.{option_map}
use Rattle.std.proofs.lemmas.Bool.Decides.{leb_tells}
use Rattle.std.proofs.lemmas.List.{get_or-replicate, get_or_past, length-replicate}
use Rattle.model_history.specs.Recorded.{any_allocator, many_cells, nothing_recorded}
use Rattle.model_memory.specs.Memory.{Memory, Object, next_serial, object_of, root_of}
use Rattle.model_memory.specs.Plain.{named_by}
use Rattle.model_words.specs.declared.commands.Command.{Command}
use Rattle.model_words.specs.declared.commands.Command.TheVariants.{New, Free}
use Rattle.model_words.specs.declared.commands.Reply.{Reply}
use Rattle.model_words.specs.declared.commands.Reply.TheVariants.{Object as Made, Done, Refused}
use Rattle.model_words.specs.declared.refusals.Refusal.TheVariants.{Empty, Freed}
use Rattle.model_intervals.specs.Objects.{accessed}
use Rattle.model_intervals.specs.Intervals.{Call}

-- the state of a cell
pub data CellState : Type 0 where
  Unmade : CellState
  Live : Object → CellState
  Gone : CellState

-- the state that an index of the memory gives
abbrev pub at_index : Option Object → CellState
at_index None = Gone
at_index (Some object) = Live object

abbrev pub at_root : Memory → Option ℕ → CellState
at_root m None = Unmade
at_root m (Some index) = at_index (object_of m index)

-- the state of a cell of the memory
abbrev pub state_of : Memory → ℕ → CellState
state_of m cell = at_root m (root_of m cell)

-- the state of the command's cell after this reply, or `None` if the reply is not possible in the old state
abbrev pub after : CellState → Command → Reply → Option CellState
after Unmade (New cell len word) (Made serial address) = Some (Live (record { address = address; bytes = replicate len 0 }))
after Unmade (New cell len word) (Refused refusal) = Some Unmade
after (Live object) (Free cell) Done = Some Gone
after (Live object) command reply = option_map (λ bytes. Live (record object { bytes = bytes })) (accessed object.address command reply object.bytes)
after standing command reply = None

-- a cell's calls, in this order, lead from the first state to the last
abbrev pub Leads : CellState → List Call → CellState → Type 0
Leads s [] t = t ≡ s
Leads s (call ∷ calls) t = (u : CellState) × (after s call.entry.command call.entry.reply ≡ Some u) × Leads u calls t

-- the cell holds the index of this live object
pub record IsLive (m : Memory) (cell : ℕ) (object : Object) : Type 0 where
  pub index : ℕ
  pub root : root_of m cell ≡ Some index
  pub live : object_of m index ≡ Some object

-- an unmade cell holds nothing, and commands on it are refused as empty
pub record IsUnmade (m : Memory) (cell : ℕ) : Type 0 where
  pub is : state_of m cell ≡ Unmade
  pub root : root_of m cell ≡ None
  pub refused : named_by m cell ≡ Err Empty

pub record IsGone (m : Memory) (cell : ℕ) : Type 0 where
  pub is : state_of m cell ≡ Gone
  pub refused : named_by m cell ≡ Err Freed

-- a cell has one of the three states
pub record HasLive (m : Memory) (cell : ℕ) : Type 0 where
  pub object : Object
  pub is : state_of m cell ≡ Live object
  pub live : IsLive m cell object

abbrev Looked : Memory → ℕ → Type 0
Looked m cell = IsUnmade m cell ⊎ IsGone m cell ⊎ HasLive m cell

look_on : (m : Memory) (cell index : ℕ) (object : Option Object) → root_of m cell ≡ Some index → object_of m index ≡ object → Looked m cell
look_on m cell index None root is = inr (inl (record {
  is = ap (at_root m) root ∙ ap at_index is;
  refused = rw (root, is) refl;
}))
look_on m cell index (Some object) root is = inr (inr (record {
  object = object;
  is = ap (at_root m) root ∙ ap at_index is;
  live = record { index = index; root = root; live = is };
}))

look_root : (m : Memory) (cell : ℕ) (root : Option ℕ) → root_of m cell ≡ root → Looked m cell
look_root m cell None root = inl (record { is = ap (at_root m) root; root = root; refused = rw root refl })
look_root m cell (Some index) root = look_on m cell index (object_of m index) root refl

pub look : (m : Memory) (cell : ℕ) → IsUnmade m cell ⊎ IsGone m cell ⊎ HasLive m cell
look m cell = look_root m cell (root_of m cell) refl

-- `named_by` finds a live cell's object
pub named_so : (m : Memory) (cell : ℕ) (object : Object) (live : IsLive m cell object) → named_by m cell ≡ Ok (record { serial = live.index; object = object })
named_so m cell object live = rw (live.root, live.live) refl

-- what each state says of the memory, and back
pub live_at : (m : Memory) (cell : ℕ) (object : Object) → state_of m cell ≡ Live object → IsLive m cell object
live_at m cell object is = elim (look m cell) [
  | inl unmade ↦ absurd (let clash : Unmade ≡ Live object = sym unmade.is ∙ is in cc clash)
  | inr (inl gone) ↦ absurd (let clash : Gone ≡ Live object = sym gone.is ∙ is in cc clash)
  | inr (inr has) ↦ let same : has.object ≡ object = (let both : Live has.object ≡ Live object = sym has.is ∙ is in cc both) in
      subst (λ o. IsLive m cell o) same has.live
]

pub live_state : (m : Memory) (cell : ℕ) (object : Object) → IsLive m cell object → state_of m cell ≡ Live object
live_state m cell object live = ap (at_root m) live.root ∙ ap at_index live.live

pub unmade_root : (m : Memory) (cell : ℕ) → state_of m cell ≡ Unmade → root_of m cell ≡ None
unmade_root m cell is = elim (look m cell) [
  | inl unmade ↦ unmade.root
  | inr (inl gone) ↦ absurd (let clash : Unmade ≡ Gone = sym is ∙ gone.is in cc clash)
  | inr (inr has) ↦ absurd (let clash : Unmade ≡ Live has.object = sym is ∙ has.is in cc clash)
]

-- the memory is well formed: no two cells hold one index, each live object's index is in some cell, and each live
-- object has at least one byte
pub record IsNamed (m : Memory) : Type 0 where
  pub cells : length m.roots ≡ many_cells
  pub below : (c s : ℕ) → root_of m c ≡ Some s → s < next_serial m
  pub once : (c d s : ℕ) → root_of m c ≡ Some s → root_of m d ≡ Some s → c ≡ d
  pub named : (s : ℕ) (o : Object) → object_of m s ≡ Some o → (c : ℕ) × (root_of m c ≡ Some s)
  pub filled : (s : ℕ) (o : Object) → object_of m s ≡ Some o → 1 ≤ length o.bytes

-- at the start each cell is empty
pub nothing_named : (c : ℕ) → root_of (nothing_recorded any_allocator).memory c ≡ None
nothing_named c = elim (leb_tells many_cells c) [
  | inl past ↦ get_or_past (replicate {A = Option ℕ} many_cells None) c None (let long = length-replicate {A = Option ℕ} many_cells None in omega (arith, past.1, long))
  | inr within ↦ get_or-replicate {A = Option ℕ} many_cells c None None within.1
]

pub nothing_is_named : IsNamed (nothing_recorded any_allocator).memory
nothing_is_named = record {
  cells = length-replicate {A = Option ℕ} many_cells None;
  below = λ c s is. let clash : None ≡ Some s = sym (nothing_named c) ∙ is in absurd (cc clash);
  once = λ c d s is is'. let clash : None ≡ Some s = sym (nothing_named c) ∙ is in absurd (cc clash);
  named = λ s o is. absurd (let clash : None ≡ Some o = is in cc clash);
  filled = λ s o is. absurd (let clash : None ≡ Some o = is in cc clash);
}
