-- A physical page of the source with several virtual pages, copied piece by piece, while commands store to it and free
-- bytes.
use Rattle.std.specs.Prelude.{◌≡◌, ◌≢◌, ℕ, ◌+◌, ◌<◌, Bool, true, false, ◌&&◌, not, if◌then◌else◌, nat_eq, nat_lt, List, [], ◌∷◌}
use Rattle.model_orders.specs.declared.steps.Step.{Step}
use Rattle.model_orders.specs.declared.steps.Step.TheVariants.{Protect, Hide, Copy, Remap, Unprotect, Release}
use Rattle.model_orders.specs.declared.facts.Protection.{Protection}
use Rattle.model_orders.specs.declared.facts.Protection.TheVariants.{ReadWrite, ReadOnly, Hidden}
use Rattle.model_orders.specs.declared.facts.Side.{Side}
use Rattle.model_orders.specs.declared.facts.Side.TheVariants.{Source, Destination}
use Rattle.model_orders.specs.Pages.{is_read_write, is_source, stored, with_at}

-- how many virtual pages are mapped to the physical page, how many moves a copy takes, and which move copies an offset
pub record Shape : Type 0 where
  pub views : ℕ
  pub pieces : ℕ
  pub piece : ℕ → ℕ

-- each offset is copied by one of the moves
abbrev pub IsShape : Shape → Type 0
IsShape shape = (offset : ℕ) → shape.piece offset < shape.pieces

-- a virtual page
pub record View : Type 0 where
  pub protection : Protection
  pub target : Side

-- a physical page of the source, with its virtual pages and the bytes of the destination's page. `memory` has the bytes
-- of the reference memory. `left` has the steps that aren't over yet, and `made` is the number of moves that the first
-- of these steps has made
pub record Row : Type 0 where
  pub views : ℕ → View
  pub released : Bool
  pub source : ℕ → ℕ
  pub destination : ℕ → ℕ
  pub live : ℕ → Bool
  pub memory : ℕ → ℕ
  pub left : List Step
  pub made : ℕ

-- the byte that a load through a virtual page gets
abbrev pub loaded : Row → View → ℕ → ℕ
loaded row view offset = if is_source view.target then row.source offset else row.destination offset

-- the row after a store to a live byte through a virtual page. The store is blocked unless the page is read-write
abbrev pub after_store : Shape → ℕ → ℕ → ℕ → Row → Row
after_store shape view offset byte row = if nat_lt view shape.views && (is_read_write (row.views view).protection && row.live offset) then record row {
  source = stored (is_source (row.views view).target) offset byte row.source;
  destination = stored (not (is_source (row.views view).target)) offset byte row.destination;
  memory = with_at row.memory offset byte;
} else row

-- the row after some of its bytes are freed
abbrev pub after_free : (ℕ → Bool) → Row → Row
after_free freed row = record row { live = λ offset. row.live offset && not (freed offset) }

-- the row after the next owner of the source's physical page has stored there
abbrev pub after_reuse : ℕ → ℕ → Row → Row
after_reuse offset byte row = record row { source = stored row.released offset byte row.source }

-- what a step does to a virtual page
abbrev pub changed : Step → View → View
changed Protect view = record view { protection = ReadOnly }
changed Hide view = record view { protection = Hidden }
changed Copy view = view
changed Remap view = record view { target = Destination }
changed Unprotect view = record view { protection = ReadWrite }
changed Release view = view

-- the number of moves of a step: one for each virtual page, or for each piece, or one
abbrev pub moves_of : Shape → Step → ℕ
moves_of shape Protect = shape.views
moves_of shape Hide = shape.views
moves_of shape Copy = shape.pieces
moves_of shape Remap = shape.views
moves_of shape Unprotect = shape.views
moves_of shape Release = 1

-- the row after one virtual page is changed
abbrev pub with_changed : Step → ℕ → Row → Row
with_changed step view row = record row { views = with_at row.views view (changed step (row.views view)) }

-- the row after a move of a step. A move of a copy copies the bytes of one piece that are live now
abbrev pub after_part : Shape → Step → ℕ → Row → Row
after_part shape Protect n row = with_changed Protect n row
after_part shape Hide n row = with_changed Hide n row
after_part shape Copy n row =
    record row { destination = λ offset. if row.live offset && nat_eq (shape.piece offset) n then row.source offset else row.destination offset }
after_part shape Remap n row = with_changed Remap n row
after_part shape Unprotect n row = with_changed Unprotect n row
after_part shape Release n row = record row { released = true; source = λ offset. 0 }

-- the row after the mesher's next move there. If all moves of a step are made, the step is over
abbrev pub after_make : Shape → List Step → Row → Row
after_make shape [] row = row
after_make shape (step ∷ steps) row =
    if nat_lt row.made (moves_of shape step) then record (after_part shape step row.made row) { made = row.made + 1 } else record row { left = steps; made = 0 }

-- a command, or the mesher's next move for a row. The mesher may take the rows in any order
pub data Move : Type 0 where
  Store : ℕ → ℕ → ℕ → ℕ → Move
  Free : (ℕ → ℕ → Bool) → Move
  Reuse : ℕ → ℕ → ℕ → Move
  Make : ℕ → Move

-- the rows after a move
abbrev pub after : (ℕ → Shape) → Move → (ℕ → Row) → ℕ → Row
after shapes (Store place view offset byte) rows = with_at rows place (after_store (shapes place) view offset byte (rows place))
after shapes (Free freed) rows = λ place. after_free (freed place) (rows place)
after shapes (Reuse place offset byte) rows = with_at rows place (after_reuse offset byte (rows place))
after shapes (Make place) rows = with_at rows place (after_make (shapes place) (rows place).left (rows place))

-- the rows after moves, one after another
abbrev pub after_all : (ℕ → Shape) → List Move → (ℕ → Row) → ℕ → Row
after_all shapes [] rows = rows
after_all shapes (move ∷ moves) rows = after_all shapes moves (after shapes move rows)

-- the row as a mesh with these steps finds it
pub record IsAtStart (shape : Shape) (steps : List Step) (row : Row) : Type 0 where
  pub protection : (view : ℕ) → view < shape.views → (row.views view).protection ≡ ReadWrite
  pub target : (view : ℕ) → view < shape.views → (row.views view).target ≡ Source
  pub released : row.released ≡ false
  pub left : row.left ≡ steps
  pub made : row.made ≡ 0
  pub bytes : (offset : ℕ) → row.live offset ≡ true → row.source offset ≡ row.memory offset

-- no load of a live byte that isn't blocked gets a byte other than the reference memory's, and no virtual page is
-- mapped to a released page
pub record IsLoadedRight (shape : Shape) (row : Row) : Type 0 where
  pub bytes : (view offset : ℕ) → view < shape.views → row.live offset ≡ true → (row.views view).protection ≢ Hidden
      → loaded row (row.views view) offset ≡ row.memory offset
  pub held : (view : ℕ) → view < shape.views → (row.views view).target ≡ Source → row.released ≡ false

-- the row as a mesh must leave it
pub record IsMoved (shape : Shape) (row : Row) : Type 0 where
  pub protection : (view : ℕ) → view < shape.views → (row.views view).protection ≡ ReadWrite
  pub target : (view : ℕ) → view < shape.views → (row.views view).target ≡ Destination
  pub released : row.released ≡ true
