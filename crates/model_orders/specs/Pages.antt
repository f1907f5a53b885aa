-- Pages that a mesher moves from source to destination by a list of steps, while commands store to them and free bytes.
use Rattle.std.specs.Prelude.{◌≡◌, ◌≢◌, ℕ, Bool, true, false, ◌&&◌, not, if◌then◌else◌, nat_eq, List, [], ◌∷◌}
use Rattle.model_orders.specs.declared.steps.Step.{Step}
use Rattle.model_orders.specs.declared.steps.Step.TheVariants.{Protect, Hide, Copy, Remap, Unprotect, Release}
use Rattle.model_orders.specs.declared.facts.Protection.{Protection}
use Rattle.model_orders.specs.declared.facts.Protection.TheVariants.{ReadWrite, ReadOnly, Hidden}
use Rattle.model_orders.specs.declared.facts.Side.{Side}
use Rattle.model_orders.specs.declared.facts.Side.TheVariants.{Source, Destination}

-- a virtual page of the source, with the bytes of the two physical pages that it may be mapped to. `released` says
-- whether the source's physical page is released. `memory` has the bytes of the reference memory. `left` has the steps
-- that the mesher hasn't made yet
pub record Page : Type 0 where
  pub protection : Protection
  pub target : Side
  pub released : Bool
  pub source : ℕ → ℕ
  pub destination : ℕ → ℕ
  pub live : ℕ → Bool
  pub memory : ℕ → ℕ
  pub left : List Step

-- the values with another value at one place
abbrev pub with_at : {A : Type 0} → (ℕ → A) → ℕ → A → ℕ → A
with_at values place value x = if nat_eq x place then value else values x

abbrev pub is_source : Side → Bool
is_source Source = true
is_source Destination = false

abbrev pub is_read_write : Protection → Bool
is_read_write ReadWrite = true
is_read_write ReadOnly = false
is_read_write Hidden = false

-- the byte that a load gets
abbrev pub loaded : Page → ℕ → ℕ
loaded page offset = if is_source page.target then page.source offset else page.destination offset

-- the bytes after a store, if it goes here
abbrev pub stored : Bool → ℕ → ℕ → (ℕ → ℕ) → ℕ → ℕ
stored here offset byte bytes = if here then with_at bytes offset byte else bytes

-- the page after a store to a live byte. The store is blocked unless the page is read-write
abbrev pub after_store : ℕ → ℕ → Page → Page
after_store offset byte page = if is_read_write page.protection && page.live offset then record page {
  source = stored (is_source page.target) offset byte page.source;
  destination = stored (not (is_source page.target)) offset byte page.destination;
  memory = with_at page.memory offset byte;
} else page

-- the page after some of its bytes are freed
abbrev pub after_free : (ℕ → Bool) → Page → Page
after_free freed page = record page { live = λ offset. page.live offset && not (freed offset) }

-- the page after the next owner of the source's physical page has stored there
abbrev pub after_reuse : ℕ → ℕ → Page → Page
after_reuse offset byte page = record page { source = stored page.released offset byte page.source }

-- the page after a step. A copy copies the live bytes. The source's physical page is cleared at its release
abbrev pub after_step : Step → Page → Page
after_step Protect page = record page { protection = ReadOnly }
after_step Hide page = record page { protection = Hidden }
after_step Copy page = record page { destination = λ offset. if page.live offset then page.source offset else page.destination offset }
after_step Remap page = record page { target = Destination }
after_step Unprotect page = record page { protection = ReadWrite }
after_step Release page = record page { released = true; source = λ offset. 0 }

-- the page after the first of these steps, if there is one
abbrev pub after_first : List Step → Page → Page
after_first [] page = page
after_first (step ∷ steps) page = record (after_step step page) { left = steps }

-- what happens at once: a command, a store of the next owner of a released page, or the mesher's next step for a page.
-- The mesher may take the pages in any order
pub data Move : Type 0 where
  Store : ℕ → ℕ → ℕ → Move
  Free : (ℕ → ℕ → Bool) → Move
  Reuse : ℕ → ℕ → ℕ → Move
  Make : ℕ → Move

-- the pages after a move
abbrev pub after : Move → (ℕ → Page) → ℕ → Page
after (Store place offset byte) pages = with_at pages place (after_store offset byte (pages place))
after (Free freed) pages = λ place. after_free (freed place) (pages place)
after (Reuse place offset byte) pages = with_at pages place (after_reuse offset byte (pages place))
after (Make place) pages = with_at pages place (after_first (pages place).left (pages place))

-- the pages after moves, one after another
abbrev pub after_all : List Move → (ℕ → Page) → ℕ → Page
after_all [] pages = pages
after_all (move ∷ moves) pages = after_all moves (after move pages)

-- the page as a mesh with these steps finds it
pub record IsAtStart (steps : List Step) (page : Page) : Type 0 where
  pub protection : page.protection ≡ ReadWrite
  pub target : page.target ≡ Source
  pub released : page.released ≡ false
  pub left : page.left ≡ steps
  pub bytes : (offset : ℕ) → page.live offset ≡ true → page.source offset ≡ page.memory offset

-- no load of a live byte that isn't blocked gets a byte other than the reference memory's, or reads a released page
pub record IsLoadedRight (page : Page) : Type 0 where
  pub bytes : (offset : ℕ) → page.live offset ≡ true → page.protection ≢ Hidden → loaded page offset ≡ page.memory offset
  pub held : page.target ≡ Source → page.released ≡ false

-- the page as a mesh must leave it
pub record IsMoved (page : Page) : Type 0 where
  pub protection : page.protection ≡ ReadWrite
  pub target : page.target ≡ Destination
  pub released : page.released ≡ true
