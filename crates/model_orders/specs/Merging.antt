-- Pages of a source and the destination's pages, where objects live on both sides, and where the groups may be merged
-- before the mesh is over.
use Rattle.std.specs.Prelude.{◌≡◌, ◌≢◌, ℕ, Bool, true, false, ◌&&◌, ◌||◌, not, if◌then◌else◌, List, [], ◌∷◌}
use Rattle.model_orders.specs.declared.facts.Protection.{Protection}
use Rattle.model_orders.specs.declared.facts.Protection.TheVariants.{ReadWrite, ReadOnly, Hidden}
use Rattle.model_orders.specs.declared.facts.Side.{Side}
use Rattle.model_orders.specs.declared.facts.Side.TheVariants.{Source, Destination}
use Rattle.model_orders.specs.Pages.{is_read_write, is_source, stored, with_at}
use Rattle.model_orders.specs.declared.facts.Truth.{Truth}
use Rattle.model_orders.specs.declared.facts.Truth.TheVariants.{InSource, InDestination}
use Rattle.model_orders.specs.Rule.{is_over, is_settled, may_copy, may_release, truth_copied, truth_unprotected}

-- a step of a list that may look and merge
pub data Step : Type 0 where
  Protect : Step
  Hide : Step
  Copy : Step
  Remap : Step
  Unprotect : Step
  Release : Step
  Look : Step
  Merge : Step

-- a virtual page of the source, with the bytes of the two physical pages that it may be mapped to. `live` has the bytes
-- of the source's objects, and `own` those of the destination's. After a look (`looked`) copies use the bytes that were
-- live at the look (`seen`). `memory` has the bytes of the reference memory. `left` has the steps that the mesher
-- hasn't made yet. The destination's own virtual page stays read-write
pub record Page : Type 0 where
  pub protection : Protection
  pub target : Side
  pub released : Bool
  pub source : ℕ → ℕ
  pub destination : ℕ → ℕ
  pub live : ℕ → Bool
  pub own : ℕ → Bool
  pub memory : ℕ → ℕ
  pub looked : Bool
  pub seen : ℕ → Bool
  pub merged : Bool
  pub left : List Step

-- the byte that a load through the source's virtual page gets
abbrev pub loaded : Page → ℕ → ℕ
loaded page offset = if is_source page.target then page.source offset else page.destination offset

-- the page after a store to a live byte of the source. The store is blocked unless the page is read-write
abbrev pub after_store : ℕ → ℕ → Page → Page
after_store offset byte page = if is_read_write page.protection && page.live offset then record page {
  source = stored (is_source page.target) offset byte page.source;
  destination = stored (not (is_source page.target)) offset byte page.destination;
  memory = with_at page.memory offset byte;
} else page

-- the page after a store to a live byte of the destination
abbrev pub after_own_store : ℕ → ℕ → Page → Page
after_own_store offset byte page = if page.own offset then record page {
  destination = with_at page.destination offset byte;
  memory = with_at page.memory offset byte;
} else page

-- the page after some bytes of each side are freed
abbrev pub after_free : (ℕ → Bool) → Page → Page
after_free freed page = record page { live = λ offset. page.live offset && not (freed offset); own = λ offset. page.own offset && not (freed offset) }

-- whether an object's bytes may be made there: neither side has a live byte there
abbrev pub is_vacant : (ℕ → Bool) → Page → ℕ → Bool
is_vacant made page offset = made offset && not (page.live offset || page.own offset)

-- the page after a new object of zeros has taken those of these bytes that are vacant. Until the groups are merged,
-- they are closed to new objects
abbrev pub after_new : (ℕ → Bool) → Page → Page
after_new made page = if page.merged then record page {
  own = λ offset. page.own offset || is_vacant made page offset;
  destination = λ offset. if is_vacant made page offset then 0 else page.destination offset;
  memory = λ offset. if is_vacant made page offset then 0 else page.memory offset;
} else page

-- the page after the next owner of the source's physical page has stored there
abbrev pub after_reuse : ℕ → ℕ → Page → Page
after_reuse offset byte page = record page { source = stored page.released offset byte page.source }

-- the bytes that a copy copies: those live now, or at the look
abbrev pub is_copied : Page → ℕ → Bool
is_copied page offset = if page.looked then page.seen offset else page.live offset

-- the page after a step
abbrev pub after_step : Step → Page → Page
after_step Protect page = record page { protection = ReadOnly }
after_step Hide page = record page { protection = Hidden }
after_step Copy page = record page { destination = λ offset. if is_copied page offset then page.source offset else page.destination offset }
after_step Remap page = record page { target = Destination }
after_step Unprotect page = record page { protection = ReadWrite }
after_step Release page = record page { released = true; source = λ offset. 0 }
after_step Look page = record page { looked = true; seen = page.live }
after_step Merge page = record page { merged = true }

-- the page after the first of these steps, if there is one
abbrev pub after_first : List Step → Page → Page
after_first [] page = page
after_first (step ∷ steps) page = record (after_step step page) { left = steps }

-- what happens at once
pub data Move : Type 0 where
  Store : ℕ → ℕ → ℕ → Move
  StoreOwn : ℕ → ℕ → ℕ → Move
  Free : (ℕ → ℕ → Bool) → Move
  New : (ℕ → ℕ → Bool) → Move
  Reuse : ℕ → ℕ → ℕ → Move
  Make : ℕ → Move

-- the pages after a move
abbrev pub after : Move → (ℕ → Page) → ℕ → Page
after (Store place offset byte) pages = with_at pages place (after_store offset byte (pages place))
after (StoreOwn place offset byte) pages = with_at pages place (after_own_store offset byte (pages place))
after (Free freed) pages = λ place. after_free (freed place) (pages place)
after (New made) pages = λ place. after_new (made place) (pages place)
after (Reuse place offset byte) pages = with_at pages place (after_reuse offset byte (pages place))
after (Make place) pages = with_at pages place (after_first (pages place).left (pages place))

-- the pages after moves, one after another
abbrev pub after_all : List Move → (ℕ → Page) → ℕ → Page
after_all [] pages = pages
after_all (move ∷ moves) pages = after_all moves (after move pages)

-- the page as a mesh with these steps finds it
pub record IsAtStart (steps : List Step) (page : Page) : Type 0 where
  pub protection : page.protection ≡ ReadWrite
  pub target : page.target ≡ Source
  pub released : page.released ≡ false
  pub looked : page.looked ≡ false
  pub merged : page.merged ≡ false
  pub left : page.left ≡ steps
  pub bytes : (offset : ℕ) → page.live offset ≡ true → page.source offset ≡ page.memory offset
  pub own : (offset : ℕ) → page.own offset ≡ true → page.destination offset ≡ page.memory offset
  pub apart : (offset : ℕ) → page.live offset ≡ true → page.own offset ≡ false

-- no load that isn't blocked gets a byte other than the reference memory's, and none reads a released page
pub record IsLoadedRight (page : Page) : Type 0 where
  pub bytes : (offset : ℕ) → page.live offset ≡ true → page.protection ≢ Hidden → loaded page offset ≡ page.memory offset
  pub own : (offset : ℕ) → page.own offset ≡ true → page.destination offset ≡ page.memory offset
  pub held : page.target ≡ Source → page.released ≡ false

-- the page as a mesh must leave it
pub record IsMoved (page : Page) : Type 0 where
  pub protection : page.protection ≡ ReadWrite
  pub target : page.target ≡ Destination
  pub released : page.released ≡ true

-- ---- the rule

-- what the rule knows of each page between two steps
pub record Facts : Type 0 where
  pub protection : Protection
  pub target : Side
  pub truth : Truth
  pub released : Bool
  pub looked : Bool
  pub merged : Bool

-- the facts after a step
abbrev pub facts_after : Step → Facts → Facts
facts_after Protect facts = record facts { protection = ReadOnly }
facts_after Hide facts = record facts { protection = Hidden }
facts_after Copy facts = record facts { truth = truth_copied facts.protection facts.truth }
facts_after Remap facts = record facts { target = Destination }
facts_after Unprotect facts = record facts { protection = ReadWrite; truth = truth_unprotected facts.target facts.truth }
facts_after Release facts = record facts { truth = InDestination; released = true }
facts_after Look facts = record facts { looked = true }
facts_after Merge facts = record facts { merged = true }

-- whether a step may be made. A copy must not use a look once the groups are merged
abbrev pub may_make : Step → Facts → Bool
may_make Protect facts = true
may_make Hide facts = true
may_make Copy facts = may_copy facts.truth && not (facts.looked && facts.merged)
may_make Remap facts = true
may_make Unprotect facts = true
may_make Release facts = may_release facts.target facts.truth && not facts.released
may_make Look facts = true
may_make Merge facts = true

abbrev pub is_right_between : Facts → Bool
is_right_between facts = is_settled facts.protection facts.target facts.truth

-- whether these steps are right from here on
abbrev pub is_right_from : Facts → List Step → Bool
is_right_from facts [] = is_over facts.protection facts.target facts.released
is_right_from facts (step ∷ steps) = may_make step facts && (is_right_between (facts_after step facts) && is_right_from (facts_after step facts) steps)

abbrev pub first_facts : Facts
first_facts = record { protection = ReadWrite; target = Source; truth = InSource; released = false; looked = false; merged = false }

-- whether a mesh with these steps is right
abbrev pub is_right : List Step → Bool
is_right steps = is_right_from first_facts steps
