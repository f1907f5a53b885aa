-- What the heap answers a command over cells, and what the plain memory answers it.
use Rattle.std.proofs.Common.{◌≡◌, ◌≢◌, ℕ, zero, suc, ◌+◌, ◌-◌, ◌<◌, ◌≤◌, Bool, true, false, not, nat_eq, List, [], ◌∷◌, ◌++◌, length, replicate, slice_index_or, slice_range, slice_set, Option, Some, None, Result, Ok, Err, IsOk, is_ok, ap, subst, refl, sym, ◌∙◌, arith, ◌⊎◌, inl, inr}
use Rattle.std.specs.Option.{option_map}
use Rattle.std.proofs.Math.ListN.{get_or-map}
use Rattle.std.proofs.lemmas.List.{get_or-set_other, map-set}
use Rattle.std.proofs.lemmas.Bool.{eq-eqb}
use Rattle.std.proofs.lemmas.Bool.Decides.{eqb_tells, leb_tells}
use Rattle.model_heap.proofs.NewLengths.{new_has_length}
use Rattle.model_heap.proofs.Meanings.{meaning_next}
use Rattle.model_jobs.specs.Jobs.{Outcome, answered, new_answered, new_at, others_answered, put_blocked, table_freed, touches_read_only, is_held_back}
use Rattle.model_words.specs.Replies.{is_refusal}
use Rattle.model_memory.specs.Memory.{Memory, Object, holder_of, next_serial, object_of, overwritten, root_of, with_object, with_new}
use Rattle.model_heap.specs.Mesh.{is_blocked}
use Rattle.model_memory.specs.Plain.{Named, Follows, ends_outside, holding, made, named_by, plain, stored}
use Rattle.model_heap.specs.Table.{Placed, Table, place_new, without_object}
use Rattle.model_words.proofs.Chains.{or_refuse_went, refuse_if_went, went_on}
use Rattle.model_words.proofs.Tests.{equal, unnegated}
use Rattle.model_words.specs.declared.commands.Command.{Command}
use Rattle.model_words.specs.declared.commands.Command.TheVariants.{New, Put, Get, Free, Alias, Addr, Peek, Poke, Copy}
use Rattle.model_words.specs.declared.commands.Reply.{Reply}
use Rattle.model_words.specs.declared.commands.Reply.TheVariants.{Object as Made, Done as ReplyDone, Bytes, At, Byte, Refused as ReplyRefused}
use Rattle.model_words.specs.declared.refusals.Refusal.{Refusal}
use Rattle.model_words.specs.declared.refusals.Refusal.TheVariants.{Empty, Freed, Outside, Stray}
use Rattle.mesh_mutator.proofs.Chains.{after_same, first_is, made_of, test_same, value_of}
use Rattle.mesh_mutator.specs.Book.{AreRooted, Cells, IsLooked, IsNamedBy, IsOutcome, IsPerformed, KeepsHeap, attempt_of, cell_at, memory_in, serial_of, serials_of}
use Rattle.mesh_mutator.specs.declared.attempts.Attempt.TheVariants.{Done}
use Rattle.mesh_steps.specs.Heap.{Heap, IsFree, IsMade, IsStore, arena_of, byte_at_address, bytes_at, freed_at, live_records, map_of, plain_of, referred, stored_at, stored_at_address, table_of}
use Rattle.mesh_page_heap.specs.PageHeapInvariant.{bytes_in, targets_of}
use Rattle.mesh_steps.specs.declared.answers.Ref.{Ref}
use Rattle.mesh_steps.specs.declared.answers.Stored.{Stored}
use Rattle.mesh_steps.specs.declared.answers.Stored.TheVariants.{Blocked as StoreBlocked, Done as StoreDone, Refused as StoreRefused}

-- what the memory says of a cell is what the cell holds
pub root_is : (h : Heap) (cells : Cells) (cell : ℕ) → root_of (memory_in h cells) cell ≡ option_map serial_of (cell_at cells cell)
root_is h cells cell = get_or-map (option_map serial_of) cells cell None

-- a reference in a cell names what the cell names
pub named_is : (h : Heap) (cells : Cells) (cell : ℕ) (object : Ref) → AreRooted h cells → cell_at cells cell ≡ Some object
    → referred (plain_of h) object ≡ named_by (memory_in h cells) cell
named_is h cells cell object rooted at = go (object_of (plain_of h) object.serial) refl
  where
    root : root_of (memory_in h cells) cell ≡ Some object.serial
    root = root_is h cells cell ∙ ap (λ (o : Option Ref). option_map serial_of o) at

    go : (o : Option Object) → object_of (plain_of h) object.serial ≡ o → referred (plain_of h) object ≡ named_by (memory_in h cells) cell
    go None e = rw (e, root) (rw e refl)
    go (Some live) e = rw (e, eq-eqb live.address object.addr ((rooted cell object at).1 live e), root) (rw e refl)

-- an empty cell names nothing
pub named_none : (h : Heap) (cells : Cells) (cell : ℕ) → cell_at cells cell ≡ None → named_by (memory_in h cells) cell ≡ Err Empty
named_none h cells cell at = rw (root_is h cells cell ∙ ap (λ (o : Option Ref). option_map serial_of o) at) refl

-- the memory with other roots
abbrev pub with_roots : Memory → List (Option ℕ) → Memory
with_roots m roots = record m { roots = roots }

-- a store or a free is done, and leaves this memory with the roots of these cells
abbrev pub done_over : Cells → Memory → Reply × Memory
done_over cells n = (ReplyDone, with_roots n (serials_of cells))

-- what a look-up reads is answered, and the memory stays
abbrev pub bytes_over : Memory → List ℕ → Reply × Memory
bytes_over m bytes = (Bytes (record { items = bytes }), m)

abbrev pub byte_over : Memory → ℕ → Reply × Memory
byte_over m byte = (Byte byte, m)

-- heap and cells are what an outcome of this reply, memory and table says
outcome_is : (h : Heap) (cells : Cells) (done : Outcome) (reply : Reply) (m : Memory) (t : Table) → done ≡ record { reply = reply; memory = m; table = t }
    → memory_in h cells ≡ m → table_of h ≡ t → IsOutcome h cells done reply
outcome_is h cells done reply m t is memory table =
    subst (λ (o : Outcome). IsOutcome h cells o reply) (sym is) (record { reply_is = refl; memory = memory; table = table })

-- a load through a reference, and the `get` of its cell
pub get_alike : (h : Heap) (cells : Cells) (cell off len : ℕ) (object : Ref) → AreRooted h cells → cell_at cells cell ≡ Some object
    → plain (memory_in h cells) 0 (Get cell off len) ≡ made_of (bytes_over (memory_in h cells)) (bytes_at (plain_of h) object off len)
get_alike h cells cell off len object rooted at =
    after_same (referred (plain_of h) object) (named_by (memory_in h cells) cell) _ _ (bytes_over (memory_in h cells)) (named_is h cells cell object rooted at)
    (λ named. test_same Outside (ends_outside named.object off len) (slice_range named.object.bytes off (off + len)) (bytes_over (memory_in h cells)))

-- a store through a reference, and the `put` of its cell
pub put_alike : (h : Heap) (cells : Cells) (cell off : ℕ) (bytes : List ℕ) (object : Ref) → AreRooted h cells → cell_at cells cell ≡ Some object
    → plain (memory_in h cells) 0 (Put cell off (record { items = bytes })) ≡ made_of (done_over cells) (stored_at (plain_of h) object off bytes)
put_alike h cells cell off bytes object rooted at =
    after_same (referred (plain_of h) object) (named_by (memory_in h cells) cell) _ _ (done_over cells) (named_is h cells cell object rooted at)
    (λ named. test_same Outside (ends_outside named.object off (length bytes)) (stored (plain_of h) named off bytes) (done_over cells))

-- a free through a reference, and the `free` of its cell
pub free_alike : (h : Heap) (cells : Cells) (cell : ℕ) (object : Ref) → AreRooted h cells → cell_at cells cell ≡ Some object
    → plain (memory_in h cells) 0 (Free cell) ≡ made_of (done_over cells) (freed_at (plain_of h) object)
free_alike h cells cell object rooted at =
    after_same (referred (plain_of h) object) (named_by (memory_in h cells) cell) _ _ (done_over cells) (named_is h cells cell object rooted at) (λ named. refl)

-- a byte loaded from an address, and the `peek` of it
pub peek_alike : (h : Heap) (cells : Cells) (addr : ℕ)
    → plain (memory_in h cells) 0 (Peek addr) ≡ made_of (byte_over (memory_in h cells)) (byte_at_address (plain_of h) addr)
peek_alike h cells addr = after_same (holding (plain_of h) addr) _ _ _ (byte_over (memory_in h cells)) refl (λ named. refl)

-- a byte stored at an address, and the `poke` of it
pub poke_alike : (h : Heap) (cells : Cells) (addr byte : ℕ)
    → plain (memory_in h cells) 0 (Poke addr byte) ≡ made_of (done_over cells) (stored_at_address (plain_of h) addr byte)
poke_alike h cells addr byte = after_same (holding (plain_of h) addr) _ _ _ (done_over cells) refl (λ named. refl)

-- a reply that is no refusal, taken for one
pub no_refusal : {A : Type 0} → false ≡ true → A
no_refusal e = absurd (cc e)

-- a heap that stays as it is keeps what any command leaves
keeps_same : (command : Command) (h : Heap) → KeepsHeap command h h
keeps_same (New cell len word) h = tt
keeps_same (Put cell off bytes) h = tt
keeps_same (Get cell off len) h = refl
keeps_same (Free cell) h = (refl, refl)
keeps_same (Alias to from) h = refl
keeps_same (Addr cell) h = refl
keeps_same (Peek addr) h = refl
keeps_same (Poke addr byte) h = tt
keeps_same (Copy to to_off from from_off len) h = tt

-- a command that is answered with a refusal and changes nothing
pub refused_performed : (h h' : Heap) (cells : Cells) (command : Command) (refusal : Refusal)
    → answered (memory_in h cells) (table_of h) command ≡ record { reply = ReplyRefused refusal; memory = memory_in h cells; table = table_of h } → h' ≡ h
    → IsPerformed h h' cells cells command (Done (ReplyRefused refusal))
refused_performed h h' cells command refusal is same = record {
  outcome = outcome_is h' cells _ _ _ _ is (ap (λ (x : Heap). memory_in x cells) same) (ap (λ (x : Heap). table_of x) same);
  not_held = refl;
  refused = λ _. (same, refl);
  other_cells = λ cell apart. refl;
  kept = subst (λ (x : Heap). KeepsHeap command h x) (sym same) (keeps_same command h);
  pages = ap (λ (x : Heap). length (arena_of x)) same;
}

-- a store as an attempt at a command that goes on as the store does, and touches the pages that the store does
pub store_performed : (h h' : Heap) (cells : Cells) (command : Command) (after : Result Memory Refusal) (addr len : ℕ) (stored : Stored)
    → answered (memory_in h cells) (table_of h) command
    ≡ others_answered (memory_in h cells) (table_of h) (table_of h) (plain (memory_in h cells) 0 command)
    → plain (memory_in h cells) 0 command ≡ made_of (done_over cells) after
    → (IsOk after → touches_read_only (memory_in h cells) (table_of h) command ≡ is_blocked (table_of h) addr len)
    → KeepsHeap command h h' → IsStore h h' after (is_blocked (table_of h) addr len) stored → IsPerformed h h' cells cells command (attempt_of stored)
store_performed h h' cells command after addr len StoreDone is alike touches kept whole = let store = whole.done refl in record {
  outcome = outcome_is _ _ _ _ _ _ (is ∙ ap (others_answered _ _ (table_of h)) (alike ∙ ap (made_of (done_over cells)) store.memory)) refl store.table;
  not_held = touches (rw store.memory refl) ∙ store.may;
  refused = no_refusal;
  other_cells = λ cell apart. refl;
  kept = kept;
  pages = store.pages;
}
store_performed h h' cells command (Err e) addr len StoreBlocked is alike touches kept whole = let allowed = (whole.blocked refl).allowed in absurd (cc allowed)
store_performed h h' cells command (Ok n) addr len StoreBlocked is alike touches kept whole =
    let back = whole.blocked refl in (
      ap (λ (o : Outcome). is_held_back (memory_in h cells) (table_of h) command o.reply) (is ∙ ap (others_answered _ _ (table_of h)) alike)
          ∙ touches back.allowed ∙ back.read_only,
      back.same,
      refl,
    )
store_performed h h' cells command after addr len (StoreRefused refusal) is alike touches kept whole =
    let store = whole.refused refusal refl in
    refused_performed _ _ _ _ _ (is ∙ ap (others_answered _ _ (table_of h)) (alike ∙ ap (made_of (done_over cells)) store.told)) store.same

-- each object that is live now was live, at the address where it is
abbrev pub KeepAddresses : Memory → Memory → Type 0
KeepAddresses m n = (serial : ℕ) (live : Object) → object_of n serial ≡ Some live → (was : Object) × (object_of m serial ≡ Some was) × (was.address ≡ live.address)

-- so the references in the cells are good still
pub rooted_kept : (h h' : Heap) (cells : Cells) → h'.next_serial ≡ h.next_serial → KeepAddresses (plain_of h) (plain_of h') → AreRooted h cells → AreRooted h' cells
rooted_kept h h' cells same kept rooted cell object at = (
  (let below = (rooted cell object at).0 in omega (arith, below, same)),
  λ live is. let was = kept object.serial live is in sym was.2 ∙ (rooted cell object at).1 was.0 was.1,
)

-- what a place holds after one was set: what was put there, or what it held
held_after : {X : Type 0} (xs : List (Option X)) (at i : ℕ) (o : Option X) (x : X) → slice_index_or (slice_set xs at o) i None ≡ Some x
    → ((i ≡ at) × (o ≡ Some x)) ⊎ (slice_index_or xs i None ≡ Some x)
held_after [] at i o x is = inr is
held_after (y ∷ ys) zero zero o x is = inl (refl, is)
held_after (y ∷ ys) zero (suc i) o x is = inr is
held_after (y ∷ ys) (suc at) zero o x is = inr is
held_after (y ∷ ys) (suc at) (suc i) o x is = elim (held_after ys at i o x is) [ inl put ↦ inl (ap (λ (k : ℕ). suc k) put.0, put.1) | inr was ↦ inr was ]

-- a store within a live object keeps the addresses
pub stored_keeps : (m : Memory) (named : Named) (off : ℕ) (bytes : List ℕ) → object_of m named.serial ≡ Some named.object
    → KeepAddresses m (stored m named off bytes)
stored_keeps m named off bytes there serial live is = elim (held_after m.objects named.serial serial _ live is) [
  | inr was ↦ (live, was, refl)
  | inl put ↦ let same : record named.object { bytes = overwritten named.object.bytes off bytes } ≡ live = (let both = put.1 in cc both) in
      (named.object, ap (λ (s : ℕ). object_of m s) put.0 ∙ there, ap (λ (o : Object). o.address) same)
]

-- a free does
pub freed_keeps : (m : Memory) (serial : ℕ) → KeepAddresses m (with_object m serial None)
freed_keeps m s serial live is = elim (held_after m.objects s serial None live is) [
  | inr was ↦ (live, was, refl)
  | inl put ↦ absurd (let two = put.1 in cc two)
]

-- what a reference names: the live object of its serial, at its address
pub record IsReferredTo (m : Memory) (object : Ref) (named : Named) : Type 0 where
  pub serial : named.serial ≡ object.serial
  pub live : object_of m named.serial ≡ Some named.object
  pub address : named.object.address ≡ object.addr

-- where it names something it names that
pub referred_is : (m : Memory) (object : Ref) (named : Named) → referred m object ≡ Ok named → IsReferredTo m object named
referred_is m object named is =
    let live = or_refuse_went Freed (object_of m object.serial) _ named is in
    let test = refuse_if_went Freed (not (nat_eq live.value.address object.addr)) _ named live.then in
    let same : record { serial = object.serial; object = live.value } ≡ named = (let both = test.1 in cc both) in
    subst (λ (n : Named). IsReferredTo m object n) same (record { serial = refl; live = live.is; address = equal _ _ (unnegated _ test.0) })

-- what holds an address is live
holding_live : (m : Memory) (addr : ℕ) (named : Named) → holding m addr ≡ Ok named → object_of m named.serial ≡ Some named.object
holding_live m addr named is =
    let serial = or_refuse_went Stray (holder_of m addr) _ named is in
    let live = or_refuse_went Stray (object_of m serial.value) _ named serial.then in
    let same : record { serial = serial.value; object = live.value } ≡ named = (let both = live.then in cc both) in
    subst (λ (n : Named). object_of m n.serial ≡ Some n.object) same live.is

-- a store through a reference keeps the addresses
pub stored_at_keeps : (m n : Memory) (object : Ref) (off : ℕ) (bytes : List ℕ) → stored_at m object off bytes ≡ Ok n → KeepAddresses m n
stored_at_keeps m n object off bytes is =
    let named = went_on (referred m object) _ n is in
    let within = refuse_if_went Outside (ends_outside named.value.object off (length bytes)) _ n named.then in
    let same : stored m named.value off bytes ≡ n = (let both = within.1 in cc both) in
    subst (λ (x : Memory). KeepAddresses m x) same (stored_keeps m named.value off bytes (referred_is m object named.value named.is).live)

-- so does a store at an address
pub stored_at_address_keeps : (m n : Memory) (addr byte : ℕ) → stored_at_address m addr byte ≡ Ok n → KeepAddresses m n
stored_at_address_keeps m n addr byte is =
    let named = went_on (holding m addr) _ n is in
    let same : stored m named.value (addr - named.value.object.address) (byte ∷ []) ≡ n = (let both = named.then in cc both) in
    subst (λ (x : Memory). KeepAddresses m x) same (stored_keeps m named.value _ (byte ∷ []) (holding_live m addr named.value named.is))

-- and a free through a reference
pub freed_at_keeps : (m n : Memory) (object : Ref) → freed_at m object ≡ Ok n → KeepAddresses m n
freed_at_keeps m n object is =
    let named = went_on (referred m object) _ n is in
    let same : with_object m named.value.serial None ≡ n = (let both = named.then in cc both) in
    subst (λ (x : Memory). KeepAddresses m x) same (freed_keeps m named.value.serial)

-- whatever a store comes to, the references in the cells are good still
pub rooted_stored : (h h' : Heap) (cells : Cells) (after : Result Memory Refusal) (blocked : Bool) (stored : Stored)
    → ((n : Memory) → after ≡ Ok n → KeepAddresses (plain_of h) n) → IsStore h h' after blocked stored → AreRooted h cells → AreRooted h' cells
rooted_stored h h' cells after blocked StoreDone keeps store rooted =
    rooted_kept h h' cells (store.done refl).serial (keeps (plain_of h') (store.done refl).memory) rooted
rooted_stored h h' cells after blocked StoreBlocked keeps store rooted = subst (λ (x : Heap). AreRooted x cells) (sym (store.blocked refl).same) rooted
rooted_stored h h' cells after blocked (StoreRefused refusal) keeps store rooted =
    subst (λ (x : Heap). AreRooted x cells) (sym (store.refused refusal refl).same) rooted

-- a store changes no serial
pub stored_serial : (h h' : Heap) (after : Result Memory Refusal) (blocked : Bool) (stored : Stored) → IsStore h h' after blocked stored
    → h'.next_serial ≡ h.next_serial
stored_serial h h' after blocked StoreDone store = (store.done refl).serial
stored_serial h h' after blocked StoreBlocked store = ap (λ (x : Heap). x.next_serial) (store.blocked refl).same
stored_serial h h' after blocked (StoreRefused refusal) store = ap (λ (x : Heap). x.next_serial) (store.refused refusal refl).same

-- a store through the reference of a cell touches the pages that the command does
pub put_touches : (h : Heap) (cells : Cells) (cell off : ℕ) (bytes : List ℕ) (object : Ref) → AreRooted h cells → cell_at cells cell ≡ Some object
    → IsOk (stored_at (plain_of h) object off bytes)
    → put_blocked (table_of h) off (length bytes) (named_by (memory_in h cells) cell) ≡ is_blocked (table_of h) (object.addr + off) (length bytes)
put_touches h cells cell off bytes object rooted at went =
    let after = value_of (stored_at (plain_of h) object off bytes) went in
    let named = went_on (referred (plain_of h) object) _ after.0 after.1 in
    ap (put_blocked (table_of h) off (length bytes)) (sym (named_is h cells cell object rooted at) ∙ named.is)
    ∙ ap (λ (a : ℕ). is_blocked (table_of h) (a + off) (length bytes)) (referred_is (plain_of h) object named.value named.is).address

-- a free that went on, of the object that a cell names
pub free_performed : (h h' : Heap) (cells : Cells) (cell : ℕ) (object : Ref) → AreRooted h cells → cell_at cells cell ≡ Some object → IsFree h h' object
    → IsPerformed h h' cells cells (Free cell) (Done ReplyDone)
free_performed h h' cells cell object rooted at free =
    let named = went_on (referred (plain_of h) object) _ (plain_of h') free.memory in
    let serial = (referred_is (plain_of h) object named.value named.is).serial in record {
      outcome = outcome_is h' cells _ _ _ _
          (ap (others_answered _ (table_of h) _) (free_alike h cells cell object rooted at ∙ ap (made_of (done_over cells)) free.memory)) refl
          (free.table ∙ ap (λ (s : ℕ). without_object (table_of h) s) (sym serial)
          ∙ ap (table_freed (table_of h)) (sym named.is ∙ named_is h cells cell object rooted at));
      not_held = refl;
      refused = no_refusal;
      other_cells = λ other apart. refl;
      kept = (free.arena, free.map);
      pages = rw free.arena refl;
    }

-- a free that is refused
pub free_refused : (h h' : Heap) (cells : Cells) (cell : ℕ) (object : Ref) (refusal : Refusal) → AreRooted h cells → cell_at cells cell ≡ Some object
    → freed_at (plain_of h) object ≡ Err refusal → h' ≡ h → IsPerformed h h' cells cells (Free cell) (Done (ReplyRefused refusal))
free_refused h h' cells cell object refusal rooted at is same =
    refused_performed _ _ _ _ _ (ap (others_answered _ (table_of h) _) (free_alike h _ _ _ rooted at ∙ ap (made_of (done_over cells)) is)) same

-- a look-up is answered what follows of the plain memory's result
looked : (h : Heap) (cells : Cells) (command : Command) (reply : Reply) (r : Result (Reply × Memory) Refusal) → plain (memory_in h cells) 0 command ≡ r
    → Follows r (memory_in h cells) reply (memory_in h cells) → IsLooked h cells command reply
looked h cells command reply r is follows =
    subst (λ (x : Result (Reply × Memory) Refusal). Follows x (memory_in h cells) reply (memory_in h cells)) (sym is) follows

-- a `get`
pub get_looked : (h : Heap) (cells : Cells) (cell off len : ℕ) (object : Ref) (r : Result (List ℕ) Refusal) (reply : Reply) → AreRooted h cells
    → cell_at cells cell ≡ Some object → bytes_at (plain_of h) object off len ≡ r
    → Follows (made_of (bytes_over (memory_in h cells)) r) (memory_in h cells) reply (memory_in h cells) → IsLooked h cells (Get cell off len) reply
get_looked h cells cell off len object r reply rooted at is =
    looked h cells (Get cell off len) reply _ (get_alike h cells cell off len object rooted at ∙ ap (made_of (bytes_over (memory_in h cells))) is)

-- a command of an empty cell
pub get_empty : (h : Heap) (cells : Cells) (cell off len : ℕ) → cell_at cells cell ≡ None → IsLooked h cells (Get cell off len) (ReplyRefused Empty)
get_empty h cells cell off len at = looked h cells (Get cell off len) _ _ (first_is _ _ _ (named_none h cells cell at)) (refl, refl)

pub put_empty : (h : Heap) (cells : Cells) (cell off : ℕ) (bytes : List ℕ) → cell_at cells cell ≡ None
    → IsPerformed h h cells cells (Put cell off (record { items = bytes })) (Done (ReplyRefused Empty))
put_empty h cells cell off bytes at =
    refused_performed h h cells _ Empty (ap (others_answered _ (table_of h) _) (first_is _ _ _ (named_none h cells cell at))) refl

pub free_empty : (h : Heap) (cells : Cells) (cell : ℕ) → cell_at cells cell ≡ None → IsPerformed h h cells cells (Free cell) (Done (ReplyRefused Empty))
free_empty h cells cell at = refused_performed _ _ _ _ _ (ap (others_answered _ (table_of h) _) (first_is _ _ _ (named_none h cells cell at))) refl

-- a `peek`
pub peek_looked : (h : Heap) (cells : Cells) (addr : ℕ) (r : Result ℕ Refusal) (reply : Reply) → byte_at_address (plain_of h) addr ≡ r
    → Follows (made_of (byte_over (memory_in h cells)) r) (memory_in h cells) reply (memory_in h cells) → IsLooked h cells (Peek addr) reply
peek_looked h cells addr r reply is = looked h cells (Peek addr) reply _ (peek_alike h cells addr ∙ ap (made_of (byte_over (memory_in h cells))) is)

-- the live object that a cell names
pub live_named : (h : Heap) (cells : Cells) (cell : ℕ) (object : Ref) → AreRooted h cells → cell_at cells cell ≡ Some object
    → is_ok (referred (plain_of h) object) ≡ true → IsNamedBy h cells cell object
live_named h cells cell object rooted at live =
    let named = value_of (referred (plain_of h) object) live in
    let is = referred_is (plain_of h) object named.0 named.1 in record {
      held = at;
      live = named.0.object;
      named = sym (named_is h cells cell object rooted at) ∙ named.1 ∙ ap (λ (s : ℕ). Ok (record { serial = s; object = named.0.object })) is.serial;
      address = is.address;
    }

pub live_stale : (h : Heap) (cells : Cells) (cell : ℕ) (object : Ref) → AreRooted h cells → cell_at cells cell ≡ Some object
    → is_ok (referred (plain_of h) object) ≡ false → named_by (memory_in h cells) cell ≡ Err Freed
live_stale h cells cell object rooted at stale = sym (named_is h cells cell object rooted at) ∙ go (object_of (plain_of h) object.serial) refl
  where
    go : (o : Option Object) → object_of (plain_of h) object.serial ≡ o → referred (plain_of h) object ≡ Err Freed
    go None e = rw e refl
    go (Some live) e = elim (eqb_tells live.address object.addr) [
      | inl yes_ ↦ absurd (let ok : is_ok (referred (plain_of h) object) ≡ true = rw (e, yes_.0) refl in let two : true ≡ false = sym ok ∙ stale in cc two)
      | inr other ↦ rw (e, other.0) refl
    ]

-- an `addr`
pub addr_done : (h : Heap) (cells : Cells) (cell : ℕ) (object : Ref) → IsNamedBy h cells cell object → IsLooked h cells (Addr cell) (At object.addr)
addr_done h cells cell object is = looked h cells (Addr cell) _ _ (first_is _ _ _ is.named) (ap (λ (a : ℕ). At a) (sym is.address), refl)

pub addr_refused : (h : Heap) (cells : Cells) (cell : ℕ) (refusal : Refusal) → named_by (memory_in h cells) cell ≡ Err refusal
    → IsLooked h cells (Addr cell) (ReplyRefused refusal)
addr_refused h cells cell refusal is = looked h cells (Addr cell) _ _ (first_is _ _ _ is) (refl, refl)

-- the roots after a cell takes a reference
roots_set : (cells : Cells) (cell : ℕ) (object : Ref) → serials_of (slice_set cells cell (Some object)) ≡ slice_set (serials_of cells) cell (Some object.serial)
roots_set cells cell object = map-set (option_map serial_of) cells cell (Some object)

-- the other cells hold what they held
other_cell : (cells : Cells) (cell other : ℕ) (object : Ref) → Some cell ≢ Some other
    → cell_at (slice_set cells cell (Some object)) other ≡ cell_at cells other
other_cell cells cell other object apart =
    get_or-set_other cells cell other (Some object) None (λ e. apart (ap (λ (c : ℕ). Some c) (sym e)))

-- an `alias`
pub alias_done : (h : Heap) (cells : Cells) (to from : ℕ) (object : Ref) → IsNamedBy h cells from object
    → IsPerformed h h cells (slice_set cells to (Some object)) (Alias to from) (Done ReplyDone)
alias_done h cells to from object is = record {
  outcome = outcome_is h (slice_set cells to (Some object)) _ _ _ _ (ap (others_answered _ (table_of h) _) (first_is _ _ _ is.named))
      (ap (λ (rs : List (Option ℕ)). with_roots (plain_of h) rs) (roots_set cells to object)) refl;
  not_held = refl;
  refused = no_refusal;
  other_cells = λ other apart. other_cell cells to other object apart;
  kept = refl;
  pages = refl;
}

pub alias_refused : (h : Heap) (cells : Cells) (to from : ℕ) (refusal : Refusal) → named_by (memory_in h cells) from ≡ Err refusal
    → IsPerformed h h cells cells (Alias to from) (Done (ReplyRefused refusal))
alias_refused h cells to from refusal is = refused_performed h h cells _ refusal (ap (others_answered _ (table_of h) _) (first_is _ _ _ is)) refl

-- a reference is of an object that was made, and has its address where it is live
abbrev IsRooted : Heap → Ref → Type 0
IsRooted h object = (object.serial < h.next_serial) × ((live : Object) → object_of (plain_of h) object.serial ≡ Some live → live.address ≡ object.addr)

-- the references are good where the new one of a cell is, and those that were there
set_rooted : (h : Heap) (cells : Cells) (cell : ℕ) (object : Ref) → IsRooted h object
    → ((other : ℕ) (held : Ref) → cell_at cells other ≡ Some held → IsRooted h held) → AreRooted h (slice_set cells cell (Some object))
set_rooted h cells cell object rooted others other held at = elim (held_after cells cell other (Some object) held at) [
  | inr was ↦ others other held was
  | inl put ↦ let same : object ≡ held = (let both = put.1 in cc both) in subst (λ (x : Ref). IsRooted h x) same rooted
]

-- a reference of one cell is good in another
pub rooted_set : (h : Heap) (cells : Cells) (to from : ℕ) (object : Ref) → AreRooted h cells → cell_at cells from ≡ Some object
    → AreRooted h (slice_set cells to (Some object))
rooted_set h cells to from object rooted held = set_rooted h cells to object (rooted from object held) rooted

-- the next serial of the memory is the heap's
next_is : (h : Heap) (cells : Cells) → next_serial (memory_in h cells) ≡ h.next_serial
next_is h cells = meaning_next h.next_serial (live_records h) (targets_of (map_of h)) (bytes_in (arena_of h)) (serials_of cells)

-- a `new` of a length that may be asked for goes on
new_goes_on : (m : Memory) (address cell len word : ℕ) → 1 ≤ len → len ≤ 2048
    → plain m address (New cell len word) ≡ Ok (Made (next_serial m) address, made m cell len address)
new_goes_on m address cell len word some most = elim (leb_tells (suc 2048) len) [
  | inl large ↦ absurd (let e = large.1 in omega (arith, most, e))
  | inr fits ↦ elim (eqb_tells len 0) [
    | inl none ↦ absurd (let e = none.1 in omega (arith, some, e))
    | inr other ↦ rw (other.0, fits.0) refl
  ]
]

-- a `new` that made an object
pub made_performed : (h h' : Heap) (cells : Cells) (cell len word : ℕ) (object : Ref) → IsMade h h' len word object
    → IsPerformed h h' cells (slice_set cells cell (Some object)) (New cell len word) (Done (Made object.serial object.addr))
made_performed h h' cells cell len word object is =
    let m : Memory = memory_in h cells in
    let t : Table = table_of h in
    let next = next_is h cells in
    let length_is = new_has_length t len word h.next_serial is.placed is.placed_is in
    let whole : answered m t (New cell len word) ≡ new_at m is.placed (Ok (Made (next_serial m) is.placed.address, made m cell len is.placed.address))
    = ap (λ (s : ℕ). new_answered m t (New cell len word) (place_new t len word s)) next
    ∙ ap (λ (r : Result Placed Refusal). new_answered m t (New cell len word) r) is.placed_is
    ∙ ap (λ (r : Result (Reply × Memory) Refusal). new_at m is.placed r) (new_goes_on m is.placed.address cell len word length_is.0 length_is.1) in
    let memory : memory_in h' (slice_set cells cell (Some object)) ≡ made m cell len is.placed.address
    = ap (λ (n : Memory). with_roots n (serials_of (slice_set cells cell (Some object)))) is.memory
    ∙ ap (λ (rs : List (Option ℕ)). with_roots (with_new (plain_of h) len is.placed.address) rs) (roots_set cells cell object)
    ∙ ap (λ (s : ℕ). with_roots (with_new (plain_of h) len is.placed.address) (slice_set (serials_of cells) cell (Some s))) (is.serial ∙ sym next) in record {
      outcome = subst (λ (o : Outcome). IsOutcome h' (slice_set cells cell (Some object)) o (Made object.serial object.addr)) (sym whole) (record {
        reply_is = ap (λ (s : ℕ). Made s object.addr) (is.serial ∙ sym next) ∙ ap (λ (a : ℕ). Made (next_serial m) a) is.address;
        memory = memory;
        table = is.table;
      });
      not_held = refl;
      refused = no_refusal;
      other_cells = λ other apart. other_cell cells cell other object apart;
      kept = tt;
      pages = is.pages;
    }

-- a `new` that the table refuses
pub new_refused : (h h' : Heap) (cells : Cells) (cell len word : ℕ) (refusal : Refusal) → place_new (table_of h) len word h.next_serial ≡ Err refusal
    → h' ≡ h → IsPerformed h h' cells cells (New cell len word) (Done (ReplyRefused refusal))
new_refused h h' cells cell len word refusal is same =
    let m : Memory = memory_in h cells in
    let t : Table = table_of h in
    refused_performed h h' cells (New cell len word) refusal
    (ap (λ (s : ℕ). new_answered m t (New cell len word) (place_new t len word s)) (next_is h cells) ∙ ap (new_answered m t (New cell len word)) is) same

-- what a place holds of a list that got one element more: what it held, or the new one
held_behind : {X : Type 0} (xs : List (Option X)) (new : X) (i : ℕ) (x : X) → slice_index_or (xs ++ Some new ∷ []) i None ≡ Some x
    → ((i < length xs) × (slice_index_or xs i None ≡ Some x)) ⊎ ((i ≡ length xs) × (new ≡ x))
held_behind [] new zero x is = inr (refl, cc is)
held_behind [] new (suc i) x is = absurd (cc is)
held_behind (y ∷ ys) new zero x is = inl (omega arith, is)
held_behind (y ∷ ys) new (suc i) x is = elim (held_behind ys new i x is) [
  | inl old ↦ let below = old.0 in inl (omega (arith, below), old.1)
  | inr fresh ↦ inr (ap (λ (k : ℕ). suc k) fresh.0, fresh.1)
]

-- after a `new` the references are good, the new one too
pub made_rooted : (h h' : Heap) (cells : Cells) (cell len word : ℕ) (object : Ref) → IsMade h h' len word object → length cells ≡ 256 → AreRooted h cells
    → AreRooted h' (slice_set cells cell (Some object))
made_rooted h h' cells cell len word object is long rooted = set_rooted h' cells cell object (
  (let next = is.next in let serial = is.serial in omega (arith, next, serial)),
  λ live there. elim (held object.serial live there) [
    | inl old ↦ absurd (let below = old.0 in let serial = is.serial in let next = next_is h [] in omega (arith, below, serial, next))
    | inr fresh ↦ ap (λ (o : Object). o.address) (sym fresh.1) ∙ sym is.address
  ],
) (λ other was at. (
  (let below = (rooted other was at).0 in let next = is.next in omega (arith, below, next)),
  λ live there. elim (held was.serial live there) [
    | inl old ↦ (rooted other was at).1 live old.1
    | inr fresh ↦ absurd (let below = (rooted other was at).0 in let same = fresh.0 in let next = next_is h [] in omega (arith, below, same, next))
  ],
))
  where
    new : Object
    new = record { address = is.placed.address; bytes = replicate len 0 }

    held : (serial : ℕ) (live : Object) → object_of (plain_of h') serial ≡ Some live
        → ((serial < next_serial (plain_of h)) × (object_of (plain_of h) serial ≡ Some live)) ⊎ ((serial ≡ next_serial (plain_of h)) × (new ≡ live))
    held serial live there = held_behind (plain_of h).objects new serial live
        (ap (λ (m : Memory). object_of m serial) (sym is.memory) ∙ there)
