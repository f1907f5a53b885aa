-- The lowest refusal that holds of a command.
use Rattle.std.proofs.lemmas.Bool.Decides.{nat_tests}
use Rattle.std.proofs.Common.{◌≡◌, ℕ, ◌+◌, ◌-◌, ◌≤◌, true, false, ◌||◌, nat_eq, nat_lt, List, [], ◌∷◌, length, slice_index, slice_index_or, slice_range, suc, zero, sym, ◌∙◌, arith, ◌⊎◌, inl, inr, Option, Some, None, Result, Ok, lit≤}
use Rattle.model_memory.proofs.NamedObjects.{IsHolder, holder_has, neither_holds}
use Rattle.model_words.proofs.Tests.{tells, equal, less, not_less, unequal}
use Rattle.model_words.proofs.LowestRefusals.{AreFrom, Told, none_holds, refused_by, told_if, told_ok, told_then}
use Rattle.model_memory.specs.Memory.{Memory, Object, has_address, holder_from, holder_of, next_serial, object_of, root_of, with_object, with_root}
use Rattle.model_memory.specs.Plain.{Named, both_named, copied, ends_outside, holding, made, named_by, plain, stored}
use Rattle.model_memory.specs.RefusalLaws.{EndsPast, NamesFreed, address_holds, cell_holds, copy_holds, length_holds, plain_holds}
use Rattle.model_words.specs.Refusals.{IsRefusedBy}
use Rattle.model_words.specs.Words.{◌>>=◌, refuse_if}
use Rattle.model_words.specs.declared.commands.Command.{Command}
use Rattle.model_words.specs.declared.commands.Command.TheVariants.{Addr, Alias, Copy as CopyBytes, Free, Get, New, Peek, Poke, Put}
use Rattle.model_words.specs.declared.commands.Reply.{Reply}
use Rattle.model_words.specs.declared.commands.Reply.TheVariants.{Object as Made, At, Byte, Bytes, Done}
use Rattle.model_words.specs.declared.refusals.Refusal.{Refusal}
use Rattle.model_words.specs.declared.refusals.Refusal.TheVariants.{Zero, TooLarge, Empty, Freed, Outside, Stray}

-- a reply, and a memory after it
abbrev pub Said : Type 0
Said = Reply × Memory

-- a cell that holds a serial isn't empty
not_empty : (m : Memory) (cell serial : ℕ) → root_of m cell ≡ Some serial → root_of m cell ≡ None → ⊥
not_empty m cell serial named none = let clash : Some serial ≡ None = sym named ∙ none in cc clash

-- a cell whose object is live names nothing that was freed
not_freed : (m : Memory) (cell serial : ℕ) (object : Object) → root_of m cell ≡ Some serial → object_of m serial ≡ Some object → ¬ NamesFreed m cell
not_freed m cell serial object named live freed = grind (arith, nat_tests)

-- a range within the object doesn't end past it
not_past : (m : Memory) (cell off len serial : ℕ) (object : Object) → root_of m cell ≡ Some serial → object_of m serial ≡ Some object
    → ends_outside object off len ≡ false → ¬ EndsPast m cell off len
not_past m cell off len serial object named live inside past = grind (arith, nat_tests, not_less (length object.bytes) (off + len) inside, inside)

-- a range that ends outside ends past the object
is_past : (m : Memory) (cell off len serial : ℕ) (object : Object) → root_of m cell ≡ Some serial → object_of m serial ≡ Some object
    → ends_outside object off len ≡ true → EndsPast m cell off len
is_past m cell off len serial object named live outside =
    record { serial = serial; object = object; named = named; live = live; past = less (length object.bytes) (off + len) outside }

-- the refusals of a call on the object that a cell names are from a number on
cell_from : (m : Memory) (cell : ℕ) (outside : Type 0) (low : ℕ) → (root_of m cell ≡ None → low ≤ 5) → (NamesFreed m cell → low ≤ 6) → (outside → low ≤ 7)
    → AreFrom low (cell_holds m cell outside)
cell_from m cell outside low empty freed past Empty h = empty h
cell_from m cell outside low empty freed past Freed h = freed h
cell_from m cell outside low empty freed past Outside h = past h
cell_from m cell outside low empty freed past _ h = absurd h

-- a call on the object that a cell names
cell_told : (m : Memory) (cell : ℕ) (outside : Type 0) (next : Named → Result Said Refusal)
    → ((named : Named) → root_of m cell ≡ Some named.serial → object_of m named.serial ≡ Some named.object
    → Told Said (cell_holds m cell outside) (next named)) → Told Said (cell_holds m cell outside) (named_by m cell >>= next)
cell_told m cell outside next rest =
    told_then Said Named ℕ (cell_holds m cell outside) Empty (root_of m cell) _ next
    (cell_from m cell outside 5 (λ h. lit≤ tt) (λ h. lit≤ tt) (λ h. lit≤ tt)) (λ none. none) (λ serial named.
    told_then Said Named Object (cell_holds m cell outside) Freed (object_of m serial) _ next
    (cell_from m cell outside 6 (λ h. absurd (not_empty m cell serial named h)) (λ h. lit≤ tt) (λ h. lit≤ tt))
    (λ gone. record { serial = serial; named = named; gone = gone }) (λ object live. rest (record { serial = serial; object = object }) named live))

-- a call on a range of the object that a cell names
range_told : (m : Memory) (cell off len : ℕ) (said : Named → Said)
    → Told Said (cell_holds m cell (EndsPast m cell off len))
    (named_by m cell >>= λ named. refuse_if Outside (ends_outside named.object off len) >>= λ _. Ok (said named))
range_told m cell off len said = cell_told m cell (EndsPast m cell off len) _ (λ named is live.
    told_if Said (cell_holds m cell (EndsPast m cell off len)) Outside (ends_outside named.object off len) _
    (cell_from m cell (EndsPast m cell off len) 7 (λ h. absurd (not_empty m cell named.serial is h))
    (λ h. absurd (not_freed m cell named.serial named.object is live h)) (λ h. lit≤ tt))
    (is_past m cell off len named.serial named.object is live) (not_past m cell off len named.serial named.object is live) (λ inside _.
    told_ok Said (cell_holds m cell (EndsPast m cell off len)) (said named) (none_holds (cell_holds m cell (EndsPast m cell off len))
    (cell_from m cell (EndsPast m cell off len) 18 (λ h. absurd (not_empty m cell named.serial is h))
    (λ h. absurd (not_freed m cell named.serial named.object is live h))
    (λ h. absurd (not_past m cell off len named.serial named.object is live inside h))))))

-- a call on the whole object that a cell names
whole_told : (m : Memory) (cell : ℕ) (said : Named → Said) → Told Said (cell_holds m cell ⊥) (named_by m cell >>= λ named. Ok (said named))
whole_told m cell said = cell_told m cell ⊥ _ (λ named is live.
    told_ok Said (cell_holds m cell ⊥) (said named) (none_holds (cell_holds m cell ⊥)
    (cell_from m cell ⊥ 18 (λ h. absurd (not_empty m cell named.serial is h)) (λ h. absurd (not_freed m cell named.serial named.object is live h))
    (λ h. absurd h))))

-- the refusals of a copy are from a number on
copy_from : (m : Memory) (to to_off from from_off len low : ℕ) → (copy_holds m to to_off from from_off len Empty → low ≤ 5)
    → (copy_holds m to to_off from from_off len Freed → low ≤ 6) → (copy_holds m to to_off from from_off len Outside → low ≤ 7)
    → AreFrom low (copy_holds m to to_off from from_off len)
copy_from m to to_off from from_off len low empty freed past Empty h = empty h
copy_from m to to_off from from_off len low empty freed past Freed h = freed h
copy_from m to to_off from from_off len low empty freed past Outside h = past h
copy_from m to to_off from from_off len low empty freed past _ h = absurd h

-- neither of two holds
neither : {P Q : Type 0} → ¬ P → ¬ Q → ¬ (P ⊎ Q)
neither p q (inl h) = p h
neither p q (inr h) = q h

-- the last test of a copy
ranges_told : (m : Memory) (to to_off from from_off len s u : ℕ) (a b : Object) (said : Said) → root_of m to ≡ Some s → root_of m from ≡ Some u
    → object_of m s ≡ Some a → object_of m u ≡ Some b → Told Said (copy_holds m to to_off from from_off len)
    (refuse_if Outside (ends_outside a to_off len || ends_outside b from_off len) >>= λ _. Ok said)
ranges_told m to to_off from from_off len s u a b said to_is from_is live live' =
    told_if Said (copy_holds m to to_off from from_off len) Outside (ends_outside a to_off len || ends_outside b from_off len) _
    (copy_from m to to_off from from_off len 7 (λ h. absurd (empty h)) (λ h. absurd (freed h)) (λ h. lit≤ tt)) past inside (λ in_both _.
    told_ok Said (copy_holds m to to_off from from_off len) said (none_holds (copy_holds m to to_off from from_off len)
    (copy_from m to to_off from from_off len 18 (λ h. absurd (empty h)) (λ h. absurd (freed h)) (λ h. absurd (inside in_both h)))))
  where
    empty : ¬ copy_holds m to to_off from from_off len Empty
    empty h = neither (not_empty m to s to_is) (not_empty m from u from_is) h

    freed : ¬ copy_holds m to to_off from from_off len Freed
    freed h = neither (not_freed m to s a to_is live) (not_freed m from u b from_is live') h

    past : (ends_outside a to_off len || ends_outside b from_off len) ≡ true → copy_holds m to to_off from from_off len Outside
    past h = elim (tells (ends_outside a to_off len)) [
      | inl first ↦ inl (is_past m to to_off len s a to_is live first)
      | inr not_first ↦ let second : ends_outside b from_off len ≡ true = rw not_first at h in inr (is_past m from from_off len u b from_is live' second)
    ]

    inside : (ends_outside a to_off len || ends_outside b from_off len) ≡ false → ¬ copy_holds m to to_off from from_off len Outside
    inside h both = let parts = neither_holds (ends_outside a to_off len) (ends_outside b from_off len) h in
        neither (not_past m to to_off len s a to_is live parts.0) (not_past m from from_off len u b from_is live' parts.1) both

-- a copy
copy_told : (m : Memory) (to to_off from from_off len : ℕ) (said : Named × Named → Said) → Told Said (copy_holds m to to_off from from_off len)
    (both_named m to from >>= λ pair.
    refuse_if Outside (ends_outside pair.0.object to_off len || ends_outside pair.1.object from_off len) >>= λ _. Ok (said pair))
copy_told m to to_off from from_off len said =
    told_then Said (Named × Named) ℕ H Empty (root_of m to) _ _ (copy_from m to to_off from from_off len 5 (λ h. lit≤ tt) (λ h. lit≤ tt) (λ h. lit≤ tt))
    (λ none. inl none) (λ s to_is.
    told_then Said (Named × Named) ℕ H Empty (root_of m from) _ _ (copy_from m to to_off from from_off len 5 (λ h. lit≤ tt) (λ h. lit≤ tt) (λ h. lit≤ tt))
    (λ none. inr none) (λ u from_is.
    let named : AreFrom 6 H = copy_from m to to_off from from_off len 6
    (λ h. absurd (neither (not_empty m to s to_is) (not_empty m from u from_is) h)) (λ h. lit≤ tt) (λ h. lit≤ tt) in
    told_then Said (Named × Named) Object H Freed (object_of m s) _ _ named (λ gone. inl (record { serial = s; named = to_is; gone = gone })) (λ a live.
    told_then Said (Named × Named) Object H Freed (object_of m u) _ _ named (λ gone. inr (record { serial = u; named = from_is; gone = gone })) (λ b live'.
    ranges_told m to to_off from from_off len s u a b (said (record { serial = s; object = a }, record { serial = u; object = b })) to_is from_is live live'))))
  where
    H : Refusal → Type 0
    H = copy_holds m to to_off from from_off len

-- where no object of a list holds an address none has it
none_held : (objects : List (Option Object)) (from address k : ℕ) (x : Object) → holder_from from objects address ≡ None
    → slice_index_or objects k None ≡ Some x → has_address x address ≡ false
none_held [] from address k x h at = absurd (cc)
none_held (None ∷ objects) from address zero x h at = absurd (cc)
none_held (None ∷ objects) from address (suc k) x h at = none_held objects (from + 1) address k x h at
none_held (Some y ∷ objects) from address zero x h at = grind (arith, nat_tests)
none_held (Some y ∷ objects) from address (suc k) x h at = grind (arith, nat_tests, none_held objects (from + 1) address k x)

-- the refusals of a call on an address are from a number on
address_from : (m : Memory) (address low : ℕ) → (address_holds m address Stray → low ≤ 8) → AreFrom low (address_holds m address)
address_from m address low stray Stray h = stray h
address_from m address low stray _ h = absurd h

-- a call on an address
address_told : (m : Memory) (address : ℕ) (said : Named → Said) → Told Said (address_holds m address) (holding m address >>= λ named. Ok (said named))
address_told m address said =
    told_then Said Named ℕ (address_holds m address) Stray (holder_of m address) _ _ (address_from m address 8 (λ h. lit≤ tt))
    (λ none serial object live. none_held m.objects 0 address serial object none live) (λ serial held.
    told_then Said Named Object (address_holds m address) Stray (object_of m serial) _ _ (address_from m address 8 (λ h. lit≤ tt))
    (λ gone. absurd (let clash : Some (holder serial held).object ≡ None = sym (holder_live serial held) ∙ gone in cc clash)) (λ object live.
    told_ok Said (address_holds m address) (said (record { serial = serial; object = object })) (none_holds (address_holds m address)
    (address_from m address 18 (λ stray. absurd (let clash : true ≡ false = sym (holder serial held).has
    ∙ stray (holder serial held).at (holder serial held).object (holder serial held).live in cc clash))))))
  where
    holder : (serial : ℕ) → holder_of m address ≡ Some serial → IsHolder m.objects 0 serial address
    holder serial held = holder_has m.objects 0 serial address held

    holder_live : (serial : ℕ) (held : holder_of m address ≡ Some serial) → object_of m serial ≡ Some (holder serial held).object
    holder_live serial held = grind (arith, nat_tests, holder serial held)

-- the refusals of a length are from a number on
pub length_from : (len low : ℕ) → (length_holds len Zero → low ≤ 1) → (length_holds len TooLarge → low ≤ 2) → AreFrom low (length_holds len)
length_from len low none large Zero h = none h
length_from len low none large TooLarge h = large h
length_from len low none large _ h = absurd h

-- a new object of a length
length_told : (len : ℕ) (said : Said)
    → Told Said (length_holds len) (refuse_if Zero (nat_eq len 0) >>= λ _. refuse_if TooLarge (nat_lt 2048 len) >>= λ _. Ok said)
length_told len said =
    told_if Said (length_holds len) Zero (nat_eq len 0) _ (length_from len 1 (λ h. lit≤ tt) (λ h. lit≤ tt)) (equal len 0) (unequal len 0) (λ some _.
    told_if Said (length_holds len) TooLarge (nat_lt 2048 len) _ (length_from len 2 (λ h. absurd (unequal len 0 some h)) (λ h. lit≤ tt))
    (less 2048 len) (not_less 2048 len) (λ few _.
    told_ok Said (length_holds len) said (none_holds (length_holds len)
    (length_from len 18 (λ h. absurd (unequal len 0 some h)) (λ h. absurd (not_less 2048 len few h))))))

-- what the plain memory says of a command is told
pub plain_told : (m : Memory) (address : ℕ) (command : Command) → Told Said (plain_holds m command) (plain m address command)
plain_told m address (New cell len word) = length_told len (Made (next_serial m) address, made m cell len address)
plain_told m address (Put cell off bytes) = range_told m cell off (length bytes.items) (λ named. (Done, stored m named off bytes.items))
plain_told m address (Get cell off len) =
    range_told m cell off len (λ named. (Bytes (record { items = slice_range named.object.bytes off (off + len) }), m))
plain_told m address (Free cell) = whole_told m cell (λ named. (Done, with_object m named.serial None))
plain_told m address (Alias to from) = whole_told m from (λ named. (Done, with_root m to named.serial))
plain_told m address (Addr cell) = whole_told m cell (λ named. (At named.object.address, m))
plain_told m address (Peek place) = address_told m place (λ named. (Byte (slice_index named.object.bytes (place - named.object.address)), m))
plain_told m address (Poke place byte) = address_told m place (λ named. (Done, stored m named (place - named.object.address) (byte ∷ [])))
plain_told m address (CopyBytes to to_off from from_off len) =
    copy_told m to to_off from from_off len (λ pair. (Done, copied m pair.0 to_off pair.1 from_off len))

-- the plain memory refuses a command by the lowest
pub plain_lowest : (m : Memory) (address : ℕ) (command : Command) → IsRefusedBy (plain_holds m command) (plain m address command)
plain_lowest m address command = refused_by Said (plain_holds m command) (plain m address command) (plain_told m address command)
