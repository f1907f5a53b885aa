-- Facts of a step besides the states: why it was possible, which serial it gave, and what it keeps of a live object.
use Rattle.std.proofs.Common.{◌≡◌, ◌≢◌, ℕ, ◌+◌, ◌<◌, ◌≤◌, ◌⊎◌, inl, inr, true, false, not, ◌&&◌, ◌||◌, nat_eq, List, [], ◌∷◌, ◌++◌, length, replicate, slice_range, arith, ap, refl, sym, subst, ◌∙◌, Option, Some, None}
use Rattle.std.specs.Str.{bytes_eq}
use Rattle.std.proofs.lemmas.Bool.{eq-eqb, not_from_false, not-true, or_parts, le-leb, lt-ltb}
use Rattle.std.proofs.lemmas.Bool.Decides.{eqb_tells}
use Rattle.std.proofs.lemmas.List.Folds.{list_any-append}
use Rattle.std.proofs.lemmas.List.{length-replicate}
use Rattle.model_history.specs.Recorded.{Recorded, RecordedStep, any_allocator, was_given}
use Rattle.model_memory.specs.Memory.{Memory, Object, has_address, object_of, overwritten}
use Rattle.model_memory.specs.Plain.{IsVacantRange}
use Rattle.model_memory.proofs.NamedObjects.{in_range, within_object}
use Rattle.model_memory.proofs.Objects.{overwritten_length}
use Rattle.model_words.specs.declared.commands.Command.{Command}
use Rattle.model_words.specs.declared.commands.Command.TheVariants.{New, Put, Get, Free, Addr}
use Rattle.model_words.specs.declared.commands.Reply.{Reply}
use Rattle.model_words.specs.declared.commands.Reply.TheVariants.{Object as Made, Done, Bytes, At, Refused}
use Rattle.model_intervals.specs.Objects.{Object as NewObject, IsFairNew, ends_past, object_made}
use Rattle.model_intervals.specs.OverlappingCalls.{HasEffect, IsNew, cell_of}
use Rattle.model_intervals.proofs.Lists.{tells}
use Rattle.model_intervals.proofs.MiddleForm.{is_free}
use Rattle.model_intervals.proofs.CellStates.{CellState, Unmade, Live, Gone, after}
use Rattle.model_intervals.proofs.StepsBack.{CanMake}

-- the conditions of a step held
pub step_can : (r : Recorded) (command : Command) (reply : Reply) (n : Recorded) → RecordedStep any_allocator r command reply n → CanMake r command reply
step_can r (New cell len word) (Made serial address) n step = (step.0, step.1, step.2, step.3)
step_can r (New cell len word) (Refused refusal) n step = step.0
step_can r command reply n step = tt

pub can_fair : (r : Recorded) (command : Command) (reply : Reply) → CanMake r command reply → IsFairNew command reply
can_fair r (New cell len word) (Made serial address) can = (can.0, can.1)
can_fair r (New cell len word) (Refused refusal) can = can
can_fair r command reply can = tt

-- an object that the memory can make
pub record IsMakable (r : Recorded) (x : NewObject) : Type 0 where
  pub some : 1 ≤ x.len
  pub fresh : was_given r.serials x.serial ≡ false
  pub vacant : IsVacantRange r.memory x.address x.len

pub can_object : (r : Recorded) (command : Command) (reply : Reply) (x : NewObject) → CanMake r command reply → object_made command reply ≡ Some x → IsMakable r x
can_object r (New cell len word) (Made serial address) x can is =
    let same : record { cell = cell; len = len; serial = serial; address = address } ≡ x = cc is in
    subst (IsMakable r) same (record { some = can.0; fresh = not-true (was_given r.serials serial) can.2; vacant = can.3 })
can_object r command reply x can is = absurd (cc is)

pub can_make : (r : Recorded) (command : Command) (reply : Reply) → IsFairNew command reply
    → ((x : NewObject) → object_made command reply ≡ Some x → (was_given r.serials x.serial ≡ false) × IsVacantRange r.memory x.address x.len) → CanMake r command reply
can_make r (New cell len word) (Made serial address) fair object =
    let o = object (record { cell = cell; len = len; serial = serial; address = address }) refl in
    (fair.0, fair.1, not_from_false (was_given r.serials serial) o.0, o.1)
can_make r (New cell len word) (Refused refusal) fair object = fair
can_make r command reply fair object = tt

-- an object has the cell of its command, and starts with zeros
pub made_so : (command : Command) (reply : Reply) (x : NewObject) → object_made command reply ≡ Some x
    → (x.cell ≡ cell_of command) × (after Unmade command reply ≡ Some (Live (record { address = x.address; bytes = replicate x.len 0 })))
made_so (New cell len word) (Made serial address) x is =
    let same : record { cell = cell; len = len; serial = serial; address = address } ≡ x = cc is in
    subst (λ (y : NewObject). (y.cell ≡ cell) × (after Unmade (New cell len word) (Made serial address) ≡ Some (Live (record { address = y.address; bytes = replicate y.len 0 })))) same (refl, refl)
made_so command reply x is = absurd (cc is)

pub made_is_new : (command : Command) (reply : Reply) (x : NewObject) → object_made command reply ≡ Some x → IsNew command
made_is_new (New cell len word) reply x is = tt
made_is_new command reply x is = absurd (cc is)

pub new_is_no_free : (command : Command) (reply : Reply) (x : NewObject) → object_made command reply ≡ Some x → is_free command ≡ false
new_is_no_free (New cell len word) reply x is = refl
new_is_no_free command reply x is = absurd (cc is)

-- the serials after a command
abbrev pub serials_after : List ℕ → Option NewObject → List ℕ
serials_after serials None = serials
serials_after serials (Some x) = serials ++ x.serial ∷ []

pub step_serials : (r : Recorded) (command : Command) (reply : Reply) (n : Recorded) → HasEffect command reply → RecordedStep any_allocator r command reply n
    → n.serials ≡ serials_after r.serials (object_made command reply)
step_serials r (New cell len word) (Made serial address) n effect step = ap (λ (x : Recorded). x.serials) step.4
step_serials r (New cell len word) (Refused refusal) n effect step = ap (λ (x : Recorded). x.serials) step.1
step_serials r (Put cell off bytes) Done n effect step = step.1
step_serials r (Get cell off len) (Bytes told) n effect step = step.1
step_serials r (Free cell) Done n effect step = step.1
step_serials r (Addr cell) (At told) n effect step = step.1
step_serials r command reply n effect step = absurd effect

-- a serial was not given after a step exactly if it was not given before and the step did not give it
pub not_given : (serials : List ℕ) (made : Option NewObject) (serial : ℕ) → was_given (serials_after serials made) serial ≡ false
    → (was_given serials serial ≡ false) × ((x : NewObject) → made ≡ Some x → x.serial ≢ serial)
not_given serials None serial h = (h, λ x is. absurd (cc is))
not_given serials (Some x) serial h =
    let parts : (was_given serials serial || (nat_eq x.serial serial || false)) ≡ false = sym (list_any-append (λ other. nat_eq other serial) serials (x.serial ∷ [])) ∙ h in
    let both = or_parts (was_given serials serial) (nat_eq x.serial serial || false) parts in
    let last = or_parts (nat_eq x.serial serial) false both.1 in (
      both.0,
      λ y is same. let x_is : x ≡ y = cc is in let serial_is : x.serial ≡ serial = ap (λ (z : NewObject). z.serial) x_is ∙ same in
          let clash : true ≡ false = sym (eq-eqb x.serial serial serial_is) ∙ last.0 in cc clash,
    )

pub still_not_given : (serials : List ℕ) (made : Option NewObject) (serial : ℕ) → was_given serials serial ≡ false
    → ((x : NewObject) → made ≡ Some x → x.serial ≢ serial) → was_given (serials_after serials made) serial ≡ false
still_not_given serials None serial h apart = h
still_not_given serials (Some x) serial h apart = list_any-append (λ other. nat_eq other serial) serials (x.serial ∷ []) ∙ rw (h, other (eqb_tells x.serial serial)) refl
  where
    other : ((nat_eq x.serial serial ≡ true) × (x.serial ≡ serial)) ⊎ ((nat_eq x.serial serial ≡ false) × (x.serial ≢ serial)) → nat_eq x.serial serial ≡ false
    other (inl same) = absurd (apart x refl same.1)
    other (inr differ) = differ.0

-- a range is vacant exactly if it meets no live object's range
pub vacant_apart : (m : Memory) (address len index : ℕ) (o : Object) → IsVacantRange m address len → object_of m index ≡ Some o → 1 ≤ len → 1 ≤ length o.bytes
    → o.address < address + len → address < o.address + length o.bytes → ⊥
vacant_apart m address len index o vacant live some filled low high = elim (leb_cases o.address address) [
  | inl first ↦ clash address (omega arith) (omega (arith, some)) first high
  | inr second ↦ clash o.address (omega (arith, second)) low (omega arith) (omega (arith, filled))
]
  where
    leb_cases : (a b : ℕ) → (a ≤ b) ⊎ (b ≤ a)
    leb_cases a b = grind arith

    clash : (x : ℕ) → address ≤ x → x < address + len → o.address ≤ x → x < o.address + length o.bytes → ⊥
    clash x from to above below =
        let has : has_address o x ≡ true = rw (le-leb o.address x above, lt-ltb x (o.address + length o.bytes) below) refl in
        let both : true ≡ false = sym has ∙ vacant index x o live from to in cc both

pub vacant_from : (m : Memory) (address len : ℕ)
    → ((index : ℕ) (o : Object) → object_of m index ≡ Some o → o.address < address + len → address < o.address + length o.bytes → ⊥) → IsVacantRange m address len
vacant_from m address len apart index x o live from to = elim (tells (has_address o x)) [
  | inl has ↦ absurd (let range = in_range o x has in let above = range.0 in let below = range.1 in apart index o live (omega (arith, above, to)) (omega (arith, from, below)))
  | inr not_has ↦ not_has
]

-- the state is live with an object of the same address and length
pub record IsKept (o : Object) (s : CellState) : Type 0 where
  pub object : Object
  pub is : s ≡ Live object
  pub address_is : object.address ≡ o.address
  pub long : length object.bytes ≡ length o.bytes

-- a call frees a live object, or keeps its address and length
pub live_goes_on : (o : Object) (command : Command) (reply : Reply) (s : CellState) → after (Live o) command reply ≡ Some s
    → ((is_free command ≡ true) × (s ≡ Gone)) ⊎ IsKept o s
live_goes_on o (Free cell) Done s goes = inl (refl, cc goes)
live_goes_on o (Put cell off bytes) Done s goes = elim (tells (ends_past o.bytes off (length bytes.items))) [
  | inl past ↦ absurd (let clash : None ≡ Some s = rw past at goes in cc clash)
  | inr fits ↦ inr (record {
    object = record o { bytes = overwritten o.bytes off bytes.items };
    is = let same : Some (Live (record o { bytes = overwritten o.bytes off bytes.items })) ≡ Some s = rw fits at goes in cc same;
    address_is = refl;
    long = overwritten_length o.bytes off bytes.items (within_object o off (length bytes.items) fits);
  })
]
live_goes_on o (Get cell off len) (Bytes told) s goes = elim (tells (not (ends_past o.bytes off len) && bytes_eq told.items (slice_range o.bytes off (off + len)))) [
  | inl reads ↦ inr (record { object = o; is = (let same : Some (Live o) ≡ Some s = rw reads at goes in cc same); address_is = refl; long = refl })
  | inr other ↦ absurd (let clash : None ≡ Some s = rw other at goes in cc clash)
]
live_goes_on o (Addr cell) (At told) s goes = elim (tells (nat_eq told o.address)) [
  | inl reads ↦ inr (record { object = o; is = (let same : Some (Live o) ≡ Some s = rw reads at goes in cc same); address_is = refl; long = refl })
  | inr other ↦ absurd (let clash : None ≡ Some s = rw other at goes in cc clash)
]
live_goes_on o command reply s goes = absurd (cc goes)

-- an unmade cell takes only a `new`
pub unmade_goes_on : (command : Command) (reply : Reply) (s : CellState) → after Unmade command reply ≡ Some s → IsNew command
unmade_goes_on (New cell len word) reply s goes = tt
unmade_goes_on command reply s goes = absurd (cc goes)

-- a freed cell takes no call
pub gone_ends : (command : Command) (reply : Reply) (s : CellState) → after Gone command reply ≡ Some s → ⊥
gone_ends (New cell len word) reply s goes = cc goes
gone_ends command reply s goes = cc goes

-- after a `free` the cell is not live
pub free_is_gone : (o : Object) (command : Command) (reply : Reply) (left : Object) → is_free command ≡ true → after (Live o) command reply ≡ Some (Live left) → ⊥
free_is_gone o (Free cell) Done left free goes = let same : Gone ≡ Live left = cc goes in cc same
free_is_gone o (Free cell) reply left free goes = cc goes
free_is_gone o command reply left free goes = cc free

-- a command that leaves an unmade cell live made the object
pub record IsMadeSo (command : Command) (reply : Reply) (o : Object) : Type 0 where
  pub object : NewObject
  pub makes : object_made command reply ≡ Some object
  pub cell_is : object.cell ≡ cell_of command
  pub address_is : object.address ≡ o.address
  pub long : length o.bytes ≡ object.len

pub made_from_unmade : (command : Command) (reply : Reply) (o : Object) → after Unmade command reply ≡ Some (Live o) → IsMadeSo command reply o
made_from_unmade (New cell len word) (Made serial address) o goes =
    let same : record { address = address; bytes = replicate len 0 } ≡ o = cc goes in
    record {
      object = record { cell = cell; len = len; serial = serial; address = address };
      makes = refl;
      cell_is = refl;
      address_is = ap (λ (z : Object). z.address) same;
      long = ap (λ (z : Object). length z.bytes) (sym same) ∙ length-replicate len 0;
    }
made_from_unmade (New cell len word) (Refused refusal) o goes = absurd (let clash : Unmade ≡ Live o = cc goes in cc clash)
made_from_unmade command reply o goes = absurd (cc goes)
