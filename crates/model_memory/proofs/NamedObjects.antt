-- The live objects that cells and addresses name.
use Rattle.std.proofs.Common.{◌≡◌, ℕ, suc, ◌+◌, ◌<◌, ◌≤◌, Bool, true, false, ◌||◌, nat_le, List, [], ◌∷◌, length, slice_index_or, slice_range, ap, subst, refl, sym, ◌∙◌, arith, inl, inr, Option, Some, None, Ok, Result}
use Rattle.std.proofs.lemmas.Bool.Decides.{nat_tests, leb_tells}
use Rattle.std.proofs.lemmas.List.{length-take, length-drop}
use Rattle.model_words.proofs.Chains.{or_refuse_went, went_on, refuse_if_went}
use Rattle.model_words.proofs.Tests.{tells, both_hold}
use Rattle.model_memory.specs.Memory.{Memory, Object, has_address, holder_from, holder_of, object_of}
use Rattle.model_memory.specs.Plain.{Named, both_named, ends_outside, holding, named_by, copied, plain}
use Rattle.model_words.specs.declared.commands.Command.TheVariants.{Copy as CopyBytes}
use Rattle.model_words.specs.declared.commands.Reply.{Reply}
use Rattle.model_words.specs.declared.commands.Reply.TheVariants.{Done}
use Rattle.model_words.specs.declared.refusals.Refusal.{Refusal}
use Rattle.model_words.specs.declared.refusals.Refusal.TheVariants.{Stray, Outside}

-- the object that a cell names is live
pub named_live : (m : Memory) (cell : ℕ) (named : Named) → named_by m cell ≡ Ok named → object_of m named.serial ≡ Some named.object
named_live m cell named h = grind arith

-- the object of a list, counted from a number, that has the address
pub record IsHolder (objects : List (Option Object)) (from serial address : ℕ) : Type 0 where
  pub at : ℕ
  pub object : Object
  pub is : serial ≡ from + at
  pub live : slice_index_or objects at None ≡ Some object
  pub has : has_address object address ≡ true

-- the holder of an address has it
pub holder_has : (objects : List (Option Object)) (from serial address : ℕ) → holder_from from objects address ≡ Some serial → IsHolder objects from serial address
holder_has [] from serial address h = absurd (cc)
holder_has (None ∷ objects) from serial address h =
    let rest = holder_has objects (from + 1) serial address h in let is : serial ≡ from + 1 + rest.at = rest.is in
    record { at = suc rest.at; object = rest.object; is = omega (arith, is); live = rest.live; has = rest.has }
holder_has (Some object ∷ objects) from serial address h = elim (tells (has_address object address)) [
  | inl pass ↦ let here : Some from ≡ Some serial = rw pass at h in let same : from ≡ serial = cc here in
      record { at = 0; object = object; is = omega (arith, same); live = refl; has = pass }
  | inr fail ↦ let later : holder_from (from + 1) objects address ≡ Some serial = rw fail at h in
      let rest = holder_has objects (from + 1) serial address later in let is : serial ≡ from + 1 + rest.at = rest.is in
      record { at = suc rest.at; object = rest.object; is = omega (arith, is); live = rest.live; has = rest.has }
]

-- an object that is live and has the address
pub record IsHeld (m : Memory) (named : Named) (address : ℕ) : Type 0 where
  pub live : object_of m named.serial ≡ Some named.object
  pub from : named.object.address ≤ address
  pub below : address < named.object.address + length named.object.bytes

-- an address that an object has is in its range
pub in_range : (object : Object) (address : ℕ) → has_address object address ≡ true
    → (object.address ≤ address) × (address < object.address + length object.bytes)
in_range object address h = grind (arith, nat_tests, both_hold, least)
  where
    least : (a b : ℕ) → nat_le a b ≡ true → a ≤ b
    least a b h = elim (leb_tells a b) [ inl below ↦ below.1 | inr past ↦ let clash : false ≡ true = rw past.0 at h in absurd (cc clash) ]

-- the object that has an address is live and has it
pub holding_held : (m : Memory) (address : ℕ) (named : Named) → holding m address ≡ Ok named → IsHeld m named address
holding_held m address named h =
    let serial = or_refuse_went Stray (holder_of m address) _ named h in
    let object = or_refuse_went Stray (object_of m serial.value) _ named serial.then in
    let done = object.then in
    let is : record { serial = serial.value; object = object.value } ≡ named = cc done in
    let holder = holder_has m.objects 0 serial.value address serial.is in
    let at : serial.value ≡ holder.at = (let e = holder.is in omega (arith, e)) in
    let both : Some object.value ≡ Some holder.object = sym object.is ∙ ap (λ (s : ℕ). object_of m s) at ∙ holder.live in
    let same : object.value ≡ holder.object = cc both in
    let range = in_range object.value address (ap (λ (o : Object). has_address o address) same ∙ holder.has) in
    subst (λ (x : Named). IsHeld m x address) is (record { live = object.is; from = range.0; below = range.1 })

-- a range that does not end outside is within the object
pub within_object : (object : Object) (off len : ℕ) → ends_outside object off len ≡ false → off + len ≤ length object.bytes
within_object object off len h = grind (arith, nat_tests)

-- the first of the two objects that cells name is live
pub both_live : (m : Memory) (to from : ℕ) (pair : Named × Named) → both_named m to from ≡ Ok pair
    → (object_of m pair.0.serial ≡ Some pair.0.object) × (object_of m pair.1.serial ≡ Some pair.1.object)
both_live m to from pair h = grind arith

-- neither of two tests holds
pub neither_holds : (a b : Bool) → (a || b) ≡ false → (a ≡ false) × (b ≡ false)
neither_holds false false h = (refl, refl)
neither_holds false true h = absurd (cc h)
neither_holds true b h = absurd (cc h)

-- as many bytes as were read
pub read_length : (bytes : List ℕ) (off len : ℕ) → off + len ≤ length bytes → length (slice_range bytes off (off + len)) ≡ len
read_length bytes off len within = simp (length-take, length-drop) (omega (arith, within))

-- what a copy that is not refused went through: both objects, and the range copied ends within the one copied to
pub record WasCopied (m : Memory) (to to_off from from_off len : ℕ) (x : Reply × Memory) : Type 0 where
  pub to_named : Named
  pub from_named : Named
  pub to_live : object_of m to_named.serial ≡ Some to_named.object
  pub room : to_off + length (slice_range from_named.object.bytes from_off (from_off + len)) ≤ length to_named.object.bytes
  pub is : ◌≡◌ {A = Result (Reply × Memory) Refusal} (Ok (Done, copied m to_named to_off from_named from_off len)) (Ok x)

-- a copy that is not refused
pub copy_went : (m : Memory) (to to_off from from_off len : ℕ) (x : Reply × Memory) → plain m 0 (CopyBytes to to_off from from_off len) ≡ Ok x
    → WasCopied m to to_off from from_off len x
copy_went m to to_off from from_off len x h =
    let pair = went_on (both_named m to from) _ x h in
    let inside = refuse_if_went Outside (ends_outside pair.value.0.object to_off len || ends_outside pair.value.1.object from_off len) _ x pair.then in
    let both = neither_holds (ends_outside pair.value.0.object to_off len) (ends_outside pair.value.1.object from_off len) inside.0 in
    let read = read_length pair.value.1.object.bytes from_off len (within_object pair.value.1.object from_off len both.1) in
    record {
      to_named = pair.value.0;
      from_named = pair.value.1;
      to_live = (both_live m to from pair.value pair.is).0;
      room = rw read (within_object pair.value.0.object to_off len both.0);
      is = inside.1;
    }
