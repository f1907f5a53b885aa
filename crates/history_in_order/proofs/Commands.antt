-- What commands that are done leave of a memory.
use Rattle.std.proofs.Common.{◌≡◌, ℕ, suc, ◌+◌, ◌-◌, ◌≤◌, false, List, [], ◌∷◌, length, arith, refl, sym, ◌∙◌, inl, inr, Some, None, Result, Ok, Err, IsOk}
use Rattle.std.specs.List.{slice_range}
use Rattle.std.proofs.lemmas.Bool.{true≢false}
use Rattle.std.proofs.lemmas.Bool.Decides.{leb_tells}
use Rattle.std.proofs.lemmas.Grind.{common_steps}
use Rattle.model_memory.specs.Memory.{Memory, Object, object_of, overwritten, root_of, with_object, with_root}
use Rattle.model_memory.specs.Plain.{Named, copied, ends_outside, holding, named_by, plain, stored}
use Rattle.model_words.specs.declared.commands.Command.TheVariants.{Put, Free, Alias, Poke, Copy as CopyBytes}
use Rattle.model_words.specs.declared.commands.Reply.TheVariants.{Done}
use Rattle.model_words.specs.declared.refusals.Refusal.TheVariants.{Empty, Freed}
use Rattle.arrayvec.specs.ArrayVec.{ArrayVec}

-- a store leaves as many bytes
pub overwritten_length : (bytes : List ℕ) (off : ℕ) (more : List ℕ) → off + length more ≤ length bytes → length (overwritten bytes off more) ≡ length bytes
overwritten_length bytes off more fits = grind (arith, common_steps)

pub put_done : (m : Memory) (cell off : ℕ) (bytes : ArrayVec ℕ) (named : Named) → named_by m cell ≡ Ok named
    → ends_outside named.object off (length bytes.items) ≡ false → plain m 0 (Put cell off bytes) ≡ Ok (Done, stored m named off bytes.items)
put_done m cell off bytes named is fits = rw is (rw fits refl)

pub free_done : (m : Memory) (cell : ℕ) (named : Named) → named_by m cell ≡ Ok named → plain m 0 (Free cell) ≡ Ok (Done, with_object m named.serial None)
free_done m cell named is = rw is refl

pub alias_done : (m : Memory) (to from : ℕ) (named : Named) → named_by m from ≡ Ok named → plain m 0 (Alias to from) ≡ Ok (Done, with_root m to named.serial)
alias_done m to from named is = rw is refl

pub poke_done : (m : Memory) (address byte : ℕ) (named : Named) → holding m address ≡ Ok named
    → plain m 0 (Poke address byte) ≡ Ok (Done, stored m named (address - named.object.address) (byte ∷ []))
poke_done m address byte named is = rw is refl

pub copy_done : (m : Memory) (to to_off from from_off len s u : ℕ) (x y : Object) → root_of m to ≡ Some s → root_of m from ≡ Some u → object_of m s ≡ Some x
    → object_of m u ≡ Some y → ends_outside x to_off len ≡ false → ends_outside y from_off len ≡ false
    → plain m 0 (CopyBytes to to_off from from_off len) ≡ Ok (Done, copied m (record { serial = s; object = x }) to_off (record { serial = u; object = y }) from_off len)
copy_done m to to_off from from_off len s u x y is is' at at' fits fits' = rw (is, is') (rw (at, at') (rw (fits, fits') refl))

-- a command that is done is possible
pub done_is_ok : {A E : Type 0} (x : Result A E) (y : A) → x ≡ Ok y → IsOk x
done_is_ok x y is = rw is refl

-- a range that doesn't end past an object
pub inside : (o : Object) (off len : ℕ) → ends_outside o off len ≡ false → off + len ≤ length o.bytes
inside o off len h = elim (leb_tells (suc (length o.bytes)) (off + len)) [
  | inl past ↦ absurd (true≢false (sym past.0 ∙ h))
  | inr within ↦ let w = within.1 in omega (arith, w)
]

-- as many bytes as a range is long
pub range_length : (bytes : List ℕ) (start len : ℕ) → start + len ≤ length bytes → length (slice_range bytes start (start + len)) ≡ len
range_length bytes start len fits = grind (arith, common_steps)

-- why a copy is refused
pub copy_empty_to : (m : Memory) (to to_off from from_off len : ℕ) → root_of m to ≡ None → plain m 0 (CopyBytes to to_off from from_off len) ≡ Err Empty
copy_empty_to m to to_off from from_off len none = rw none refl

pub copy_empty_from : (m : Memory) (to to_off from from_off len s : ℕ) → root_of m to ≡ Some s → root_of m from ≡ None
    → plain m 0 (CopyBytes to to_off from from_off len) ≡ Err Empty
copy_empty_from m to to_off from from_off len s is none = rw is (rw none refl)

pub copy_freed_to : (m : Memory) (to to_off from from_off len s u : ℕ) → root_of m to ≡ Some s → root_of m from ≡ Some u → object_of m s ≡ None
    → plain m 0 (CopyBytes to to_off from from_off len) ≡ Err Freed
copy_freed_to m to to_off from from_off len s u is is' none = rw (is, is') (rw none refl)

pub copy_freed_from : (m : Memory) (to to_off from from_off len s u : ℕ) (x : Object) → root_of m to ≡ Some s → root_of m from ≡ Some u → object_of m s ≡ Some x
    → object_of m u ≡ None → plain m 0 (CopyBytes to to_off from from_off len) ≡ Err Freed
copy_freed_from m to to_off from from_off len s u x is is' at none = rw (is, is') (rw at (rw none refl))
