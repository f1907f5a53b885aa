-- What the accesses of a judge do to the bytes of an object.
use Rattle.std.proofs.Common.{◌≡◌, ◌≢◌, ℕ, ◌+◌, ◌≤◌, inl, inr, Bool, true, false, not, ◌&&◌, nat_eq, if◌then◌else◌, List, [], ◌∷◌, length, slice_range, arith, refl, sym, ◌∙◌, ap, Some, None}
use Rattle.std.specs.Str.{bytes_eq}
use Rattle.std.proofs.lemmas.Bool.Decides.{eqb_tells, nat_tests}
use Rattle.std.proofs.lemmas.List.{length-take, length-drop}
use Rattle.model_words.specs.declared.commands.Command.{Command}
use Rattle.model_words.specs.declared.commands.Command.TheVariants.{Put, Get, Addr}
use Rattle.model_words.specs.declared.commands.Reply.{Reply}
use Rattle.model_words.specs.declared.commands.Reply.TheVariants.{Done, Bytes, At}
use Rattle.model_intervals.specs.Objects.{accessed, ends_past}
use Rattle.history_object.specs.ObjectBytes.{accessed_by}
use Rattle.history_overlaps.specs.Accesses.{access_of}

-- lists of unequal lengths are no equal bytes
unequal : (xs ys : List ℕ) → length xs ≢ length ys → bytes_eq xs ys ≡ false
unequal [] [] apart = absurd (apart refl)
unequal [] (y ∷ ys) apart = refl
unequal (x ∷ xs) [] apart = refl
unequal (x ∷ xs) (y ∷ ys) apart = let rest = unequal xs ys (λ e. apart (omega (arith, e))) in either (nat_eq x y) refl rest
  where
    either : (b : Bool) → nat_eq x y ≡ b → bytes_eq xs ys ≡ false → bytes_eq (x ∷ xs) (y ∷ ys) ≡ false
    either true is rest = rw is rest
    either false is rest = rw is refl

-- a load that told another number of bytes answers nothing
loaded_short : (bytes told : List ℕ) (off len : ℕ) → len ≢ length told → (not (ends_past bytes off len) && bytes_eq told (slice_range bytes off (off + len))) ≡ false
loaded_short bytes told off len apart = either (ends_past bytes off len) refl
  where
    either : (b : Bool) → ends_past bytes off len ≡ b → (not (ends_past bytes off len) && bytes_eq told (slice_range bytes off (off + len))) ≡ false
    either true past = rw past refl
    either false inside =
        let fits : off + len ≤ length bytes = grind (arith, nat_tests, inside) in
        let long : length (slice_range bytes off (off + len)) ≡ len = simp (length-take, length-drop) (omega (arith, fits)) in
        rw inside (unequal told (slice_range bytes off (off + len)) (λ e. apart (sym long ∙ sym e)))

-- an access of the judge does to the bytes what the call does
pub same_access : (address : ℕ) (command : Command) (reply : Reply) (bytes : List ℕ)
    → accessed_by (access_of address command reply) bytes ≡ accessed address command reply bytes
same_access address (Put cell off new) Done bytes = refl
same_access address (Get cell off len) (Bytes told) bytes = elim (eqb_tells len (length told.items)) [
  | inl same ↦ rw same.0 (ap (λ (n : ℕ). if not (ends_past bytes off n) && bytes_eq told.items (slice_range bytes off (off + n)) then Some bytes else None) (sym same.1))
  | inr apart ↦ rw (apart.0, loaded_short bytes told.items off len apart.1) refl
]
same_access address (Addr cell) (At told) bytes = either (nat_eq told address) refl
  where
    either : (b : Bool) → nat_eq told address ≡ b → accessed_by (access_of address (Addr cell) (At told)) bytes ≡ accessed address (Addr cell) (At told) bytes
    either true is = rw is refl
    either false is = rw is refl
same_access address command reply bytes = refl
