-- What a copy of the plain memory takes, and what it leaves.
use Rattle.std.proofs.Common.{◌≡◌, ℕ, ◌+◌, ◌-◌, ◌<◌, ◌≤◌, List, ◌++◌, length, take, drop, get_or, slice_range, ap, refl, ◌∙◌, arith, ◌⊎◌, inl, inr, Some, None, length-append}
use Rattle.std.proofs.lemmas.List.{get_or-set_same, get_or-set_other, get_or-take, get_or-drop, get_or_append_left, get_or-append_right, length-take, length-drop, length-set}
use Rattle.model_memory.proofs.Objects.{live_below, overwritten_length}
use Rattle.model_memory.specs.CopyLaws.{IsCopied, MayCopy}
use Rattle.model_memory.specs.Memory.{Memory, Object, overwritten}
use Rattle.model_memory.specs.Plain.{Named, copied}

-- a byte of those that were written
written_at : (bytes : List ℕ) (off : ℕ) (new : List ℕ) (k : ℕ) → off + length new ≤ length bytes → k < length new
    → get_or (overwritten bytes off new) (off + k) 0 ≡ get_or new k 0
written_at bytes off new k fits below =
    let before : length (take off bytes) ≡ off = simp (length-take) (omega (arith, fits)) in
    let both : length (take off bytes ++ new) ≡ off + length new = length-append (take off bytes) new ∙ ap (λ (n : ℕ). n + length new) before in
    let on : off + k - off ≡ k = omega arith in
    get_or_append_left (take off bytes ++ new) (drop (off + length new) bytes) 0 (off + k) (omega (arith, both, below))
    ∙ get_or-append_right (take off bytes) new off (off + k) 0 before (omega arith) ∙ ap (λ (i : ℕ). get_or new i 0) on

-- and one of the others
left_at : (bytes : List ℕ) (off : ℕ) (new : List ℕ) (k : ℕ) → off + length new ≤ length bytes → (k < off) ⊎ (off + length new ≤ k)
    → get_or (overwritten bytes off new) k 0 ≡ get_or bytes k 0
left_at bytes off new k fits out =
    let before : length (take off bytes) ≡ off = simp (length-take) (omega (arith, fits)) in
    let both : length (take off bytes ++ new) ≡ off + length new = length-append (take off bytes) new ∙ ap (λ (n : ℕ). n + length new) before in
    elim out [
      | inl low ↦ get_or_append_left (take off bytes ++ new) (drop (off + length new) bytes) 0 k (omega (arith, both, low))
          ∙ get_or_append_left (take off bytes) new 0 k (omega (arith, before, low)) ∙ get_or-take off bytes k 0 low
      | inr high ↦ let back : off + length new + (k - (off + length new)) ≡ k = omega (arith, high) in
          get_or-append_right (take off bytes ++ new) (drop (off + length new) bytes) (off + length new) k 0 both high
          ∙ get_or-drop (off + length new) bytes (k - (off + length new)) 0 ∙ ap (λ (i : ℕ). get_or bytes i 0) back
    ]

-- a copy takes the bytes that were there before, and leaves all else
pub copy_takes : (m : Memory) (to : Named) (to_off : ℕ) (from : Named) (from_off len : ℕ) → MayCopy m to to_off from from_off len
    → IsCopied m (copied m to to_off from from_off len) to to_off from from_off len
copy_takes m to to_off from from_off len may = record {
  object = after;
  live = get_or-set_same m.objects to.serial (Some after) None (live_below m to.serial to.object may.live);
  address = refl;
  long = overwritten_length to.object.bytes to_off read fits;
  taken = λ k below. written_at to.object.bytes to_off read k fits (omega (arith, below, long))
      ∙ get_or-take (from_off + len - from_off) (drop from_off from.object.bytes) k 0 (omega (arith, below)) ∙ get_or-drop from_off from.object.bytes k 0;
  rest = λ k out. left_at to.object.bytes to_off read k fits (elim out [ inl low ↦ inl low | inr high ↦ inr (omega (arith, high, long)) ]);
  others = λ serial apart. get_or-set_other m.objects to.serial serial (Some after) None apart;
  roots = refl;
  next = length-set m.objects to.serial (Some after);
}
  where
    read : List ℕ
    read = slice_range from.object.bytes from_off (from_off + len)

    after : Object
    after = record to.object { bytes = overwritten to.object.bytes to_off read }

    long : length read ≡ len
    long = let has = may.has in simp (length-take, length-drop) (omega (arith, has))

    fits : to_off + length read ≤ length to.object.bytes
    fits = let within = may.fits in omega (arith, within, long)
