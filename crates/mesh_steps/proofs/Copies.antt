-- What a copy does to the plain memory that a heap stands for.
use Rattle.std.proofs.Common.{◌≡◌, ℕ, ◌+◌, ◌<◌, ◌≤◌, List, length, slice_range, Ok, Err, ap, refl, sym, ◌∙◌, ◌⊎◌, inl, inr, arith}
use Rattle.std.proofs.lemmas.Bool.Decides.{leb_tells}
use Rattle.model_heap.specs.Mesh.{is_blocked}
use Rattle.model_memory.specs.Plain.{stored}
use Rattle.model_words.specs.declared.refusals.Refusal.TheVariants.{Outside}
use Rattle.mesh_steps.proofs.Objects.{ends_past, ends_within}
use Rattle.mesh_steps.proofs.Stores.{stored_in_is}
use Rattle.mesh_steps.specs.Heap.{Heap, IsHeap, IsReferred, IsStore, bytes_at, copied_at, live_record, object_in, plain_of, stored_in, table_of}
use Rattle.mesh_page_heap.specs.declared.answers.Occupied.{Occupied}
use Rattle.mesh_steps.specs.declared.answers.Ref.{Ref}
use Rattle.mesh_steps.specs.declared.answers.Stored.{Stored}

-- a copy of which a range ends past its object
pub copied_past : (h : Heap) (to from : Ref) (t f : Occupied) (to_off from_off len : ℕ) → IsReferred h to t → IsReferred h from f
    → (t.len < to_off + len) ⊎ (f.len < from_off + len) → copied_at (plain_of h) to to_off from from_off len ≡ Err Outside
copied_past h to from t f to_off from_off len target source past = elim (leb_tells (to_off + len) t.len) [
  | inr wide ↦ rw (target.named, source.named, ends_past h (live_record to.serial to.addr t.len) to_off len (omega (arith, wide.1))) refl
  | inl fits ↦ rw (
    target.named,
    source.named,
    ends_within h (live_record to.serial to.addr t.len) to_off len fits.1,
    ends_past h (live_record from.serial from.addr f.len) from_off len (elim past [ inl wide ↦ absurd (let low = fits.1 in omega (arith, low, wide)) | inr wide ↦ wide ]),
  ) refl
]

-- a copy within the objects stores the bytes that were read
pub copied_is : (h : Heap) (to from : Ref) (t f : Occupied) (to_off from_off len : ℕ) (bytes : List ℕ) → IsHeap h → IsReferred h to t → IsReferred h from f
    → to_off + len ≤ t.len → from_off + len ≤ f.len → length bytes ≡ len → bytes_at (plain_of h) from from_off len ≡ Ok bytes
    → stored_in h to.serial to.addr to_off bytes ≡ copied_at (plain_of h) to to_off from from_off len
copied_is h to from t f to_off from_off len bytes heap target source fits has long read =
    let within = ends_within h (live_record from.serial from.addr f.len) from_off len has in
    let whole : bytes_at (plain_of h) from from_off len
    ≡ Ok (slice_range (object_in h (live_record from.serial from.addr f.len)).bytes from_off (from_off + len)) = rw (source.named, within) refl in
    let same : bytes ≡ slice_range (object_in h (live_record from.serial from.addr f.len)).bytes from_off (from_off + len)
    = (let both : Ok bytes ≡ Ok (slice_range (object_in h (live_record from.serial from.addr f.len)).bytes from_off (from_off + len))
    = sym read ∙ whole in cc both) in
    stored_in_is h to.serial to.addr to_off t.len bytes heap target.recorded (omega (arith, long, fits))
    ∙ ap (λ (bs : List ℕ). Ok (stored (plain_of h) (record { serial = to.serial; object = object_in h (live_record to.serial to.addr t.len) }) to_off bs)) same
    ∙ sym (rw (target.named, source.named, ends_within h (live_record to.serial to.addr t.len) to_off len fits, within) refl)

-- what a store of the bytes that were read comes to as a copy
pub copy_stored : (h n : Heap) (to from : Ref) (t f : Occupied) (to_off from_off len : ℕ) (read bytes : List ℕ) (result : Stored) → IsHeap h
    → IsReferred h to t → IsReferred h from f → to_off + len ≤ t.len → from_off + len ≤ f.len → length read ≡ len
    → bytes_at (plain_of h) from from_off len ≡ Ok read → bytes ≡ read
    → IsStore h n (stored_in h to.serial to.addr to_off bytes) (is_blocked (table_of h) (to.addr + to_off) (length bytes)) result
    → IsStore h n (copied_at (plain_of h) to to_off from from_off len) (is_blocked (table_of h) (to.addr + to_off) len) result
copy_stored h n to from t f to_off from_off len read bytes result heap target source fits has long is same store = grind arith
