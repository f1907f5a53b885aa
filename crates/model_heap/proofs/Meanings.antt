-- What a heap means: its objects by serial, their bytes, and what a store leaves of it.
use Rattle.std.proofs.Common.{◌≡◌, ◌≢◌, ℕ, zero, suc, ◌+◌, ◌-◌, ◌<◌, ◌≤◌, List, ◌++◌, length, map, take, drop, get_or, set, slice_range, slice_index, option_map, ap, refl, sym, ◌∙◌, arith, ◌⊎◌, inl, inr, Option, Some, None, length-append, append_assoc, ext_get_or}
use Rattle.std.specs.List.{range_with_len}
use Rattle.std.proofs.lemmas.Bool.Decides.{eqb_tells, leb_tells}
use Rattle.std.proofs.lemmas.List.{get_or-set_same, get_or-set_other, get_or_past, get_or-take, get_or-drop, get_or_append_left, get_or-append_right, length-take, length-drop, length-set}
use Rattle.std.proofs.lemmas.List.FromFn.{length-map-range_with_len, get_or-map-range_with_len}
use Rattle.model_heap.specs.MeaningLaws.{StoreChangesMeaning}
use Rattle.model_memory.specs.Memory.{Memory, Object, next_serial, object_of, overwritten}
use Rattle.model_heap.specs.Places.{Place, Record, Target, byte_of, meaning, object_at, AreBelow, IsIn, record_with}

-- the next serial of what a heap means is its own
pub meaning_next : (next : ℕ) (records : List Record) (targets : ℕ → Target) (bytes : Place → ℕ) (roots : List (Option ℕ))
    → next_serial (meaning next records targets bytes roots) ≡ next
meaning_next next records targets bytes roots = grind (arith, length-map-range_with_len)

-- below the next serial, the object of a serial is that of its record
pub object_below : (next : ℕ) (records : List Record) (targets : ℕ → Target) (bytes : Place → ℕ) (roots : List (Option ℕ)) (serial : ℕ) → serial < next
    → object_of (meaning next records targets bytes roots) serial ≡ option_map (object_at targets bytes) (record_with serial records)
object_below next records targets bytes roots serial below = grind (arith, get_or-map-range_with_len)

-- from the next serial on, there is no object
pub object_past : (next : ℕ) (records : List Record) (targets : ℕ → Target) (bytes : Place → ℕ) (roots : List (Option ℕ)) (serial : ℕ) → next ≤ serial
    → object_of (meaning next records targets bytes roots) serial ≡ None
object_past next records targets bytes roots serial past =
    let long = meaning_next next records targets bytes roots in
    get_or_past (meaning next records targets bytes roots).objects serial None (omega (arith, long, past))

-- the object of a serial is that of its record
pub meaning_objects : (next : ℕ) (records : List Record) (targets : ℕ → Target) (bytes : Place → ℕ) (roots : List (Option ℕ)) (serial : ℕ)
    → AreBelow next records → object_of (meaning next records targets bytes roots) serial ≡ option_map (object_at targets bytes) (record_with serial records)
meaning_objects next records targets bytes roots serial all =
    grind (arith, object_below next records targets bytes roots serial, object_past next records targets bytes roots serial)

-- an element of a list made from a range of numbers
made_at : (f : ℕ → ℕ) (a n k : ℕ) → k < n → get_or (map f (range_with_len a n)) k 0 ≡ f (a + k)
made_at f a n k below = get_or-map-range_with_len f a n k (a + k) 0 below refl

-- a byte of an object is the one at the place of its address
pub byte_read : (targets : ℕ → Target) (bytes : Place → ℕ) (r : Record) (k : ℕ) → k < r.len
    → slice_index (object_at targets bytes r).bytes k ≡ byte_of targets bytes (r.address + k)
byte_read targets bytes r k below = made_at (byte_of targets bytes) r.address r.len k below

-- a part of a list made from a range of numbers is made from that part of the range
part_made : (f : ℕ → ℕ) (a n off len : ℕ) → off + len ≤ n
    → slice_range (map f (range_with_len a n)) off (off + len) ≡ map f (range_with_len (a + off) len)
part_made f a n off len fits = ext_get_or 0 (slice_range whole off (off + len)) (map f (range_with_len (a + off) len))
    (let other = length-map-range_with_len f (a + off) len in omega (arith, other, long)) (λ i below. at i (omega (arith, below, long)))
  where
    whole : List ℕ
    whole = map f (range_with_len a n)

    long : length (slice_range whole off (off + len)) ≡ len
    long = let all = length-map-range_with_len f a n in simp (length-take, length-drop) (omega (arith, all, fits))

    at : (i : ℕ) → i < len → get_or (slice_range whole off (off + len)) i 0 ≡ get_or (map f (range_with_len (a + off) len)) i 0
    at i below = get_or-take (off + len - off) (drop off whole) i 0 (omega (arith, below)) ∙ get_or-drop off whole i 0
        ∙ get_or-map-range_with_len f a n (off + i) (a + off + i) 0 (omega (arith, below, fits)) (omega arith)
        ∙ sym (made_at f (a + off) len i below)

-- the bytes of a part of an object are those at the places of its addresses
pub bytes_read : (targets : ℕ → Target) (bytes : Place → ℕ) (r : Record) (off len : ℕ) → off + len ≤ r.len
    → slice_range (object_at targets bytes r).bytes off (off + len) ≡ map (byte_of targets bytes) (range_with_len (r.address + off) len)
bytes_read targets bytes r off len fits = part_made (byte_of targets bytes) r.address r.len off len fits

-- what agrees on a range of numbers makes one list of it
pub made_same : {X : Type 0} (f g : ℕ → X) (a n : ℕ) → ((x : ℕ) → a ≤ x → x < a + n → f x ≡ g x) → map f (range_with_len a n) ≡ map g (range_with_len a n)
made_same f g a zero h = refl
made_same f g a (suc n) h = grind (arith, made_same f g (a + 1) n)

-- an object whose bytes stay is the same
pub object_same : (targets targets' : ℕ → Target) (bytes bytes' : Place → ℕ) (r : Record)
    → ((x : ℕ) → IsIn r x → byte_of targets' bytes' x ≡ byte_of targets bytes x) → object_at targets' bytes' r ≡ object_at targets bytes r
object_same targets targets' bytes bytes' r h = grind (arith, made_same (byte_of targets' bytes') (byte_of targets bytes) r.address r.len)

-- a record's object, if there is a record, is the same where its bytes stay
pub record_same : (targets targets' : ℕ → Target) (bytes bytes' : Place → ℕ) (o : Option Record)
    → ((x : ℕ) (r : Record) → o ≡ Some r → IsIn r x → byte_of targets' bytes' x ≡ byte_of targets bytes x)
    → option_map (object_at targets' bytes') o ≡ option_map (object_at targets bytes) o
record_same targets targets' bytes bytes' None h = refl
record_same targets targets' bytes bytes' (Some r) h = ap Some (object_same targets targets' bytes bytes' r (λ x within. h x r refl within))

-- where records and their bytes stay, so does what a heap means
pub means_same : (next : ℕ) (records records' : List Record) (targets targets' : ℕ → Target) (bytes bytes' : Place → ℕ) (roots : List (Option ℕ))
    → ((serial : ℕ) → record_with serial records' ≡ record_with serial records)
    → ((serial x : ℕ) (r : Record) → record_with serial records ≡ Some r → IsIn r x → byte_of targets' bytes' x ≡ byte_of targets bytes x)
    → meaning next records' targets' bytes' roots ≡ meaning next records targets bytes roots
means_same next records records' targets targets' bytes bytes' roots same kept = grind (arith, made_same)

-- a list made from a range, where one number makes something else, is the list with that put there
pub made_with : (f g : ℕ → Option Object) (n s : ℕ) (v : Option Object) → s < n → f s ≡ v → ((i : ℕ) → i ≢ s → f i ≡ g i)
    → map f (range_with_len 0 n) ≡ set (map g (range_with_len 0 n)) s v
made_with f g n s v below is others = ext_get_or None (map f (range_with_len 0 n)) (set whole s v) (long ∙ sym long')
    (λ i within. at i (omega (arith, within, long)))
  where
    whole : List (Option Object)
    whole = map g (range_with_len 0 n)

    long : length (map f (range_with_len 0 n)) ≡ n
    long = length-map-range_with_len f 0 n

    long' : length (set whole s v) ≡ n
    long' = length-set whole s v ∙ length-map-range_with_len g 0 n

    at : (i : ℕ) → i < n → get_or (map f (range_with_len 0 n)) i None ≡ get_or (set whole s v) i None
    at i within = get_or-map-range_with_len f 0 n i i None within (omega arith) ∙ elim (eqb_tells i s) [
      | inl same ↦ ap f same.1 ∙ is ∙ sym (get_or-set_same whole s v None (let all = length-map-range_with_len g 0 n in omega (arith, all, below)))
          ∙ ap (λ (k : ℕ). get_or (set whole s v) k None) (sym same.1)
      | inr other ↦ others i other.1 ∙ sym (get_or-map-range_with_len g 0 n i i None within (omega arith))
          ∙ sym (get_or-set_other whole s i v None other.1)
    ]

-- bytes overwritten in a list made from a range of numbers
overwritten_made : (f g : ℕ → ℕ) (a n off : ℕ) (new : List ℕ) → off + length new ≤ n
    → ((k : ℕ) → k < length new → f (a + off + k) ≡ get_or new k 0)
    → ((x : ℕ) → (a ≤ x) × (x < a + n) → (x < a + off) ⊎ (a + off + length new ≤ x) → f x ≡ g x)
    → map f (range_with_len a n) ≡ overwritten (map g (range_with_len a n)) off new
overwritten_made f g a n off new fits written kept = ext_get_or 0 (map f (range_with_len a n)) parts
    (long ∙ sym long') (λ i below. made_at f a n i (omega (arith, below, long)) ∙ at i (omega (arith, below, long)))
    ∙ sym (append_assoc (take off old) new (drop (off + length new) old))
  where
    old : List ℕ
    old = map g (range_with_len a n)

    parts : List ℕ
    parts = take off old ++ (new ++ drop (off + length new) old)

    old_long : length old ≡ n
    old_long = length-map-range_with_len g a n

    long : length (map f (range_with_len a n)) ≡ n
    long = length-map-range_with_len f a n

    long' : length (parts) ≡ n
    long' = simp (length-append, length-take, length-drop) (omega (arith, old_long, fits))

    before : length (take off old) ≡ off
    before = simp (length-take) (omega (arith, old_long, fits))

    at : (i : ℕ) → i < n → f (a + i) ≡ get_or (parts) i 0
    at i within = elim (leb_tells (suc i) off) [
      | inl low ↦ kept (a + i) (omega arith, omega (arith, within)) (inl (omega (arith, low.1))) ∙ sym (made_at g a n i within)
          ∙ sym (get_or-take off old i 0 low.1)
          ∙ sym (get_or_append_left (take off old) (new ++ drop (off + length new) old) 0 i (omega (arith, low.1, before)))
      | inr from ↦ let right : get_or (parts) i 0 ≡ get_or (new ++ drop (off + length new) old) (i - off) 0
          = get_or-append_right (take off old) (new ++ drop (off + length new) old) off i 0 before (omega (arith, from.1)) in
          elim (leb_tells (suc (i - off)) (length new)) [
            | inl inside ↦ let same : a + i ≡ a + off + (i - off) = omega (arith, from.1) in
                ap f same ∙ written (i - off) inside.1 ∙ sym (get_or_append_left new (drop (off + length new) old) 0 (i - off) inside.1) ∙ sym right
            | inr past ↦ let same : off + length new + (i - off - length new) ≡ i = omega (arith, from.1, past.1) in
                kept (a + i) (omega arith, omega (arith, within)) (inr (omega (arith, from.1, past.1))) ∙ sym (made_at g a n i within)
                ∙ ap (λ (k : ℕ). get_or old k 0) (sym same)
                ∙ sym (get_or-drop (off + length new) old (i - off - length new) 0)
                ∙ sym (get_or-append_right new (drop (off + length new) old) (length new) (i - off) 0 refl (omega (arith, past.1))) ∙ sym right
          ]
    ]

-- bytes stored at the places of a part of one object, while those of all other live bytes stay, are stored in the
-- object
pub store_means : StoreChangesMeaning
store_means next records targets bytes bytes' roots r off new below is fits written kept others =
    ap {B = Memory} (λ (os : List (Option Object)). record { objects = os; roots = roots })
    (made_with (objects_by bytes') (objects_by bytes) next r.serial (Some after) below here there)
  where
    objects_by : (Place → ℕ) → ℕ → Option Object
    objects_by b serial = option_map (object_at targets b) (record_with serial records)

    after : Object
    after = record { address = r.address; bytes = overwritten (object_at targets bytes r).bytes off new }

    here : objects_by bytes' r.serial ≡ Some after
    here = grind (arith, overwritten_made (byte_of targets bytes') (byte_of targets bytes) r.address r.len off new fits written kept)

    there : (i : ℕ) → i ≢ r.serial → objects_by bytes' i ≡ objects_by bytes i
    there i apart = record_same targets targets bytes bytes' (record_with i records) (λ x q found within. others i x q found apart within)
