-- The bytes that are left of those that were read.
use Rattle.std.proofs.Common.{◌≡◌, ℕ, ◌+◌, ◌-◌, ◌≤◌, List, drop, length, slice_range, take, ap, sym, ◌∙◌, arith}
use Rattle.std.proofs.lemmas.List.{drop-drop, length-drop, length-take-le}
use Rattle.std.proofs.BufReadLemmas.{drop-take_min}
use Rattle.text_devices.specs.Pendings.{AreWithin}

-- the bytes of a range are as many as it has places
range_length : (buffer : List ℕ) (start end : ℕ) → AreWithin buffer start end → length (slice_range buffer start end) ≡ end - start
range_length buffer start end within =
    length-take-le (end - start) (drop start buffer) (omega (arith, within.within, within.in_order, length-drop start buffer))

-- the last bytes of a range
pub last_bytes : (buffer : List ℕ) (start end count : ℕ) → AreWithin buffer start end → count ≤ length (slice_range buffer start end)
    → slice_range buffer (end - count) end ≡ drop (length (slice_range buffer start end) - count) (slice_range buffer start end)
last_bytes buffer start end count within few =
    let len = range_length buffer start end within in
    let left : count ≤ end - start = omega (arith, len, few) in
    ap (λ (n : ℕ). take n (drop (end - count) buffer)) (let e : end - (end - count) ≡ end - start - (end - start - count) = omega (arith, left, within.in_order) in e)
    ∙ ap (λ (bytes : List ℕ). take (end - start - (end - start - count)) bytes) (let e : end - count ≡ start + (end - start - count) = omega (arith, left, within.in_order) in ap (λ (n : ℕ). drop n buffer) e ∙ sym (drop-drop (end - start - count) start buffer))
    ∙ sym (drop-take_min (drop start buffer) (end - start) (end - start - count) (end - start - count) (omega arith))
    ∙ ap (λ (n : ℕ). drop (n - count) (slice_range buffer start end)) (sym len)
