-- A range of addresses in one page, and in two.
use Rattle.std.proofs.Common.{◌≡◌, ◌≢◌, ℕ, ◌+◌, ◌-◌, ◌/◌, ◌%◌, ◌<◌, ◌≤◌, ◌++◌, List, length, get_or, refl, sym, ap, ◌∙◌, arith, ⊎_elim, length-append}
use Rattle.std.proofs.lemmas.List.{same_lists, get_or_append_left, get_or-append_right, get_or_default}
use Rattle.std.proofs.lemmas.Bool.{cases_lt, cases_eq}
use Rattle.mesh_arena.specs.Pages.{Pages, byte_at, run_of, length-run_of, slice_index-run_of, Writes}
use Rattle.mesh_pagemap.specs.Entries.{Entries, page_of}
use Rattle.mesh_store.specs.Places.{byte_of, AreBacked, IsOutside, Saves}

same_page : (addr k : ℕ) → addr % 4096 + k < 4096 → (addr + k) / 4096 ≡ addr / 4096
same_page addr k h = omega arith

same_offset : (addr k : ℕ) → addr % 4096 + k < 4096 → (addr + k) % 4096 ≡ addr % 4096 + k
same_offset addr k h = omega arith

same_address : (x y : ℕ) → x / 4096 ≡ y / 4096 → x % 4096 ≡ y % 4096 → x ≡ y
same_address x y e f = omega arith

-- the byte at an address further on in the same page
pub byte_of-same_page : (a : Pages) (m : Entries) (addr k : ℕ) → addr % 4096 + k < 4096 → byte_of a m (addr + k) ≡ byte_at a (page_of m (addr / 4096)) (addr % 4096 + k)
unfolding byte_of
byte_of-same_page a m addr k h =
    ap (λ v. byte_at a (page_of m v) ((addr + k) % 4096)) (same_page addr k h) ∙ ap (byte_at a (page_of m (addr / 4096))) (same_offset addr k h)

-- what a read in one page gives, by address
pub loaded : (a : Pages) (m : Entries) (addr len : ℕ) (out : List ℕ) → out ≡ run_of (byte_at a (page_of m (addr / 4096))) (addr % 4096) len → addr % 4096 + len ≤ 4096 → (k : ℕ) → k < len → get_or out k 0 ≡ byte_of a m (addr + k)
loaded a m addr len out e inside k l =
    ap (λ (xs : List ℕ). get_or xs k 0) e ∙ slice_index-run_of _ (addr % 4096) len k l ∙ sym (byte_of-same_page a m addr k (omega arith))

-- a list by its elements is the run of them
pub run_of-each : (f : ℕ → ℕ) (addr : ℕ) (out : List ℕ) → ((k : ℕ) → k < length out → get_or out k 0 ≡ f (addr + k)) → out ≡ run_of f addr (length out)
run_of-each f addr out each =
    same_lists out _ (sym (length-run_of f addr (length out))) (λ k d l.
    get_or_default out k d 0 l ∙ each k l ∙ sym (slice_index-run_of f addr (length out) k l) ∙ get_or_default _ k 0 d (rw length-run_of l))

-- two runs, one after the other
pub run_of-both : (f : ℕ → ℕ) (addr p q len : ℕ) (head tail : List ℕ) → length head ≡ p → length tail ≡ q → ((k : ℕ) → k < p → get_or head k 0 ≡ f (addr + k)) → ((k : ℕ) → k < q → get_or tail k 0 ≡ f ((addr + p) + k)) → p + q ≡ len → head ++ tail ≡ run_of f addr len
run_of-both f addr p q len head tail size rest first second count =
    let total : length (head ++ tail) ≡ len = length-append head tail ∙ (let e : length head + length tail ≡ len = omega arith in e) in
    let each : (k : ℕ) → k < length (head ++ tail) → get_or (head ++ tail) k 0 ≡ f (addr + k) = λ k l.
    ⊎_elim
    (λ (near : k < p). get_or_append_left head tail 0 k (omega arith) ∙ first k near)
    (λ (far : p ≤ k).
    get_or-append_right head tail p k 0 size far ∙ second (k - p) (omega arith) ∙ ap f (let e : (addr + p) + (k - p) ≡ addr + k = omega arith in e))
    (cases_lt k p) in
    run_of-each f addr (head ++ tail) each ∙ ap (run_of f addr) total

-- different addresses of a range have different places
places_apart : (a : Pages) (m : Entries) (addr len x y : ℕ) → AreBacked a m addr len → addr ≤ x → x < addr + len → addr ≤ y → y < addr + len → x ≢ y → page_of m (x / 4096) ≡ page_of m (y / 4096) → x % 4096 ≡ y % 4096 → ⊥
places_apart a m addr len x y backed from_x below_x from_y below_y ne page off =
    ⊎_elim
    (λ (e : x / 4096 ≡ y / 4096). ne (same_address x y e off))
    (λ (n : x / 4096 ≢ y / 4096). backed.apart x y from_x below_x from_y below_y n page)
    (cases_eq (x / 4096) (y / 4096))

-- a write in one page, by address
pub saves_run : (a b : Pages) (m : Entries) (addr : ℕ) (bytes : List ℕ) → Writes a b (page_of m (addr / 4096)) (addr % 4096) bytes → addr % 4096 + length bytes ≤ 4096 → Saves a b m addr bytes
saves_run a b m addr bytes writes inside = record {
  inside = λ k l. byte_of-same_page b m addr k (omega arith) ∙ writes.inside k l;
  outside = λ p o out.
      ⊎_elim
      (λ (here : p ≡ page_of m (addr / 4096)).
      rw here (⊎_elim
      (λ (l : o < addr % 4096). writes.before o l)
      (λ (from : addr % 4096 ≤ o).
      ⊎_elim
      (λ (l : o < addr % 4096 + length bytes).
      let j : ℕ = o - addr % 4096 in
      let near : addr % 4096 + j < 4096 = omega arith in
      absurd (out (addr + j) (omega arith) (omega arith) (ap (page_of m) (same_page addr j near) ∙ sym here) (same_offset addr j near ∙ (let e : addr % 4096 + j ≡ o = omega arith in e))))
      (λ (past : addr % 4096 + length bytes ≤ o). writes.after o past)
      (cases_lt o (addr % 4096 + length bytes)))
      (cases_lt o (addr % 4096))))
      (λ (ne : p ≢ page_of m (addr / 4096)). writes.other_bytes p o ne)
      (cases_eq p (page_of m (addr / 4096)));
  same_taken = writes.same_taken;
  same_free = writes.same_free;
  same_length = writes.same_length;
}

byte_of-outside : (b c : Pages) (m : Entries) (addr x : ℕ) (bytes : List ℕ) → Saves b c m addr bytes → IsOutside m addr (length bytes) (page_of m (x / 4096)) (x % 4096) → byte_of c m x ≡ byte_of b m x
unfolding byte_of
byte_of-outside b c m addr x bytes saves out = saves.outside (page_of m (x / 4096)) (x % 4096) out

saves_both : (a b c : Pages) (m : Entries) (addr : ℕ) (head tail : List ℕ) → AreBacked a m addr (length head + length tail) → Saves a b m addr head → Saves b c m (addr + length head) tail → Saves a c m addr (head ++ tail)
saves_both a b c m addr head tail backed first second =
    let count : length (head ++ tail) ≡ length head + length tail = length-append head tail in
    record {
      inside = λ k l.
          ⊎_elim
          (λ (near : k < length head).
          byte_of-outside b c m (addr + length head) (addr + k) tail second (λ x from below page off. places_apart a m addr (length head + length tail) x (addr + k) backed (omega arith) (omega arith) (omega arith) (omega arith) (omega arith) page off)
          ∙ first.inside k near ∙ sym (get_or_append_left head tail 0 k near))
          (λ (far : length head ≤ k).
          ap (byte_of c m) (let e : addr + k ≡ (addr + length head) + (k - length head) = omega arith in e)
          ∙ second.inside (k - length head) (omega arith) ∙ sym (get_or-append_right head tail (length head) k 0 refl far))
          (cases_lt k (length head));
      outside = λ p o out.
          second.outside p o (λ x from below page off. out x (omega arith) (omega arith) page off)
          ∙ first.outside p o (λ x from below page off. out x from (omega arith) page off);
      same_taken = λ p. second.same_taken p ∙ first.same_taken p;
      same_free = second.same_free ∙ first.same_free;
      same_length = second.same_length ∙ first.same_length;
    }

-- two saves, one after the other in a range of backed addresses
pub saves_parts : (a b c : Pages) (m : Entries) (addr p : ℕ) (head tail bytes : List ℕ) → AreBacked a m addr (length bytes) → bytes ≡ head ++ tail → length head ≡ p → Saves a b m addr head → Saves b c m (addr + p) tail → Saves a c m addr bytes
saves_parts a b c m addr p head tail bytes backed whole size first second =
    let count : length bytes ≡ length head + length tail = ap length whole ∙ length-append head tail in
    rw whole (saves_both a b c m addr head tail (rw count at backed) first (rw (← size) at second))
