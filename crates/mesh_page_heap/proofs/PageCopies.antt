-- A copy between two groups' pages by a copy of the arena.
use Rattle.std.proofs.Common.{◌≡◌, ℕ, ◌+◌, ◌-◌, ◌/◌, ◌%◌, ◌<◌, ◌≤◌, length, ap, subst, sym, ◌∙◌, arith, inl, inr}
use Rattle.std.proofs.lemmas.Bool.Decides.{eqb_tells, leb_tells}
use Rattle.mesh_arena.specs.Pages.{Pages, Writes, byte_at, length-run_of, run_of, slice_index-run_of}
use Rattle.mesh_page_heap.specs.Layout.{Layout}
use Rattle.mesh_page_heap.specs.StepChanges.{Copies}

-- a run within one page
pub copies_run : (l : Layout) (arena arena' : Pages) (s d from len : ℕ) → from % 4096 + len ≤ 4096
    → Writes arena arena' (l.page d (from / 4096)) (from % 4096) (run_of (byte_at arena (l.page s (from / 4096))) (from % 4096) len)
    → Copies l arena arena' s d from len
copies_run l arena arena' s d from len fits writes = record {
  inside = λ x low high.
      let page : x / 4096 ≡ from / 4096 = omega (arith, low, high, fits) in
      let k : ℕ = x % 4096 - from % 4096 in
      let at : from % 4096 + k ≡ x % 4096 = omega (arith, low, high, fits) in
      let below : k < len = omega (arith, low, high, fits) in
      let wrote : byte_at arena' (l.page d (from / 4096)) (from % 4096 + k) ≡ byte_at arena (l.page s (from / 4096)) (from % 4096 + k)
      = writes.inside k (omega (arith, below, long)) ∙ slice_index-run_of (byte_at arena (l.page s (from / 4096))) (from % 4096) len k below in
      rw (page, ← at) wrote;
  outside = λ p o none. elim (eqb_tells p (l.page d (from / 4096))) [
    | inr other ↦ writes.other_bytes p o other.1
    | inl same ↦ subst (λ (q : ℕ). byte_at arena' q o ≡ byte_at arena q o) (sym same.1) (elim (leb_tells (from % 4096) o) [
      | inr before ↦ writes.before o before.1
      | inl low ↦ elim (leb_tells (from % 4096 + len) o) [
        | inl after ↦ writes.after o (let a = after.1 in omega (arith, a, long))
        | inr high ↦ absurd (let x : ℕ = from + (o - from % 4096) in
            let page : x / 4096 ≡ from / 4096 = omega (arith, low.1, high.1, fits) in
            none x (omega arith) (omega (arith, low.1, high.1)) (ap (l.page d) page ∙ sym same.1) (omega (arith, low.1, high.1, fits)))
      ]
    ])
  ];
  same_taken = writes.same_taken;
  same_length = writes.same_length;
}
  where
    long : length (run_of (byte_at arena (l.page s (from / 4096))) (from % 4096) len) ≡ len
    long = length-run_of (byte_at arena (l.page s (from / 4096))) (from % 4096) len
