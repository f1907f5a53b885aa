use Rattle.std.proofs.Common.{◌≡◌, ◌∙◌, ℕ, Some, None, inl, inr, refl, sym}
use Rattle.std.proofs.lemmas.Bool.Decides.{eqb_tells}
use Rattle.savings_replay.specs.Records.{KeepsOthers}
use Rattle.mesh_spans.specs.Index.{Index, address_in, record_at, span_at}
use Rattle.savings_replay.proofs.heaps.TwoHeaps.new.Goals as goal

-- a slot with an object has it still where another slot, which had none, was given one
beside : (old new : Index) (span k other j : ℕ) (r : ℕ × ℕ) → KeepsOthers old new span k → record_at old span k ≡ None → record_at old other j ≡ Some r
    → record_at new other j ≡ Some r
beside old new span k other j r others vacant there = elim (eqb_tells other span) [
  | inl same ↦ elim (eqb_tells j k) [
    | inl here ↦
        let is_there : record_at old span k ≡ Some r = rw (← same.1, ← here.1) there in
        let clash : None ≡ Some r = sym vacant ∙ is_there in absurd (cc clash)
    | inr beyond ↦ others other j (inr beyond.1) ∙ there
  ]
  | inr beyond ↦ others other j (inl beyond.1) ∙ there
]

pub returns-clause-made : goal.returns-clause-made
returns-clause-made c =
    let a = c.in_ok-without.ensures in let b = c.in_ok-with.ensures in
    record {
      without_address = address_in (span_at c.place.new.placement.index.spans c.in_ok-without.without.0) c.in_ok-without.without.1;
      without_placed = a.placed;
      with_address = address_in (span_at c.place-2.new.placement.index.spans c.in_ok-with.with.0) c.in_ok-with.with.1;
      with_placed = b.placed;
      counts = refl;
      words = refl;
      members = refl;
      without_serial = a.serial;
      with_serial = b.serial;
      without_recorded = a.recorded;
      with_recorded = b.recorded;
      objects = λ other serial size at. record {
        without = beside _ _ _ _ other.without.0 other.without.1 (serial, size) a.others a.vacant at.without;
        with = beside _ _ _ _ other.with.0 other.with.1 (serial, size) b.others b.vacant at.with;
      };
    }
