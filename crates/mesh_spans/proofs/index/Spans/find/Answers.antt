use Rattle.std.proofs.Common.{◌≡◌, ◌+◌, ◌<◌, ℕ, Option, Some, None, refl, ap, ◌∙◌}
use Rattle.mesh_class.specs.Classes.{slots_of}
use Rattle.model_heap.specs.Table.{slot_address}
use Rattle.mesh_spans.specs.Index.{GroupEntry, Index, IsLedTo, SpanEntry, address_in, span_at}
use Rattle.mesh_spans.proofs.index.Spans.find.Goals as goal

-- the parts of equal pairs are equal
parts : (a b k o : ℕ) → ◌≡◌ {A = Option (ℕ × ℕ)} (Some (a, b)) (Some (k, o)) → (a ≡ k) × (b ≡ o)
parts a b k o e = let same : ◌≡◌ {A = ℕ × ℕ} (a, b) (k, o) = cc e in (ap (λ (p : ℕ × ℕ). p.0) same, ap (λ (p : ℕ × ℕ). p.1) same)

pub returns-in_err-span-clause-found : goal.returns-in_err-span-clause-found
returns-in_err-span-clause-found c = λ n place k o group at within below small is.
    absurd (cc ((c.in_err-span.ensures.found n place k o group at within below small is).found_is))

-- what a span that an address leads to finds of it
found_in : (index : Index) (n member span k o addr : ℕ) (group : GroupEntry) (extent : SpanEntry) (found : Option (ℕ × ℕ)) → IsLedTo index n member group.class (Some span)
    → extent ≡ span_at index.spans span → k < slots_of group.class → o < group.class
    → slot_address (span_at index.spans member).first group.class k + o ≡ addr
    → ((k o : ℕ) → k < slots_of extent.class → o < extent.class → address_in extent k + o ≡ addr → found ≡ Some (k, o))
    → (span ≡ member) × (found ≡ Some (k, o))
found_in index n member span k o addr group extent found led read below small is finds =
    let same : span ≡ member = let both = led.found_is in cc both in
    let entry : extent ≡ span_at index.spans member = read ∙ ap (span_at index.spans) same in
    let class : extent.class ≡ group.class = ap (λ (s : SpanEntry). s.class) entry ∙ led.class_is in
    (same, finds k o (rw class below) (rw class small) (rw (class, (ap (λ (s : SpanEntry). s.first) entry)) is))

pub returns-in_err-slot-clause-found : goal.returns-in_err-slot-clause-found
returns-in_err-slot-clause-found c = λ n place k o group at within below small is.
    let led = c.in_ok-span.ensures.found n place k o group at within below small is in
    let both = found_in _ _ _ _ _ _ _ group _ _ led c.extent.ensures below small is c.in_err-slot.ensures.found in
    let two : ◌≡◌ {A = Option (ℕ × ℕ)} None (Some (k, o)) = both.1 in
    absurd (cc two)

pub returns-clause-found : goal.returns-clause-found
returns-clause-found c = λ n place k o group at within below small is.
    let led = c.in_ok-span.ensures.found n place k o group at within below small is in
    let both = found_in _ _ _ _ _ _ _ group _ _ led c.extent.ensures below small is c.in_ok-slot.ensures.found in
    let same = parts _ _ _ _ both.1 in
    record { found_is = rw (both.0, same.0, same.1) refl; below = led.below; group_is = led.group_is }
