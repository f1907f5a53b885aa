use Rattle.std.proofs.Common.{◌≡◌, ℕ, Option, Some, None, slice_index, ap}
use Rattle.mesh_page_heap.proofs.NewPlaces.{found_recorded}
use Rattle.mesh_page_heap.proofs.page_heap.PageHeap.occupied_at.Goals as goal

-- nothing is not something
no_triple : (x : ℕ × ℕ × ℕ) → ◌≡◌ {A = Option (ℕ × ℕ × ℕ)} None (Some x) → ⊥
no_triple x e = cc e

pair : (a b x y : ℕ) → ◌≡◌ {A = Option (ℕ × ℕ)} (Some (a, b)) (Some (x, y)) → (a ≡ x) × (b ≡ y)
pair a b x y e = let same : ◌≡◌ {A = ℕ × ℕ} (a, b) (x, y) = cc e in (ap (λ (p : ℕ × ℕ). p.0) same, ap (λ (p : ℕ × ℕ). p.1) same)

no_pair : (x : ℕ × ℕ) → ◌≡◌ {A = Option (ℕ × ℕ)} None (Some x) → ⊥
no_pair x e = cc e

pub returns-in_err-span-clause-found : goal.returns-in_err-span-clause-found
returns-in_err-span-clause-found c = rw (← c.self.view_is) (λ n place k o group serial len at within below small filled is.
    absurd (no_triple (slice_index group.members place, k, o) (c.in_err-span.ensures.found n place k o group at within below small is).found_is))

pub returns-in_err-serial-clause-found : goal.returns-in_err-serial-clause-found
returns-in_err-serial-clause-found c = rw (← c.self.view_is) (λ n place k o group serial len at within below small filled is.
    let found = c.in_ok-span.ensures.found n place k o group at within below small is in
    absurd (no_pair _ (found_recorded _ _ _ _ _ _ _ _ _ _ _ _ found at filled c.in_err-serial.ensures.value).0))

pub returns-clause-found : goal.returns-clause-found
returns-clause-found c = rw (← c.self.view_is) (λ n place k o group serial len at within below small filled is.
    let found = c.in_ok-span.ensures.found n place k o group at within below small is in
    let there = found_recorded _ _ _ _ _ _ _ _ _ _ _ _ found at filled c.in_ok-serial.ensures.value in
    let both = pair _ _ _ _ there.0 in
    (both.0, there.1, both.1))
