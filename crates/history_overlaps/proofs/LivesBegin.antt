-- Calls begin: what is known of the objects.
use Rattle.std.proofs.Common.{◌≡◌, ◌≢◌, ℕ, ◌<◌, ◌⊎◌, inl, inr, List, [], ◌∷◌, ◌++◌, length, arith, sym, subst, ◌∙◌, Option, Some, None}
use Rattle.std.proofs.lemmas.Bool.Decides.{eqb_tells}
use Rattle.model_intervals.specs.Intervals.{Call}
use Rattle.model_intervals.specs.Objects.{Object as NewObject, IsFreedBy, IsMadeAt}
use Rattle.model_intervals.specs.OverlappingCalls.{IsAt, IsFree, cell_at}
use Rattle.history_overlaps.specs.Lives.{Lives, IsFreed, IsMade, NoneFrees}
use Rattle.history_overlaps.proofs.CallPlaces.{at_front, at_end, at_one}

pub freed_by_front : (calls more : List Call) (c m : ℕ) → IsFreedBy calls c m → IsFreedBy (calls ++ more) c m
freed_by_front calls more c m h = record { place = h.place; free = h.free; there = at_front calls more h.place h.free h.there; frees = h.frees; names = h.names; begun = h.begun }

pub freed_front : (calls more : List Call) (c : ℕ) → IsFreed calls c → IsFreed (calls ++ more) c
freed_front calls more c h = record { place = h.place; free = h.free; there = at_front calls more h.place h.free h.there; frees = h.frees; names = h.names }

pub made_front : (calls more : List Call) (i : ℕ) (a : Call) (x : NewObject) → IsMadeAt calls i a x → IsMadeAt (calls ++ more) i a x
made_front calls more i a x h = (at_front calls more i a h.0, h.1)

pub is_made_front : (calls more : List Call) (ended : ℕ → Type 0) (x : NewObject) → IsMade calls ended x → IsMade (calls ++ more) ended x
is_made_front calls more ended x h = record { place = h.place; call = h.call; over = h.over; there = made_front calls more h.place h.call x h.there }

module _ (calls : List Call) (call : Call) (ended : ℕ → Type 0) (below : (i : ℕ) → ended i → i < length calls) where
  -- a call that has ended is an old one
  pub old_place : (i : ℕ) (a : Call) → ended i → IsAt (calls ++ call ∷ []) i a → IsAt calls i a
  old_place i a over is = elim (at_one calls call i a is) [
    | inl old ↦ old
    | inr new ↦ absurd (let b = below i over in let e = new.0 in omega (arith, b, e))
  ]

  old_made : (i : ℕ) (a : Call) (x : NewObject) → ended i → IsMadeAt (calls ++ call ∷ []) i a x → IsMadeAt calls i a x
  old_made i a x over is = (old_place i a over is.0, is.1)

  module _ (live live' : ℕ → Option NewObject) (serials : ℕ → Type 0) (h : Lives calls ended live serials)
      (live_is : (c : ℕ) (x : NewObject) → live' c ≡ Some x → (x.cell ≡ c) × NoneFrees (calls ++ call ∷ []) c × IsMade (calls ++ call ∷ []) ended x)
      (made_is : (i : ℕ) (a : Call) (x : NewObject) → ended i → IsMadeAt calls i a x → (live' x.cell ≡ Some x) ⊎ IsFreed (calls ++ call ∷ []) x.cell) where
    begins : Lives (calls ++ call ∷ []) ended live' serials
    begins = record {
      fair = λ i a over is. h.fair i a over (old_place i a over is);
      has_serial = λ i a x over is. h.has_serial i a x over (old_made i a x over is);
      of_serial = λ s has. let m = h.of_serial s has in (m.0, is_made_front calls (call ∷ []) ended m.0 m.1, m.2);
      serials_once = λ i j a b x y apart over_i over_j at_i at_j. h.serials_once i j a b x y apart over_i over_j (old_made i a x over_i at_i) (old_made j b y over_j at_j);
      apart = λ i j a b x y apart over_i over_j at_i at_j meet. elim (h.apart i j a b x y apart over_i over_j (old_made i a x over_i at_i) (old_made j b y over_j at_j) meet) [
        | inl first ↦ inl (freed_by_front calls (call ∷ []) x.cell b.end first)
        | inr second ↦ inr (freed_by_front calls (call ∷ []) y.cell a.end second)
      ];
      live_is = live_is;
      made_is = λ i a x over is. made_is i a x over (old_made i a x over is);
    }

  -- a call that is no `free` begins
  pub another_begins : (live : ℕ → Option NewObject) (serials : ℕ → Type 0) → Lives calls ended live serials → (IsFree call.entry.command → ⊥)
      → Lives (calls ++ call ∷ []) ended live serials
  another_begins live serials h other = begins live live serials h
      (λ c x is. let l = h.live_is c x is in (
        l.0,
        λ place free there frees names. elim (at_one calls call place free there) [
          | inl old ↦ l.1 place free old frees names
          | inr new ↦ other (subst (λ (a : Call). IsFree a.entry.command) (sym new.1) frees)
        ],
        is_made_front calls (call ∷ []) ended x l.2,
      ))
      (λ i a x over is. elim (h.made_is i a x over is) [ inl alive ↦ inl alive | inr freed ↦ inr (freed_front calls (call ∷ []) x.cell freed) ])

  -- the `free` of a live object begins
  pub free_begins : (live live' : ℕ → Option NewObject) (serials : ℕ → Type 0) (cell : ℕ) → Lives calls ended live serials
      → IsFree call.entry.command → cell_at call ≡ cell → live' cell ≡ None → ((c : ℕ) → c ≢ cell → live' c ≡ live c)
      → Lives (calls ++ call ∷ []) ended live' serials
  free_begins live live' serials cell h frees names gone others = begins live live' serials h
      (λ c x is. elim (eqb_tells c cell) [
        | inl same ↦ absurd (let e = same.1 in let g = subst (λ (q : ℕ). live' q ≡ None) (sym e) gone in cc (is, g))
        | inr apart ↦ let l = h.live_is c x (sym (others c apart.1) ∙ is) in (
          l.0,
          λ place free there frees' names'. elim (at_one calls call place free there) [
            | inl old ↦ l.1 place free old frees' names'
            | inr new ↦ apart.1 (sym names' ∙ subst (λ (a : Call). cell_at a ≡ cell) new.1 names)
          ],
          is_made_front calls (call ∷ []) ended x l.2,
        )
      ])
      (λ i a x over is. elim (eqb_tells x.cell cell) [
        | inl same ↦ inr (record { place = length calls; free = call; there = at_end calls call; frees = frees; names = names ∙ sym same.1 })
        | inr apart ↦ elim (h.made_is i a x over is) [
          | inl alive ↦ inl (others x.cell apart.1 ∙ alive)
          | inr freed ↦ inr (freed_front calls (call ∷ []) x.cell freed)
        ]
      ])
