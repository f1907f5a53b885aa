-- The counter of an arena stays tied to its pages.
use Rattle.std.proofs.Common.{◌≡◌, ℕ, ◌+◌, ◌-◌, ◌<◌, ◌≤◌, false, List, Some, None, length, set, sym, ◌∙◌, arith, length-set, ⊎_elim}
use Rattle.std.proofs.lemmas.Bool.{cases_lt}
use Rattle.mesh_arena.specs.Pages.{Pages, IsTaken, is_taken, blank_page, Takes, Gives}
use Rattle.mesh_arena.specs.Tied.{IsTied}
use Rattle.mesh_arena.proofs.Counts.{none_free, free_count-le-length}
use Rattle.mesh_arena.proofs.Changes.{takes, gives, free_count-set_some}

-- the counter stays tied where the lowest free page is taken
pub tied_by_take : (a : Pages) (free p : ℕ) → IsTied a free → p < length a → is_taken a p ≡ false → ((q : ℕ) → q < p → IsTaken a q) → IsTied (set a p (Some blank_page)) (free - 1)
tied_by_take a free p tied h was_free below =
    let change : Takes a (set a p (Some blank_page)) p = takes a p h was_free below in
    record {
      few = omega (arith, change.same_length, tied.few);
      counted = omega (arith, change.fewer, tied.counted);
    }

-- the counter stays tied where a taken page is freed
pub tied_by_give : (a : Pages) (free p : ℕ) → IsTied a free → IsTaken a p → IsTied (set a p None) (free + 1)
tied_by_give a free p tied taken =
    let change : Gives a (set a p None) p = gives a p taken in
    record {
      few = omega (arith, change.same_length, tied.few);
      counted = omega (arith, change.more, tied.counted);
    }

-- the counter stays tied where a taken page's bytes change
pub tied_by_write : (a : Pages) (free p : ℕ) (bytes : List ℕ) → IsTied a free → IsTaken a p → IsTied (set a p (Some bytes)) free
tied_by_write a free p bytes tied taken = record {
  few = omega (arith, length-set a p (Some bytes), tied.few);
  counted = tied.counted ∙ sym (free_count-set_some a p bytes taken);
}

-- a place below which all pages are taken is a page's as long as some page is free
pub found : (a : Pages) (free p : ℕ) → IsTied a free → 0 < free → p ≤ length a → ((q : ℕ) → q < p → IsTaken a q) → p < length a
found a free p tied some within passed =
    ⊎_elim
    (λ (l : p < length a). l) (λ (past : length a ≤ p). absurd (omega (arith, some, tied.counted, none_free _ (λ q l. passed q (omega (arith, l, past))))))
    (cases_lt p (length a))

-- fewer pages are free than a counter holds
pub tied-small : (a : Pages) (free : ℕ) → IsTied a free → free ≤ 4096
tied-small a free tied = omega (arith, free_count-le-length a, tied.few, tied.counted)
