-- Why no configuration is left at the end of a call.
use Rattle.std.specs.Prelude.{◌≡◌, ℕ, Bool, Option, Some, slice_get}
use Rattle.history_object.specs.declared.refutation.Refutation.{Refutation}
use Rattle.history_object.specs.Parts.{AreMetAtEnd}
use Rattle.history_object.specs.Standings.{Standing}

-- the refutation has the call that was pending at the place, and the configurations that were met at its end
abbrev pub IsRefuted : {O S C : Type 0} → (S → C → Option S) → (S → C → Bool) → (C → C → Bool) → Standing S C → ℕ → Refutation O S C → Type 0
IsRefuted effect reads conflict old place refutation = (slice_get old.pending place ≡ Some (Some refutation.call))
    × AreMetAtEnd effect reads conflict old.pending place old.kept refutation.met
