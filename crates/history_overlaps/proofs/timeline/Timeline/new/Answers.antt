use Rattle.std.proofs.Common.{◌≡◌, ℕ, [], None, refl}
use Rattle.std.specs.Ordering.{nat_cmp}
use Rattle.std.specs.BTreeMap.{BTreeMap, get}
use Rattle.history_number_set.specs.Ranges.{Has}
use Rattle.history_overlaps.proofs.BeginSteps.{nothing_stands}
use Rattle.history_overlaps.proofs.timeline.Timeline.new.Goals as goal

none_there : {X : Type 0} (m : BTreeMap ℕ X) → m.entries ≡ [] → (k : ℕ) → get nat_cmp m k ≡ None
none_there m empty k = rw empty refl

pub returns-clause-stands : goal.returns-clause-stands
returns-clause-stands c = nothing_stands (get nat_cmp c.new.result) (get nat_cmp c.new-2.result) (get nat_cmp c.new-3.result)
    (Has c.new-4.result) (Has c.new-5.result) (Has c.new-6.result)
    (none_there c.new.result c.new.ensures.empty) (none_there c.new-2.result c.new-2.ensures.empty) (none_there c.new-3.result c.new-3.ensures.empty)
    c.new-4.ensures c.new-5.ensures c.new-6.ensures
