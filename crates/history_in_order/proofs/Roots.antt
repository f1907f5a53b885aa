-- What a cell holds, and which object it names.
use Rattle.std.proofs.Common.{◌≡◌, ℕ, refl, subst, ap, ◌∙◌, Some, None, Ok, Err}
use Rattle.std.specs.Ordering.{nat_cmp}
use Rattle.std.specs.BTreeMap.{get}
use Rattle.model_memory.specs.Memory.{object_of, root_of}
use Rattle.model_memory.specs.Plain.{named_by}
use Rattle.model_history.specs.Recorded.{Recorded}
use Rattle.model_words.specs.declared.refusals.Refusal.TheVariants.{Empty, Freed as IsFreedAlready}
use Rattle.history_in_order.specs.Cells.{IsHeld, number_at}
use Rattle.history_in_order.specs.Objects.{LiveObject, object_in}
use Rattle.history_in_order.specs.Stands.{IsGone, Stands}
use Rattle.history_in_order.specs.declared.cells.Held.{Held}
use Rattle.history_in_order.specs.declared.cells.Held.TheVariants.{Number, Freed}
use Rattle.history_in_order.specs.declared.memory.Tracked.{Tracked}

-- a cell that holds no number has none in the memory
pub root_empty : (m : Tracked) (r : Recorded) (cell : ℕ) → Stands m r → IsHeld m.cells cell None → root_of r.memory cell ≡ None
root_empty m r cell st is = st.empty cell is.0 is.1

-- one that holds a number has one, which is that of no live object where it is gone
pub record IsRoot (m : Tracked) (r : Recorded) (cell : ℕ) (held : Held) : Type 0 where
  pub number : ℕ
  pub is_there : root_of r.memory cell ≡ Some number
  pub gone : IsGone m held → object_of r.memory number ≡ None

pub root_is : (m : Tracked) (r : Recorded) (cell : ℕ) (held : Held) → Stands m r → IsHeld m.cells cell (Some held) → IsRoot m r cell held
root_is m r cell (Number n) st is = record { number = n; is_there = st.root cell n is; gone = λ none. st.object n ∙ ap object_in none }
root_is m r cell Freed st is = let was = st.freed cell is in record { number = was.0; is_there = was.2; gone = λ _. st.object was.0 ∙ was.3 }

pub held_root : (m : Tracked) (r : Recorded) (cell n : ℕ) (held : Held) → Stands m r → IsHeld m.cells cell (Some held) → held ≡ Number n → root_of r.memory cell ≡ Some n
held_root m r cell n held st is number = st.root cell n (subst (λ (h : Held). IsHeld m.cells cell (Some h)) number is)

-- the live object that it names
pub object_is : (m : Tracked) (r : Recorded) (n : ℕ) (live : LiveObject) → Stands m r → get nat_cmp m.objects n ≡ Some live → object_of r.memory n ≡ Some live.object
object_is m r n live st at = st.object n ∙ ap object_in at

pub named_is : (m : Tracked) (r : Recorded) (cell n : ℕ) (live : LiveObject) → Stands m r → number_at m.cells cell ≡ Some n → get nat_cmp m.objects n ≡ Some live
    → named_by r.memory cell ≡ Ok (record { serial = n; object = live.object })
named_is m r cell n live st holds at =
    let is = st.root cell n holds in
    let there = object_is m r n live st at in rw is (rw there refl)

-- an empty cell names none
pub named_empty : (m : Tracked) (r : Recorded) (cell : ℕ) → Stands m r → IsHeld m.cells cell None → named_by r.memory cell ≡ Err Empty
named_empty m r cell st is = let none = root_empty m r cell st is in rw none refl

-- nor does one of an object that is no longer live
pub named_freed : (m : Tracked) (r : Recorded) (cell : ℕ) (held : Held) → Stands m r → IsHeld m.cells cell (Some held) → IsGone m held
    → named_by r.memory cell ≡ Err IsFreedAlready
named_freed m r cell held st is gone =
    let root = root_is m r cell held st is in
    let there = root.is_there in
    let none = root.gone gone in rw there (rw none refl)
