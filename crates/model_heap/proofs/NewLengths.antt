-- The length of a new object that is not refused.
use Rattle.std.proofs.Common.{◌≡◌, ℕ, ◌≤◌, false, nat_eq, Ok}
use Rattle.model_words.proofs.Chains.{or_refuse_went, refuse_if_went}
use Rattle.model_words.proofs.Tests.{positive}
use Rattle.model_words.specs.Classes.{class_for}
use Rattle.model_heap.specs.Table.{Placed, Table, place_new}
use Rattle.model_words.specs.declared.refusals.Refusal.TheVariants.{TooLarge, Zero}
use Rattle.model_words.proofs.ClassSizes.{class_some}

-- the length of a new object that is not refused
pub record IsNewLength (len : ℕ) : Type 0 where
  pub some : nat_eq len 0 ≡ false
  pub few : len ≤ 2048

-- a new object that is not refused is of 1 to 2048 bytes
pub new_length : (t : Table) (len word serial : ℕ) (placed : Placed) → place_new t len word serial ≡ Ok placed → IsNewLength len
new_length t len word serial placed h =
    let some = refuse_if_went Zero (nat_eq len 0) _ placed h in
    let class = or_refuse_went TooLarge (class_for len) _ placed some.1 in
    record { some = some.0; few = class_some len class.value class.is }

-- and so of at least one byte
pub new_has_length : (t : Table) (len word serial : ℕ) (placed : Placed) → place_new t len word serial ≡ Ok placed → (1 ≤ len) × (len ≤ 2048)
new_has_length t len word serial placed h = let is = new_length t len word serial placed h in (positive len is.some, is.few)
