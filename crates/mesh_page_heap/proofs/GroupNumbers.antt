-- The numbers of the groups that there are.
use Rattle.std.proofs.Common.{◌≡◌, ℕ, ◌<◌, List, Option, Some, None, length, sym, ◌∙◌, inl, inr}
use Rattle.std.proofs.lemmas.Bool.Decides.{leb_tells}
use Rattle.std.proofs.lemmas.List.{get_or_past}
use Rattle.mesh_spans.specs.Index.{GroupEntry, group_at}

-- a group's number is below their count
pub group_below : (groups : List (Option GroupEntry)) (n : ℕ) (a : GroupEntry) → group_at groups n ≡ Some a → n < length groups
group_below groups n a there = elim (leb_tells (length groups) n) [
  | inr less ↦ less.1
  | inl past ↦ absurd (let two : ◌≡◌ {A = Option GroupEntry} None (Some a) = sym (get_or_past groups n None past.1) ∙ there in cc two)
]
