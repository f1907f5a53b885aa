-- Why no mesh of two groups begins, and when one may.
use Rattle.std.proofs.Common.{◌≡◌, ◌≢◌, ℕ, ◌+◌, ◌<◌, ◌≤◌, Bool, true, false, Some, None, Ok, Err, length, refl, arith}
use Rattle.model_heap.specs.Mesh.{do_overlap, may_begin}
use Rattle.model_heap.specs.Table.{Group, Table, group_of}
use Rattle.model_words.specs.declared.refusals.Refusal.TheVariants.{Busy, Class, Members, NoGroup, Overlap, Same}

module _ (busy : Table → ℕ → Bool) (t : Table) (s d : ℕ) where
  pub no_source : group_of t s ≡ None → may_begin busy t s d ≡ Err NoGroup
  no_source none = rw none refl

  pub no_destination : (a : Group) → group_of t s ≡ Some a → group_of t d ≡ None → may_begin busy t s d ≡ Err NoGroup
  no_destination a is none = rw (is, none) refl

  pub same_group : (a b : Group) → group_of t s ≡ Some a → group_of t d ≡ Some b → s ≡ d → may_begin busy t s d ≡ Err Same
  same_group a b is is' one = grind arith

  pub other_class : (a b : Group) → group_of t s ≡ Some a → group_of t d ≡ Some b → s ≢ d → a.class ≢ b.class → may_begin busy t s d ≡ Err Class
  other_class a b is is' two differ = grind arith

  pub busy_class : (a b : Group) → group_of t s ≡ Some a → group_of t d ≡ Some b → s ≢ d → a.class ≡ b.class → busy t a.class ≡ true
      → may_begin busy t s d ≡ Err Busy
  busy_class a b is is' two one taken = grind arith

  pub overlapping : (a b : Group) → group_of t s ≡ Some a → group_of t d ≡ Some b → s ≢ d → a.class ≡ b.class → busy t a.class ≡ false
      → do_overlap a.slots b.slots ≡ true → may_begin busy t s d ≡ Err Overlap
  overlapping a b is is' two one idle both = grind arith

  pub many_members : (a b : Group) → group_of t s ≡ Some a → group_of t d ≡ Some b → s ≢ d → a.class ≡ b.class → busy t a.class ≡ false
      → do_overlap a.slots b.slots ≡ false → 8 < length a.members + length b.members → may_begin busy t s d ≡ Err Members
  many_members a b is is' two one idle free many = grind arith

  pub may_go : (a b : Group) → group_of t s ≡ Some a → group_of t d ≡ Some b → s ≢ d → a.class ≡ b.class → busy t a.class ≡ false
      → do_overlap a.slots b.slots ≡ false → length a.members + length b.members ≤ 8 → may_begin busy t s d ≡ Ok (record { source = a; destination = b })
  may_go a b is is' two one idle free few = grind arith
