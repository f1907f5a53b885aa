-- The lowest refusal that holds of a mesh, a sweep, a step and a cancel.
use Rattle.std.proofs.Common.{◌≡◌, ◌≢◌, ℕ, zero, suc, ◌+◌, ◌<◌, ◌≤◌, Bool, true, false, not, nat_eq, nat_lt, List, [], ◌∷◌, length, slice_get, subst, refl, sym, ◌∙◌, arith, inl, inr, Option, Some, None, lit≤}
use Rattle.model_words.proofs.LowestRefusals.{AreFrom, Told, passed, refused_by, told_if, told_map, told_ok, told_some}
use Rattle.model_heap.proofs.TableChanges.{one_group}
use Rattle.model_heap.specs.Mesh.{Pair, begin, do_overlap, may_begin, mesh_whole}
use Rattle.model_words.specs.Refusals.{IsRefusedBy, number_of}
use Rattle.model_heap.specs.RefusalLaws.{OfBoth, OfGroup, mesh_holds}
use Rattle.model_heap.specs.Table.{Counted, Group, Slot, Table, group_of}
use Rattle.model_words.specs.declared.refusals.Refusal.{Refusal}
use Rattle.model_words.specs.declared.refusals.Refusal.TheVariants.{NoGroup, Same, Class, Busy, Overlap, Members}
use Rattle.model_words.proofs.Tests.{equal, unequal, less, not_less, negated, unnegated}

-- slots that overlap have one in common
share : (xs ys : List (Option Slot)) → do_overlap xs ys ≡ true
    → (k : ℕ) × (x : Slot) × (y : Slot) × (slice_get xs k ≡ Some (Some x)) × (slice_get ys k ≡ Some (Some y))
share [] ys h = absurd (cc)
share (x ∷ xs) [] h = absurd (cc)
share (Some x ∷ xs) (Some y ∷ ys) h = (0, x, y, refl, refl)
share (Some x ∷ xs) (None ∷ ys) h = let rest = share xs ys h in (suc rest.0, rest.1, rest.2, rest.3, rest.4)
share (None ∷ xs) (Some y ∷ ys) h = let rest = share xs ys h in (suc rest.0, rest.1, rest.2, rest.3, rest.4)
share (None ∷ xs) (None ∷ ys) h = let rest = share xs ys h in (suc rest.0, rest.1, rest.2, rest.3, rest.4)

-- slots that don't overlap have none
share_none : (xs ys : List (Option Slot)) (k : ℕ) (x y : Slot) → do_overlap xs ys ≡ false → slice_get xs k ≡ Some (Some x)
    → slice_get ys k ≡ Some (Some y) → ⊥
share_none [] ys k x y h at at' = cc
share_none (a ∷ xs) [] k x y h at at' = cc
share_none (Some a ∷ xs) (Some b ∷ ys) k x y h at at' = cc
share_none (None ∷ xs) (b ∷ ys) zero x y h at at' = cc
share_none (None ∷ xs) (b ∷ ys) (suc k) x y h at at' = share_none xs ys k x y h at at'
share_none (Some a ∷ xs) (None ∷ ys) zero x y h at at' = cc
share_none (Some a ∷ xs) (None ∷ ys) (suc k) x y h at at' = share_none xs ys k x y h at at'

-- every refusal of a mesh is from the first one on, and up to the last one
mesh_between : (busy : Table → ℕ → Bool) (t : Table) (source destination : ℕ) (r : Refusal) → mesh_holds busy t source destination r
    → (9 ≤ number_of r) × (number_of r ≤ 14)
mesh_between busy t source destination NoGroup h = (lit≤ tt, lit≤ tt)
mesh_between busy t source destination Same h = (lit≤ tt, lit≤ tt)
mesh_between busy t source destination Class h = (lit≤ tt, lit≤ tt)
mesh_between busy t source destination Busy h = (lit≤ tt, lit≤ tt)
mesh_between busy t source destination Overlap h = (lit≤ tt, lit≤ tt)
mesh_between busy t source destination Members h = (lit≤ tt, lit≤ tt)
mesh_between busy t source destination _ h = absurd h

-- every refusal of a mesh is from the first one on
mesh_from : (busy : Table → ℕ → Bool) (t : Table) (source destination : ℕ) → AreFrom 9 (mesh_holds busy t source destination)
mesh_from busy t source destination r h = (mesh_between busy t source destination r h).0

-- what holds of the two groups that are there
of_both : (t : Table) (source destination : ℕ) (a b : Group) (holds : Group → Group → Type 0) → group_of t source ≡ Some a
    → group_of t destination ≡ Some b → OfBoth t source destination holds → holds a b
of_both t source destination a b holds is is' both =
    subst (λ (x : Group). holds x b) (one_group t source both.a a both.source_is is)
    (subst (λ (y : Group). holds both.a y) (one_group t destination both.b b both.destination_is is') both.is)

-- what holds of the group that is there
pub of_group : (t : Table) (n : ℕ) (a : Group) (holds : Group → Type 0) → group_of t n ≡ Some a → OfGroup t n holds → holds a
of_group t n a holds is one = subst holds (one_group t n one.group a one.there is) one.is

-- the two groups of a mesh are told
may_told : (busy : Table → ℕ → Bool) (t : Table) (source destination : ℕ) → Told Pair (mesh_holds busy t source destination) (may_begin busy t source destination)
may_told busy t source destination =
    told_some Pair Group H NoGroup (group_of t source) _ (mesh_from busy t source destination) (λ none. inl none) (λ a is.
    told_some Pair Group H NoGroup (group_of t destination) _ (mesh_from busy t source destination) (λ none. inr none) (λ b is'.
    told_if Pair H Same (nat_eq source destination) _ (passed H NoGroup (mesh_from busy t source destination) (grouped a b is is'))
    (equal source destination) (unequal source destination) (λ two from.
    told_if Pair H Class (not (nat_eq a.class b.class)) _ from
    (λ other. record { a = a; b = b; source_is = is; destination_is = is'; is = unequal a.class b.class (negated (nat_eq a.class b.class) other) })
    (λ same h. of_both t source destination a b (λ x y. x.class ≢ y.class) is is' h (equal a.class b.class (unnegated (nat_eq a.class b.class) same)))
    (λ same from'.
    told_if Pair H Busy (busy t a.class) _ from' (λ busy_is. record { group = a; there = is; is = busy_is })
    (λ idle h. let clash : true ≡ false = sym (of_group t source a (λ x. busy t x.class ≡ true) is h) ∙ idle in cc clash)
    (λ idle from''.
    told_if Pair H Overlap (do_overlap a.slots b.slots) _ from'' (overlaps a b is is') (apart a b is is')
    (λ apart_is from'''.
    told_if Pair H Members (nat_lt 8 (length a.members + length b.members)) _ from'''
    (λ many. record { a = a; b = b; source_is = is; destination_is = is'; is = less 8 (length a.members + length b.members) many })
    (λ few h. not_less 8 (length a.members + length b.members) few
    (of_both t source destination a b (λ x y. 8 < length x.members + length y.members) is is' h))
    (λ few above. told_ok Pair H (record { source = a; destination = b })
    (λ r h. let low = above r h in let high = (mesh_between busy t source destination r h).1 in omega (arith, low, high)))))))))
  where
    H : Refusal → Type 0
    H = mesh_holds busy t source destination

    grouped : (a b : Group) → group_of t source ≡ Some a → group_of t destination ≡ Some b → ¬ H NoGroup
    grouped a b is is' (inl none) = let clash : Some a ≡ None = sym is ∙ none in cc clash
    grouped a b is is' (inr none) = let clash : Some b ≡ None = sym is' ∙ none in cc clash

    overlaps : (a b : Group) → group_of t source ≡ Some a → group_of t destination ≡ Some b → do_overlap a.slots b.slots ≡ true → H Overlap
    overlaps a b is is' h = let one = share a.slots b.slots h in
        record { a = a; b = b; source_is = is; destination_is = is'; is = record { k = one.0; x = one.1; y = one.2; in_a = one.3; in_b = one.4 } }

    apart : (a b : Group) → group_of t source ≡ Some a → group_of t destination ≡ Some b → do_overlap a.slots b.slots ≡ false → ¬ H Overlap
    apart a b is is' h both = grind (arith, share_none a.slots b.slots)

-- a `begin` is refused by the lowest
pub begin_lowest : (busy : Table → ℕ → Bool) (t : Table) (source destination : ℕ)
    → IsRefusedBy (mesh_holds busy t source destination) (begin busy t source destination)
begin_lowest busy t source destination = refused_by Counted (mesh_holds busy t source destination) (begin busy t source destination)
    (told_map Pair Counted (mesh_holds busy t source destination) (may_begin busy t source destination) _ (may_told busy t source destination))

-- so is a whole mesh
pub whole_lowest : (busy : Table → ℕ → Bool) (t : Table) (source destination : ℕ)
    → IsRefusedBy (mesh_holds busy t source destination) (mesh_whole busy t source destination)
whole_lowest busy t source destination = refused_by Counted (mesh_holds busy t source destination) (mesh_whole busy t source destination)
    (told_map Pair Counted (mesh_holds busy t source destination) (may_begin busy t source destination) _ (may_told busy t source destination))
