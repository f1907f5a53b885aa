-- A key of a map of numbers is set or taken out.
use Rattle.std.proofs.Common.{◌≡◌, ◌≢◌, ℕ, ◌≤◌, arith, false, Option, Some, None, sym, ◌∙◌, subst, inl, inr}
use Rattle.std.specs.Ordering.{is_gt, is_lt, nat_cmp}
use Rattle.std.specs.BTreeMap.{BTreeMap, UpdatesBy, get, is_at}
use Rattle.history_overlaps.specs.Standing.{IsSetAt}
use Rattle.std.proofs.lemmas.Bool.Decides.{eqb_tells}
use Rattle.std.proofs.lemmas.Grind.{common_steps}

-- the order of keys is that of numbers
pub not_greater : (a b : ℕ) → a ≤ b → is_gt (nat_cmp a b) ≡ false
not_greater a b h = grind (arith, common_steps)

pub at_most : (a b : ℕ) → is_gt (nat_cmp a b) ≡ false → a ≤ b
at_most a b h = grind (arith, common_steps)

pub not_less : (a b : ℕ) → is_lt (nat_cmp a b) ≡ false → b ≤ a
not_less a b h = grind (arith, common_steps)

-- a key that isn't the query's
other_key : (k q : ℕ) → q ≢ k → is_at (nat_cmp k) q ≡ false
other_key k q h = grind (arith, common_steps)

pub set_at : {X : Type 0} (old new : BTreeMap ℕ X) (key : ℕ) (v : Option X) → UpdatesBy nat_cmp (nat_cmp key) old new v → IsSetAt (get nat_cmp old) (get nat_cmp new) key v
set_at old new key v updates = (updates.1, λ q apart. updates.2 q (other_key key q apart))

module _ {X : Type 0} (old new : BTreeMap ℕ X) (key : ℕ) (updates : UpdatesBy nat_cmp (nat_cmp key) old new None) where
  pub removed : get nat_cmp new key ≡ None
  removed = updates.1

  pub removed_others : (q : ℕ) → q ≢ key → get nat_cmp new q ≡ get nat_cmp old q
  removed_others q apart = updates.2 q (other_key key q apart)

  pub removed_kept : (q : ℕ) (x : X) → get nat_cmp new q ≡ Some x → get nat_cmp old q ≡ Some x
  removed_kept q x is = elim (eqb_tells q key) [
    | inl same ↦ absurd (let gone = subst (λ (k : ℕ). get nat_cmp new k ≡ None) (sym same.1) removed in cc (gone, is))
    | inr apart ↦ sym (removed_others q apart.1) ∙ is
  ]

  -- where nothing was there
  pub taken_out : get nat_cmp old key ≡ None → (q : ℕ) → get nat_cmp new q ≡ get nat_cmp old q
  taken_out none q = elim (eqb_tells q key) [
    | inl same ↦ subst (λ (k : ℕ). get nat_cmp new k ≡ get nat_cmp old k) (sym same.1) (removed ∙ sym none)
    | inr apart ↦ removed_others q apart.1
  ]
