-- The formula of the read-only pages is what the steps do to the page map.
use Rattle.std.proofs.Common.{◌≡◌, ◌≢◌, ℕ, ◌+◌, ◌-◌, ◌*◌, ◌<◌, ◌≤◌, Bool, true, false, if◌then◌else◌, nat_eq, ap, refl, sym, ◌∙◌, arith, ◌⊎◌, inl, inr}
use Rattle.std.proofs.lemmas.Bool.Decides.{nat_tests, eqb_tells}
use Rattle.std.proofs.lemmas.Grind.{common_steps}
use Rattle.model_words.specs.Classes.{slots_of}
use Rattle.model_heap.specs.EffectLaws.{ArePagesApart, AreProtected}
use Rattle.model_heap.specs.Mesh.{is_protected, kind_after, page_count}
use Rattle.model_heap.specs.Places.{Target, with_protection}
use Rattle.model_heap.specs.Sound.{IsWithinSteps}
use Rattle.model_heap.specs.StepEffects.{Sides, Under, effect, source_page, step_effect, steps_before, with_page}
use Rattle.model_heap.specs.Table.{Group, Made, Progress, Unwinding}
use Rattle.model_words.specs.declared.commands.StepKind.{StepKind}
use Rattle.model_words.specs.declared.commands.StepKind.TheVariants.{Protect, Copy, Remap, Unprotect, Release}

-- the page that the step after d steps protects
next_protected : (mp s d j : ℕ) → d < mp → is_protected mp s (Made (d + 1)) j ≡ (if nat_eq j d then true else is_protected mp s (Made d) j)
next_protected mp s d j below = grind (arith, common_steps)

-- copies and remaps change no protection
next_held : (mp s d j : ℕ) → mp ≤ d → d < 2 * mp + s → is_protected mp s (Made (d + 1)) j ≡ is_protected mp s (Made d) j
next_held mp s d j low high = grind (arith, common_steps)

-- the page that the step after d steps lets be written
next_unprotected : (mp s d j : ℕ) → 2 * mp + s ≤ d → d < 3 * mp + s
    → is_protected mp s (Made (d + 1)) j ≡ (if nat_eq j (d - (2 * mp + s)) then false else is_protected mp s (Made d) j)
next_unprotected mp s d j low high = grind (arith, common_steps)

-- releases change no protection
next_released : (mp s d j : ℕ) → 3 * mp + s ≤ d → is_protected mp s (Made (d + 1)) j ≡ is_protected mp s (Made d) j
next_released mp s d j low = grind (arith, common_steps)

-- another lead changes no protection
lead_at : (targets : ℕ → Target) (v page w : ℕ) → (with_page targets v page w).read_only ≡ (targets w).read_only
lead_at targets v page w = elim (eqb_tells w v) [ inl same ↦ rw same.0 refl | inr other ↦ rw other.0 refl ]

-- pages protected by the formula, of which one is changed, are protected by that change of the formula
one_changed : (sides : Sides) (progress : Progress) (under : Under) (i : ℕ) (read_only : Bool) → ArePagesApart sides → AreProtected sides progress under
    → i < page_count sides.source → (j : ℕ) → j < page_count sides.source
    → (with_protection under.targets (source_page sides i) read_only (source_page sides j)).read_only
    ≡ (if nat_eq j i then read_only else is_protected (page_count sides.source) (slots_of sides.source.class) progress j)
one_changed sides progress under i read_only apart are below j high = grind arith

-- the kind of a step, by how many were made
pub record IsKind (a : Group) (d : ℕ) (k : StepKind) : Type 0 where
  pub is : kind_after a d ≡ k
  pub from : steps_before a k ≤ d

-- the step after d steps is of one of the kinds
kind_is : (a : Group) (d : ℕ) → (IsKind a d Protect × (d < page_count a)) ⊎ ((IsKind a d Copy × (d < page_count a + slots_of a.class))
    ⊎ ((IsKind a d Remap × (d < 2 * page_count a + slots_of a.class)) ⊎ ((IsKind a d Unprotect × (d < 3 * page_count a + slots_of a.class)) ⊎ IsKind a d Release)))
kind_is a d = grind (arith, nat_tests)

-- the effect of a step of a kind
effect_is : (sides : Sides) (d : ℕ) (under : Under) (k : StepKind) → IsKind sides.source d k
    → step_effect sides (Made d) under ≡ effect k sides (d - steps_before sides.source k) under
effect_is sides d under k kind = ap (λ (x : StepKind). effect x sides (d - steps_before sides.source x) under) kind.is

-- what a page is protected by, after a step of a kind
after_kind : (sides : Sides) (d : ℕ) (under : Under) (k : StepKind) (v : ℕ) → IsKind sides.source d k
    → ((step_effect sides (Made d) under).targets v).read_only ≡ ((effect k sides (d - steps_before sides.source k) under).targets v).read_only
after_kind sides d under k v kind = ap (λ (x : Under). (x.targets v).read_only) (effect_is sides d under k kind)

-- each step leaves the read-only pages that the formula tells of the progress after it
pub steps_protect : (sides : Sides) (d : ℕ) (under : Under) → ArePagesApart sides → AreProtected sides (Made d) under
    → AreProtected sides (Made (d + 1)) (step_effect sides (Made d) under)
steps_protect sides d under apart are j high =
    let mp : ℕ = page_count sides.source in
    let s : ℕ = slots_of sides.source.class in
    let v : ℕ = source_page sides j in elim (kind_is sides.source d) [
      | inl protect ↦ let number : d - 0 ≡ d = omega arith in
          after_kind sides d under Protect v protect.0
          ∙ ap (λ (n : ℕ). (with_protection under.targets (source_page sides n) true v).read_only) number
          ∙ one_changed sides (Made d) under d true apart are protect.1 j high ∙ sym (next_protected mp s d j protect.1)
      | inr rest ↦ elim rest [
        | inl copy ↦ let from = copy.0.from in
            after_kind sides d under Copy v copy.0 ∙ are j high ∙ sym (next_held mp s d j from (omega (arith, copy.1)))
        | inr rest' ↦ elim rest' [
          | inl remap ↦ let from = remap.0.from in
              after_kind sides d under Remap v remap.0 ∙ lead_at under.targets _ _ v ∙ are j high
              ∙ sym (next_held mp s d j (omega (arith, from)) remap.1)
          | inr rest'' ↦ elim rest'' [
            | inl unprotect ↦ let from = unprotect.0.from in let until = unprotect.1 in
                after_kind sides d under Unprotect v unprotect.0
                ∙ one_changed sides (Made d) under (d - (2 * page_count sides.source + slots_of sides.source.class)) false apart are
                (omega (arith, from, until)) j high ∙ sym (next_unprotected mp s d j from unprotect.1)
            | inr release ↦ let from = release.from in
                after_kind sides d under Release v release ∙ are j high ∙ sym (next_released mp s d j from)
          ]
        ]
      ]
    ]

-- so does each unprotect of a cancelled mesh
pub unwinding_protects : (sides : Sides) (q u : ℕ) (under : Under) → ArePagesApart sides → q ≤ page_count sides.source → u < q
    → AreProtected sides (Unwinding q u) under → AreProtected sides (Unwinding q (u + 1)) (step_effect sides (Unwinding q u) under)
unwinding_protects sides q u under apart few below are j high = grind arith

-- no step changes the protection of a page that is not the source's
pub others_keep_protection : (sides : Sides) (progress : Progress) (under : Under) (v : ℕ) → IsWithinSteps sides.source progress
    → ((j : ℕ) → j < page_count sides.source → v ≢ source_page sides j)
    → ((step_effect sides progress under).targets v).read_only ≡ (under.targets v).read_only
others_keep_protection sides (Made d) under v within other = grind arith
others_keep_protection sides (Unwinding q u) under v within other = grind arith
