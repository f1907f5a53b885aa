-- The effects of steps on two example meshes, and what each function that describes an effect changes.
use Rattle.std.specs.Prelude.{◌≡◌, ◌≢◌, ℕ, ◌+◌, ◌<◌, ◌≤◌, Bool, true, false, List, [], ◌∷◌, ◌++◌, Some, None, map, replicate}
use Rattle.model_words.specs.Classes.{slots_of}
use Rattle.model_heap.specs.Mesh.{is_protected, page_count}
use Rattle.model_heap.specs.Places.{Place, Target, with_protection}
use Rattle.model_heap.specs.Sound.{IsWithinSteps}
use Rattle.model_heap.specs.StepEffects.{Sides, Under, effect, place_at, source_page, step_effect, with_copied, with_free, with_page}
use Rattle.model_heap.specs.Table.{Made, Progress, Unwinding}
use Rattle.model_words.specs.declared.commands.StepKind.TheVariants.{Copy}

-- a source of two members of one page each, with an object of two bytes in its second slot
abbrev pub narrow : Sides
narrow = record {
  source = record { number = 0; class = 2048; members = 5 ∷ 9 ∷ []; slots = None ∷ Some (record { member = 9; serial = 3; len = 2 }) ∷ [] };
  from = 7 ∷ [];
  into = 8 ∷ [];
}

-- a source of two members of three pages each, whose only object is in slot 10 and crosses the end of a page
abbrev pub wide : Sides
wide = record {
  source = record {
    number = 0;
    class = 384;
    members = 4 ∷ 9 ∷ [];
    slots = replicate 10 None ++ Some (record { member = 9; serial = 3; len = 258 }) ∷ replicate 21 None;
  };
  from = 30 ∷ 31 ∷ 32 ∷ [];
  into = 40 ∷ 42 ∷ 41 ∷ [];
}

-- a protect makes one virtual page of the source read-only; the protects go through the members in their order, and
-- through each member's pages in ascending order
abbrev pub ProtectsOnePage : Type 0
ProtectsOnePage = (under : Under)
    → (step_effect narrow (Made 1) under ≡ record under { targets = with_protection under.targets 9 true })
    × (step_effect wide (Made 2) under ≡ record under { targets = with_protection under.targets 6 true })
    × (step_effect wide (Made 4) under ≡ record under { targets = with_protection under.targets 10 true })

-- a copy of a slot without an object does nothing
abbrev pub CopiesNothing : Type 0
CopiesNothing = (under : Under) → (step_effect narrow (Made 2) under ≡ under) × (step_effect wide (Made 15) under ≡ under)
    × (step_effect wide (Made 17) under ≡ under)

-- the bytes at these offsets of a physical page
abbrev pub bytes_at : (Place → ℕ) → ℕ → List ℕ → List ℕ
bytes_at bytes page offsets = map (λ offset. bytes (record { page = page; offset = offset })) offsets

-- the copy of an object of two bytes writes these two bytes at the same offsets of the destination's page; the bytes
-- beside them and the source's bytes don't change
abbrev pub CopiesTwoBytes : Type 0
CopiesTwoBytes = (under : Under)
    → (bytes_at (step_effect narrow (Made 3) under).bytes 8 (2047 ∷ 2048 ∷ 2049 ∷ 2050 ∷ [])
    ≡ bytes_at under.bytes 8 (2047 ∷ []) ++ bytes_at under.bytes 7 (2048 ∷ 2049 ∷ []) ++ bytes_at under.bytes 8 (2050 ∷ []))
    × (bytes_at (step_effect narrow (Made 3) under).bytes 7 (2047 ∷ 2048 ∷ 2049 ∷ 2050 ∷ [])
    ≡ bytes_at under.bytes 7 (2047 ∷ 2048 ∷ 2049 ∷ 2050 ∷ []))

-- a copy that crosses the end of a page continues at the beginning of the span's next page
abbrev pub CopiesOverPages : Type 0
CopiesOverPages = (under : Under)
    → (bytes_at (step_effect wide (Made 16) under).bytes 40 (3839 ∷ 3840 ∷ 4095 ∷ [])
    ≡ bytes_at under.bytes 40 (3839 ∷ []) ++ bytes_at under.bytes 30 (3840 ∷ 4095 ∷ []))
    × (bytes_at (step_effect wide (Made 16) under).bytes 42 (0 ∷ 1 ∷ 2 ∷ []) ≡ bytes_at under.bytes 31 (0 ∷ 1 ∷ []) ++ bytes_at under.bytes 42 (2 ∷ []))
    × (bytes_at (step_effect wide (Made 16) under).bytes 41 (0 ∷ 1 ∷ []) ≡ bytes_at under.bytes 41 (0 ∷ 1 ∷ []))

-- a copy changes neither the page map nor the free pages
abbrev pub CopyLeavesPages : Type 0
CopyLeavesPages = (sides : Sides) (k : ℕ) (under : Under)
    → ((effect Copy sides k under).targets ≡ under.targets) × ((effect Copy sides k under).is_free ≡ under.is_free)

-- a remap maps one virtual page of the source to the destination's physical page with the same number in its span
abbrev pub RemapsOnePage : Type 0
RemapsOnePage = (under : Under)
    → (step_effect narrow (Made 5) under ≡ record under { targets = with_page under.targets 9 8 })
    × (step_effect wide (Made 39) under ≡ record under { targets = with_page under.targets 5 42 })
    × (step_effect wide (Made 42) under ≡ record under { targets = with_page under.targets 10 42 })
    × (step_effect wide (Made 43) under ≡ record under { targets = with_page under.targets 11 41 })

-- an unprotect makes one virtual page of the source writable, in the order of the protects
abbrev pub UnprotectsOnePage : Type 0
UnprotectsOnePage = (under : Under)
    → (step_effect narrow (Made 6) under ≡ record under { targets = with_protection under.targets 5 false })
    × (step_effect wide (Made 47) under ≡ record under { targets = with_protection under.targets 9 false })

-- a release frees one physical page of the source, in ascending order
abbrev pub ReleasesOnePage : Type 0
ReleasesOnePage = (under : Under)
    → (step_effect narrow (Made 8) under ≡ record under { is_free = with_free under.is_free 7 })
    × (step_effect wide (Made 50) under ≡ record under { is_free = with_free under.is_free 30 })
    × (step_effect wide (Made 52) under ≡ record under { is_free = with_free under.is_free 32 })

-- a step of a cancelled mesh makes one virtual page of the source writable, in the order of the protects
abbrev pub UnwindsOnePage : Type 0
UnwindsOnePage = (under : Under)
    → (step_effect narrow (Unwinding 2 0) under ≡ record under { targets = with_protection under.targets 5 false })
    × (step_effect wide (Unwinding 5 4) under ≡ record under { targets = with_protection under.targets 10 false })

-- if the protection of a page changes, the page is mapped to its physical page as before, and no other page changes
abbrev pub ProtectionIsOfOne : Type 0
ProtectionIsOfOne = (targets : ℕ → Target) (v : ℕ) (read_only : Bool)
    → (with_protection targets v read_only v ≡ record { page = (targets v).page; read_only = read_only })
    × ((w : ℕ) → w ≢ v → with_protection targets v read_only w ≡ targets w)

-- if a page is mapped to another physical page, its protection doesn't change, and no other page changes
abbrev pub LeadIsOfOne : Type 0
LeadIsOfOne = (targets : ℕ → Target) (v page : ℕ)
    → (with_page targets v page v ≡ record { page = page; read_only = (targets v).read_only })
    × ((w : ℕ) → w ≢ v → with_page targets v page w ≡ targets w)

-- a released page is free, and no other page changes
abbrev pub FreeIsOfOne : Type 0
FreeIsOfOne = (is_free : ℕ → Bool) (page : ℕ)
    → (with_free is_free page page ≡ true) × ((other : ℕ) → other ≢ page → with_free is_free page other ≡ is_free other)

-- if no lower copied offset shares a copied offset's place in the destination's span, this place gets the byte that the
-- source's span had at the offset before
abbrev pub CopiedAreTheSame : Type 0
CopiedAreTheSame = (from into : List ℕ) (offset len o : ℕ) (bytes : Place → ℕ)
    → ((p : ℕ) → p < o → place_at into (offset + o) ≢ place_at into (offset + p)) → o < len
    → with_copied from into offset len bytes (place_at into (offset + o)) ≡ bytes (place_at from (offset + o))

-- a copy changes no byte outside the places of the copied range in the destination's span
abbrev pub OtherBytesStay : Type 0
OtherBytesStay = (from into : List ℕ) (offset len : ℕ) (bytes : Place → ℕ) (place : Place)
    → ((o : ℕ) → o < len → place ≢ place_at into (offset + o)) → with_copied from into offset len bytes place ≡ bytes place

-- the virtual pages of the source are all different, as in a sound table
abbrev pub ArePagesApart : Sides → Type 0
ArePagesApart sides = (i j : ℕ) → i < page_count sides.source → j < page_count sides.source → source_page sides i ≡ source_page sides j → i ≡ j

-- a virtual page of the source is read-only if and only if `is_protected` is true for the page at this progress
abbrev pub AreProtected : Sides → Progress → Under → Type 0
AreProtected sides progress under = (j : ℕ) → j < page_count sides.source
    → (under.targets (source_page sides j)).read_only ≡ is_protected (page_count sides.source) (slots_of sides.source.class) progress j

-- if the source's virtual pages are all different and `AreProtected` holds before a step, `AreProtected` holds after
-- the step at the new progress
abbrev pub StepsProtect : Type 0
StepsProtect = (sides : Sides) (d : ℕ) (under : Under) → ArePagesApart sides → AreProtected sides (Made d) under
    → AreProtected sides (Made (d + 1)) (step_effect sides (Made d) under)

-- if the source's virtual pages are all different and `AreProtected` holds before an unprotect of a cancelled mesh,
-- `AreProtected` holds after the unprotect at the new progress
abbrev pub UnwindingProtects : Type 0
UnwindingProtects = (sides : Sides) (q u : ℕ) (under : Under) → ArePagesApart sides → q ≤ page_count sides.source → u < q
    → AreProtected sides (Unwinding q u) under → AreProtected sides (Unwinding q (u + 1)) (step_effect sides (Unwinding q u) under)

-- no step of a running mesh changes the protection of a page that isn't a page of the source
abbrev pub OthersKeepProtection : Type 0
OthersKeepProtection = (sides : Sides) (progress : Progress) (under : Under) (v : ℕ) → IsWithinSteps sides.source progress
    → ((j : ℕ) → j < page_count sides.source → v ≢ source_page sides j)
    → ((step_effect sides progress under).targets v).read_only ≡ (under.targets v).read_only
