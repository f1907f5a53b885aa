-- Each step of a running mesh, by its progress in the list of meshes.
use Rattle.std.proofs.Common.{◌≡◌, ◌≢◌, ℕ, ◌+◌, ◌-◌, ◌*◌, ◌%◌, ◌<◌, ◌≤◌, true, false, min, List, Some, None, ap, subst, refl, sym, ◌∙◌, arith, inr}
use Rattle.mesh_arena.specs.Pages.{Gives, Pages}
use Rattle.mesh_class.specs.Classes.{pages_of, slots_of}
use Rattle.model_heap.specs.Mesh.{with_progress, without_mesh}
use Rattle.model_heap.specs.Sound.{AreSoundMeshes, meshes_of}
use Rattle.model_heap.specs.Table.{Made, Mesh, Progress, Slot, Table, Unwinding}
use Rattle.mesh_pagemap.specs.Entries.{Entries, Protects, Remaps, prot_of}
use Rattle.mesh_page_heap.specs.Layout.{IsLaidOut, IsOrderly, IsPageOf, IsSource, Layout, Stage, idle, page_total}
use Rattle.mesh_page_heap.specs.MeshLayouts.{mesh_from, stage_at, stage_of, stage_with}
use Rattle.mesh_page_heap.specs.StepChanges.{Copies, Keeps, Merges, Moves}
use Rattle.mesh_page_heap.proofs.MapSteps.{cancel_laid, end_laid, protect_laid, remap_laid, unprotect_laid}
use Rattle.mesh_page_heap.proofs.Merges.{merge_laid}
use Rattle.mesh_page_heap.proofs.MeshList.{progress_moves, without_moves}
use Rattle.mesh_page_heap.proofs.PageSteps.{copy_keeps, copy_laid, skip_laid}
use Rattle.mesh_page_heap.proofs.Releases.{orderly_moves, release_keeps, release_laid}
use Rattle.mesh_page_heap.proofs.Stages.{cancel_stage, copied_high, copied_low, copy_stage, protect_stage, release_stage, remap_stage, unprotect_stage, unwind_stage}

module _ (l : Layout) (ms : List Mesh) (this : Mesh) (m : Entries) (arena : Pages) (orderly : IsOrderly l (stage_of l ms))
    (laid : IsLaidOut l (stage_of l ms) m arena) (found : mesh_from this.source ms ≡ Some this) where
  -- the virtual pages of the source, and its slots
  abbrev total : ℕ
  total = page_total l this.source

  abbrev slots : ℕ
  slots = slots_of (l.class this.source)

  -- the stage of the mesh
  stage_is : (progress : Progress) → this.progress ≡ progress → stage_of l ms this.source ≡ stage_at total slots this.destination progress
  stage_is progress at = ap (stage_with l this.source) found ∙ ap (stage_at total slots this.destination) at

  -- the mesh comes to a progress at which its stage is changed so
  moved : (change : Stage → Stage) (old new : Progress) → this.progress ≡ old → stage_at total slots this.destination new ≡ change (stage_at total slots this.destination old)
      → Moves (stage_of l ms) (stage_of l (with_progress ms this new)) this.source (change (stage_of l ms this.source))
  moved change old new at is = subst (λ (x : Stage). Moves (stage_of l ms) (stage_of l (with_progress ms this new)) this.source x)
      (is ∙ ap change (sym (stage_is old at))) (progress_moves l ms this new found)

  source_is : this.source ≢ this.destination → (d : ℕ) → this.progress ≡ Made d → IsSource (stage_of l ms) this.source
  source_is two d at own = two (sym own ∙ ap (λ (c : Stage). c.into) (stage_is (Made d) at))

  pub protect_step : (m' : Entries) (d v : ℕ) → this.progress ≡ Made d → d < total → IsPageOf l this.source d v
      → Protects m m' v (prot_of true) → IsLaidOut l (stage_of l (with_progress ms this (Made (d + 1)))) m' arena × Keeps l arena arena m m'
  protect_step m' d v at below page protects =
      let now = stage_is (Made d) at in
      protect_laid l (stage_of l ms) (stage_of l (with_progress ms this (Made (d + 1)))) m m' arena this.source d v orderly laid page protects
      (let e : (stage_of l ms this.source).locked_from ≡ min (d - (2 * total + slots)) total = ap (λ (c : Stage). c.locked_from) now in omega (arith, e, below))
      (let e : (stage_of l ms this.source).locked_to ≡ min d total = ap (λ (c : Stage). c.locked_to) now in omega (arith, e, below))
      (moved (λ c. record c { locked_to = d + 1 }) (Made d) (Made (d + 1)) at (protect_stage total slots this.destination d below))

  -- the count of the copied slots, at the copy of slot `k`
  copied_at : (k : ℕ) → k < slots → this.progress ≡ Made (total + k)
      → (stage_of l ms this.source).copied ≡ k
  copied_at k below at =
      ap (λ (c : Stage). c.copied) (stage_is (Made (total + k)) at) ∙ low total slots k below
    where
      low : (t s k : ℕ) → k < s → (stage_at t s 0 (Made (t + k))).copied ≡ k
      low t s k below = copied_low t s (t + k) (omega (arith, below)) ∙ (let e : min (t + k - t) s ≡ k = omega (arith, below) in e)

  pub copy_step : (arena' : Pages) (k : ℕ) (slot : Slot) → this.source ≢ this.destination → k < slots
      → this.progress ≡ Made (total + k) → l.slot this.source k ≡ Some slot
      → Copies l arena arena' this.source this.destination (k * l.class this.source) slot.len
      → IsLaidOut l (stage_of l (with_progress ms this (Made (total + k + 1)))) m arena' × Keeps l arena arena' m m
  copy_step arena' k slot two below at filled copies =
      let now = stage_is (Made (total + k)) at in
      let home : (stage_of l ms this.source).remapped ≡ 0 = (let e : (stage_of l ms this.source).remapped ≡ min (total + k - (total + slots)) total = ap (λ (c : Stage). c.remapped) now in omega (arith, e, below)) in
      let to : (stage_of l ms this.source).into ≡ this.destination = ap (λ (c : Stage). c.into) now in
      let copies' = subst (λ (d : ℕ). Copies l arena arena' this.source d (k * l.class this.source) slot.len) (sym to) copies in
      let moves = moved (λ c. record c { copied = k + 1 }) (Made (total + k)) (Made (total + k + 1)) at (copy_stage total slots this.destination k below) in (
        copy_laid l (stage_of l ms) (stage_of l (with_progress ms this (Made (total + k + 1)))) m arena arena' this.source k slot orderly laid
            (source_is two (total + k) at) (copied_at k below at) home filled copies' moves,
        copy_keeps l (stage_of l ms) (stage_of l (with_progress ms this (Made (total + k + 1)))) m arena arena' this.source k slot orderly laid
            (source_is two (total + k) at) (copied_at k below at) home filled copies' moves,
      )

  pub skip_step : (k : ℕ) → k < slots → this.progress ≡ Made (total + k) → l.slot this.source k ≡ None
      → IsLaidOut l (stage_of l (with_progress ms this (Made (total + k + 1)))) m arena
  skip_step k below at none =
      skip_laid _ _ _ _ _ _ _ laid (copied_at _ below at) none (moved (λ c. record c { copied = k + 1 }) _ _ at (copy_stage _ _ _ _ below))

  pub remap_step : (m' : Entries) (i v : ℕ) → i < total
      → this.progress ≡ Made (total + slots + i) → IsPageOf l this.source i v
      → Remaps m m' v (l.page this.destination (i % pages_of (l.class this.source)))
      → IsLaidOut l (stage_of l (with_progress ms this (Made (total + slots + i + 1)))) m' arena
      × Keeps l arena arena m m'
  remap_step m' i v below at page remaps =
      let now = stage_is _ at in
      let to : (stage_of l ms this.source).into ≡ this.destination = ap (λ (c : Stage). c.into) now in
      remap_laid _ _ _ _ _ _ _ _ _ orderly laid page (subst (λ (d : ℕ). Remaps m m' v (l.page d (i % pages_of (l.class this.source)))) (sym to) remaps)
      (let e : (stage_of l ms this.source).remapped ≡ min (total + slots + i - (total + slots)) total = ap (λ (c : Stage). c.remapped) now in omega (arith, e, below))
      (all total slots i below (stage_of l ms this.source) this.destination now)
      (moved (λ c. record c { remapped = i + 1 }) _ _ at (remap_stage _ _ _ _ below))
    where
      all : (t s i : ℕ) → i < t → (c : Stage) (d : ℕ) → c ≡ stage_at t s d (Made (t + s + i)) → s ≤ c.copied
      all t s i below c d is = let e = ap (λ (x : Stage). x.copied) is ∙ copied_low _ _ _ (omega (arith, below)) in omega (arith, e)

  pub unprotect_step : (m' : Entries) (i v : ℕ) → i < total
      → this.progress ≡ Made (2 * total + slots + i) → IsPageOf l this.source i v
      → Protects m m' v (prot_of false)
      → IsLaidOut l (stage_of l (with_progress ms this (Made (2 * total + slots + i + 1)))) m' arena
      × Keeps l arena arena m m'
  unprotect_step m' i v below at page protects =
      let now = stage_is (Made (2 * total + slots + i)) at in
      unprotect_laid l (stage_of l ms) (stage_of l (with_progress ms this (Made (2 * total + slots + i + 1)))) m m' arena this.source i v orderly laid page protects
      (let e : (stage_of l ms this.source).locked_from ≡ min (2 * total + slots + i - (2 * total + slots)) total = ap (λ (c : Stage). c.locked_from) now in omega (arith, e, below))
      (moved (λ c. record c { locked_from = i + 1; copied = 0 }) (Made (2 * total + slots + i)) (Made (2 * total + slots + i + 1)) at (unprotect_stage total slots this.destination i below))

  pub unwind_step : (m' : Entries) (q u v : ℕ) → this.progress ≡ Unwinding q u → IsPageOf l this.source u v → Protects m m' v (prot_of false)
      → IsLaidOut l (stage_of l (with_progress ms this (Unwinding q (u + 1)))) m' arena × Keeps l arena arena m m'
  unwind_step m' q u v at page protects =
      unprotect_laid _ _ _ _ _ _ _ _ _ orderly laid page protects (ap (λ (c : Stage). c.locked_from) (stage_is _ at))
      (moved (λ c. record c { locked_from = u + 1; copied = 0 }) _ _ at (unwind_stage total slots _ _ _))

  pub cancel_step : (d : ℕ) → this.progress ≡ Made d → d ≤ total + slots
      → IsLaidOut l (stage_of l (with_progress ms this (Unwinding (min d (total)) 0))) m arena
  cancel_step d at early =
      cancel_laid _ _ _ _ _ _ laid (moved (λ c. record c { copied = 0 }) _ _ at (cancel_stage _ _ _ _ early))

  -- the mesh ends where it has changed nothing, or unprotected all that it had protected
  pub end_step : (t : Table) → AreSoundMeshes t ms → ((class : ℕ) → meshes_of class ms ≤ 1) → (stage_of l ms this.source).locked_to ≤ (stage_of l ms this.source).locked_from
      → (stage_of l ms this.source).remapped ≡ 0 → (stage_of l ms this.source).released ≡ 0 → IsLaidOut l (stage_of l (without_mesh ms this)) m arena
  end_step t sound one unlocked home kept = end_laid _ _ _ _ _ _ laid unlocked home kept (without_moves t l _ _ sound one found)

  -- what the stage is while physical page `j` is given back
  late : (j : ℕ) → 0 < total → this.progress ≡ Made (3 * total + slots + j)
      → ((stage_of l ms this.source).released ≡ j) × (total ≤ (stage_of l ms this.source).remapped) × ((stage_of l ms this.source).copied ≡ 0)
      × (total ≤ (stage_of l ms this.source).locked_from) × ((stage_of l ms this.source).locked_to ≤ total)
  late j some at = is (total) (slots) (stage_of l ms this.source) (stage_is _ at) some
    where
      is : (t s : ℕ) (c : Stage) → c ≡ stage_at t s this.destination (Made (3 * t + s + j)) → 0 < t
          → (c.released ≡ j) × (t ≤ c.remapped) × (c.copied ≡ 0) × (t ≤ c.locked_from) × (c.locked_to ≤ t)
      is t s c e some =
          let b : c.remapped ≡ min (3 * t + s + j - (t + s)) t = ap (λ (x : Stage). x.remapped) e in
          let k = ap (λ (x : Stage). x.copied) e ∙ copied_high _ _ _ (omega (arith, some)) in
          let f : c.locked_from ≡ min (3 * t + s + j - (2 * t + s)) t = ap (λ (x : Stage). x.locked_from) e in
          let g : c.locked_to ≡ min (3 * t + s + j) t = ap (λ (x : Stage). x.locked_to) e in
          (omega (arith, (ap (λ (x : Stage). x.released) e)), omega (arith, b), k, omega (arith, f), omega (arith, g))

  pub release_step : (arena' : Pages) (j : ℕ) → this.source ≢ this.destination → 0 < total → j < pages_of (l.class this.source)
      → this.progress ≡ Made (3 * total + slots + j) → Gives arena arena' (l.page this.source j)
      → IsLaidOut l (stage_of l (with_progress ms this (Made (3 * total + slots + j + 1)))) m arena'
      × Keeps l arena arena' m m
  release_step arena' j two some below at gives =
      let is = late _ some at in
      let moves = moved (λ c. record c { released = j + 1 }) _ (Made (3 * total + slots + j + 1)) at (release_stage _ slots _ j some) in (
        release_laid _ (stage_of l ms) _ _ arena _ this.source j orderly laid (source_is two (3 * total + slots + j) at) below is.0 is.1 is.2 gives moves,
        release_keeps _ (stage_of l ms) (stage_of l (with_progress ms this (Made (3 * total + slots + j + 1)))) _ _ _ this.source j orderly laid
            (source_is two (3 * total + slots + j) at) below is.0 is.1 is.2 gives moves,
      )

  -- the last release, and the merge: the stages after are those of the meshes without this one, in the new layout
  pub last_step : (l' : Layout) (arena' : Pages) (j : ℕ) (f' : ℕ → Stage) → this.source ≢ this.destination → 0 < total
      → j + 1 ≡ pages_of (l.class this.source)
      → this.progress ≡ Made (3 * total + slots + j) → Gives arena arena' (l.page this.source j)
      → Merges l l' this.source this.destination → Moves (stage_of l ms) f' this.source (idle this.source)
      → IsLaidOut l' f' m arena' × Keeps l arena arena' m m
  last_step l' arena' j f' two some last at gives merges moves' =
      let now = stage_is (Made (3 * total + slots + j)) at in
      let is = late j some at in
      let mid : ℕ → Stage = stage_of l (with_progress ms this (Made (3 * total + slots + j + 1))) in
      let c : Stage = record (stage_of l ms this.source) { released = j + 1 } in
      let moves = moved (λ x. record x { released = j + 1 }) (Made (3 * total + slots + j)) (Made (3 * total + slots + j + 1)) at (release_stage total slots this.destination j some) in
      let below : j < pages_of (l.class this.source) = omega (arith, last) in
      let source = source_is two (3 * total + slots + j) at in
      let orderly' = orderly_moves l (stage_of l ms) mid this.source c orderly source moves refl (record {
        few = is.4;
        guarded = λ h. absurd (let none = is.2 in omega (arith, h, none));
        mirrored = λ h. inr is.1;
        given = λ h. (is.2, is.1);
      }) in
      let laid' = release_laid l (stage_of l ms) mid m arena arena' this.source j orderly laid source below is.0 is.1 is.2 gives moves in
      let to : (mid this.source).into ≡ this.destination = ap (λ (x : Stage). x.into) moves.here ∙ ap (λ (x : Stage). x.into) now in (
        merge_laid l l' mid f' m arena' this.source this.destination orderly' laid' to (λ e. two (sym e))
            (subst (λ (x : Stage). total ≤ x.remapped) (sym moves.here) is.1) (subst (λ (x : Stage). total ≤ x.locked_from) (sym moves.here) is.3) merges
            (record { here = moves'.here; others = λ n other. moves'.others n other ∙ sym (moves.others n other) }),
        release_keeps l (stage_of l ms) mid m arena arena' this.source j orderly laid source below is.0 is.1 is.2 gives moves,
      )
