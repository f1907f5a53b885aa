use Rattle.std.proofs.Common.{◌+◌, ◌*◌, ◌%◌, nat_eq, slice_index, refl, sym, ap, ◌∙◌}
use Rattle.std.proofs.lemmas.Bool.{cond-false, ne_eqb}
use Rattle.std.proofs.lemmas.Nat.{mod-mul-add}
use Rattle.model_orders.specs.Views.{View}
use Rattle.model_orders.specs.declared.facts.Side.{Side}
use Rattle.model_orders.specs.declared.facts.Side.TheVariants.{Source, Destination}
use Rattle.model_orders.specs.declared.steps.Step.TheVariants.{Protect, Hide, Remap, Unprotect}
use Rattle.model_otherwise.specs.Effects.{protected, remapped}
use Rattle.model_otherwise.specs.declared.page_map.Protection.TheVariants.{ReadWrite as AllowsAll, ReadOnly as AllowsLoads, Hidden as AllowsNone}
use Rattle.model_words.specs.Classes.{pages_of}
use Rattle.model_orders.specs.HeapRows.{protection_of}
use Rattle.model_orders.proofs.PageViews.{row_after}
use Rattle.model_orders.proofs.heap_laws.pages_change_alone.Goals as goal

pub returns-clause-protect : goal.returns-clause-protect
returns-clause-protect c = λ m memory x i j l is i-below j-below l-below.
    row_after m memory x Protect (protected AllowsLoads) i j l is i-below j-below l-below (λ e. refl)

pub returns-clause-hide : goal.returns-clause-hide
returns-clause-hide c = λ m memory x i j l is i-below j-below l-below.
    row_after m memory x Hide (protected AllowsNone) i j l is i-below j-below l-below (λ e. refl)

pub returns-clause-remap : goal.returns-clause-remap
returns-clause-remap c = λ m memory x i j l is i-below j-below l-below.
    row_after m memory x Remap (remapped (slice_index x.mesh.into ((i * pages_of x.mesh.class + j) % pages_of x.mesh.class))) i j l is i-below j-below l-below
    (λ e.
    let test = nat_eq (slice_index x.mesh.into ((i * pages_of x.mesh.class + j) % pages_of x.mesh.class)) (slice_index x.mesh.from j) in
    let page = ap (slice_index x.mesh.into) (mod-mul-add i (pages_of x.mesh.class) j j-below) in
    ap (λ (target : Side). let view : View = record { protection = protection_of e.protection; target = target } in view)
    (cond-false test Source Destination (ne_eqb _ _ (λ same. is.sides_apart j j j-below j-below (sym same ∙ page)))))

pub returns-clause-unprotect : goal.returns-clause-unprotect
returns-clause-unprotect c = λ m memory x i j l is i-below j-below l-below.
    row_after m memory x Unprotect (protected AllowsAll) i j l is i-below j-below l-below (λ e. refl)
