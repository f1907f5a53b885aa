use Rattle.std.proofs.Common.{◌≡◌, ◌/◌, ◌%◌, ◌<◌, inr, length, slice_index, sym, ap, arith}
use Rattle.std.proofs.lemmas.Nat.{div_below, mod_below}
use Rattle.model_orders.proofs.PageViews.{premises_after}
use Rattle.model_otherwise.specs.Effects.{protected, remapped, source_page}
use Rattle.model_otherwise.specs.declared.page_map.Protection.TheVariants.{ReadWrite, ReadOnly, Hidden}
use Rattle.model_words.specs.Classes.{pages_of}
use Rattle.model_orders.proofs.heap_laws.premises_stay.Goals as goal

pub returns-clause-protect : goal.returns-clause-protect
returns-clause-protect c = λ m x n is below.
    premises_after x (source_page x.mesh n) (protected ReadOnly) (λ e none. cc none) (λ i j i-below j-below same e on. on) is

pub returns-clause-hide : goal.returns-clause-hide
returns-clause-hide c = λ m x n is below.
    premises_after x (source_page x.mesh n) (protected Hidden) (λ e none. cc none) (λ i j i-below j-below same e on. on) is

pub returns-clause-remap : goal.returns-clause-remap
returns-clause-remap c = λ m x n is below.
    premises_after x (source_page x.mesh n) (remapped (slice_index x.mesh.into (n % pages_of x.mesh.class))) (λ e none. cc none)
    (λ i j i-below j-below same e on.
    let some : 0 < pages_of x.mesh.class = omega arith in
    let member : n / pages_of x.mesh.class < length x.mesh.members = div_below n (pages_of x.mesh.class) (length x.mesh.members) some below in
    let number : j ≡ n % pages_of x.mesh.class =
    (is.members_apart i (n / pages_of x.mesh.class) j (n % pages_of x.mesh.class) i-below member j-below (mod_below n (pages_of x.mesh.class) some) same).1 in
    inr (ap (slice_index x.mesh.into) (sym number)))
    is

pub returns-clause-unprotect : goal.returns-clause-unprotect
returns-clause-unprotect c = λ m x n is below.
    premises_after x (source_page x.mesh n) (protected ReadWrite) (λ e none. cc none) (λ i j i-below j-below same e on. on) is
