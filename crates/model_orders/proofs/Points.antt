-- What a load, a store, a copy and a release do to the byte at one offset.
use Rattle.std.proofs.Common.{◌≡◌, ◌≢◌, ℕ, Bool, true, false, not, if◌then◌else◌, nat_eq, ap, refl, sym, subst}
use Rattle.model_orders.specs.declared.facts.Protection.{Protection}
use Rattle.model_orders.specs.declared.facts.Protection.TheVariants.{ReadWrite, ReadOnly, Hidden}
use Rattle.model_orders.specs.declared.facts.Side.{Side}
use Rattle.model_orders.specs.declared.facts.Side.TheVariants.{Source, Destination}
use Rattle.model_orders.specs.Pages.{is_read_write, is_source, stored, with_at}
use Rattle.model_orders.specs.declared.facts.Truth.{Truth}
use Rattle.model_orders.specs.declared.facts.Truth.TheVariants.{InSource, InBoth, InDestination}
use Rattle.model_orders.specs.Rule.{is_settled, may_copy, may_release, truth_copied, truth_unprotected, is_over}

-- the byte is right where the rule says that it is: the source's, the destination's and the reference memory's byte
abbrev pub Agree : Truth → ℕ → ℕ → ℕ → Type 0
Agree InSource s d m = s ≡ m
Agree InBoth s d m = (s ≡ m) × (d ≡ m)
Agree InDestination s d m = d ≡ m

pub by_test : {X : Type 0} (P : X → Type 0) (b : Bool) (x y : X) → (b ≡ true → P x) → (b ≡ false → P y) → P (if b then x else y)
by_test P true x y if_true if_false = if_true refl
by_test P false x y if_true if_false = if_false refl

pub load_right : (protection : Protection) (side : Side) (t : Truth) (s d m : ℕ) → is_settled protection side t ≡ true → protection ≢ Hidden → Agree t s d m
    → (if is_source side then s else d) ≡ m
load_right Hidden side t s d m settled open_page h = absurd (open_page refl)
load_right ReadWrite Source InSource s d m settled open_page h = h
load_right ReadWrite Source InBoth s d m settled open_page h = h.0
load_right ReadWrite Source InDestination s d m settled open_page h = cc settled
load_right ReadWrite Destination InSource s d m settled open_page h = cc settled
load_right ReadWrite Destination InBoth s d m settled open_page h = h.1
load_right ReadWrite Destination InDestination s d m settled open_page h = h
load_right ReadOnly Source InSource s d m settled open_page h = h
load_right ReadOnly Source InBoth s d m settled open_page h = h.0
load_right ReadOnly Source InDestination s d m settled open_page h = cc settled
load_right ReadOnly Destination InSource s d m settled open_page h = cc settled
load_right ReadOnly Destination InBoth s d m settled open_page h = h.1
load_right ReadOnly Destination InDestination s d m settled open_page h = h

stored_alike : (offset byte x : ℕ) (f g : ℕ → ℕ) → f x ≡ g x → with_at f offset byte x ≡ with_at g offset byte x
stored_alike offset byte x f g h = ap (λ v. if nat_eq x offset then byte else v) h

pub store_agrees : (protection : Protection) (side : Side) (t : Truth) (offset byte x : ℕ) (s d m : ℕ → ℕ) → is_read_write protection ≡ true
    → is_settled protection side t ≡ true → Agree t (s x) (d x) (m x)
    → Agree t (stored (is_source side) offset byte s x) (stored (not (is_source side)) offset byte d x) (with_at m offset byte x)
store_agrees ReadOnly side t offset byte x s d m writable settled h = cc writable
store_agrees Hidden side t offset byte x s d m writable settled h = cc writable
store_agrees ReadWrite Source InSource offset byte x s d m writable settled h = stored_alike offset byte x s m h
store_agrees ReadWrite Source InBoth offset byte x s d m writable settled h = cc settled
store_agrees ReadWrite Source InDestination offset byte x s d m writable settled h = cc settled
store_agrees ReadWrite Destination InSource offset byte x s d m writable settled h = cc settled
store_agrees ReadWrite Destination InBoth offset byte x s d m writable settled h = cc settled
store_agrees ReadWrite Destination InDestination offset byte x s d m writable settled h = stored_alike offset byte x d m h

pub reuse_agrees : (released : Bool) (t : Truth) (offset byte x : ℕ) (s : ℕ → ℕ) (d m : ℕ) → (released ≡ true → t ≡ InDestination) → Agree t (s x) d m
    → Agree t (stored released offset byte s x) d m
reuse_agrees false t offset byte x s d m kept h = h
reuse_agrees true t offset byte x s d m kept h =
    subst (λ u. Agree u (with_at s offset byte x) d m) (sym (kept refl)) (subst (λ u. Agree u (s x) d m) (kept refl) h)

pub copy_agrees : (protection : Protection) (t : Truth) (live : Bool) (s d m : ℕ) → live ≡ true → may_copy t ≡ true → Agree t s d m
    → Agree (truth_copied protection t) s (if live then s else d) m
copy_agrees protection t false s d m is_live may h = cc is_live
copy_agrees protection InDestination true s d m is_live may h = cc may
copy_agrees ReadWrite InSource true s d m is_live may h = h
copy_agrees ReadWrite InBoth true s d m is_live may h = (h.0, h.0)
copy_agrees ReadOnly InSource true s d m is_live may h = (h, h)
copy_agrees ReadOnly InBoth true s d m is_live may h = (h.0, h.0)
copy_agrees Hidden InSource true s d m is_live may h = (h, h)
copy_agrees Hidden InBoth true s d m is_live may h = (h.0, h.0)

pub unprotect_agrees : (side : Side) (t : Truth) (s d m : ℕ) → Agree t s d m → Agree (truth_unprotected side t) s d m
unprotect_agrees side InSource s d m h = h
unprotect_agrees Source InBoth s d m h = h.0
unprotect_agrees Destination InBoth s d m h = h.1
unprotect_agrees side InDestination s d m h = h

pub release_agrees : (side : Side) (t : Truth) (s d m : ℕ) → may_release side t ≡ true → Agree t s d m → d ≡ m
release_agrees Source t s d m may h = cc may
release_agrees Destination InSource s d m may h = cc may
release_agrees Destination InBoth s d m may h = h.1
release_agrees Destination InDestination s d m may h = h

pub released_target : (side : Side) (t : Truth) → may_release side t ≡ true → side ≡ Destination
released_target Source t may = cc may
released_target Destination t may = refl

pub over_moved : (protection : Protection) (side : Side) (released : Bool) → is_over protection side released ≡ true
    → (protection ≡ ReadWrite) × (side ≡ Destination) × (released ≡ true)
over_moved ReadWrite Destination released over = (refl, refl, over)
over_moved ReadWrite Source released over = cc over
over_moved ReadOnly side released over = cc over
over_moved Hidden side released over = cc over
