-- An index in which one group is another that has the same members, or none.
use Rattle.std.proofs.Common.{◌≡◌, ◌≢◌, ℕ, ◌<◌, Bool, true, false, not, ◌&&◌, ◌||◌, nat_eq, List, Option, Some, None, length, slice_set, subst, refl, sym, ◌∙◌, arith, inl, inr}
use Rattle.std.specs.Option.{option_map}
use Rattle.std.specs.Prelude.{IsSome}
use Rattle.std.proofs.Math.ListN.{length-set}
use Rattle.std.proofs.lemmas.Bool.Decides.{leb_tells}
use Rattle.std.proofs.lemmas.List.{get_or_past, get_or-set_other, get_or-set_same, set_past}
use Rattle.model_heap.specs.Table.{Slot}
use Rattle.mesh_spans.specs.Changes.{with_flag}
use Rattle.mesh_spans.specs.Groups.{is_in_mesh}
use Rattle.mesh_spans.specs.Index.{Fits, GroupEntry, IsGroup, IsIndex, IsOwned, SpanEntry, group_at, span_at, with_entry, with_slot}
use Rattle.mesh_spans.proofs.SlotLemmas.{IsGroup_put}

-- the group of the number was another one with the same class and members
pub record WasLike (groups : List (Option GroupEntry)) (n : ℕ) (now : GroupEntry) : Type 0 where
  pub group : GroupEntry
  pub there : group_at groups n ≡ Some group
  pub class : now.class ≡ group.class
  pub members : now.members ≡ group.members
  pub sound : IsGroup group → IsGroup now

-- the group of a number is another one with the same class and members, or none
pub record Replaces (groups new : List (Option GroupEntry)) (n : ℕ) : Type 0 where
  pub long : length new ≡ length groups
  pub others : (m : ℕ) → m ≢ n → group_at new m ≡ group_at groups m
  pub was : (now : GroupEntry) → group_at new n ≡ Some now → WasLike groups n now

like : (groups new : List (Option GroupEntry)) (n m : ℕ) (now : GroupEntry) → Replaces groups new n → group_at new m ≡ Some now → WasLike groups m now
like groups new n m now is at = grind arith

-- index and owners stay so
pub replaced_keeps : (spans : List SpanEntry) (groups new : List (Option GroupEntry)) (owners : List (Option ℕ)) (n : ℕ) → Replaces groups new n
    → IsIndex spans groups × IsOwned spans groups owners → IsIndex spans new × IsOwned spans new owners
replaced_keeps spans groups new owners n is sound = (
  record {
    span = sound.0.span;
    few = sound.0.few;
    paired = is.long ∙ sound.0.paired;
    each = λ m now at. let was = like groups new n m now is at in was.sound (sound.0.each m was.group was.there);
    members = λ m place now at below. let was = like groups new n m now is at in
        let member = sound.0.members m place was.group was.there (rw was.members at below) in
        rw was.members (record { below = member.below; same_class = member.same_class ∙ sym was.class; same_group = member.same_group });
    numbered = λ i below. omega (arith, sound.0.numbered i below, is.long);
    classes = λ i now below at. let was = like groups new n (span_at spans i).group now is at in was.class ∙ sound.0.classes i was.group below was.there;
  },
  record {
    owned = λ m place j now at below page. let was = like groups new n m now is at in
        rw was.members (sound.1.owned m place j was.group was.there (rw was.members at below) (rw was.class at page));
  },
)

-- a group taken out
pub replaced_none : (groups : List (Option GroupEntry)) (n : ℕ) → n < length groups → Replaces groups (slice_set groups n None) n
replaced_none groups n below = grind (arith, length-set, get_or-set_other, get_or-set_same)

-- a group changed in neither its class nor its members
replaced_by : (groups : List (Option GroupEntry)) (n : ℕ) (change : GroupEntry → GroupEntry)
    → ((x : GroupEntry) → group_at groups n ≡ Some x → WasLike groups n (change x))
    → Replaces groups (slice_set groups n (option_map change (group_at groups n))) n
replaced_by groups n change like = record {
  long = length-set groups n (option_map change (group_at groups n));
  others = λ m apart. get_or-set_other groups n m (option_map change (group_at groups n)) None apart;
  was = λ now at. elim (leb_tells (length groups) n) [
    | inr below ↦ went (group_at groups n) now refl (sym (get_or-set_same groups n (option_map change (group_at groups n)) None below.1) ∙ at)
    | inl past ↦ absurd (
        let now_none = rw (set_past groups n (option_map change (group_at groups n)) past.1) at at in
        let two : ◌≡◌ {A = Option GroupEntry} None (Some now) = sym (get_or_past groups n None past.1) ∙ now_none in cc two)
  ];
}
  where
    went : (o : Option GroupEntry) (now : GroupEntry) → group_at groups n ≡ o → option_map change o ≡ Some now → WasLike groups n now
    went None now at is = absurd (cc is)
    went (Some x) now at is = let same : change x ≡ now = cc is in subst (λ (y : GroupEntry). WasLike groups n y) same (like x at)

-- a group that is in a mesh or in none
pub replaced_flag : (groups : List (Option GroupEntry)) (n : ℕ) (meshing : Bool) → Replaces groups (with_flag groups n meshing) n
replaced_flag groups n meshing = replaced_by _ _ _ (λ x at. record { group = x; there = at; class = refl; members = refl; sound = λ h. assumption })

-- index and owners stay so as an entry that fits is put
pub put_keeps : (spans : List SpanEntry) (groups : List (Option GroupEntry)) (owners : List (Option ℕ)) (n k : ℕ) (entry : Option Slot) → Fits groups n k entry
    → IsIndex spans groups × IsOwned spans groups owners → IsIndex spans (with_entry groups n k entry) × IsOwned spans (with_entry groups n k entry) owners
put_keeps spans groups owners n k entry fits = replaced_keeps _ _ _ _ _ (replaced_by _ _ _ (λ x at. let fit = fits x at in
    record { group = x; there = at; class = refl; members = refl; sound = λ h. IsGroup_put _ _ _ (rw h.slots fit.0) fit.1 h }))

-- a group is below the count
pub some_below : (groups : List (Option GroupEntry)) (n : ℕ) → IsSome (group_at groups n) → n < length groups
some_below groups n some = grind (arith, get_or_past)

-- which groups are in a mesh, with one that is
pub closed_flag : (groups : List (Option GroupEntry)) (n m : ℕ) → IsSome (group_at groups n)
    → is_in_mesh (group_at (with_flag groups n true) m) ≡ (nat_eq m n || is_in_mesh (group_at groups m))
closed_flag groups n m some = grind (arith, get_or-set_same, some_below, get_or-set_other)

-- with one that isn't
pub open_flag : (groups : List (Option GroupEntry)) (n m : ℕ) → IsSome (group_at groups n)
    → is_in_mesh (group_at (with_flag groups n false) m) ≡ (not (nat_eq m n) && is_in_mesh (group_at groups m))
open_flag groups n m some = grind (arith, get_or-set_same, some_below, get_or-set_other)

-- with one that is no group
pub none_flag : (groups : List (Option GroupEntry)) (n m : ℕ) → n < length groups
    → is_in_mesh (group_at (slice_set groups n None) m) ≡ (not (nat_eq m n) && is_in_mesh (group_at groups m))
none_flag groups n m below = grind (arith, get_or-set_same, get_or-set_other)

-- what holds of a group that stays and of one that changes holds of each, once one has changed
pub each_changed : (P : Option GroupEntry → Option GroupEntry → Type 0) (groups : List (Option GroupEntry)) (n : ℕ) (change : GroupEntry → GroupEntry)
    → ((o : Option GroupEntry) → P o o) → ((o : Option GroupEntry) → P o (option_map change o)) → (m : ℕ)
    → P (group_at groups m) (group_at (slice_set groups n (option_map change (group_at groups n))) m)
each_changed P groups n change stays changes m = grind (arith, set_past, get_or-set_same, get_or-set_other)

-- which groups are in a mesh stays so as an entry changes
pub entry_closed : (groups : List (Option GroupEntry)) (n k m : ℕ) (entry : Option Slot)
    → is_in_mesh (group_at (with_entry groups n k entry) m) ≡ is_in_mesh (group_at groups m)
entry_closed groups n k m entry = each_changed (λ o o'. is_in_mesh o' ≡ is_in_mesh o) groups n (with_slot k entry) (λ o. refl)
    (λ o. elim o as (λ o. is_in_mesh (option_map (with_slot k entry) o) ≡ is_in_mesh o) [ None ↦ refl | Some x ↦ refl ]) m
