-- The two groups of a mesh closed, and opened again.
use Rattle.std.proofs.Common.{◌≡◌, ℕ, Bool, true, false, not, ◌&&◌, ◌||◌, nat_eq, is_some, IsSome, Option, Some, None, ap, refl, ◌∙◌, inl, inr}
use Rattle.std.specs.Option.{option_map}
use Rattle.std.proofs.lemmas.Bool.Decides.{eqb_tells}
use Rattle.mesh_page_heap.proofs.Beginnings.{Closes, Flags, flag_kept, flag_same, flag_slots, same_twice}
use Rattle.mesh_spans.specs.Changes.{with_mesh}
use Rattle.mesh_spans.specs.Groups.{groups_of, is_closed}
use Rattle.mesh_spans.specs.Index.{GroupEntry, Index, group_at}
use Rattle.mesh_page_heap.specs.Meshes.{OpensBoth}

-- a group is there whatever its flag
pub flag_there : (old new : Index) (n m : ℕ) (closed : Bool) → Flags old new n closed → IsSome (group_at old.groups m) → IsSome (group_at new.groups m)
flag_there old new n m closed is there = flag_kept is_some kept old new n closed is m ∙ there
  where
    kept : (o : Option GroupEntry) (b : Bool) → is_some (option_map (with_mesh b) o) ≡ is_some o
    kept None b = refl
    kept (Some g) b = refl

-- two groups closed one after the other
pub closed_twice : (old mid new : Index) (s d : ℕ) → Flags old mid s true → Flags mid new d true → groups_of mid ≡ groups_of old → groups_of new ≡ groups_of mid
    → ((n : ℕ) → is_closed mid n ≡ (nat_eq n s || is_closed old n)) → ((n : ℕ) → is_closed new n ≡ (nat_eq n d || is_closed mid n)) → Closes old new s d
closed_twice old mid new s d one two table table' closed closed' = record {
  same = same_twice old mid new (flag_same old mid s true one) (flag_same mid new d true two);
  slots = λ n. flag_slots mid new d true two n ∙ flag_slots old mid s true one n;
  groups = table' ∙ table;
  closed = λ n. closed' n ∙ ap (λ (b : Bool). nat_eq n d || b) (closed n);
}

-- two groups opened one after the other
pub opened_twice : (old mid new : Index) (s d : ℕ) → Flags old mid s false → Flags mid new d false → groups_of mid ≡ groups_of old → groups_of new ≡ groups_of mid
    → ((n : ℕ) → is_closed mid n ≡ (not (nat_eq n s) && is_closed old n)) → ((n : ℕ) → is_closed new n ≡ (not (nat_eq n d) && is_closed mid n))
    → OpensBoth old new s d
opened_twice old mid new s d one two table table' closed closed' =
    let same = same_twice old mid new (flag_same old mid s false one) (flag_same mid new d false two) in
    record {
      class = same.class;
      members = same.members;
      pages = same.pages;
      slots = λ n. flag_slots mid new d false two n ∙ flag_slots old mid s false one n;
      spans = same.spans;
      groups = table' ∙ table;
      closed = λ n not_s not_d. closed' n ∙ (elim (eqb_tells n d) [
        | inl e ↦ absurd (not_d e.1)
        | inr apart ↦ rw apart.0 (closed n ∙ (elim (eqb_tells n s) [ inl e ↦ absurd (not_s e.1) | inr off ↦ rw off.0 refl ]))
      ]);
      closed_source = closed' s ∙ (elim (eqb_tells s d) [
        | inl e ↦ rw e.0 refl
        | inr apart ↦ rw apart.0 (closed s ∙ (elim (eqb_tells s s) [ inl e ↦ rw e.0 refl | inr off ↦ absurd (off.1 refl) ]))
      ]);
      closed_destination = closed' d ∙ (elim (eqb_tells d d) [ inl e ↦ rw e.0 refl | inr off ↦ absurd (off.1 refl) ]);
    }
