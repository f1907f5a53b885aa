-- The judge of a whole object, by that of the object without the parts that are set aside.
use Rattle.std.proofs.Common.{◌≡◌, ◌≢◌, ◌↔◌, inl, inr, ℕ, zero, suc, Bool, false, List, [], ◌∷◌, Option, Some, None, Result, Ok, Err, OnOk, OnErr, slice_get, slice_set, ap, sym, subst, ◌∙◌}
use Rattle.std.specs.Option.{IfSome}
use Rattle.std.proofs.lemmas.Bool.Decides.{eqb_tells}
use Rattle.std.proofs.lemmas.Option.{slice_get_within}
use Rattle.history_object.specs.declared.access.Access.{Access}
use Rattle.history_object.specs.declared.configuration.Configuration.{Configuration}
use Rattle.history_object.specs.Carried.{IsKept}
use Rattle.history_object.specs.Following.{EndsAtPlace, HasMoreAtEnd, HasSome, IsCallOf, IsOpen, IsRefutedOf, TakesPlace, TimedStanding}
use Rattle.history_object.specs.ObjectBytes.{State, conflict, effect, reads}
use Rattle.history_object.specs.Standings.{Begins, CanGoOn, CanPass, Ends, Event, HasPassed, call_at}
use Rattle.history_object.specs.declared.refutation.Refutation.{Refutation}
use Rattle.history_object.proofs.Followed.{IsFollowedOn, IsFollowedToEnd, begin_is_followed, end_is_followed}
use Rattle.history_object.proofs.Passing.{begin_passes}
use Rattle.history_object.proofs.Places.{get_set_here, get_set_other}
use Rattle.history_object.proofs.PlaceLists.{called_other}
use Rattle.history_object.proofs.Swapping.{accesses_read, accesses_swap}
use Rattle.history_parts.specs.declared.part.Part.{Part}
use Rattle.history_parts.specs.Parts.{AreAside, AreFree, HasMoreBeside, HasParts, IsApartFromAll, IsRefutedBeside, IsSameWhole, stores_of, whole}
use Rattle.history_parts.specs.Aside.{AreApart, IsApartFrom}
use Rattle.history_parts.specs.Products.{AreSame, products}
use Rattle.history_parts.proofs.Beside.{aside_left}
use Rattle.history_parts.proofs.EndsAside.{EndsAs, ends_left, ends_pass, ends_products}
use Rattle.history_parts.proofs.Lifted.{apart_ended}
use Rattle.history_parts.proofs.Products.{kept_none, some_before, some_product}

-- what the same configurations can pass
can_pass_same : (pending pending' : List (Option Access)) (kept kept' : List (Configuration State)) (events : List (Event Access)) → pending' ≡ pending → AreSame kept kept'
    → CanGoOn effect (record { pending = pending; kept = kept }) events ↔ CanGoOn effect (record { pending = pending'; kept = kept' }) events
can_pass_same pending pending' kept kept' events is same = (
  λ on. (on.0, (same on.0).0 on.1, subst (λ xs. CanPass effect xs on.0 events) (sym is) on.2),
  λ on. (on.0, (same on.0).1 on.1, subst (λ xs. CanPass effect xs on.0 events) is on.2),
)

-- ---- a judge without parts

pub aside_first : (kept : List (Configuration State)) → AreAside kept []
aside_first kept = record {
  apart = tt;
  steady = λ calls call is. absurd (kept_none calls is);
  possible = λ c calls call is_c is. absurd (kept_none calls is);
  some = λ calls is. absurd (kept_none calls is);
}

-- ---- an access begins

pub whole_begins : (number : ℕ) (access : Access) (old new : TimedStanding State Access) (parts : List Part) → TakesPlace number access old new
    → TakesPlace number access (whole old parts) (whole new parts)
whole_begins number access old new parts takes = record {
  place = takes.place;
  free = takes.free;
  no_call = takes.no_call;
  numbers = takes.numbers;
  pending = takes.pending;
  kept = ap (λ (kept : List (Configuration State)). products effect kept (stores_of parts)) takes.kept;
}

-- a judge that follows calls becomes one that follows these and the call that begins
pub takes_follows : (number : ℕ) (access : Access) (old new : TimedStanding State Access) → TakesPlace number access old new → IsFollowedOn effect number access old new
takes_follows number access old new takes =
    let passed : HasPassed effect (Begins takes.place access) old.standing (record { pending = new.standing.pending; kept = old.standing.kept }) =
    begin_passes effect takes.place access old.standing.pending new.standing.pending old.standing.kept takes.no_call takes.pending in
    let on = begin_is_followed effect old.standing (record { pending = new.standing.pending; kept = old.standing.kept }) old.numbers takes.place number access takes.free passed in
    let made : TimedStanding State Access = record { standing = record { pending = new.standing.pending; kept = old.standing.kept }; numbers = slice_set old.numbers takes.place (Some number) } in
    let same : made ≡ new = ap (λ (kept : List (Configuration State)). record { standing = record { pending = new.standing.pending; kept = kept }; numbers = slice_set old.numbers takes.place (Some number) }) (sym takes.kept)
    ∙ ap (λ (numbers : List (Option ℕ)). record { standing = new.standing; numbers = numbers }) (sym takes.numbers) in
    subst (λ (j : TimedStanding State Access). IsFollowedOn effect number access old j) same on

-- some configuration stays left
pub takes_some : (number : ℕ) (access : Access) (old new : TimedStanding State Access) → TakesPlace number access old new → HasSome effect old → HasSome effect new
takes_some number access old new takes some = (some.0, subst (λ (kept : List (Configuration State)). IsKept kept some.0) (sym takes.kept) some.1, tt)

-- the accesses that are apart from the stores stay so where one begins that is apart from them
called_now : {C : Type 0} (xs : List (Option C)) (p : ℕ) (x y : C) → call_at (slice_set xs p (Some x)) p ≡ Some y → x ≡ y
called_now [] p x y h = cc (h)
called_now (z ∷ xs) zero x y h = cc (h)
called_now (z ∷ xs) (suc p) x y h = called_now xs p x y h

free_begun : (pending : List (Option Access)) (place : ℕ) (access : Access) (lists : List (List Access)) → AreFree pending lists → IsApartFromAll access lists
    → AreFree (slice_set pending place (Some access)) lists
free_begun pending place access lists free apart stores store is is_store q other there = elim (eqb_tells place q) [
  | inl same ↦
      let here = subst (λ (k : ℕ). call_at (slice_set pending place (Some access)) k ≡ Some other) (sym same.1) there in
      subst (λ (a : Access). AreApart effect a store) (called_now pending place access other here) (apart stores store is is_store)
  | inr another ↦ free stores store is is_store q other (sym (called_other pending place q (Some access) another.1) ∙ there)
]

-- the parts where an access begins, or can't begin
pub parts_begun : {T E : Type 0} (result : Result T E) (number : ℕ) (access : Access) (old new : TimedStanding State Access) (parts : List Part) (called called' : Bool)
    → OnOk result (TakesPlace number access old new) → OnErr result (new ≡ old)
    → (called' ≡ false → (called ≡ false) × IsApartFromAll access (stores_of parts)) → HasParts old.standing parts called → HasParts new.standing parts called'
parts_begun (Ok x) number access old new parts called called' takes unchanged quiet has = record {
  aside = subst (λ (kept : List (Configuration State)). AreAside kept (stores_of parts)) (sym takes.kept) has.aside;
  free = λ is.
      let so = quiet is in
      subst (λ (pending : List (Option Access)). AreFree pending (stores_of parts)) (sym takes.pending)
      (free_begun old.standing.pending takes.place access (stores_of parts) (has.free so.0) so.1);
}
parts_begun (Err e) number access old new parts called called' takes unchanged quiet has = record {
  aside = subst (λ (j : TimedStanding State Access). AreAside j.standing.kept (stores_of parts)) (sym unchanged) has.aside;
  free = λ is. subst (λ (j : TimedStanding State Access). AreFree j.standing.pending (stores_of parts)) (sym unchanged) (has.free (quiet is).0);
}

-- ---- an access ends

module _ (number : ℕ) (old joined left new : TimedStanding State Access) (parts beside parts' : List Part) (joins : IsSameWhole old joined parts beside)
    (aside : AreAside joined.standing.kept (stores_of beside)) (free : AreFree joined.standing.pending (stores_of beside))
    (ends : EndsAtPlace effect reads conflict number joined left) where
  ends_so : EndsAs effect joined.standing.pending ends.place joined.standing.kept left.standing.kept
  ends_so = ends_left effect reads conflict accesses_read accesses_swap joined.standing.pending ends.place joined.standing.kept left.standing.kept ends.left

  -- the parts are beside the configurations that are left
  pub end_aside : AreAside left.standing.kept (stores_of beside)
  end_aside = aside_left joined.standing.pending ends.place joined.standing.kept left.standing.kept (stores_of beside) aside ends_so

  -- no store of them conflicts with an access that stays pending
  pub end_free : AreFree left.standing.pending (stores_of beside)
  end_free stores store is is_store =
      subst (λ (pending : List (Option Access)). IsApartFrom effect pending store) (sym ends.pending)
      (apart_ended effect joined.standing.pending ends.place store (free stores store is is_store))

  -- what was refuted at the end
  pub end_refuted : {O : Type 0} (ended : Option (Refutation O State Access)) → IfSome ended (IsRefutedOf effect reads conflict joined number)
      → IfSome ended (IsRefutedBeside (whole old parts) number)
  end_refuted None refuted = tt
  end_refuted (Some it) refuted =
      let with_numbers = subst (λ (numbers : List (Option ℕ)). IsRefutedOf effect reads conflict (record { standing = joined.standing; numbers = numbers }) number it)
      joins.numbers refuted in
      record {
        kept = joined.standing.kept;
        lists = stores_of beside;
        same = joins.kept;
        aside = aside;
        free = subst (λ (pending : List (Option Access)). AreFree pending (stores_of beside)) joins.pending free;
        refuted = subst (λ (pending : List (Option Access)). IsRefutedOf effect reads conflict
            (record { standing = record { pending = pending; kept = joined.standing.kept }; numbers = old.numbers }) number it) joins.pending with_numbers;
      }

  module _ (sets : IsSameWhole left new beside parts') where
    passes : HasPassed effect (Ends ends.place) (whole old parts).standing (whole new parts').standing
    passes events =
        let before = can_pass_same old.standing.pending joined.standing.pending (products effect old.standing.kept (stores_of parts))
        (products effect joined.standing.kept (stores_of beside)) (Ends ends.place ∷ events) joins.pending joins.kept in
        let end = ends_pass effect joined.standing.pending left.standing.pending ends.place (products effect joined.standing.kept (stores_of beside))
        (products effect left.standing.kept (stores_of beside)) ends.pending
        (ends_products effect joined.standing.pending ends.place joined.standing.kept left.standing.kept (stores_of beside) aside.steady free ends_so) events in
        let behind = can_pass_same left.standing.pending new.standing.pending (products effect left.standing.kept (stores_of beside))
        (products effect new.standing.kept (stores_of parts')) events sets.pending sets.kept in
        (λ on. behind.0 (end.0 (before.0 on)), λ on. before.1 (end.1 (behind.1 on)))

    -- the judge of the whole object follows the calls as before
    pub end_follows : IsFollowedToEnd effect (whole old parts) (whole new parts')
    end_follows =
        let here : slice_get old.numbers ends.place ≡ Some (Some number) =
        subst (λ (numbers : List (Option ℕ)). slice_get numbers ends.place ≡ Some (Some number)) joins.numbers ends.here in
        let once : (q : ℕ) → slice_get old.numbers q ≡ Some (Some number) → ends.place ≡ q =
        subst (λ (numbers : List (Option ℕ)). (q : ℕ) → slice_get numbers q ≡ Some (Some number) → ends.place ≡ q) joins.numbers ends.once in
        let on = end_is_followed effect (whole old parts).standing (whole new parts').standing old.numbers ends.place number here once passes in
        let same : slice_set old.numbers ends.place None ≡ new.numbers =
        ap (λ (numbers : List (Option ℕ)). slice_set numbers ends.place None) (sym joins.numbers) ∙ (sym ends.numbers ∙ sym sets.numbers) in
        subst (λ (numbers : List (Option ℕ)). IsFollowedToEnd effect (whole old parts) (record { standing = (whole new parts').standing; numbers = numbers })) same on

    -- exactly the other accesses stay open
    pub end_open : ((n : ℕ) → IsOpen left n ↔ (IsOpen joined n × (n ≢ number))) → (n : ℕ) → IsOpen (whole new parts') n ↔ (IsOpen (whole old parts) n × (n ≢ number))
    end_open opens n =
        subst (λ (numbers : List (Option ℕ)). ((place : ℕ) × (slice_get numbers place ≡ Some (Some n))) ↔ (((place : ℕ) × (slice_get old.numbers place ≡ Some (Some n))) × (n ≢ number)))
        (sym sets.numbers)
        (subst (λ (numbers : List (Option ℕ)). IsOpen left n ↔ (((place : ℕ) × (slice_get numbers place ≡ Some (Some n))) × (n ≢ number))) joins.numbers (opens n))

    -- each of them under its number
    pub end_calls : (n : ℕ) (access : Access) → IsCallOf (whole new parts') n access → IsCallOf (whole old parts) n access
    end_calls n access (place, is_number, is_call) =
        let numbers : slice_get (slice_set joined.numbers ends.place None) place ≡ Some (Some n) =
        subst (λ (xs : List (Option ℕ)). slice_get xs place ≡ Some (Some n)) (sets.numbers ∙ ends.numbers) is_number in
        let pending : slice_get (slice_set joined.standing.pending ends.place None) place ≡ Some (Some access) =
        subst (λ (xs : List (Option Access)). slice_get xs place ≡ Some (Some access)) (sets.pending ∙ ends.pending) is_call in
        elim (eqb_tells ends.place place) [
          | inl same ↦ absurd (
              let free = get_set_here joined.numbers ends.place None (slice_get_within joined.numbers ends.place (Some number) ends.here) in
              let here = subst (λ (q : ℕ). slice_get (slice_set joined.numbers ends.place None) q ≡ Some (Some n)) (sym same.1) numbers in cc (free, here))
          | inr other ↦ (
            place,
            subst (λ (xs : List (Option ℕ)). slice_get xs place ≡ Some (Some n)) joins.numbers (sym (get_set_other joined.numbers ends.place place None other.1) ∙ numbers),
            subst (λ (xs : List (Option Access)). slice_get xs place ≡ Some (Some access)) joins.pending
                (sym (get_set_other joined.standing.pending ends.place place None other.1) ∙ pending),
          )
        ]

    -- the whole has a configuration just where the judge without the parts has one
    pub end_some : HasSome effect left ↔ HasSome effect (whole new parts')
    end_some = (
      λ some.
          let all = some_product effect left.standing.kept (stores_of beside) end_aside.steady end_aside.possible end_aside.some (some.0, some.1) in
          (all.0, (sets.kept all.0).0 all.1, tt),
      λ some.
          let one = some_before effect left.standing.kept (stores_of beside) (some.0, (sets.kept some.0).1 some.1) in
          (one.0, one.1, tt),
    )

-- more configurations are met at the end than are allowed
pub more_beside : (number most : ℕ) (old joined : TimedStanding State Access) (parts beside : List Part) → IsSameWhole old joined parts beside
    → AreAside joined.standing.kept (stores_of beside) → AreFree joined.standing.pending (stores_of beside)
    → HasMoreAtEnd effect reads conflict joined number most → HasMoreBeside (whole old parts) number most
more_beside number most old joined parts beside joins aside free many =
    let with_numbers = subst (λ (numbers : List (Option ℕ)). HasMoreAtEnd effect reads conflict (record { standing = joined.standing; numbers = numbers }) number most)
    joins.numbers many in
    record {
      kept = joined.standing.kept;
      lists = stores_of beside;
      same = joins.kept;
      aside = aside;
      free = subst (λ (pending : List (Option Access)). AreFree pending (stores_of beside)) joins.pending free;
      many = subst (λ (pending : List (Option Access)). HasMoreAtEnd effect reads conflict
          (record { standing = record { pending = pending; kept = joined.standing.kept }; numbers = old.numbers }) number most) joins.pending with_numbers;
    }
