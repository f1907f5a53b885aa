use Rattle.std.proofs.Common.{◌≡◌, ◌↔◌, ◌⊎◌, ℕ, List, false, Result, Ok, Err, OnOk, OnErr, subst}
use Rattle.history_object.specs.declared.access.Access.{Access}
use Rattle.history_object.specs.Following.{HasSome, IsFull, IsOpen, TakesPlace, TimedStanding}
use Rattle.history_object.specs.ObjectBytes.{State, effect}
use Rattle.history_object.proofs.Followed.{IsFollowedOn}
use Rattle.history_parts.specs.declared.part.Part.{Part}
use Rattle.history_parts.specs.Parts.{IsApartFromAll, stores_of, whole}
use Rattle.history_parts.proofs.Whole.{parts_begun, takes_follows, takes_some, whole_begins}
use Rattle.history_parts.proofs.judge.PartedJudge.begin.Goals as goal

on_ok : {T E : Type 0} (result : Result T E) (P Q : Type 0) → (P → Q) → OnOk result P → OnOk result Q
on_ok (Ok x) P Q so p = so p
on_ok (Err e) P Q so p = tt

on_err : {T E : Type 0} (result : Result T E) (P Q : Type 0) → (P → Q) → OnErr result P → OnErr result Q
on_err (Ok x) P Q so p = tt
on_err (Err e) P Q so p = so p

pub returns-clause-place : goal.returns-clause-place
returns-clause-place c =
    let parts = c.self.inside.parts.items in
    on_ok _ _ _ (λ (takes : TakesPlace c.args.number c.args.access c.self.inside.judge c.begin.new.self).
    subst (λ (j : TimedStanding State Access). TakesPlace c.args.number c.args.access j (whole c.begin.new.self parts)) c.self.view_is
    (whole_begins c.args.number c.args.access c.self.inside.judge c.begin.new.self parts takes)) c.begin.ensures.place

pub returns-clause-follows : goal.returns-clause-follows
returns-clause-follows c =
    let parts = c.self.inside.parts.items in
    on_ok _ _ _ (λ (takes : TakesPlace c.args.number c.args.access c.self.inside.judge c.begin.new.self).
    subst (λ (j : TimedStanding State Access). IsFollowedOn effect c.args.number c.args.access j (whole c.begin.new.self parts)) c.self.view_is
    (takes_follows c.args.number c.args.access (whole c.self.inside.judge parts) (whole c.begin.new.self parts)
    (whole_begins c.args.number c.args.access c.self.inside.judge c.begin.new.self parts takes))) c.begin.ensures.place

pub returns-clause-some : goal.returns-clause-some
returns-clause-some c =
    let parts = c.self.inside.parts.items in
    on_ok _ _ _ (λ (takes : TakesPlace c.args.number c.args.access c.self.inside.judge c.begin.new.self).
    subst (λ (j : TimedStanding State Access). HasSome effect j → HasSome effect (whole c.begin.new.self parts)) c.self.view_is
    (takes_some c.args.number c.args.access (whole c.self.inside.judge parts) (whole c.begin.new.self parts)
    (whole_begins c.args.number c.args.access c.self.inside.judge c.begin.new.self parts takes))) c.begin.ensures.place

pub returns-clause-open : goal.returns-clause-open
returns-clause-open c =
    on_ok _ _ _ (λ (opens : (n : ℕ) → IsOpen c.begin.new.self n ↔ ((n ≡ c.args.number) ⊎ IsOpen c.self.inside.judge n)).
    subst (λ (j : TimedStanding State Access). (n : ℕ) → IsOpen c.begin.new.self n ↔ ((n ≡ c.args.number) ⊎ IsOpen j n)) c.self.view_is opens) c.begin.ensures.open

pub returns-clause-taken : goal.returns-clause-taken
returns-clause-taken c =
    on_err _ _ _ (λ (full : IsFull c.self.inside.judge). subst (λ (j : TimedStanding State Access). IsFull j) c.self.view_is full) c.begin.ensures.taken

pub invariant_of-self : goal.invariant_of-self
invariant_of-self c =
    let called = c.calls-self-inside.result in
    let quiet : called ≡ false → (c.self.inside.called ≡ false) × IsApartFromAll c.args.access (stores_of c.self.inside.parts.items) =
    subst (λ (l : List Part). called ≡ false → (c.self.inside.called ≡ false) × IsApartFromAll c.args.access (stores_of l)) c.as_slice.ensures.value c.calls-self-inside.ensures in
    parts_begun c.begin.result c.args.number c.args.access c.self.inside.judge c.begin.new.self c.self.inside.parts.items c.self.inside.called called
    c.begin.ensures.place c.begin.ensures.unchanged quiet c.self.invariant
