-- An object comes to the place that became vacant last, or to a new one.
use Rattle.std.proofs.Common.{◌≡◌, ◌+◌, ◌++◌, ◌∷◌, [], rules, length, ap, subst, sym}
use Rattle.savings_replay.specs.LiveObjects.{IsSound, LiveObjects}
use Rattle.savings_replay.specs.declared.live.Place.TheVariants.{Full}
use Rattle.savings_replay.proofs.LiveLemmas.{above_numbers, fill_found, fill_others, fill_place, fill_sound, push_found, push_others, push_place, push_sound, vacant_at}
use Rattle.savings_replay.proofs.live.LiveObjects.add.Goals as goal

-- the place that became vacant last is filled

pub invariant_of-self : goal.invariant_of-self
invariant_of-self c =
    let read = c.in-Some-Vacant.ensures.lookup in
    fill_sound c.args.number c.self.inside.vacant c.in-Some-Vacant.before c.self.inside.next c.args.object c.self.inside.list.items
    (vacant_at c.self.inside.list.items c.deref.result.now c.self.inside.vacant c.in-Some-Vacant.before c.in-Some-Vacant.field-0.now
    c.deref.ensures.value read.3.0 read.1 c.in-Some-Vacant.field-0-is)
    c.self.invariant (above_numbers c.self.inside.next c.args.number c.args.self.now (ap (λ (l : LiveObjects). l.next) c.self.view_is) c.requires.next)

pub returns-in-Some-Vacant-clause-found : goal.returns-in-Some-Vacant-clause-found
returns-in-Some-Vacant-clause-found c =
    let read = c.in-Some-Vacant.ensures.lookup in
    fill_found c.args.number c.self.inside.vacant c.in-Some-Vacant.before c.self.inside.next c.args.object c.self.inside.list.items c.args.self.now.list
    (ap (λ (l : LiveObjects). l.list) c.self.view_is)
    (vacant_at c.self.inside.list.items c.deref.result.now c.self.inside.vacant c.in-Some-Vacant.before c.in-Some-Vacant.field-0.now
    c.deref.ensures.value read.3.0 read.1 c.in-Some-Vacant.field-0-is)
    c.self.invariant (above_numbers c.self.inside.next c.args.number c.args.self.now (ap (λ (l : LiveObjects). l.next) c.self.view_is) c.requires.next)

pub returns-in-Some-Vacant-clause-place : goal.returns-in-Some-Vacant-clause-place
returns-in-Some-Vacant-clause-place c =
    let read = c.in-Some-Vacant.ensures.lookup in
    fill_place c.args.number c.self.inside.vacant c.in-Some-Vacant.before c.args.object c.self.inside.list.items
    (vacant_at c.self.inside.list.items c.deref.result.now c.self.inside.vacant c.in-Some-Vacant.before c.in-Some-Vacant.field-0.now
    c.deref.ensures.value read.3.0 read.1 c.in-Some-Vacant.field-0-is)

pub returns-in-Some-Vacant-clause-others : goal.returns-in-Some-Vacant-clause-others
returns-in-Some-Vacant-clause-others c =
    let read = c.in-Some-Vacant.ensures.lookup in
    fill_others c.args.number c.self.inside.vacant c.in-Some-Vacant.before c.self.inside.next c.args.object c.self.inside.list.items c.args.self.now.list
    (ap (λ (l : LiveObjects). l.list) c.self.view_is)
    (vacant_at c.self.inside.list.items c.deref.result.now c.self.inside.vacant c.in-Some-Vacant.before c.in-Some-Vacant.field-0.now
    c.deref.ensures.value read.3.0 read.1 c.in-Some-Vacant.field-0-is)
    c.self.invariant (above_numbers c.self.inside.next c.args.number c.args.self.now (ap (λ (l : LiveObjects). l.next) c.self.view_is) c.requires.next)

-- or there is one place more

pub invariant_of-self-2 : goal.invariant_of-self-2
invariant_of-self-2 c =
    let same : c.match-get.self-inside ≡ c.self.inside = search rules in
    let is : c.push.new.self.items ≡ c.self.inside.list.items ++ (Full c.args.number c.args.object ∷ []) = rw (← same) c.in_ok-push.ensures.items in
    subst (λ xs. IsSound xs (c.args.number + 1)) (sym is)
    (push_sound c.args.number c.self.inside.next c.args.object c.self.inside.list.items c.self.invariant
    (above_numbers c.self.inside.next c.args.number c.args.self.now (ap (λ (l : LiveObjects). l.next) c.self.view_is) c.requires.next))

pub returns-clause-found : goal.returns-clause-found
returns-clause-found c =
    let same : c.match-get.self-inside ≡ c.self.inside = search rules in
    push_found c.args.number c.self.inside.next c.args.object c.self.inside.list.items c.push.new.self.items c.args.self.now.list
    (ap (λ (l : LiveObjects). l.list) c.self.view_is) (rw (← same) c.in_ok-push.ensures.items) c.self.invariant
    (above_numbers c.self.inside.next c.args.number c.args.self.now (ap (λ (l : LiveObjects). l.next) c.self.view_is) c.requires.next)

pub returns-clause-place : goal.returns-clause-place
returns-clause-place c =
    let len : c.len-place.result ≡ length c.match-get.self-inside.list.items = search rules in
    push_place c.args.number c.len-place.result c.args.object c.match-get.self-inside.list.items c.push.new.self.items
    len c.in_ok-push.ensures.items

pub returns-clause-others : goal.returns-clause-others
returns-clause-others c =
    let same : c.match-get.self-inside ≡ c.self.inside = search rules in
    push_others c.args.number c.self.inside.next c.args.object c.self.inside.list.items c.push.new.self.items c.args.self.now.list
    (ap (λ (l : LiveObjects). l.list) c.self.view_is) (rw (← same) c.in_ok-push.ensures.items) c.self.invariant
    (above_numbers c.self.inside.next c.args.number c.args.self.now (ap (λ (l : LiveObjects). l.next) c.self.view_is) c.requires.next)
