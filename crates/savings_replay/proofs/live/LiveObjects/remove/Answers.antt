-- The place of the object becomes vacant.
use Rattle.std.proofs.Common.{ap, sym}
use Rattle.savings_replay.specs.LiveObjects.{LiveObjects}
use Rattle.savings_replay.proofs.LiveLemmas.{clear_found, clear_others, clear_sound}
use Rattle.savings_replay.proofs.live.LiveObjects.remove.Goals as goal

pub invariant_of-self : goal.invariant_of-self
invariant_of-self c = clear_sound c.args.held.place c.self.inside.vacant c.self.inside.next c.self.inside.list.items c.self.invariant

pub returns-clause-found : goal.returns-clause-found
returns-clause-found c =
    clear_found c.args.held.number c.args.held.place c.self.inside.vacant c.in_ok-object.object c.self.inside.list.items c.args.self.now.list
    (ap (λ (l : LiveObjects). l.list) c.self.view_is) (sym c.in_ok-object.ensures) c.self.invariant.apart

pub returns-clause-others : goal.returns-clause-others
returns-clause-others c =
    clear_others c.args.held.number c.args.held.place c.self.inside.vacant c.in_ok-object.object c.self.inside.list.items c.args.self.now.list
    (ap (λ (l : LiveObjects). l.list) c.self.view_is) (sym c.in_ok-object.ensures) c.self.invariant.apart
