use Rattle.std.proofs.Common.{refl, arith}
use Rattle.mesh_steps.proofs.Stores.{held_back, live_for_fits, live_for_object, live_inside, stored_whole}
use Rattle.mesh_steps.proofs.heap.Heap.save.Goals as goal

pub overflow_add-from : goal.overflow_add-from
overflow_add-from c =
    let fits = live_for_fits _ _ _ _ _ c.self.invariant c.sound.ensures.index c.requires.some (live_inside _ _ _ _ _ c.self.view_is c.requires.live) in
    omega (arith, fits)

pub blocked-requires-clause-object : goal.blocked-requires-clause-object
blocked-requires-clause-object c =
    live_for_object _ _ _ _ _ c.self.invariant (live_inside _ _ _ _ _ c.self.view_is c.requires.live)

pub save-requires-clause-object : goal.save-requires-clause-object
save-requires-clause-object c =
    live_for_object _ _ _ _ _ c.self.invariant (live_inside _ _ _ _ _ c.self.view_is c.requires.live)

pub invariant_of-self : goal.invariant_of-self
invariant_of-self c =
    (stored_whole _ _ _ _ _ _ c.self.invariant c.sound.ensures.index c.sound.ensures.pages (live_inside _ _ _ _ _ c.self.view_is c.requires.live)
    c.save.ensures.others c.if-blocked.ensures.open c.save.ensures.saves).0

pub returns-then-blocked : goal.returns-then-blocked
returns-then-blocked c =
    rw (← c.self.view_is) (held_back (record { pages = c.self.inside.pages; next_serial = c.self.inside.next_serial }) c.args.serial c.args.addr c.args.off
    c.args.bytes.now c.self.invariant c.sound.ensures.index c.sound.ensures.pages (live_inside _ _ c.args.serial c.args.addr _ c.self.view_is c.requires.live)
    (c.if-blocked.ensures.blocked.0 refl))

pub returns : goal.returns
returns c = grind (arith, stored_whole)
