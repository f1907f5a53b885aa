use Rattle.std.proofs.Common.{◌∙◌, subst, sym}
use Rattle.savings_replay.specs.Follows.{Follows, Kept}
use Rattle.savings_replay.proofs.TakenCalls.{no_room, small_new}
use Rattle.savings_replay.proofs.savings.Savings.new_small.Goals as goal

pub returns-then-not-has_room-clause-taken : goal.returns-then-not-has_room-clause-taken
returns-then-not-has_room-clause-taken c = λ f fol.
    let inside = c.self.inside in
    rw (← c.self.view_is)
    (no_room inside.settings inside.objects inside.counts inside.new_words inside.heaps f c.args.cell c.args.len c.args.class
    (subst (λ (k : Kept). Follows k f) (sym c.self.view_is) fol) (λ word serial. c.has_room.ensures word serial ∙ c.if-not-has_room.true))

pub returns-clause-taken : goal.returns-clause-taken
returns-clause-taken c = λ f fol.
    let inside = c.self.inside in
    rw (c.small_new-self-inside.ensures.value, ← c.self.view_is)
    (small_new inside.settings inside.objects c.add.new.self inside.counts inside.new_words c.draw_new-word.new.generator inside.heaps c.new.new.self f c.args.cell
    c.args.len c.args.class c.draw_new-word.result c.totals-live.result.objects c.in_ok-places.places (subst (λ (k : Kept). Follows k f) (sym c.self.view_is) fol)
    c.in_ok-places.ensures.made c.draw_new-word.ensures.word c.draw_new-word.ensures.after
    (record { cells = c.in_ok-add.ensures.cells; live = c.in_ok-add.ensures.live }) c.totals-live.ensures.objects)
