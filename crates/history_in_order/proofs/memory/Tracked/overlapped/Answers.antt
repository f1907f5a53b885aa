use Rattle.std.proofs.Common.{◌∙◌, ◌+◌, ◌-◌, Some, ap, refl, sym, arith}
use Rattle.history_in_order.specs.Objects.{LiveObject, object_in, serial_in}
use Rattle.history_in_order.proofs.Ranges.{before_by_test, behind_by_test}
use Rattle.history_in_order.proofs.Trees.{nearest_starts, none_below, none_behind, not_vacant, overlapped_is}
use Rattle.history_in_order.proofs.memory.Tracked.overlapped.Goals as goal

pub returns-in_err-number-clause-none : goal.returns-in_err-number-clause-none
returns-in_err-number-clause-none c = λ none r st k x p at from to.
    let some = c.requires.some in
    none_below _ _ _ _ _ _ r (c.args.address + (c.args.len - 1)) st c.in_err-number.ensures k x p (sym (st.object k) ∙ at) (omega (arith, to, some))

pub returns-clause-some : goal.returns-clause-some
returns-clause-some c = λ r st vacant.
    let at = ap object_in (sym c.in_ok-object.ensures.value) in
    let some = c.requires.some in
    let first = nearest_starts _ _ _ _ _ _ _ _ _ _ st c.in_ok-number.ensures at in
    not_vacant _ _ _ _ _ _ _ _ _ _ _ st at some (omega (arith, first, some)) (behind_by_test _ _ (sym c.if-not-ends_behind.ensures)) vacant

pub returns-then-not-ends_behind-clause-none : goal.returns-then-not-ends_behind-clause-none
returns-then-not-ends_behind-clause-none c = λ none r st k x p at from to.
    let at' = ap object_in (sym c.in_ok-object.ensures.value) in
    let some = c.requires.some in
    let end = before_by_test _ _ (sym c.if-not-ends_behind.ensures) in
    none_behind _ _ _ _ _ _ _ _ _ _ st c.in_ok-number.ensures at' _ _ _ (sym (st.object k) ∙ at) (omega (arith, end, from)) (omega (arith, to, some))

pub returns-clause-told : goal.returns-clause-told
returns-clause-told c = λ r st.
    let live = c.in_ok-object.object.now in
    let is = c.in_ok-object.ensures.value in
    let at = ap object_in (sym is) in
    let some = c.requires.some in
    let first = nearest_starts _ _ _ _ _ _ _ _ _ _ st c.in_ok-number.ensures at in
    let serial = ap (λ (o : LiveObject). Some o.serial) (sym c.object.view_is) in
    overlapped_is _ _ _ _ _ _ r c.args.address c.args.len c.in_ok-number.number live.object _ st at (ap serial_in (sym is) ∙ serial)
    (c.range.ensures.range (st.ends c.in_ok-number.number live.object at)) refl some (omega (arith, first, some)) (behind_by_test _ _ (sym c.if-not-ends_behind.ensures))
