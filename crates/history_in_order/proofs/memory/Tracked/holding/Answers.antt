use Rattle.std.proofs.Common.{◌∙◌, sym, ap, arith}
use Rattle.history_in_order.specs.Objects.{object_in}
use Rattle.history_in_order.proofs.Trees.{holding_is, none_below, none_past, stray_is}
use Rattle.history_in_order.proofs.memory.Tracked.holding.Goals as goal

pub returns-in_default-clause-refusal : goal.returns-in_default-clause-refusal
returns-in_default-clause-refusal c = λ r st.
    stray_is r.memory c.args.address (λ k p at. none_below _ _ _ _ _ _ r c.args.address st c.in_default.ensures k c.args.address p (sym (st.object k) ∙ at) (omega arith))

pub returns-then-not-has_address-clause-refusal : goal.returns-then-not-has_address-clause-refusal
returns-then-not-has_address-clause-refusal c = λ r st.
    stray_is r.memory c.args.address (λ k p at. none_past _ _ _ _ _ _ r c.args.address c.in-Some.number c.in-Some-get.object.now.object st c.in-Some.ensures
    (ap object_in (sym c.in-Some-get.ensures.value)) (sym c.if-not-has_address.ensures) k p (sym (st.object k) ∙ at))

pub returns-clause-held : goal.returns-clause-held
returns-clause-held c = λ r st. holding_is _ _ _ _ _ _ _ _ _ _ st (ap object_in (sym c.in-Some-get.ensures.value)) (sym c.if-not-has_address.ensures)
