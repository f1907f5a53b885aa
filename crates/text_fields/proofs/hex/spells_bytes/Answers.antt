use Rattle.std.proofs.Common.{◌∙◌, ap, not, sym}
use Rattle.std.proofs.lemmas.List.{take_rest}
use Rattle.text_fields.proofs.HexFields.{front_of_too_many, longer_front, no_front}
use Rattle.text_fields.proofs.hex.spells_bytes.Goals as goal

pub loop-rest-init : goal.loop-rest-init
loop-rest-init c = no_front c.args.field.now c.args.most

pub returns-then-count-most : goal.returns-then-count-most
returns-then-count-most c =
    ap not (sym (front_of_too_many c.args.field.now c.loop-rest.rest.now c.loop-rest.count c.args.most c.in-Ok._byte c.loop-rest.invariant
    c.in-len2-up.len_at_least (sym c.byte_of.ensures ∙ c.in-Ok.is) c.if-count-most.true))

pub loop-rest-preserved : goal.loop-rest-preserved
loop-rest-preserved c =
    rw (take_rest c.loop-rest.rest.now 2) (longer_front c.args.field.now c.loop-rest.rest.now c.loop-rest.count c.args.most c.in-Ok._byte c.loop-rest.invariant
    c.in-len2-up.len_at_least (sym c.byte_of.ensures ∙ c.in-Ok.is) c.if-count-most.false)
