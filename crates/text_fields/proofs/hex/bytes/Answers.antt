use Rattle.std.proofs.Common.{◌≡◌, ◌≤◌, [], ◌∷◌, ◌++◌, length, length-append, arith, sym, ◌∙◌, ap, rules}
use Rattle.std.proofs.lemmas.List.{take_rest}
use Rattle.model_jobs.specs.JobFiles.{bytes_from}
use Rattle.text_fields.proofs.HexFields.{behind_bytes, byte_read, too_many_bytes, bytes_read}
use Rattle.text_fields.proofs.hex.bytes.Goals as goal

pub loop-rest-preserved : goal.loop-rest-preserved
loop-rest-preserved c =
    let read = byte_read c.args.field.now c.loop-rest.bytes.items c.loop-rest.rest.now c.in_ok-byte.byte c.loop-rest.invariant.read c.in-len2-up.len_at_least (sym c.in_ok-byte.ensures) in
    let pushed : c.push.new.self.items ≡ c.loop-rest.bytes.items ++ c.in_ok-byte.byte ∷ [] = search rules in
    record { read = rw (take_rest c.loop-rest.rest.now 2, pushed) read; few = rw pushed (omega (arith, length-append c.loop-rest.bytes.items (c.in_ok-byte.byte ∷ []), c.if-len-most.false, c.len.ensures.value)) }

pub returns-then-len-most-clause-err : goal.returns-then-len-most-clause-err
returns-then-len-most-clause-err c =
    let full : c.args.most ≤ length c.loop-rest.bytes.items = search rules in
    too_many_bytes c.args.most c.args.field.now c.loop-rest.bytes.items c.loop-rest.rest.now c.in_ok-byte.byte c.loop-rest.invariant.read c.in-len2-up.len_at_least (sym c.in_ok-byte.ensures) full

pub returns-clause-ok : goal.returns-clause-ok
returns-clause-ok c =
    let none : c.loop-rest.rest.now ≡ [] = search rules in
    let some : 1 ≤ length c.loop-rest.bytes.items = search rules in
    bytes_read c.args.most c.args.field.now c.loop-rest.bytes.items (c.loop-rest.invariant.read ∙ ap (λ rest. behind_bytes c.loop-rest.bytes.items (bytes_from rest)) none) some c.loop-rest.invariant.few
