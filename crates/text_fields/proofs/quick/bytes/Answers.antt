use Rattle.std.proofs.Common.{◌≡◌, ◌≤◌, ℕ, List, ◌++◌, ◌∷◌, [], rules, subst, sym}
use Rattle.std.specs.List.{All}
use Rattle.std.proofs.lemmas.List.{take_rest}
use Rattle.std.proofs.lemmas.List.Elements.{All-append, All-cons, All-nil}
use Rattle.text_fields.proofs.QuickFields.{byte_spelt, bytes_spelt_on}
use Rattle.text_fields.proofs.quick.bytes.Goals as goal

pub loop-rest-preserved : goal.loop-rest-preserved
loop-rest-preserved c =
    let on = bytes_spelt_on c.args.text.now c.loop-rest.bytes.items c.loop-rest.rest.now c.in-Ok.byte c.loop-rest.invariant.spelt c.in-len2-up.len_at_least (sym c.in-Ok.ensures) in
    let pushed : c.try_push.new.self.items ≡ c.loop-rest.bytes.items ++ c.in-Ok.byte ∷ [] = search rules in
    let few = (byte_spelt c.loop-rest.rest.now c.in-Ok.byte c.in-len2-up.len_at_least (sym c.in-Ok.ensures)).1 in
    record { spelt = rw (take_rest c.loop-rest.rest.now 2, pushed) on; few = search rules; bytes = subst (λ (items : List ℕ). All (λ b. b ≤ 255) items) (sym pushed) (All-append (λ b. b ≤ 255) c.loop-rest.bytes.items (c.in-Ok.byte ∷ []) c.loop-rest.invariant.bytes (All-cons (λ b. b ≤ 255) c.in-Ok.byte [] few (All-nil (λ b. b ≤ 255)))) }
