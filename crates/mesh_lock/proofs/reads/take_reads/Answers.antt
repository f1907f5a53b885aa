use Rattle.std.proofs.Common.{◌≡◌, ℕ, Some, refl, sym, ◌∙◌, ap, arith, ◌∷◌, [], ◌++◌}
use Rattle.model_memory.specs.Plain.{Entry}
use Rattle.model_memory.specs.Reads.{Kept, read_reply}
use Rattle.mesh_lock.proofs.TakenReads.{kept_rest, taken_none, taken_more}
use Rattle.mesh_lock.proofs.reads.take_reads.Goals as goal

pub loop-kept-init : goal.loop-kept-init
loop-kept-init c = record { taken = taken_none _ _ _ _ _; kept = c.requires }

pub loop-kept-preserved : goal.loop-kept-preserved
loop-kept-preserved c =
    let m = c.args.plain.now in
    let kept : Kept = c.in-Some.kept.now in
    let head : c.loop-kept.rest.now ≡ kept ∷ c.in-Some.tail.now = c.in-Some.ensures.cases.0 in
    let same : c.in-Some-seen.seen ≡ c.args.n = omega (arith, c.if-seen-n.false, c.if-seen-n-2.false) in
    let seen : kept.seen ≡ Some c.args.n = ap (λ (k : Kept). k.seen) (sym c.kept.view_is) ∙ c.in-Some-seen.is ∙ ap (λ (x : ℕ). Some x) same in
    let reply : kept.reply ≡ read_reply m kept.command = c.if-not-answers.ensures.0 refl in
    let made : c.of.result ≡ record { worker = c.args.worker; command = kept.command; reply = kept.reply } = c.of.ensures ∙ ap (λ (k : Kept). record { worker = c.args.worker; command = k.command; reply = k.reply }) c.kept.view_is in
    record {
      taken = taken_more c.args.n c.args.worker m c.args.calls.now c.loop-kept.rest.now c.in-Some.tail.now kept c.args.history.now.items c.loop-kept.history.items c.push.new.self.items
          c.loop-kept.invariant.taken head (seen, reply) (c.in_ok-push.ensures.items ∙ ap (λ (e : Entry). c.loop-kept.history.items ++ e ∷ []) made);
      kept = kept_rest c.loop-kept.rest.now c.in-Some.tail.now kept head c.loop-kept.invariant.kept;
    }
