use Rattle.std.proofs.Common.{◌≡◌, ◌≤◌, ℕ, List, ◌∙◌, arith, inl, inr, length, subst, sym}
use Rattle.std.specs.Prelude.{eqb}
use Rattle.std.specs.Cmp.Lexicographic.{pointwise}
use mathlib.Core.Bool.{true≢false}
use Rattle.history_judge.proofs.BegunReads.{bytes_themselves, nothing_read, starts_otherwise}
use Rattle.history_judge.proofs.begun.Begun.begins_with.Goals.{else-loop-next-test, then-loop-next-test+in_ok-read_some+then-branch-eq0}
use Rattle.history_judge.proofs.begun.Begun.begins_with.Goals as goal

pub returns-clause-other : goal.returns-clause-other
returns-clause-other g c other ten =
    let few : length c.loop-next-test.self.begun.items ≤ 10 = subst (λ (items : List ℕ). length items ≤ 10) c.as_slice.ensures.value c.as_slice.ensures.fits in
    let differ : c.loop-next-test.self.begun.items ≡ c.args.bytes.now → ⊥ =
    λ same. true≢false (sym (bytes_themselves c.args.bytes.now)
    ∙ sym (subst (λ (items : List ℕ). c.eq.result ≡ pointwise eqb items c.args.bytes.now) (c.as_slice.ensures.value ∙ same) c.eq.ensures) ∙ other) in
    elim c.loop-next-test.branch [
      | else-loop-next-test w ↦
          starts_otherwise c.loop-next-test.self.begun.items c.args.bytes.now (g.I.Source.remaining c.loop-next-test.self.inner) _
          (rw w.self-is c.loop-next.invariant.same)
          (inl (rw w.self-is (subst (λ (n : ℕ). 10 ≤ n) c.len.ensures.value w.loop-next-test.false))) few ten differ
      | then-loop-next-test+in_ok-read_some+then-branch-eq0 w ↦
          starts_otherwise c.loop-next-test.self.begun.items c.args.bytes.now (g.I.Source.remaining c.loop-next-test.self.inner) _
          (rw w.self-is (nothing_read c.loop-next.self.begun.items w.read_some.new.buf w.in_ok-read_some.field-0 _ _ _ c.loop-next.invariant.same
          w.in_ok-read_some.ensures.bytes w.if-branch-eq0.true))
          (inr (rw w.self-is (w.in_ok-read_some.ensures.end w.if-branch-eq0.true (let kept = w.read_some.auto.buf in omega (arith, kept))))) few ten differ
    ]
