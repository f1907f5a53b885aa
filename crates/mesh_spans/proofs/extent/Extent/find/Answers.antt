use Rattle.std.proofs.Common.{◌≡◌, ℕ, ◌+◌, ◌*◌, ◌<◌, ◌/◌, ◌%◌, arith, ap, refl, ◌∙◌}
use Rattle.std.proofs.lemmas.Grind.{common_steps}
use Rattle.mesh_spans.specs.Index.{SpanEntry}
use Rattle.mesh_spans.proofs.extent.Extent.find.Goals as goal

-- quotient and remainder of what stands behind so many whole parts
parts : (n k size o : ℕ) → o < size → n ≡ k * size + o → (n / size ≡ k) × (n % size ≡ o)
parts n k size o small e = grind arith

pub returns-clause-found : goal.returns-clause-found
returns-clause-found c = λ k o small offset at.
    let size : c.size-size.result ≡ c.args.self.now.class = c.size-size.ensures.value ∙ ap (λ (s : SpanEntry). s.class) c.self.view_is in
    let first : c.self.inside.first ≡ c.args.self.now.first = ap (λ (s : SpanEntry). s.first) c.self.view_is in
    let start : c.in_ok-from_start.from_start + c.self.inside.first * 4096 ≡ c.args.addr = grind (arith, common_steps) in
    let from : c.in_ok-from_start.from_start ≡ k * c.size-size.result + o = rw size (omega (arith, at, first, start)) in
    let both = parts c.in_ok-from_start.from_start k c.size-size.result o (omega (arith, size, offset)) from in
    rw (c.numbered.ensures, both.0, both.1) refl
