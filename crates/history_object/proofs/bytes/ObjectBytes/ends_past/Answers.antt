use Rattle.std.proofs.Common.{◌≡◌, ℕ, ◌+◌, ◌-◌, ◌<◌, ◌≤◌, nat_lt, length, ap, sym, ◌∙◌, arith}
use Rattle.std.proofs.lemmas.Bool.Decides.{nat_tests}
use Rattle.history_object.specs.ObjectBytes.{State, bytes_of}
use Rattle.history_object.proofs.Offsets.{bytes_of-length}
use Rattle.history_object.proofs.bytes.ObjectBytes.ends_past.Goals as goal

-- a range that begins past the end ends there
begins_past : (len off n : ℕ) → len < off → nat_lt len off ≡ nat_lt len (off + n)
begins_past len off n past = grind (arith, nat_tests)

-- what is left from the offset on is too short
too_short : (len off n : ℕ) → off ≤ len → nat_lt (len - off) n ≡ nat_lt len (off + n)
too_short len off n within = grind (arith, nat_tests)

pub returns-then-self-off : goal.returns-then-self-off
returns-then-self-off c =
    let is : c.self.inside.len ≡ length (bytes_of c.args.self.now) =
    ap (λ (s : State). s.len) c.self.view_is ∙ sym (bytes_of-length c.args.self.now) in
    begins_past c.self.inside.len c.args.off c.args.len c.if-self-off.true ∙ ap (λ (k : ℕ). nat_lt k (c.args.off + c.args.len)) is

pub returns-else-self-off : goal.returns-else-self-off
returns-else-self-off c =
    let is : c.self.inside.len ≡ length (bytes_of c.args.self.now) =
    ap (λ (s : State). s.len) c.self.view_is ∙ sym (bytes_of-length c.args.self.now) in
    too_short c.self.inside.len c.args.off c.args.len c.if-self-off.false ∙ ap (λ (k : ℕ). nat_lt k (c.args.off + c.args.len)) is
