use Rattle.std.proofs.Common.{List, None, Option, Some, ℕ}
use Rattle.std.specs.Prelude.{IfSome, MatchOption}
use Rattle.std.proofs.lemmas.Bool.Decides.{Decides-eqb}
use Rattle.std.proofs.lemmas.Slice.Eq.{strip_prefix_is}
use Rattle.text_fields.proofs.quick.behind_all.Goals as goal
use denote.Ref.{Bor}

-- what is known of a value, if there is one
if_some : (o : Option (Bor (List ℕ))) (N : Type 0) (P : Bor (List ℕ) → Type 0) → MatchOption o N P → IfSome o P
if_some None N P known = tt
if_some (Some x) N P known = known

pub returns : goal.returns
returns c = if_some c.strip_prefix.result _ _ (strip_prefix_is Decides-eqb c.args.text.now c.args.front.now c.strip_prefix.result c.strip_prefix.ensures.cases)
