use Rattle.history_in_order.proofs.Laws.{legal_text, text_legal}
use Rattle.history_in_order.proofs.verdict_laws.legal_is_legal.Goals as goal

pub returns : goal.returns
returns c = λ text n. (legal_text text n, text_legal text n)
