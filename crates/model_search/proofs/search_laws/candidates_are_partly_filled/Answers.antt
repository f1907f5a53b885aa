use Rattle.model_search.proofs.Candidates.{candidate_is, candidates_ascend, is_candidate_at}
use Rattle.model_search.proofs.search_laws.candidates_are_partly_filled.Goals as goal

pub returns-clause-exact : goal.returns-clause-exact
returns-clause-exact c t class candidate sound =
    (λ h. candidate_is t class h.0 candidate sound h.1, λ is. is_candidate_at t class candidate sound is)

pub returns-clause-ascend : goal.returns-clause-ascend
returns-clause-ascend c = candidates_ascend
