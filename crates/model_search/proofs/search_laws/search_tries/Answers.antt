use Rattle.model_search.proofs.Searches.{tries_at, tries_of_both, search_probes}
use Rattle.model_search.proofs.search_laws.search_tries.Goals as goal

pub returns-clause-indexed : goal.returns-clause-indexed
returns-clause-indexed c = tries_at

pub returns-clause-of_both : goal.returns-clause-of_both
returns-clause-of_both c = tries_of_both

pub returns-clause-few : goal.returns-clause-few
returns-clause-few c order t = search_probes order t
