use Rattle.model_search.proofs.Searches.{search_meshable, search_once}
use Rattle.model_search.proofs.search_laws.search_pairs.Goals as goal

pub returns-clause-meshable : goal.returns-clause-meshable
returns-clause-meshable c order t = search_meshable order t

pub returns-clause-once : goal.returns-clause-once
returns-clause-once c order t n = search_once order t n
