use Rattle.model_search.proofs.Searches.{overlap_by_sets}
use Rattle.model_search.proofs.search_laws.overlap_is_by_sets.Goals as goal

pub returns : goal.returns
returns c xs ys = overlap_by_sets xs ys
