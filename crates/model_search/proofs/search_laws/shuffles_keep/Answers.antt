use Rattle.model_search.proofs.Shuffles.{shuffle_keeps, shuffle_picks}
use Rattle.model_search.proofs.search_laws.shuffles_keep.Goals as goal

pub returns-clause-numbers : goal.returns-clause-numbers
returns-clause-numbers c list words n = shuffle_keeps list words n

pub returns-clause-candidates : goal.returns-clause-candidates
returns-clause-candidates c list words = shuffle_picks list words
