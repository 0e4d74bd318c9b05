use Rattle.client_transfer.proofs.Laws.{requests_taken}
use Rattle.client_transfer.proofs.requests.to_words.Goals as goal

pub returns-clause-by_index : goal.returns-clause-by_index
returns-clause-by_index c = λ x. (c.to_words.ensures.rest x).0

pub returns-clause-by_index_2 : goal.returns-clause-by_index_2
returns-clause-by_index_2 c = λ x. requests_taken _ _ x _ _ c.to_words.ensures.stored c.to_words.ensures.rest
