use Rattle.std.proofs.Common.{[], ap}
use Rattle.state_words.specs.View.{Records}
use Rattle.client_records.specs.Requests.{request_stored_law}
use Rattle.client_transfer.proofs.requests.RequestRecord.keep.Goals as goal

pub returns-then-k-lt-CLIENTS-clause-stored : goal.returns-then-k-lt-CLIENTS-clause-stored
returns-then-k-lt-CLIENTS-clause-stored c = ap (λ (q : Records). q.requests) (request_stored_law _ _ [] _ _ c.if-k-lt-CLIENTS.true c.put_request.ensures).1

pub returns-then-k-lt-CLIENTS-clause-rest : goal.returns-then-k-lt-CLIENTS-clause-rest
returns-then-k-lt-CLIENTS-clause-rest c =
    λ x. let e = request_stored_law _ _ x _ _ c.if-k-lt-CLIENTS.true c.put_request.ensures in (e.0, ap (λ (q : Records). q.copies) e.1)
