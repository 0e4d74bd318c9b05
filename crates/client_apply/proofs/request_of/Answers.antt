use Rattle.client_apply.proofs.Changing.{client_there}
use Rattle.client_apply.proofs.request_of.Goals as goal

pub request_at-requires : goal.request_at-requires
request_at-requires c = client_there _ c.requires _ c.if-at-setup.true
