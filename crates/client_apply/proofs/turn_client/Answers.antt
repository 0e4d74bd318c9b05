use Rattle.client_apply.proofs.Changing.{client_there, turn_inside}
use Rattle.client_apply.proofs.turn_client.Goals as goal

pub request_at-r-requires : goal.request_at-r-requires
request_at-r-requires c = client_there _ c.requires.setup_value _ c.if-client-setup.true

pub put_request-requires : goal.put_request-requires
put_request-requires c = client_there _ c.requires.setup_value _ c.if-client-setup.true

pub returns-then-client-setup : goal.returns-then-client-setup
returns-then-client-setup c =
    turn_inside c.args.setup
    _ _ _ c.args.u _ _ _ (client_there _ c.requires.setup_value _ c.if-client-setup.true) c.if-client-setup.true
    c.request_at-r.ensures c.turn-turned.ensures c.put_request.ensures
