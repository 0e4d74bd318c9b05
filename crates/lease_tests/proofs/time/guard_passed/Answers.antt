use Rattle.lease_tests.proofs.time.guard_passed.Goals as goal

pub returns : goal.returns
returns c = rw c.server_alive.ensures
