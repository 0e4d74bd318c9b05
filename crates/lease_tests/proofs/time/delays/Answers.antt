use Rattle.lease_tests.proofs.time.delays.Goals as goal

pub returns : goal.returns
returns c = rw (c.server_alive-object.ensures, c.server_alive-volume.ensures)
