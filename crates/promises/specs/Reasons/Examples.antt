-- 02, A8, computed: each reason once, on lines that go back to a saved state.
use Rattle.std.specs.Prelude.{ℕ, List, [], ◌∷◌, replicate}
use Rattle.protocol.specs.declared.setup.Setup.{Setup}
use Rattle.protocol.specs.declared.step.Step.{Step}
use Rattle.protocol.specs.SavedEdges.{save, return}
use Rattle.protocol.specs.Edges.{step, clock, write}
use Rattle.promises.specs.UntilShown.Policy.{read, ask, deliver}

-- one client, volume and object; tv 10, m 3, and this t
unfoldable pub leased : ℕ → Setup
leased t = record { clients = 1; volumes = 1; objects = 1; tv = 10; t = t; m = 3; volume = replicate 28 0; delay = 1 }

-- reads, each by its number in the list; every message is delivered from place 0
unfoldable pub asking : List Step
asking =
    -- 1; the read in step 2 meets nothing granted
    save 3 ∷ read 0 0
    -- 3 to 9: the GRANT is delivered in step 9, and the read in step 10 is shown
    ∷ ask 0 0 ∷ deliver ∷ deliver ∷ deliver ∷ ask 0 0 ∷ deliver ∷ deliver ∷ read 0 0 ∷ save 0
    -- 12: the leases run out; the read is 13
    ∷ clock 10 ∷ read 0 0
    -- 14: back; the INVALIDATE is delivered in step 16
    ∷ return 0 ∷ write 7 ∷ deliver ∷ read 0 0
    -- 18: back; the client restarts in step 19
    ∷ return 0 ∷ step 9 0 0 0 ∷ read 0 0
    -- 21: back; the server restarts, and its OFFER is delivered in step 25
    ∷ return 0 ∷ step 8 0 0 0 ∷ ask 0 0 ∷ deliver ∷ deliver ∷ read 0 0
    -- 27: back; the object is noted, and the BATCH is delivered in step 32
    ∷ return 0 ∷ clock 10 ∷ write 7 ∷ ask 0 0 ∷ deliver ∷ deliver ∷ read 0 0
    -- 34: back to where nothing was granted
    ∷ return 3 ∷ read 0 0 ∷ []
