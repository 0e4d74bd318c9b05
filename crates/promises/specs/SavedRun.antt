-- 02, A7: a run that saves, goes back, and so abandons a branch, worked through by computation. Every message is delivered from place 0.
use Rattle.std.specs.Prelude.{List, [], ◌∷◌}
use Rattle.protocol.specs.declared.step.Step.{Step}
use Rattle.protocol.specs.SavedEdges.{save, return}
use Rattle.protocol.specs.Edges.{clock, write}
use Rattle.promises.specs.UntilShown.Policy.{read, ask, deliver}

unfoldable pub saved_there : List Step
saved_there =
    -- client 0 takes the object and reads it; this is saved as 2
    ask 0 0 ∷ deliver ∷ deliver ∷ deliver ∷ ask 0 0 ∷ deliver ∷ deliver ∷ read 0 0 ∷ save 2
    -- the branch: a write of 7 completes by ACK and is read; this is saved as 3
    ∷ clock 5 ∷ write 7 ∷ deliver ∷ deliver ∷ ask 0 0 ∷ deliver ∷ deliver ∷ read 0 0 ∷ save 3
    -- back: 0 is read again, and 4 is no time before the clock
    ∷ return 2 ∷ read 0 0 ∷ clock 4
    -- never saved, and above 3
    ∷ return 1 ∷ save 4 ∷ []

-- the state saved on the branch is there still
unfoldable pub branch_again : List Step
branch_again = return 3 ∷ read 0 0 ∷ []
