-- 02, A1, computed: a run for each case of the theorem, so that it is not empty, and states in which all premises hold but one and the conclusion fails.
-- Letters: w world, ys the steps to it, xs those that the policy takes, n the client's next number, r its request, y the value shown.
use Rattle.std.specs.Prelude.{ℕ, Bool, true, false, List, [], ◌∷◌, ◌++◌, ◌≡◌, replicate}
use Rattle.protocol.specs.declared.records.Request.{Request}
use Rattle.protocol.specs.declared.setup.Setup.{Setup}
use Rattle.protocol.specs.declared.step.Answer.{Answer}
use Rattle.protocol.specs.declared.step.Answer.TheVariants.{Shown, AskFirst}
use Rattle.protocol.specs.declared.step.Step.{Step}
use Rattle.protocol.specs.Tables.{notes_at, standing_at, fresh_tables}
use Rattle.protocol.specs.World.{World, fresh_world, answer_of, ran}
use Rattle.protocol.specs.Edges.{step, clock}
use Rattle.protocol.specs.Safety.View.{request_at}
use Rattle.promises.specs.UntilShown.Policy.{read, ask, deliver, policy}
use Rattle.promises.specs.UntilShown.Phases.{standing}

-- one client and one volume with two objects; tv 10, t 100, m 3, d 1. The client waits for object 0
unfoldable pub two : Setup
two = record { clients = 1; volumes = 1; objects = 2; tv = 10; t = 100; m = 3; volume = replicate 28 0; delay = 1 }

abbrev pub after : List Step → World
after ys = ran two (fresh_world two) ys

abbrev pub write : ℕ → ℕ → Step
write o y = record { kind = 4; client = 0; object = o; place = 0; clock = 0; value = y }

-- message 0 is lost, or doubled
abbrev pub lose : Step
lose = record { kind = 6; client = 0; object = 0; place = 0; clock = 0; value = 0 }

abbrev double : Step
double = step 7 0 0 0

abbrev restart : Step
restart = step 8 0 0 0

-- the client takes object o: three steps where it is connected, else seven
abbrev pub short : ℕ → List Step
short o = ask 0 o ∷ deliver ∷ deliver ∷ []

abbrev pub long : ℕ → List Step
long o = ask 0 o ∷ deliver ∷ deliver ∷ deliver ∷ short o

-- what is seen of a state: how many messages are under way, whether a write stands on either object, the client's notes and its next number; the steps of
-- the policy, which may take two more than seven; and what the read is answered before and after them
pub record Observed : Type 0 where
  pub under_way : ℕ
  pub standing : Bool
  pub standing_beside : Bool
  pub notes : ℕ
  pub next : ℕ
  pub before : Answer
  pub steps : List Step
  pub afterwards : Answer

unfoldable pub observed : World → Observed
observed w = record {
  under_way = w.tables.queue.len;
  standing = standing_at w.tables 0;
  standing_beside = standing_at w.tables 1;
  notes = notes_at w.tables 0 0;
  next = (request_at w.requests 0).next;
  before = answer_of two w (read 0 0);
  steps = policy two 0 0 9 true w;
  afterwards = answer_of two (ran two w (policy two 0 0 9 true w)) (read 0 0);
}

-- the premises hold, and the read is shown
abbrev pub Works : List Step → ℕ → List Step → ℕ → Type 0
Works ys n xs y =
    observed (after ys) ≡ record { under_way = 0; standing = false; standing_beside = false; notes = 0; next = n; before = AskFirst; steps = xs; afterwards = Shown y }

-- they hold but for messages under way, a write on the volume's other object, notes, or the numbers left; the policy takes other steps, and the read is not
-- shown
abbrev pub Fails : World → ℕ → Bool → ℕ → ℕ → List Step → Type 0
Fails w messages beside notes n xs =
    observed w ≡ record { under_way = messages; standing = false; standing_beside = beside; notes = notes; next = n; before = AskFirst; steps = xs; afterwards = AskFirst }

-- the server restarted, and the lease from before has run out
abbrev pub restarted : List Step
restarted = long 0 ++ (restart ∷ clock 10 ∷ [])

-- a write completed past its latest end, 10, and marked the client
abbrev pub marked : List Step
marked = long 0 ++ (write 0 7 ∷ lose ∷ clock 11 ∷ [])

-- the volume lease has run out, and the copy is held
abbrev pub expired : List Step
expired = long 0 ++ (clock 10 ∷ [])

-- the volume lease has run out, and a write to object 0 is noted
abbrev pub parked : List Step
parked = long 0 ++ (clock 10 ∷ write 0 7 ∷ [])

-- client 0 was granted object 1, a write to it waits, and the INVALIDATE is lost
abbrev pub written_beside : List Step
written_beside = long 1 ++ (write 1 7 ∷ lose ∷ [])

-- a write to object 0 was acknowledged, and a double of its INVALIDATE is under way
abbrev pub invalidated_twice : List Step
invalidated_twice = long 0 ++ (write 0 7 ∷ double ∷ deliver ∷ step 5 1 0 0 ∷ [])

-- nothing has come of all that the client asked for: fresh tables, and its request
abbrev pub resting : Request → World
resting r = record { tables = fresh_tables; copies = (fresh_world two).copies; requests = r ∷ [] }

unfoldable pub Table : Type 0
Table =
    -- never connected; after a server restart; marked; renewing
    Works [] 1 (long 0) 0
    × Works restarted 3 (long 0) 0
    × Works marked 3 (long 0) 7
    × Works expired 3 (short 0) 0
    -- the RENEW is answered by the other object's INVALIDATE
    × Fails (after written_beside) 0 true 0 3 (ask 0 0 ∷ deliver ∷ deliver ∷ deliver ∷ [])
    -- the INVALIDATE makes the client forget its request, so that the GRANT is not taken
    × Fails (after invalidated_twice) 1 false 0 3 (ask 0 0 ∷ deliver ∷ deliver ∷ deliver ∷ deliver ∷ [])
    -- one number is left: the second ask is refused
    × Fails (resting (standing 4294967293 0)) 0 false 0 4294967294 (ask 0 0 ∷ deliver ∷ deliver ∷ deliver ∷ ask 0 0 ∷ [])
    -- the RENEW is answered by the BATCH, and no DROPPED comes
    × Fails (after parked) 0 false 1 3 (ask 0 0 ∷ deliver ∷ deliver ∷ deliver ∷ [])
