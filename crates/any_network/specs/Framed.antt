-- No rule reads the message list: each rule, and each step by its kind, leaves the same whatever list it finds, and what it sends goes to the list's end.
-- Letters: s setup, t tables, q a message list, c a copy, r a request, d client, o object, v volume, T clock, a a value; of a message n number, e epoch, w
-- version, x and y volume and object expiry, p payload, m set; of a step, x is the step.
use Prim.Native.Nat.{ℕ, zero, suc, ◌+◌}
use Rattle.std.specs.Prelude.{cond, List, [], ◌∷◌}
use Rattle.protocol.specs.declared.setup.Setup.{Setup}
use Rattle.protocol.specs.declared.tables.Tables.{Tables}
use Rattle.protocol.specs.declared.message.Message.{Message}
use Rattle.protocol.specs.declared.message.Queue.{Queue}
use Rattle.protocol.specs.declared.step.Decision.{Decision}
use Rattle.protocol.specs.Tables.{with_queue, waiting_at}
use Rattle.protocol.specs.Writes.{invalidation, Counted}
use Rattle.protocol.specs.Decide.{Received}
use Rattle.any_network.specs.Framing.{Frames, recounted}
use Rattle.any_network.specs.Lists.{push_all}

abbrev pub Sends : {A : Type 0} → (A → Queue → A) → (Queue → A) → Type 0
Sends put f = Frames put push_all f

-- the message list put into what a rule leaves
abbrev pub recount : Counted → Queue → Counted
recount c q = recounted with_queue c q

abbrev pub rereceive : Received → Queue → Received
rereceive g q = record { change = g.change; counted = recount g.counted q }

abbrev pub redecide : Decision → Queue → Decision
redecide g q = record { change = g.change; outcome = record { answer = g.outcome.answer; tables = with_queue g.outcome.tables q } }

-- ---- the INVALIDATEs of a write
unfoldable pub invalidations : Setup → Tables → ℕ → ℕ → ℕ → List Message
invalidations s t o j zero = []
invalidations s t o j (suc n) = cond (waiting_at t j o) (invalidation s t o j ∷ invalidations s t o (j + 1) n) (invalidations s t o (j + 1) n)
