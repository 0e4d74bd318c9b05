-- How far a client is that waits for its read, phase by phase: what is under way, and what it needs to go on. Each phase leads to the next by one step of
-- the policy (Moves).
-- Letters: s setup, w world, d client, o object, n the number of its request; `known` says that it is connected.
use Rattle.std.specs.Prelude.{◌≡◌, length}
use Rattle.std.proofs.Common.{arith, ◌∙◌, get_or-set_same}
use Rattle.laws.specs.Lists.{length_remove}
use Rattle.protocol.specs.declared.message.Message.{Message}
use Rattle.protocol.specs.declared.message.Queue.{Queue}
use Rattle.protocol.specs.Messages.{blank, pushed, removed}
use Rattle.promises.specs.UntilShown.Phases.{Only}

-- ---- one message is under way
pub only_sent : (q : Queue) (m : Message) → q.len ≡ 0 → length q.items ≡ 64 → Only (pushed q m) m
unfolding pushed
only_sent q m e l = rw e (record { one = omega arith; first = get_or-set_same q.items 0 m blank (omega arith) })

-- it is delivered, and answered by another
pub none_left : (q : Queue) → q.len ≡ 1 → (removed q 0).len ≡ 0
unfolding removed
none_left q e = omega arith

pub only_answer : (q : Queue) (m : Message) → q.len ≡ 1 → length q.items ≡ 64 → Only (pushed (removed q 0) m) m
unfolding removed
only_answer q m e l = only_sent (removed q 0) m (none_left q e) (length_remove blank q.items 0 (omega arith) ∙ l)
