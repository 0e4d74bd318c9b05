-- 02, A1: the premises of the theorem hold in each of its cases, and each is needed: there is a state that a run reaches, in which the others hold and the
-- read is not shown.
-- Letters: ys steps, w world, k how often the client asked, r its request, m a message.
use Rattle.std.specs.Prelude.{ℕ, zero, suc, Bool, false, List, [], ◌∷◌, ◌++◌, ◌≡◌}
use Rattle.protocol.specs.declared.step.Step.{Step}
use Rattle.protocol.specs.Tables.{notes_at, standing_at}
use Rattle.protocol.specs.Safety.View.{request_at}
use Rattle.promises.specs.UntilShown.Policy.{ask, ShownInTime}
use Rattle.promises.specs.UntilShown.Examples.{two, after, lose}

-- ---- the computed runs: what is seen of them, said of the tables
-- after ys so many messages are under way, no write stands on the object, one on the volume's other object or not, and these are the client's notes and its
-- next number; and the read is not shown in time
pub record Late (ys : List Step) (messages : ℕ) (beside : Bool) (notes next : ℕ) : Type 0 where
  pub under_way : (after ys).tables.queue.len ≡ messages
  pub vacant : standing_at (after ys).tables 0 ≡ false
  pub written : standing_at (after ys).tables 1 ≡ beside
  pub noted : notes_at (after ys).tables 0 0 ≡ notes
  pub number : (request_at (after ys).requests 0).next ≡ next
  pub late : ShownInTime two ys 0 0 → ⊥

-- ---- "two request numbers left": the client asks again and again, and each RENEW is lost
unfoldable pub asked_in_vain : ℕ → List Step
asked_in_vain zero = []
asked_in_vain (suc k) = asked_in_vain k ++ (ask 0 0 ∷ lose ∷ [])
