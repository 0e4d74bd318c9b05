-- 02, A1, "A rider's wait": what a client does until its read is shown, as a definition that looks at the state, and the claim about it.
-- Letters: s setup, w world, t its tables, d client, o object, v volume, n how many steps; ys are the steps that led to the state, xs those of the policy.
use Rattle.std.specs.Prelude.{ℕ, zero, suc, ◌+◌, ◌<◌, ◌≤◌, Bool, true, false, cond, not, ◌&&◌, List, [], ◌∷◌, ◌++◌, ◌≡◌, eqb, length}
use Rattle.laws.specs.Lists.{All}
use Rattle.protocol.specs.declared.message.Kind.{Kind}
use Rattle.protocol.specs.declared.message.Kind.TheVariants.{Renew, Grant, Invalidate, Ack, Offer, Dropped, Batch, Cleared}
use Rattle.protocol.specs.declared.setup.Setup.{Setup}
use Rattle.protocol.specs.declared.step.Answer.{Answer}
use Rattle.protocol.specs.declared.step.Answer.TheVariants.{Shown}
use Rattle.protocol.specs.declared.step.Step.{Step}
use Rattle.protocol.specs.declared.tables.Tables.{Tables}
use Rattle.protocol.specs.Setup.{volume_of}
use Rattle.protocol.specs.Messages.{message_at}
use Rattle.protocol.specs.Tables.{epoch_at, unreachable_at, notes_at, standing_at, view_epoch_at}
use Rattle.protocol.specs.Answers.{is_refused}
use Rattle.protocol.specs.World.{World, fresh_world, stepped, answer_of, ran, answers}
use Rattle.protocol.specs.Safety.View.{request_at}
use Rattle.protocol.specs.Reached.{posted_after}

-- ---- the steps
abbrev pub read : ℕ → ℕ → Step
read d o = record { kind = 2; client = d; object = o; place = 0; clock = 0; value = 0 }

abbrev pub ask : ℕ → ℕ → Step
ask d o = record { kind = 3; client = d; object = o; place = 0; clock = 0; value = 0 }

-- "delivered at place 0"
abbrev pub deliver : Step
deliver = record { kind = 5; client = 0; object = 0; place = 0; clock = 0; value = 0 }

-- ---- the policy
abbrev pub is_dropped : Kind → Bool
is_dropped (Renew o n e ver) = false
is_dropped (Grant o n x e ver y p) = false
is_dropped (Invalidate o e ver) = false
is_dropped (Ack o e ver) = false
is_dropped (Offer v n e) = false
is_dropped (Dropped v n e) = true
is_dropped (Batch v n e m) = false
is_dropped (Cleared v n e m) = false

-- "let the dash ask and everything be delivered at place 0, asking once more after a DROPPED": the steps that it takes, n at the most. `due` says that the
-- client asks now: at first, and where a DROPPED was delivered just before. It ends where no ask is due and the message list is empty. There is "no other
-- step between", since what the policy looks at is what its own steps left.
unfoldable pub policy : Setup → ℕ → ℕ → ℕ → Bool → World → List Step
policy s d o zero due w = []
policy s d o (suc n) due w =
    cond due (ask d o ∷ policy s d o n false (stepped s w (ask d o)))
    (cond (eqb w.tables.queue.len 0) []
    (deliver ∷ policy s d o n (is_dropped (message_at w.tables.queue 0).kind) (stepped s w deliver)))

-- ---- the premises
-- "no write standing in the volume" of object o
abbrev pub NoneStands : Setup → Tables → ℕ → Type 0
NoneStands s t o = (k : ℕ) → k < s.objects → volume_of s k ≡ volume_of s o → standing_at t k ≡ false

-- nothing is under way, nothing stands in the volume, the client has no notes there, and it can ask twice
pub record Quiet (s : Setup) (w : World) (d o : ℕ) : Type 0 where
  pub client : d < s.clients
  pub object : o < s.objects
  -- "with an empty message list"
  pub empty : w.tables.queue.len ≡ 0
  pub vacant : NoneStands s w.tables o
  -- 02, A6: "the wait of A1 excludes dashes with notes"
  pub unnoted : notes_at w.tables d (volume_of s o) ≡ 0
  -- "two request numbers left": question 6 asks of each ask that the next number is below 4,294,967,295
  pub numbers : (request_at w.requests d).next + 1 < 4294967295

-- ---- the claim
-- "when the dash is not marked and knows the epoch"
abbrev pub connected : Tables → ℕ → ℕ → Bool
connected t d v = not (unreachable_at t d v) && eqb (view_epoch_at t d v) (epoch_at t v)

-- "at most 7 asks and deliveries. Three are enough when .."
abbrev pub steps_needed : Setup → World → ℕ → ℕ → ℕ
steps_needed s w d o = cond (connected w.tables d (volume_of s o)) 3 7

-- after ys, the steps xs of the policy are n, each is accepted, all is delivered, and "its read is shown", with the ledger's posted value
pub record ShownAfter (s : Setup) (ys : List Step) (d o n : ℕ) (xs : List Step) : Type 0 where
  pub many : length xs ≡ n
  pub accepted : All (λ (a : Answer). is_refused a ≡ false) (answers s (ran s (fresh_world s) ys) xs)
  pub empty : (ran s (fresh_world s) (ys ++ xs)).tables.queue.len ≡ 0
  pub shown : answer_of s (ran s (fresh_world s) (ys ++ xs)) (read d o) ≡ Shown (posted_after s (ys ++ xs) o)

-- the policy ends by itself: however many steps it may take, from 7 on, it takes those
abbrev pub ShownInTime : Setup → List Step → ℕ → ℕ → Type 0
ShownInTime s ys d o =
    (n : ℕ) → 7 ≤ n → ShownAfter s ys d o (steps_needed s (ran s (fresh_world s) ys) d o) (policy s d o n true (ran s (fresh_world s) ys))
