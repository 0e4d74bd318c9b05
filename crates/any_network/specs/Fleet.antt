-- A fleet: one server's half, a half for each client, and every message ever sent. It moves as a net does, by calls of the halves alone; its answers and
-- events are read off the halves alone.
-- Letters: s setup, f a fleet, d client, x a step, y a move, m a message, k its kind, l messages, i a place, T clock, g a reply, a an answer or a value.
use Rattle.std.specs.Prelude.{ℕ, Bool, cond, ◌||◌, List, [], ◌∷◌, ◌++◌, eqb}
use Rattle.laws.specs.Updated.{updated}
use Rattle.protocol.specs.declared.message.Message.{Message}
use Rattle.protocol.specs.declared.message.Kind.{Kind}
use Rattle.protocol.specs.declared.message.Kind.TheVariants.{Renew, Grant, Invalidate, Ack, Offer, Dropped, Batch, Cleared}
use Rattle.protocol.specs.declared.setup.Setup.{Setup}
use Rattle.protocol.specs.declared.step.Answer.{Answer}
use Rattle.protocol.specs.declared.step.Answer.TheVariants as answer
use Rattle.protocol.specs.declared.step.Step.{Step}
use Rattle.protocol.specs.Answers.{completed_answer}
use Rattle.protocol.specs.Gate.{is_clock, is_read, is_ask, is_write, is_restart_server}
use Rattle.protocol.specs.Ledger.{Event, server_restart as restarted, showing, completions, clock_events, write_events, receipt_staged}
use Rattle.protocol.specs.History.{told}
use Rattle.any_network.specs.Network.{Move, own, arrival, Arrived, nothing, something, sent_at}
use Rattle.any_network.specs.Halves.{ServerHalf, ServerReply, ClientHalf, ClientReply, fresh_server, fresh_client, tables_for, server_clock, server_write, server_restart, server_receive, server_refusal, quietly, copy_in, client_to, client_shows, client_ask, client_restart, client_receive, client_refusal}

pub record Fleet : Type 0 where
  pub server : ServerHalf
  pub clients : ℕ → ClientHalf
  pub sent : List Message

abbrev pub fresh_fleet : Setup → Fleet
fresh_fleet s = record { server = fresh_server; clients = λ d. fresh_client s; sent = [] }

-- what a call leaves in the fleet, of the server's half or of client d's
abbrev pub by_server : Fleet → ServerReply → Fleet
by_server f g = record { server = g.half; clients = f.clients; sent = f.sent ++ g.out }

abbrev pub by_client : Fleet → ℕ → ClientReply → Fleet
by_client f d g = record { server = f.server; clients = updated f.clients d g.half; sent = f.sent ++ g.out }

-- 01 has one clock for all
abbrev pub timed : Fleet → ℕ → Fleet
timed f T = record { server = f.server; clients = λ d. client_to (f.clients d) T; sent = f.sent }

-- ---- a step of one's own: the half whose step it is asks the questions, and takes it if none is answered "no"
abbrev pub servers_step : Step → Bool
servers_step x = is_clock x || is_write x || is_restart_server x

abbrev pub refusal_by : Setup → Fleet → Step → ℕ
refusal_by s f x = cond (servers_step x) (server_refusal s f.server x) (client_refusal s (f.clients x.client) x)

abbrev pub accepted : Setup → Fleet → Step → Bool
accepted s f x = eqb (refusal_by s f x) 0

abbrev pub does : Setup → Fleet → Step → Fleet
does s f x =
    cond (is_clock x) (timed (by_server f (server_clock s f.server x.clock)) x.clock)
    (cond (is_read x) f
    (cond (is_ask x) (by_client f x.client (client_ask s (f.clients x.client) x.client x.object))
    (cond (is_write x) (by_server f (server_write s f.server x.object x.value))
    (cond (is_restart_server x) (by_server f (server_restart s f.server))
    (by_client f x.client (quietly (client_restart s (f.clients x.client))))))))

-- "shown with its value; else "ask first""
abbrev pub read_answer : Bool → ℕ → Answer
read_answer shown a = cond shown (answer.Shown a) answer.AskFirst

abbrev pub done_answer : Setup → Fleet → Step → Answer
done_answer s f x =
    cond (is_clock x) (completed_answer (server_clock s f.server x.clock).count)
    (cond (is_read x) (read_answer (client_shows s (f.clients x.client) x.object) (copy_in (f.clients x.client) x.object).value)
    (cond (is_ask x) answer.Done
    (cond (is_write x) (completed_answer (server_write s f.server x.object x.value).count) answer.Done)))

abbrev pub own_answer : Setup → Fleet → Step → Answer
own_answer s f x = cond (accepted s f x) (done_answer s f x) (answer.Refused (refusal_by s f x))

-- ---- an arrival: a message goes to the half that it is for
abbrev pub receives : Setup → Fleet → ℕ → Kind → Fleet
receives s f d (Renew o n e w) = by_server f (server_receive s f.server d (Renew o n e w))
receives s f d (Grant o n x e w y p) = by_client f d (client_receive s (f.clients d) d (Grant o n x e w y p))
receives s f d (Invalidate o e w) = by_client f d (client_receive s (f.clients d) d (Invalidate o e w))
receives s f d (Ack o e w) = by_server f (server_receive s f.server d (Ack o e w))
receives s f d (Offer v n e) = by_client f d (client_receive s (f.clients d) d (Offer v n e))
receives s f d (Dropped v n e) = by_server f (server_receive s f.server d (Dropped v n e))
receives s f d (Batch v n e m) = by_client f d (client_receive s (f.clients d) d (Batch v n e m))
receives s f d (Cleared v n e m) = by_server f (server_receive s f.server d (Cleared v n e m))

abbrev pub arrives : Setup → Fleet → Arrived → Fleet
arrives s f nothing = f
arrives s f (something m) = receives s f m.client m.kind

-- the message, and how many writes completed with it; "Do the dash, object and place it uses exist? 3."
abbrev pub arrival_answer : Setup → Fleet → Arrived → Answer
arrival_answer s f nothing = answer.Refused 3
arrival_answer s f (something m) = answer.Delivered m (server_receive s f.server m.client m.kind).count

-- ---- a run, each move on what the last one left
abbrev pub fleet_moved : Setup → Fleet → Move → Fleet
fleet_moved s f (own x) = cond (accepted s f x) (does s f x) f
fleet_moved s f (arrival i) = arrives s f (sent_at f.sent i)

abbrev pub fleet_answer : Setup → Fleet → Move → Answer
fleet_answer s f (own x) = own_answer s f x
fleet_answer s f (arrival i) = arrival_answer s f (sent_at f.sent i)

unfoldable pub fleet_moved_all : Setup → Fleet → List Move → Fleet
fleet_moved_all s f [] = f
fleet_moved_all s f (y ∷ ys) = fleet_moved_all s (fleet_moved s f y) ys

unfoldable pub fleet_answers : Setup → Fleet → List Move → List Answer
fleet_answers s f [] = []
fleet_answers s f (y ∷ ys) = fleet_answer s f y ∷ fleet_answers s (fleet_moved s f y) ys

-- ---- its events, read off the halves
abbrev pub happens_by : Setup → Fleet → Step → List Event
happens_by s f x =
    cond (is_clock x) (clock_events s (tables_for f.server) x.clock)
    (cond (is_read x) (cond (client_shows s (f.clients x.client) x.object) (showing x.client x.object (copy_in (f.clients x.client) x.object).value ∷ []) [])
    (cond (is_write x) (write_events s (tables_for f.server) x.object x.value)
    (cond (is_restart_server x) (restarted ∷ []) [])))

abbrev pub happens_at : Setup → Fleet → Arrived → List Event
happens_at s f nothing = []
happens_at s f (something m) = completions s (receipt_staged s (tables_for f.server) m.client m.kind)

abbrev pub fleet_events : Setup → Fleet → Move → List Event
fleet_events s f (own x) = cond (accepted s f x) (happens_by s f x) []
fleet_events s f (arrival i) = happens_at s f (sent_at f.sent i)

unfoldable pub fleet_history_from : Setup → Fleet → List Event → List Move → List Event
fleet_history_from s f past [] = past
fleet_history_from s f past (y ∷ ys) = fleet_history_from s (fleet_moved s f y) (told (fleet_events s f y) past) ys

abbrev pub fleet_history : Setup → List Move → List Event
fleet_history s ys = fleet_history_from s (fresh_fleet s) [] ys
