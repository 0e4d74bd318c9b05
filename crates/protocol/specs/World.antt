-- A step on tables and lent records, and a run over a list of steps, each on what the last one left.
use Rattle.std.specs.Prelude.{ℕ, ◌+◌, ◌*◌, cond, List, [], ◌∷◌, get_or, set, replicate}
use Rattle.protocol.specs.declared.records.Copy.{Copy}
use Rattle.protocol.specs.declared.records.Request.{Request}
use Rattle.protocol.specs.declared.setup.Setup.{Setup}
use Rattle.protocol.specs.declared.step.Answer.{Answer}
use Rattle.protocol.specs.declared.step.Decision.{Decision}
use Rattle.protocol.specs.declared.step.Step.{Step}
use Rattle.protocol.specs.declared.step.Target.{Target}
use Rattle.protocol.specs.declared.tables.Tables.{Tables}
use Rattle.protocol.specs.Messages.{message_at, object_of}
use Rattle.protocol.specs.Tables.{no_copy, no_request, fresh_request, fresh_tables}
use Rattle.protocol.specs.Client.{turned, changed, swept_all}
use Rattle.protocol.specs.Sound.{records_sound}
use Rattle.protocol.specs.Gate.{is_deliver}
use Rattle.protocol.specs.Decide.{decided}

-- the tables, all clients' copies in one list, and one request record a client
pub record World : Type 0 where
  pub tables : Tables
  pub copies : List Copy
  pub requests : List Request

-- "The tables start fresh, with no message and no copy."
abbrev pub fresh_world : Setup → World
fresh_world s = record { tables = fresh_tables; copies = replicate (s.clients * s.objects) no_copy; requests = replicate s.clients fresh_request }

-- the records of client d and its copy of object o
abbrev pub target_at : Setup → ℕ → ℕ → Target
target_at s d o = record { client = d; copy = d * s.objects + o; first = d * s.objects }

-- whose records a step can touch: those that it names, or those of the client and object of the message that it delivers
unfoldable pub target : Setup → Tables → Step → Target
target s t x =
    cond (is_deliver x) (target_at s (message_at t.queue x.place).client (object_of (message_at t.queue x.place).kind))
    (target_at s x.client x.object)

-- the decision about a step: on the one copy and the one request
unfoldable pub decision : Setup → World → Step → Decision
decision s w x =
    decided s w.tables (records_sound s w.copies w.requests) (get_or w.copies (target s w.tables x).copy no_copy)
    (get_or w.requests (target s w.tables x).client no_request)
    x

-- what a decision makes of the lent records, and of the whole world
abbrev pub copies_after : Setup → List Copy → Target → Decision → List Copy
copies_after s l a d = swept_all s d.change.sweep a.first (set l a.copy (changed (get_or l a.copy no_copy) d.change.copy))

abbrev pub requests_after : List Request → Target → Decision → List Request
requests_after l a d = set l a.client (turned (get_or l a.client no_request) d.change.request)

abbrev pub world_after : Setup → World → Target → Decision → World
world_after s w a d = record { tables = d.outcome.tables; copies = copies_after s w.copies a d; requests = requests_after w.requests a d }

-- one step
unfoldable pub stepped : Setup → World → Step → World
stepped s w x = world_after s w (target s w.tables x) (decision s w x)

abbrev pub answer_of : Setup → World → Step → Answer
answer_of s w x = (decision s w x).outcome.answer

-- "Each step gets tables, messages and lent records as the last one left them"
unfoldable pub ran : Setup → World → List Step → World
ran s w [] = w
ran s w (x ∷ xs) = ran s (stepped s w x) xs

unfoldable pub answers : Setup → World → List Step → List Answer
answers s w [] = []
answers s w (x ∷ xs) = answer_of s w x ∷ answers s (stepped s w x) xs
