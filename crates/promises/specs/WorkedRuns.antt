-- Four runs worked through by computation. Every message is delivered, and lost, from place 0.
use Rattle.std.specs.Prelude.{ℕ, Bool, List, [], ◌∷◌, replicate}
use Rattle.protocol.specs.declared.message.Message.{Message}
use Rattle.protocol.specs.declared.setup.Setup.{Setup}
use Rattle.protocol.specs.declared.step.Step.{Step}
use Rattle.protocol.specs.Messages.{messages, message_at}
use Rattle.protocol.specs.Tables.{unreachable_at, notes_at, batch_at}
use Rattle.protocol.specs.Client.{stands}
use Rattle.protocol.specs.World.{World, fresh_world, ran}
use Rattle.protocol.specs.Safety.View.{copy_at, request_at}
use Rattle.protocol.specs.Edges.{tiny, step, clock, write, lose}
use Rattle.protocol.specs.Ledger.{Event, acceptance, completion, server_restart, showing, clock_step}
use Rattle.promises.specs.UntilShown.Policy.{read, ask, deliver}

unfoldable pub restart : Step
restart = step 8 0 0 0

-- a write completes at once, one by ACK, one by its latest end, one is cut off, and reads show what was completed last
unfoldable pub steps : List Step
steps =
    -- no lease: complete at once
    write 7
    -- the client knows no epoch: OFFER, DROPPED; then GRANT
    ∷ ask 0 0 ∷ deliver ∷ deliver ∷ deliver ∷ ask 0 0 ∷ deliver ∷ deliver ∷ read 0 0
    -- INVALIDATE, ACK
    ∷ write 8 ∷ deliver ∷ deliver
    ∷ ask 0 0 ∷ deliver ∷ deliver ∷ read 0 0
    -- the INVALIDATE is lost: the latest end is 10
    ∷ write 9 ∷ lose 0 ∷ clock 10 ∷ clock 11
    -- marked unreachable: OFFER, DROPPED; then GRANT
    ∷ ask 0 0 ∷ deliver ∷ deliver ∷ deliver ∷ ask 0 0 ∷ deliver ∷ deliver
    -- the restart cuts the write off, and the copy held is still current
    ∷ write 10 ∷ restart ∷ read 0 0 ∷ []

-- the history, newest first
unfoldable pub events_told : List Event
events_told =
    showing 0 0 9 ∷ server_restart ∷ acceptance 0 10 21
    ∷ clock_step 11 ∷ completion 0 ∷ clock_step 10 ∷ acceptance 0 9 10
    ∷ showing 0 0 8 ∷ completion 0 ∷ acceptance 0 8 10
    ∷ showing 0 0 7 ∷ completion 0 ∷ acceptance 0 7 3 ∷ []

-- 01's number and value of each answer, oldest first
unfoldable pub answer_numbers : List ℕ
answer_numbers =
    3
    ∷ 0 ∷ 0 ∷ 0 ∷ 0 ∷ 0 ∷ 0 ∷ 0 ∷ 1
    ∷ 0 ∷ 0 ∷ 3
    ∷ 0 ∷ 0 ∷ 0 ∷ 1
    ∷ 0 ∷ 0 ∷ 0 ∷ 3
    ∷ 0 ∷ 0 ∷ 0 ∷ 0 ∷ 0 ∷ 0 ∷ 0
    ∷ 0 ∷ 0 ∷ 1 ∷ []

unfoldable pub answer_values : List ℕ
answer_values =
    1
    ∷ 0 ∷ 0 ∷ 0 ∷ 0 ∷ 0 ∷ 0 ∷ 0 ∷ 7
    ∷ 0 ∷ 0 ∷ 1
    ∷ 0 ∷ 0 ∷ 0 ∷ 8
    ∷ 0 ∷ 0 ∷ 0 ∷ 1
    ∷ 0 ∷ 0 ∷ 0 ∷ 0 ∷ 0 ∷ 0 ∷ 0
    ∷ 0 ∷ 0 ∷ 9 ∷ []

-- ---- 02, A3: "a write wait on the lease of a dash that never held the notice"

-- two clients, one volume with two objects; tv 10, t 100, m 3, d 1
unfoldable pub two_clients : Setup
two_clients = record { clients = 2; volumes = 1; objects = 2; tv = 10; t = 100; m = 3; volume = replicate 28 0; delay = 1 }

-- each client takes one object: client 0 has a volume lease to 10 and client 1, which never held object 0, to 19
unfoldable pub taken_apart : List Step
taken_apart =
    ask 0 0 ∷ deliver ∷ deliver ∷ deliver ∷ ask 0 0 ∷ deliver ∷ deliver
    ∷ clock 9
    ∷ ask 1 1 ∷ deliver ∷ deliver ∷ deliver ∷ ask 1 1 ∷ deliver ∷ deliver ∷ []

-- the write of object 0 waits for client 0, and is complete past 12
unfoldable pub write_unheard : List Step
write_unheard = write 7 ∷ lose 0 ∷ clock 12 ∷ clock 13 ∷ []

-- ---- 02, A4: "a matching GRANT without a value"

-- client 0 holds object 0 and asks again: the GRANT is under way
unfoldable pub asked_again : List Step
asked_again = ask 0 0 ∷ deliver ∷ deliver ∷ deliver ∷ ask 0 0 ∷ deliver ∷ deliver ∷ ask 0 0 ∷ deliver ∷ []

-- how many messages are under way, and the first; the version that the client holds; whether its request 3 stands
abbrev pub met : World → ℕ × Message × ℕ × Bool
met w = (w.tables.queue.len, message_at w.tables.queue 0, (copy_at tiny w.copies 0 0).version, stands (request_at w.requests 0) 3)

-- ---- 02, A6: "Delayed invalidations"

-- client 0 takes the object, its volume lease runs out at 10, and a write comes: nobody is waited for
unfoldable pub parked : List Step
parked = ask 0 0 ∷ deliver ∷ deliver ∷ deliver ∷ ask 0 0 ∷ deliver ∷ deliver ∷ clock 10 ∷ write 7 ∷ []

-- what the server has of the client: its notes, the batch last sent, the mark; and what is under way
abbrev pub kept : List Step → ℕ × ℕ × Bool × List Message
kept xs =
    let t = (ran tiny (fresh_world tiny) xs).tables in
    (notes_at t 0 0, batch_at t 0 0, unreachable_at t 0 0, messages t.queue)
