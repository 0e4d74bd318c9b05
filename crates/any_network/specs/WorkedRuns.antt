-- Two runs of halves, worked through by computation. The setup is 01's own: one client, one volume, one object, tv 10, t 100, m 3, d 1.
-- Letters: a a value, T a time, y a move, n a number.
use Rattle.std.specs.Prelude.{ℕ, zero, suc, List, [], ◌∷◌, ◌++◌}
use Rattle.any_network.specs.Network.{Move, own, arrival}

abbrev read : Move
read = own (record { kind = 2; client = 0; object = 0; place = 0; clock = 0; value = 0 })

abbrev ask : Move
ask = own (record { kind = 3; client = 0; object = 0; place = 0; clock = 0; value = 0 })

abbrev post : ℕ → Move
post a = own (record { kind = 4; client = 0; object = 0; place = 0; clock = 0; value = a })

abbrev time_to : ℕ → Move
time_to T = own (record { kind = 1; client = 0; object = 0; place = 0; clock = T; value = 0 })

abbrev restart : Move
restart = own (record { kind = 8; client = 0; object = 0; place = 0; clock = 0; value = 0 })

-- what was sent, by its place: 0 RENEW, 1 OFFER, 2 DROPPED, 3 RENEW, 4 GRANT, 5 INVALIDATE, 6 ACK, 7 RENEW, 8 GRANT, 9 ACK
unfoldable pub troubled : List Move
troubled =
    -- no lease: complete at once
    post 7
    -- the client knows no epoch; the RENEW arrives twice
    ∷ ask ∷ arrival 0 ∷ arrival 0 ∷ arrival 1 ∷ arrival 2 ∷ ask ∷ arrival 3 ∷ arrival 4 ∷ read
    -- a write waits; the old GRANT comes once more, before and behind the INVALIDATE
    ∷ post 8 ∷ arrival 4 ∷ read ∷ arrival 5 ∷ arrival 4 ∷ read
    -- the ACK arrives twice, then the DROPPED of long ago
    ∷ arrival 6 ∷ arrival 6 ∷ arrival 2 ∷ ask ∷ arrival 7 ∷ arrival 8 ∷ read
    -- the INVALIDATE of long ago erases the copy; nothing was sent at place 99
    ∷ arrival 5 ∷ read ∷ arrival 99
    -- after a restart a write waits for the guard
    ∷ time_to 2 ∷ restart ∷ post 9 ∷ time_to 10 ∷ []

-- 70 messages are under way, and all of them arrive after the last was sent, the last one first: no run over a list of 64 has this
unfoldable pub times : ℕ → Move → List Move
times zero y = []
times (suc n) y = y ∷ times n y

unfoldable pub arrivals_below : ℕ → List Move
arrivals_below zero = []
arrivals_below (suc n) = arrival n ∷ arrivals_below n

unfoldable pub crowded : List Move
crowded = times 70 ask ++ (arrivals_below 70 ++ (arrival 70 ∷ arrival 71 ∷ ask ∷ arrival 72 ∷ arrival 73 ∷ read ∷ []))
