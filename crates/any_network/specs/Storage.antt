-- What has to be on stable storage. 01's restart of the server keeps VE, and that of a client its next request number. Less will do: the server may go on
-- with any VE from its own to clock + tv, and a client with any number that is not below its next. So a server that has stored no VE takes clock + tv and
-- restarts, and a client may store its numbers in blocks, and go on behind the block.
-- Letters: s setup, n a net, z a turn, v volume, x its new VE, d client, j its new number, b the ledger's books, k writes reported before.
use Rattle.std.specs.Prelude.{ℕ, ◌+◌, ◌<◌, ◌≤◌, false, List, [], ◌∷◌, get_or, set}
use Rattle.protocol.specs.declared.records.Request.{Request}
use Rattle.protocol.specs.declared.setup.Setup.{Setup}
use Rattle.protocol.specs.Tables.{volume_expiry_at, with_volumes, no_request}
use Rattle.protocol.specs.Updates.{set_volume_expiry}
use Rattle.protocol.specs.Answers.{reported}
use Rattle.protocol.specs.World.{World}
use Rattle.protocol.specs.Agreement.{Agrees}
use Rattle.any_network.specs.Network.{Net, fresh_net, Move, found, step_of, moved, answer_to}
use Rattle.any_network.specs.Agreement.{NetBooks, fresh_books, books_after}

-- a move; VE of volume v becomes x; client d goes on with number j, and no request stands
pub data Turn : Type 0 where
  move : (y : Move) → Turn
  later : (v x : ℕ) → Turn
  skip : (d j : ℕ) → Turn

abbrev pub later_world : World → ℕ → ℕ → World
later_world w v x = record { tables = with_volumes w.tables (set_volume_expiry w.tables.volumes v x); copies = w.copies; requests = w.requests }

abbrev pub idle_at : ℕ → Request
idle_at j = record { next = j; standing = false; number = 0; object = 0 }

abbrev pub skipped_world : World → ℕ → ℕ → World
skipped_world w d j = record { tables = w.tables; copies = w.copies; requests = set w.requests d (idle_at j) }

abbrev pub with_world : Net → World → Net
with_world n w = record { world = w; sent = n.sent }

-- demand 3 against the ledger after each move, wherever such turns stand between the moves
unfoldable pub StoredFrom : Setup → Net → ℕ → NetBooks → List Turn → Type 0
StoredFrom s n k b [] = Unit {0}
StoredFrom s n k b (move y ∷ zs) =
    Agrees s (found n y) k (step_of y) (books_after s b y).ledger × StoredFrom s (moved s n y) (k + reported (answer_to s n y)) (books_after s b y) zs
StoredFrom s n k b (later v x ∷ zs) =
    v < s.volumes → volume_expiry_at n.world.tables v ≤ x → x ≤ n.world.tables.clock + s.tv
    → StoredFrom s (with_world n (later_world n.world v x)) k (record { net = with_world b.net (later_world b.net.world v x); ledger = b.ledger }) zs
StoredFrom s n k b (skip d j ∷ zs) =
    d < s.clients → (get_or n.world.requests d no_request).next ≤ j
    → StoredFrom s (with_world n (skipped_world n.world d j)) k (record { net = with_world b.net (skipped_world b.net.world d j); ledger = b.ledger }) zs

abbrev pub StoredThroughout : Setup → List Turn → Type 0
StoredThroughout s zs = StoredFrom s (fresh_net s) 0 (fresh_books s) zs
