-- Demand 3 over any network: every message ever sent may arrive any number of times, in any order, or never. `Network`, `Halves` and `Fleet` say what moves,
-- `Agreement` and `Storage` what is claimed; the proofs stand in the other files.
-- What it assumes of the world outside: whatever arrives was sent; the server's clock does not go back, and a client reads by a time that is not before it; a
-- restarted client takes no request number twice; a restarted server has its values, versions and epochs, and VE or clock + tv for it.
use Rattle.std.specs.Prelude.{true, List, ◌≡◌}
use Rattle.protocol.specs.declared.setup.Setup.{Setup}
use Rattle.protocol.specs.Setup.{in_range}
use Rattle.any_network.specs.Network.{Move}
use Rattle.any_network.specs.Agreement.{AgreesThroughout, NetAgrees, HalvesAgree, ShowsAhead}
use Rattle.any_network.specs.Storage.{Turn, StoredThroughout}
use Rattle.any_network.proofs.NetAgreed.{net_agrees, net_in_words}
use Rattle.any_network.proofs.FleetAgreed.{fleet_in_words, shows_ahead}
use Rattle.any_network.proofs.StorageAgreed.{stored_agrees}

-- after every move of every run, against the ledger
pub any_network : (s : Setup) → in_range s ≡ true → (ys : List Move) → AgreesThroughout s ys
any_network = net_agrees

-- in words, of the history of every run
pub any_network_in_words : (s : Setup) → in_range s ≡ true → (ys : List Move) → NetAgrees s ys
any_network_in_words = net_in_words

-- the same of a server's half and clients' halves that own their state
pub halves_agree : (s : Setup) → in_range s ≡ true → (ys : List Move) → HalvesAgree s ys
halves_agree = fleet_in_words

-- what a client's half may show by any time that is not before the server's clock is the value of the write completed last
pub halves_show_ahead : (s : Setup) → in_range s ≡ true → (ys : List Move) → ShowsAhead s ys
halves_show_ahead = shows_ahead

-- the first once more, of a server and clients that have stored less than 01's restarts keep
pub stable_storage : (s : Setup) → in_range s ≡ true → (zs : List Turn) → StoredThroughout s zs
stable_storage = stored_agrees
