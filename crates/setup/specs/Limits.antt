-- The limits of contracts, by name.
use Rattle.std.specs.Prelude.{ℕ}

-- the most clients, volumes and objects that a setup has, and the places of the message list
abbrev pub CLIENTS : ℕ
CLIENTS = 16

abbrev pub VOLUMES : ℕ
VOLUMES = 8

abbrev pub OBJECTS : ℕ
OBJECTS = 28

-- the places that the tables have for the objects, and for the objects of each client
abbrev pub SLOTS : ℕ
SLOTS = 32

abbrev pub PLACES : ℕ
PLACES = 64

-- "below 4,294,967,295": what an epoch, a version or a request number stays below while it can still grow
abbrev pub largest : ℕ
largest = 4294967295
