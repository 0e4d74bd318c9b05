-- The ledger against the server's tables: every step keeps them together, and reports as many writes as the ledger completes.
pub mod Booked
pub mod Settled
pub mod Happening
pub mod StepsBooked
pub mod Shown
pub mod Agreed
