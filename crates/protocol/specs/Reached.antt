-- What holds of every state that a run reaches from fresh tables: it is sound and safe, and the ledger goes with it.
-- Letters: s setup, w world, x a step, xs and ys steps, b the ledger's books, d client, o object.
use Rattle.std.specs.Prelude.{ℕ}
use mathlib.Core.List.{List, [], ◌∷◌}
use Rattle.protocol.specs.declared.setup.Setup.{Setup}
use Rattle.protocol.specs.declared.step.Step.{Step}
use Rattle.protocol.specs.Ledger.{Books, fresh_books, books_after}

-- ---- the ledger of a run
unfoldable pub books_through : Setup → Books → List Step → Books
books_through s b [] = b
books_through s b (x ∷ xs) = books_through s (books_after s b x) xs

abbrev pub posted_after : Setup → List Step → ℕ → ℕ
posted_after s xs o = (books_through s (fresh_books s) xs).ledger.posted_value o
