-- Rows with the same words, and the message at a place of the list.
use Prim.Native.Nat.{ℕ, ◌+◌, ◌*◌, ◌<◌, ◌≤◌}
use native.Mathlib.Omega.{arith}
use mathlib.Core.List.{List}
use mathlib.Core.Path.{◌≡◌}
use lib.ListN.{get_or}
use borrow.Author.Tests.{lt-ltb, le-ltb}
use Rattle.protocol.specs.Messages.{blank}
use Rattle.state_words.specs.Rows.{fields_at, narrow_at, message_of, message_from}

-- rows with the same words and value have the same fields
row_same : (a b v u : List ℕ) (i j : ℕ) → ((k : ℕ) → k < 9 → get_or a (i * 9 + k) 0 ≡ get_or b (j * 9 + k) 0) → get_or v i 0 ≡ get_or u j 0 → fields_at a v i ≡ fields_at b u j
unfolding fields_at
row_same a b v u i j h e =
    rw (h 0 (omega arith), h 1 (omega arith), h 2 (omega arith), h 3 (omega arith), h 4 (omega arith), h 5 (omega arith), h 6 (omega arith), h 7 (omega arith), h 8 (omega arith), e)

-- .. and so read as the same message
pub message_same : (a b v u : List ℕ) (i j : ℕ) → ((k : ℕ) → k < 9 → get_or a (i * 9 + k) 0 ≡ get_or b (j * 9 + k) 0) → get_or v i 0 ≡ get_or u j 0 → message_of a v i
    ≡ message_of b u j
unfolding message_of narrow_at
message_same a b v u i j h e = rw (row_same a b v u i j h e, h 0 (omega arith), h 1 (omega arith), h 2 (omega arith), h 3 (omega arith))

-- a place below the length reads as its row; a place past it is blank
pub at_in : (n : ℕ) (l v : List ℕ) (i : ℕ) → i < n → message_from n l v i ≡ message_of l v i
unfolding message_from
at_in n l v i h = rw (lt-ltb i n h)

pub at_past : (n : ℕ) (l v : List ℕ) (i : ℕ) → n ≤ i → message_from n l v i ≡ blank
unfolding message_from
at_past n l v i h = rw (le-ltb i n h)
