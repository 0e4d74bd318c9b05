-- Replacing one of the clients' records, and the stores into the words that do it.
use Rattle.std.specs.Prelude.{ℕ, ◌+◌, ◌<◌, List, ◌≡◌, length, set}
use Rattle.laws.specs.Flags.{word_of}
use Rattle.laws.specs.Loop.{fold_from}
use Rattle.protocol.specs.declared.records.Copy.{Copy}
use Rattle.protocol.specs.declared.records.Request.{Request}
use Rattle.protocol.specs.declared.setup.Setup.{Setup}
use Rattle.protocol.specs.declared.step.Sweep.{Sweep}
use Rattle.protocol.specs.Client.{sweep_at}
use Rattle.state_words.specs.Fields.{WORDS, at, REQUEST_NEXT, REQUEST_STANDING, REQUEST_NUMBER, REQUEST_OBJECT}
use Rattle.state_words.specs.View.{Records}

abbrev pub with_copies : Records → List Copy → Records
with_copies q copies = record { copies = copies; requests = q.requests }

abbrev pub with_copy : Records → ℕ → Copy → Records
with_copy q place c = with_copies q (set q.copies place c)

abbrev pub with_requests : Records → List Request → Records
with_requests q requests = record { copies = q.copies; requests = requests }

abbrev pub with_request : Records → ℕ → Request → Records
with_request q d r = with_requests q (set q.requests d r)

-- the records with n copies swept, beginning at `first`
abbrev pub swept_over : Setup → Sweep → ℕ → ℕ → Records → Records
swept_over s g first n q = with_copies q (fold_from (sweep_at s g first) q.copies first n)

-- the words with a request stored
abbrev pub request_stored : List ℕ → ℕ → Request → List ℕ
request_stored words d r =
    set (set (set (set words (at REQUEST_NEXT + d) r.next) (at REQUEST_STANDING + d) (word_of r.standing)) (at REQUEST_NUMBER + d) r.number)
    (at REQUEST_OBJECT + d) r.object

-- .. as `put_request` stores it, with what its types say: the words have their fixed length, and a request's object is a byte
pub record RequestPut (w u : List ℕ) (d : ℕ) (r : Request) : Type 0 where
  pub is : u ≡ request_stored w d r
  pub byte : r.object < 256
  pub long : length w ≡ WORDS
