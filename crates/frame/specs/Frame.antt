-- 01, "Frame, run file and listing": the frame of a message, and the message of a frame.
use Rattle.std.specs.Prelude.{ℕ, Bool, cond, ◌&&◌, ◌≡◌, List, ◌++◌, Result, Ok, Err, eqb, leb, length, drop}
use Rattle.protocol.specs.declared.message.Message.{Message}
use Rattle.protocol.specs.declared.refusal.Refusal.{Refusal}
use Rattle.protocol.specs.declared.refusal.Refusal.TheVariants as no
use Rattle.protocol.specs.Refusals.{refused_by}
use Rattle.message_fields.specs.Fields.{fields_of, sound, accepted}
use Rattle.frame_places.specs.Places.{laid, fields_in}

-- The frame of a message: "A frame is 32 bytes, .. value in 8 bytes."
abbrev pub frame_of : Message → List ℕ
frame_of m = laid (fields_of m)

-- "Frame of 32 bytes, kind, value present and zero fields right?"
unfoldable pub is_frame : List ℕ → Bool
is_frame l = eqb (length l) 32 && sound (fields_in l)

-- Decodes bytes: accepted if they are a "Frame of 32 bytes, kind, value present and zero fields right".
unfoldable pub message_of : List ℕ → Result Message Refusal
message_of l = cond (eqb (length l) 32) (accepted (fields_in l)) (Err no.Frame)

-- "a lent output long enough?"
abbrev pub fits : List ℕ → Bool
fits out = leb 32 (length out)

abbrev pub encoded_in : List ℕ → Result (Unit {0}) Refusal
encoded_in out = cond (fits out) (Ok tt) (Err no.Room)

-- "Bytes past the frame keep what they held"; an output that is too short keeps all of its bytes.
unfoldable pub framed : Message → List ℕ → List ℕ
framed m out = cond (fits out) (frame_of m ++ drop 32 out) out

-- The number of each answer in 01: 0, or the number of the refusal, which is 8.
abbrev pub decoded_number : Result Message Refusal → ℕ
decoded_number = refused_by

abbrev pub encoded_number : Result (Unit {0}) Refusal → ℕ
encoded_number = refused_by

abbrev pub refusal : Bool → ℕ
refusal ok = cond ok 0 8

-- r is the result of decoding l.
pub record Decodes (l : List ℕ) (r : Result Message Refusal) : Type 0 where
  pub message : r ≡ message_of l
  pub number : decoded_number r ≡ refusal (is_frame l)

-- r is the result of encoding m into an output, whose bytes were `before` and are `after`.
pub record Encodes (m : Message) (before after : List ℕ) (r : Result (Unit {0}) Refusal) : Type 0 where
  pub answer : r ≡ encoded_in before
  pub number : encoded_number r ≡ refusal (fits before)
  pub bytes : after ≡ framed m before
