-- What a caller from another language gets: 0 or the refusal's number in 01, and the bytes or numbers in what it lent.
use Rattle.std.specs.Prelude.{ℕ, Bool, cond, ◌&&◌, List, ◌≡◌, Result, Ok, Err, leb, length}
use Rattle.std.proofs.lemmas.List.Edits.{sets}
use Rattle.protocol.specs.declared.message.Message.{Message}
use Rattle.protocol.specs.declared.refusal.Refusal.{Refusal}
use Rattle.message_fields.specs.declared.Fields.{Fields}
use Rattle.message_fields.specs.Fields.{fields_of, message_in, sound}
use Rattle.frame.specs.Frame.{is_frame, message_of, fits, framed, refusal}
use Rattle.export_frames.specs.Numbers.{numbers_of}

-- r is the result of encoding these fields into an output. Fields that no message has are refused.
pub record EncodesFields (f : Fields) (before after : List ℕ) (r : ℕ) : Type 0 where
  pub number : r ≡ refusal (sound f && fits before)
  pub bytes : after ≡ cond (sound f) (framed (message_in f) before) before

abbrev pub fields_stored : List ℕ → Result Message Refusal → List ℕ
fields_stored l (Ok m) = sets l 0 (numbers_of (fields_of m))
fields_stored l (Err r) = l

-- "a lent output long enough?": for ten numbers.
abbrev pub has_ten : List ℕ → Bool
has_ten l = leb 10 (length l)

-- r is the result of decoding a frame into lent numbers.
pub record DecodesFields (frame before after : List ℕ) (r : ℕ) : Type 0 where
  pub number : r ≡ refusal (has_ten before && is_frame frame)
  pub fields : after ≡ cond (has_ten before) (fields_stored before (message_of frame)) before
