-- Lemmas cited by the function proofs: each derives a postcondition from the facts of one path.
use Prim.Native.Nat.{ℕ, ◌≤◌, ◌<◌}
use mathlib.Core.Bool.{Bool, true, false}
use Rattle.std.specs.Prelude.{Result, Ok, Err}
use mathlib.Core.List.{List}
use mathlib.Core.Path.{◌≡◌, refl, ◌∙◌}
use lib.ListN.{length}
use lib.Seq.{sets-eq}
use borrow.Author.Tests.{eq-eqb, ne_eqb, le-leb, lt-leb}
use Rattle.protocol.specs.declared.message.Message.{Message}
use Rattle.message_fields.specs.declared.Fields.{Fields}
use Rattle.message_fields.specs.Fields.{fields_of, sound, accepted}
use Rattle.frame_places.specs.Places.{numbers, laid, fields_in}
use Rattle.protocol.specs.declared.refusal.Refusal.{Refusal}
use Rattle.protocol.specs.declared.refusal.Refusal.TheVariants as no
use Rattle.bytes_layout.specs.Number.{bytes_of, Stored}
use Rattle.frame.specs.Frame.{is_frame, message_of, framed, decoded_number, refusal, Decodes, Encodes}

module _ (l : List ℕ) where
  number_yes : (f : Fields) (b : Bool) → sound f ≡ b → decoded_number (accepted f) ≡ refusal b
  unfolding accepted
  number_yes f true e = rw e
  number_yes f false e = rw e

  pub decode_yes : (f : Fields) (r : Result Message Refusal) → length l ≡ 32 → f ≡ fields_in l → r ≡ accepted f → Decodes l r
  unfolding message_of is_frame
  decode_yes f r e g h = record { message = rw (eq-eqb _ _ e, ← g) h; number = rw (eq-eqb _ _ e, ← g, h) (number_yes f (sound f) refl) }

  pub decode_no : (length l ≡ 32 → ⊥) → Decodes l (Err no.Frame)
  unfolding message_of is_frame
  decode_no e = record { message = rw (ne_eqb _ _ e); number = rw (ne_eqb _ _ e) }

module _ (m : Message) (l r : List ℕ) (f : Fields) where
  pub encode_yes : 32 ≤ length l → f ≡ fields_of m → Stored l r 0 (laid f) → Encodes m l r (Ok tt)
  unfolding framed laid numbers bytes_of
  encode_yes h e g = record {
    answer = rw (le-leb _ _ h);
    number = rw (le-leb _ _ h);
    bytes = rw (le-leb _ _ h, ← e) (g.stored ∙ sets-eq (laid f) l 0 h);
  }

pub encode_no : (m : Message) (l : List ℕ) → length l < 32 → Encodes m l l (Err no.Room)
unfolding framed
encode_no m l h = record { answer = rw (lt-leb _ _ h); number = rw (lt-leb _ _ h); bytes = rw (lt-leb _ _ h) }
