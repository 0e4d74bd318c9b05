-- Lemmas cited by the function proofs: each derives a postcondition from the facts of one path.
use Rattle.std.specs.Prelude.{Bool, true, false, List, ◌≡◌, ℕ, Result, Ok, Err}
use Rattle.std.proofs.Common.{refl}
use Rattle.std.specs.Result.{IsErrAnd}
use Rattle.protocol.specs.declared.message.Message.{Message}
use Rattle.protocol.specs.declared.refusal.Refusal.{Refusal}
use Rattle.protocol.specs.declared.refusal.Refusal.TheVariants as no
use Rattle.protocol.specs.Refusals.{refused_by}
use Rattle.message_fields.specs.declared.Fields.{Fields}
use Rattle.message_fields.specs.Fields.{message_in, sound, accepted}
use Rattle.frame.specs.Frame.{Encodes}
use Rattle.export_frames.specs.Calls.{EncodesFields}

module _ (f : Fields) where
  taken : (m : Message) → ◌≡◌ {A = Result Message Refusal} (Ok m) (accepted f) → (sound f ≡ true) × (m ≡ message_in f)
  unfolding accepted
  taken m e = go (sound f) refl
    where
      go : (b : Bool) → sound f ≡ b → (sound f ≡ true) × (m ≡ message_in f)
      go true s = (s, let q : ◌≡◌ {A = Result Message Refusal} (Ok m) (Ok (message_in f)) = rw s at e in cc)
      go false s = let q : ◌≡◌ {A = Result Message Refusal} (Ok m) (Err no.Frame) = rw s at e in cc

  refused : (x : Refusal) → ◌≡◌ {A = Result Message Refusal} (Err x) (accepted f) → (sound f ≡ false) × (x ≡ no.Frame)
  unfolding accepted
  refused x e = go (sound f) refl
    where
      go : (b : Bool) → sound f ≡ b → (sound f ≡ false) × (x ≡ no.Frame)
      go true s = let q : ◌≡◌ {A = Result Message Refusal} (Err x) (Ok (message_in f)) = rw s at e in cc
      go false s = (s, let q : ◌≡◌ {A = Result Message Refusal} (Err x) (Err no.Frame) = rw s at e in cc)

  module _ (before : List ℕ) where
    pub encode_wrong : (x : Refusal) (r : Result (Unit {0}) Refusal) → ◌≡◌ {A = Result Message Refusal} (Err x) (accepted f) → IsErrAnd r (λ y. y ≡ x)
        → EncodesFields f before before (refused_by r)
    encode_wrong x (Ok u) e a = absurd a
    encode_wrong x (Err y) e a = let w = refused x e in record { number = rw (w.0, a, w.1); bytes = rw w.0 }

    pub encode_right : (m : Message) (after : List ℕ) (r : Result (Unit {0}) Refusal) → ◌≡◌ {A = Result Message Refusal} (Ok m) (accepted f)
        → Encodes m before after r → EncodesFields f before after (refused_by r)
    encode_right m after r e w = let t = taken m e in record { number = rw t.0 w.number; bytes = rw (t.0, ← t.1) w.bytes }
