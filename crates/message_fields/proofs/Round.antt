-- A message can be read back from its fields, so no two messages have the same fields.
use Rattle.std.specs.Prelude.{ℕ, true, ◌≡◌, refl, None, Some}
use Rattle.std.proofs.Common.{ap, ◌∙◌, eq-eqb, eqb-true}
use Rattle.laws.specs.Choice.{and-true}
use Rattle.protocol.specs.declared.message.Message.{Message}
use Rattle.protocol.specs.declared.message.Kind.{Kind}
use Rattle.protocol.specs.declared.message.Kind.TheVariants.{Renew, Grant, Invalidate, Ack, Offer, Dropped, Batch, Cleared}
use Rattle.message_fields.specs.declared.Fields.{Fields}
use Rattle.message_fields.specs.Fields.{row, kind_fields, fields_of, kind_in, message_in, same, sound}

kind_back : (d : ℕ) (k : Kind) → kind_in (kind_fields d k) ≡ k
unfolding kind_fields kind_in
kind_back d (Renew o n e w) = refl
kind_back d (Grant o n x e w y (Some v)) = refl
kind_back d (Grant o n x e w y None) = refl
kind_back d (Invalidate o e w) = refl
kind_back d (Ack o e w) = refl
kind_back d (Offer v n e) = refl
kind_back d (Dropped v n e) = refl
kind_back d (Batch v n e m) = refl
kind_back d (Cleared v n e m) = refl

client_back : (d : ℕ) (k : Kind) → (kind_fields d k).client ≡ d
unfolding kind_fields
client_back d (Renew o n e w) = refl
client_back d (Grant o n x e w y (Some v)) = refl
client_back d (Grant o n x e w y None) = refl
client_back d (Invalidate o e w) = refl
client_back d (Ack o e w) = refl
client_back d (Offer v n e) = refl
client_back d (Dropped v n e) = refl
client_back d (Batch v n e m) = refl
client_back d (Cleared v n e m) = refl

pub message_back : (m : Message) → message_in (fields_of m) ≡ m
message_back m = rw (kind_back, client_back)

pub same_self : (f : Fields) → same f f ≡ true
unfolding same
same_self f =
    rw (
      eq-eqb f.kind _ refl,
      eq-eqb f.client _ refl,
      eq-eqb f.object _ refl,
      eq-eqb f.present _ refl,
      eq-eqb f.number _ refl,
      eq-eqb f.volume_expiry _ refl,
      eq-eqb f.epoch _ refl,
      eq-eqb f.version _ refl,
      eq-eqb f.object_expiry _ refl,
      eq-eqb f.value _ refl,
    )

-- so the fields of every message are sound
pub message_sound_law : (m : Message) → sound (fields_of m) ≡ true
message_sound_law m = ap (λ (n : Message). same (fields_of n) (fields_of m)) (message_back m) ∙ same_self (fields_of m)

-- fields for which `same` holds are equal
pub same_true : (f g : Fields) → same f g ≡ true → f ≡ g
unfolding same
same_true f g e =
    let j = and-true _ _ e in
    let i = and-true _ _ j.0 in
    let h = and-true _ _ i.0 in
    let d = and-true _ _ h.0 in
    let c = and-true _ _ d.0 in
    let b = and-true _ _ c.0 in
    let a = and-true _ _ b.0 in
    let z = and-true _ _ a.0 in
    let y = and-true _ _ z.0 in
    rebuilt (eqb-true _ _ y.0)
    (eqb-true _ _ y.1) (eqb-true _ _ z.1) (eqb-true _ _ a.1) (eqb-true _ _ b.1)
    (eqb-true _ _ c.1) (eqb-true _ _ d.1) (eqb-true _ _ h.1) (eqb-true _ _ i.1) (eqb-true _ _ j.1)
  where
    rebuilt : f.kind ≡ g.kind → f.client ≡ g.client → f.object ≡ g.object → f.present ≡ g.present → f.number ≡ g.number
        → f.volume_expiry ≡ g.volume_expiry → f.epoch ≡ g.epoch → f.version ≡ g.version → f.object_expiry ≡ g.object_expiry → f.value ≡ g.value
        → row f.kind f.client f.object f.present f.number f.volume_expiry f.epoch f.version f.object_expiry f.value
        ≡ row g.kind g.client g.object g.present g.number g.volume_expiry g.epoch g.version g.object_expiry g.value
    rebuilt a b c d e f' g' h i j = cc
