-- Every message that fits has one frame, and every accepted frame belongs to exactly one message.
use Rattle.std.specs.Prelude.{ℕ, true, List, ◌≡◌, Result, Ok, Err, eqb, length}
use Rattle.std.proofs.Common.{sym, ap, ◌∙◌}
use Rattle.std.proofs.Math.Logic.{⊎_elim}
use borrow.Author.Tests.{eq-eqb, eqb-true}
use Rattle.laws.specs.Choice.{true_or_false}
use Rattle.bytes_layout.specs.Number.{bytes_of, Bytes}
use Rattle.bytes_layout.proofs.Number.{number_below}
use Rattle.protocol.specs.declared.message.Message.{Message}
use Rattle.protocol.specs.declared.refusal.Refusal.{Refusal}
use Rattle.protocol.specs.declared.refusal.Refusal.TheVariants as no
use Rattle.message_fields.specs.declared.Fields.{Fields}
use Rattle.message_fields.specs.Fields.{fields_of, message_in, same, accepted}
use Rattle.message_fields.proofs.Round.{message_back, same_self, same_true}
use Rattle.frame_places.specs.Places.{numbers, laid, fields_in}
use Rattle.frame_places.specs.Round.{FieldsFit}
use Rattle.frame_places.proofs.Round.{fields_back, laid_back}
use Rattle.frame.specs.Frame.{frame_of, message_of}

abbrev pub Fits : Message → Type 0
Fits m = FieldsFit (fields_of m)

accepted_own : (m : Message) → accepted (fields_of m) ≡ Ok m
unfolding accepted
accepted_own m =
    let e : same (fields_of (message_in (fields_of m))) (fields_of m) ≡ true =
    ap (λ (n : Message). same (fields_of n) (fields_of m)) (message_back m) ∙ same_self (fields_of m) in
    rw e (ap Ok (message_back m))

-- An encoded message decodes to itself.
pub decodes : (m : Message) → Fits m → message_of (frame_of m) ≡ Ok m
unfolding message_of laid numbers bytes_of
decodes m h = ap accepted (fields_back (fields_of m) h) ∙ accepted_own m

never : {A : Type 0} {m : Message} → ◌≡◌ {A = Result Message Refusal} (Err no.Frame) (Ok m) → A
never q = cc

-- A message accepted from fields has exactly those fields.
fields_same : (f : Fields) (m : Message) → accepted f ≡ Ok m → fields_of m ≡ f
unfolding accepted
fields_same f m e = ⊎_elim yes (λ t. never (rw t at e)) (true_or_false (same (fields_of (message_in f)) f))
  where
    yes : same (fields_of (message_in f)) f ≡ true → fields_of m ≡ f
    yes t =
        let n : message_in f ≡ m = same_message (rw t at e) in
        ap fields_of (sym n) ∙ same_true _ _ t
      where
        same_message : {n : Message} → ◌≡◌ {A = Result Message Refusal} (Ok n) (Ok m) → n ≡ m
        same_message q = cc

module _ (l : List ℕ) (b : Bytes l) (m : Message) (e : message_of l ≡ Ok m) where
  long : length l ≡ 32
  unfolding message_of
  long = ⊎_elim (λ t. eqb-true _ _ t) (λ t. never (rw t at e)) (true_or_false (eqb (length l) 32))

  fields_there : fields_of m ≡ fields_in l
  unfolding message_of
  fields_there = fields_same (fields_in l) m (rw (eq-eqb _ _ long) at e)

  -- A decoded message encodes to the same bytes.
  pub encodes : frame_of m ≡ l
  encodes = ap laid fields_there ∙ laid_back l b long

  -- A decoded message fits.
  pub decoded_fits : Fits m
  unfolding fields_in
  decoded_fits = rw fields_there (record {
    client = b 1;
    object = b 2;
    number = number_below l b 4 4;
    volume_expiry = number_below l b 8 4;
    epoch = number_below l b 12 4;
    version = number_below l b 16 4;
    object_expiry = number_below l b 20 4;
    value = number_below l b 24 8;
  })

-- Two messages never share a frame.
pub one_message : (m n : Message) → Fits m → Fits n → frame_of m ≡ frame_of n → m ≡ n
one_message m n g h e = same_message (sym (decodes m g) ∙ (ap message_of e ∙ decodes n h))
  where
    same_message : ◌≡◌ {A = Result Message Refusal} (Ok m) (Ok n) → m ≡ n
    same_message q = cc

-- Only the decoded message has this frame. (`encodes` shows that it does.)
pub no_other : (l : List ℕ) → Bytes l → (m n : Message) → message_of l ≡ Ok m → Fits n → frame_of n ≡ l → n ≡ m
no_other l b m n e h g = one_message n m h (decoded_fits l b m e) (g ∙ sym (encodes l b m e))
