-- The message list changes: a message is lost, doubled or sent. It enters only through what is in it.
use Rattle.std.specs.Prelude.{ℕ, ◌<◌, ◌≤◌, List, Bool, ◌⊎◌, ◌≡◌, refl, length, Option}
use Rattle.std.proofs.Common.{inl, inr, ⊎_elim}
use Rattle.protocol.specs.declared.message.Message.{Message}
use Rattle.protocol.specs.declared.message.Queue.{Queue}
use Rattle.protocol.specs.declared.message.Kind.{Kind}
use Rattle.protocol.specs.declared.message.Kind.TheVariants.{Renew, Grant, Invalidate, Ack, Offer, Dropped, Batch, Cleared}
use Rattle.protocol.specs.declared.records.Request.{Request}
use Rattle.protocol.specs.declared.setup.Setup.{Setup}
use Rattle.protocol.specs.Messages.{message_at, pushed, removed, doubled}
use Rattle.protocol.specs.World.{World}
use Rattle.protocol.specs.Safety.View.{Stands}
use Rattle.protocol.specs.Safety.Invariant.{Inv, Sent, Acknowledges, KindOk, MessageOk, Acking, Bringing, PairOk, AcknowledgesIn, AckingIn, PairIn}
use Rattle.protocol.proofs.Safety.Tools.{sent_pushed, sent_removed, sent_at_law}
use Rattle.protocol.specs.Safety.Sending.{listing, Keeps}

-- ---- a change of anything else keeps the clause of each message if it keeps that of each kind

pub each : {s : Setup} {w w' : World} → Inv s w → Keeps s w w' → (m : Message) → Sent w.tables.queue m → MessageOk s w' m
each inv keeps m z = let c = inv.messages m z in record { client = c.client; kind = keeps m.client m.kind z c.client c.kind }

-- the message list is read by no clause of a kind
unlisted : (s : Setup) (w : World) (q : Queue) (d : ℕ) (g : Kind) → KindOk s w d g → KindOk s (listing w q) d g
unlisted s w q d (Renew o n e ver) c = c
unlisted s w q d (Grant o n x e ver y p) c = c
unlisted s w q d (Invalidate o e ver) c = c
unlisted s w q d (Ack o e ver) c = c
unlisted s w q d (Offer v n e) c = c
unlisted s w q d (Dropped v n e) c = c
unlisted s w q d (Batch v n e m) c = c
unlisted s w q d (Cleared v n e m) c = c

-- ---- each two messages

-- what would be acknowledged is so by an ACK, and what can be brought by a GRANT
pub acking_case : {s : Setup} {epoch version : List ℕ} {standing : List Bool} {o : ℕ} (P : Kind → Type 0) → ((e ver : ℕ) → Acknowledges s epoch version standing o e ver → P (Ack o e ver))
    → (g : Kind) → Acking s epoch version standing o g → P g
acking_case P f (Renew i n e ver) a = absurd a
acking_case P f (Grant i n x e ver y p) a = absurd a
acking_case P f (Invalidate i e ver) a = absurd a
acking_case P f (Ack i e ver) a = rw a.0 (f e ver (rw a.0 at a.1))
acking_case P f (Offer v n e) a = absurd a
acking_case P f (Dropped v n e) a = absurd a
acking_case P f (Batch v n e m) a = absurd a
acking_case P f (Cleared v n e m) a = absurd a

pub bringing_case : {requests : List Request} {d o : ℕ} (P : Kind → Type 0) → ((n x e ver y : ℕ) (p : Option ℕ) → Stands requests d n → P (Grant o n x e ver y p))
    → (g : Kind) → Bringing requests d o g → P g
bringing_case P f (Renew i n e ver) a = absurd a
bringing_case P f (Grant i n x e ver y p) a = rw a.0 (f n x e ver y p a.1)
bringing_case P f (Invalidate i e ver) a = absurd a
bringing_case P f (Ack i e ver) a = absurd a
bringing_case P f (Offer v n e) a = absurd a
bringing_case P f (Dropped v n e) a = absurd a
bringing_case P f (Batch v n e m) a = absurd a
bringing_case P f (Cleared v n e m) a = absurd a

-- an ACK that would be taken now would have been before
pub acked_before : (s : Setup) (w : World) (epoch version : List ℕ) (standing : List Bool) → Inv s w
    → ((d o e ver : ℕ) → KindOk s w d (Ack o e ver) → Acknowledges s epoch version standing o e ver → AcknowledgesIn s w.tables o e ver)
    → (m g : Message) → Sent w.tables.queue m → Sent w.tables.queue g → PairOk s epoch version standing w.requests m g
acked_before s w epoch version standing inv before m g a b = record {
  acked = λ o e k r. (inv.pairs m g a b).acked o e (acking_case (λ (h : Kind). KindOk s w m.client h → AckingIn s w.tables o h) (λ f ver l c. (refl, before _ o f ver c l)) m.kind k (inv.messages m a).kind) r;
}

-- a message that is no ACK, and one that is no GRANT
pub not_acking : {s : Setup} {epoch version : List ℕ} {standing : List Bool} {requests : List Request} {m g : Message} → ((o : ℕ) → Acking s epoch version standing o m.kind → ⊥)
    → PairOk s epoch version standing requests m g
not_acking h = record { acked = λ o e a b. h o a }

pub not_bringing : {s : Setup} {epoch version : List ℕ} {standing : List Bool} {requests : List Request} {m g : Message} → ((d o : ℕ) → Bringing requests d o g.kind → ⊥)
    → PairOk s epoch version standing requests m g
not_bringing h = record { acked = λ o e a b. h _ o b }

-- no message is in its own way
itself : (s : Setup) (w : World) (m : Message) → PairIn s w m m
itself s w m = record { acked = λ o e a b. acking_case (λ (h : Kind). Bringing w.requests m.client o h → ⊥) (λ f ver l r. r) m.kind a b }

module _ (s : Setup) (w : World) (inv : Inv s w) where
  -- the messages of q have their clauses and their pairs
  listed : (q : Queue) → ((m : Message) → Sent q m → MessageOk s w m) → ((m g : Message) → Sent q m → Sent q g → PairIn s w m g) → Inv s (listing w q)
  listed q messages pairs = record {
    bounds = inv.bounds;
    epochs = inv.epochs;
    numbers = inv.numbers;
    versions = inv.versions;
    offers = inv.offers;
    batches = inv.batches;
    writes = inv.writes;
    views = inv.views;
    messages = λ m z. let c = messages m z in record { client = c.client; kind = unlisted s w q m.client m.kind c.kind };
    pairs = pairs;
  }

  -- no new message
  fewer : (q : Queue) → ((m : Message) → Sent q m → Sent w.tables.queue m) → Inv s (listing w q)
  fewer q f = listed q (λ m z. inv.messages m (f m z)) (λ m g a b. inv.pairs m g (f m a) (f g b))

  pub lost : (i : ℕ) → length w.tables.queue.items ≡ 64 → w.tables.queue.len ≤ 64 → i < w.tables.queue.len → Inv s (listing w (removed w.tables.queue i))
  lost i n k h = fewer (removed w.tables.queue i) (λ m z. sent_removed w.tables.queue i m n k h z)

  pub doubling : (i : ℕ) → length w.tables.queue.items ≡ 64 → i < w.tables.queue.len → Inv s (listing w (doubled w.tables.queue i))
  doubling i n h =
      fewer (doubled w.tables.queue i)
      (λ m z. ⊎_elim (λ a. a) (λ e. rw e (sent_at_law w.tables.queue i h)) (sent_pushed w.tables.queue (message_at w.tables.queue i) m n z))

  -- one new message, which meets its clause and its pairs
  pub send : (m : Message) → length w.tables.queue.items ≡ 64 → MessageOk s w m → ((g : Message) → Sent w.tables.queue g → PairIn s w m g × PairIn s w g m)
      → Inv s (listing w (pushed w.tables.queue m))
  send m n ok pairs =
      listed (pushed w.tables.queue m) (λ g z. clause g (sent_pushed w.tables.queue m g n z))
      (λ g g' a b. pair g g' (sent_pushed w.tables.queue m g n a) (sent_pushed w.tables.queue m g' n b))
    where
      clause : (g : Message) → Sent w.tables.queue g ⊎ (g ≡ m) → MessageOk s w g
      clause g (inl z) = inv.messages g z
      clause g (inr e) = rw e ok

      pair : (g g' : Message) → Sent w.tables.queue g ⊎ (g ≡ m) → Sent w.tables.queue g' ⊎ (g' ≡ m) → PairIn s w g g'
      pair g g' (inl a) (inl b) = inv.pairs g g' a b
      pair g g' (inl a) (inr e) = rw e (pairs g a).1
      pair g g' (inr e) (inl b) = rw e (pairs g' b).0
      pair g g' (inr e) (inr f) = rw (e, f) (itself s w m)

  -- .. where it is neither an ACK nor a GRANT
  pub send_single : (m : Message) → length w.tables.queue.items ≡ 64 → MessageOk s w m
      → ((o : ℕ) → AckingIn s w.tables o m.kind → ⊥) → ((d o : ℕ) → Bringing w.requests d o m.kind → ⊥)
      → Inv s (listing w (pushed w.tables.queue m))
  send_single m n ok a b = send m n ok (λ g z. (not_acking a, not_bringing b))
