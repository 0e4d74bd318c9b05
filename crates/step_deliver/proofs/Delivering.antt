-- Receiving a message of kind k at the server and at client d, and step 5.
-- Letters as in `Decide`; t are the tables before, u after.
use Rattle.std.specs.Prelude.{Option}
use Prim.Native.Nat.{ℕ, ◌<◌}
use native.Mathlib.Omega.{arith}
use mathlib.Core.Bool.{true, ◌&&◌}
use mathlib.Core.Logic.{◌⊎◌, ⊎_elim}
use mathlib.Core.Path.{◌≡◌, refl, ap}
use borrow.Author.Tests.{ltb-true}
use denote.Enum.Declared.{tag_of}
use lib.Dec.{ltb}
use Rattle.laws.specs.Choice.{and-true}
use Rattle.protocol.specs.contracts.message.Kind.{the_type}
use Rattle.protocol.specs.declared.message.Kind.{Kind}
use Rattle.protocol.specs.declared.message.Kind.TheVariants.{Renew, Grant, Invalidate, Ack, Offer, Dropped, Batch, Cleared}
use Rattle.protocol.specs.declared.message.Message.{Message}
use Rattle.protocol.specs.declared.records.Copy.{Copy}
use Rattle.protocol.specs.declared.records.Request.{Request}
use Rattle.protocol.specs.declared.setup.Setup.{Setup}
use Rattle.protocol.specs.declared.step.Answer.TheVariants.{Delivered}
use Rattle.protocol.specs.declared.step.Change.{Change}
use Rattle.protocol.specs.declared.tables.Tables.{Tables}
use Rattle.protocol.specs.Messages.{message_at}
use Rattle.protocol.specs.Sound.{kind_sound, time_fits}
use Rattle.protocol.specs.Writes.{Counted, settled}
use Rattle.protocol.specs.Server.{renewed, ack_staged, drop_staged, notes_cleared}
use Rattle.protocol.specs.Decide.{Received, kept, uncounted, by_client, grant_received, invalidate_received, offer_received, batch_received, received, taken, answered, delivered, deliver_decided}
use Rattle.step_deliver.specs.Sides.{served, heard}

-- the object or volume that a sound message names exists
module _ (s : Setup) (k : Kind) (h : kind_sound s k ≡ true) where
  pub renew_in : (o n e w : ℕ) → k ≡ Renew o n e w → o < s.objects
  renew_in o n e w q = ltb-true _ _ (rw q at h)

  pub grant_in : (o n x e w y : ℕ) (p : Option ℕ) → k ≡ Grant o n x e w y p → o < s.objects
  grant_in o n x e w y p q = ltb-true _ _ (and-true _ _ (and-true (ltb o s.objects && time_fits x) (time_fits y) (rw q at h)).0).0

  pub ack_in : (o e w : ℕ) → k ≡ Ack o e w → o < s.objects
  ack_in o e w q = ltb-true _ _ (rw q at h)

  pub offer_in : (v n e : ℕ) → k ≡ Offer v n e → v < s.volumes
  offer_in v n e q = ltb-true _ _ (rw q at h)

  pub dropped_in : (v n e : ℕ) → k ≡ Dropped v n e → v < s.volumes
  dropped_in v n e q = ltb-true _ _ (rw q at h)

  pub cleared_in : (v n e m : ℕ) → k ≡ Cleared v n e m → v < s.volumes
  cleared_in v n e m q = ltb-true _ _ (and-true (ltb v s.volumes) _ (rw q at h)).0

-- ---- at the server

module _ (s : Setup) (t : Tables) (d : ℕ) (k : Kind) where
  pub serves_renew : (o n e w : ℕ) (u : Tables) → k ≡ Renew o n e w → u ≡ renewed s t d o n e w → uncounted u ≡ served s t d k
  unfolding served
  serves_renew o n e w u q h = rw (q, h)

  pub serves_ack : (o e w : ℕ) (m : Counted) → k ≡ Ack o e w → m ≡ settled s (ack_staged s t d o e w) → m ≡ served s t d k
  unfolding served
  serves_ack o e w m q h = rw q h

  pub serves_dropped : (v n e : ℕ) (m : Counted) → k ≡ Dropped v n e → m ≡ settled s (drop_staged s t d v n e) → m ≡ served s t d k
  unfolding served
  serves_dropped v n e m q h = rw q h

  pub serves_cleared : (v n e m : ℕ) (u : Tables) → k ≡ Cleared v n e m → u ≡ notes_cleared s t d v n e m → uncounted u ≡ served s t d k
  unfolding served
  serves_cleared v n e m u q h = rw (q, h)

-- the server ignores the kinds that are sent to a client: GRANT, INVALIDATE, OFFER and BATCH, with tags 1, 2, 4 and 6
pub serves_none : (s : Setup) (t : Tables) (d : ℕ) (k : Kind) → (tag_of the_type k ≡ 1)
    ⊎ ((tag_of the_type k ≡ 2) ⊎ ((tag_of the_type k ≡ 4) ⊎ (tag_of the_type k ≡ 6))) → uncounted t ≡ served s t d k
unfolding served
serves_none s t d (Renew o n e w) h = absurd (⊎_elim (λ e. omega arith) (λ i. ⊎_elim (λ e. omega arith) (λ j. ⊎_elim (λ e. omega arith) (λ e. omega arith) j) i) h)
serves_none s t d (Grant o n x e w y p) h = refl
serves_none s t d (Invalidate o e w) h = refl
serves_none s t d (Ack o e w) h = absurd (⊎_elim (λ e. omega arith) (λ i. ⊎_elim (λ e. omega arith) (λ j. ⊎_elim (λ e. omega arith) (λ e. omega arith) j) i) h)
serves_none s t d (Offer v n e) h = refl
serves_none s t d (Dropped v n e) h = absurd (⊎_elim (λ e. omega arith) (λ i. ⊎_elim (λ e. omega arith) (λ j. ⊎_elim (λ e. omega arith) (λ e. omega arith) j) i) h)
serves_none s t d (Batch v n e m) h = refl
serves_none s t d (Cleared v n e m) h = absurd (⊎_elim (λ e. omega arith) (λ i. ⊎_elim (λ e. omega arith) (λ j. ⊎_elim (λ e. omega arith) (λ e. omega arith) j) i) h)

-- ---- at the client

module _ (s : Setup) (t : Tables) (c : Copy) (r : Request) (d : ℕ) (k : Kind) where
  pub hears_grant : (o n x e w y : ℕ) (p : Option ℕ) (g : Received) → k ≡ Grant o n x e w y p → g ≡ grant_received s t c r d o n x e w y p → g ≡ heard s t c r d k
  unfolding heard
  hears_grant o n x e w y p g q h = rw q h

  pub hears_invalidate : (o e w : ℕ) (g : Received) → k ≡ Invalidate o e w → g ≡ invalidate_received t r d o e w → g ≡ heard s t c r d k
  unfolding heard
  hears_invalidate o e w g q h = rw q h

  pub hears_offer : (v n e : ℕ) (g : Received) → k ≡ Offer v n e → g ≡ offer_received t r d v n e → g ≡ heard s t c r d k
  unfolding heard
  hears_offer v n e g q h = rw q h

  pub hears_batch : (v n e m : ℕ) (g : Received) → k ≡ Batch v n e m → g ≡ batch_received t r d v n e m → g ≡ heard s t c r d k
  unfolding heard
  hears_batch v n e m g q h = rw q h

-- the client ignores the kinds that are sent to the server: RENEW, ACK, DROPPED and CLEARED, with tags 0, 3, 5 and 7
pub hears_none : (s : Setup) (t : Tables) (c : Copy) (r : Request) (d : ℕ) (k : Kind) (g : Change) → g ≡ kept
    → (tag_of the_type k ≡ 0) ⊎ ((tag_of the_type k ≡ 3) ⊎ ((tag_of the_type k ≡ 5) ⊎ (tag_of the_type k ≡ 7))) → by_client g t ≡ heard s t c r d k
unfolding heard
hears_none s t c r d (Renew o n e w) g f h = rw f
hears_none s t c r d (Grant o n x e w y p) g f h = absurd (⊎_elim (λ e. omega arith) (λ i. ⊎_elim (λ e. omega arith) (λ j. ⊎_elim (λ e. omega arith) (λ e. omega arith) j) i) h)
hears_none s t c r d (Invalidate o e w) g f h = absurd (⊎_elim (λ e. omega arith) (λ i. ⊎_elim (λ e. omega arith) (λ j. ⊎_elim (λ e. omega arith) (λ e. omega arith) j) i) h)
hears_none s t c r d (Ack o e w) g f h = rw f
hears_none s t c r d (Offer v n e) g f h = absurd (⊎_elim (λ e. omega arith) (λ i. ⊎_elim (λ e. omega arith) (λ j. ⊎_elim (λ e. omega arith) (λ e. omega arith) j) i) h)
hears_none s t c r d (Dropped v n e) g f h = rw f
hears_none s t c r d (Batch v n e m) g f h = absurd (⊎_elim (λ e. omega arith) (λ i. ⊎_elim (λ e. omega arith) (λ j. ⊎_elim (λ e. omega arith) (λ e. omega arith) j) i) h)
hears_none s t c r d (Cleared v n e m) g f h = rw f

-- ---- both

-- what a client received, with n as the number of writes completed
abbrev after : ℕ → Received → Received
after n g = record { change = g.change; counted = record { count = n; tables = g.counted.tables } }

-- the server receives first, then the client; since one of the two ignores the message, this is the same as receiving it once
sides : (s : Setup) (t u : Tables) (c : Copy) (r : Request) (d : ℕ) (k : Kind) (g : Change) → by_client g u ≡ heard s (served s t d k).tables c r d k
    → after (served s t d k).count (by_client g u) ≡ received s t c r d k
unfolding served heard received
sides s t u c r d (Renew o n e w) g h = h
sides s t u c r d (Grant o n x e w y p) g h = h
sides s t u c r d (Invalidate o e w) g h = h
sides s t u c r d (Ack o e w) g h = ap (after (settled s (ack_staged s t d o e w)).count) h
sides s t u c r d (Offer v n e) g h = h
sides s t u c r d (Dropped v n e) g h = ap (after (settled s (drop_staged s t d v n e)).count) h
sides s t u c r d (Batch v n e m) g h = h
sides s t u c r d (Cleared v n e m) g h = h

-- removing message m from the list gives a, receiving it at the server gives n, and receiving it at the client gives u
pub delivers : (s : Setup) (t a u : Tables) (c : Copy) (r : Request) (i : ℕ) (m : Message) (n : Counted) (g : Change) → m ≡ message_at t.queue i → a ≡ taken t i
    → n ≡ served s a m.client m.kind → by_client g u ≡ heard s n.tables c r m.client m.kind
    → answered g u (Delivered m n.count) ≡ deliver_decided s t c r i
unfolding deliver_decided
delivers s t a u c r i m n g p q e f =
    rw (← p, ← q, e) (ap (delivered m) (sides s a u c r m.client m.kind g (rw e at f)))
