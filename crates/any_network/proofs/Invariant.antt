-- The invariant of demand 3 over all messages ever sent. What it says of messages it says of each and of each two. So it holds after a step if it holds of
-- any two that were sent before, in a message list of 64 places that has these two and what the step sends.
-- Letters: s setup, n a net, w and rest worlds, q a message list, m, g, a and b messages, l, ms and out lists of them; ok is what holds of the net.
use Rattle.std.specs.Prelude.{ℕ, ◌≤◌, List, [], ◌∷◌, ◌++◌, ◌⊎◌, length}
use Rattle.std.proofs.Common.{arith, ⊎_elim}
use Rattle.std.proofs.Math.Logic.{inl, inr}
use Rattle.std.proofs.Math.Path.{refl}
use Rattle.laws.specs.Lists.{all_at}
use Rattle.protocol.specs.declared.message.Message.{Message}
use Rattle.protocol.specs.declared.message.Queue.{Queue}
use Rattle.protocol.specs.declared.message.Kind.{Kind}
use Rattle.protocol.specs.declared.message.Kind.TheVariants.{Renew, Grant, Invalidate, Ack, Offer, Dropped, Batch, Cleared}
use Rattle.protocol.specs.declared.setup.Setup.{Setup}
use Rattle.protocol.specs.Messages.{blank, messages, pushed, empty_queue}
use Rattle.protocol.specs.World.{World}
use Rattle.protocol.specs.Soundness.Shape.{QueueShape}
use Rattle.protocol.proofs.Soundness.Shape.{queue_shape}
use Rattle.protocol.specs.Soundness.Bounds.{Named, QueueBounded}
use Rattle.protocol.proofs.Soundness.Bounds.{queue_bounded, pushed_bounded}
use Rattle.protocol.specs.Soundness.Question.{SoundWorld}
use Rattle.protocol.specs.Safety.Invariant.{Inv, Sent, KindOk, MessageOk, PairIn}
use Rattle.any_network.specs.Network.{Net, listing, after}
use Rattle.any_network.specs.Lists.{In, push_all}
use Rattle.any_network.proofs.Lists.{in_append, push_shape, sent_all, push_all_len, push_all_old, push_all_new, listed_sent}
use Rattle.any_network.specs.Invariant.{NetOk}

-- no clause about a kind reads the message list
relisted : (s : Setup) (w : World) (q : Queue) (d : ℕ) (g : Kind) → KindOk s w d g → KindOk s (listing w q) d g
relisted s w q d (Renew o n e ver) c = c
relisted s w q d (Grant o n x e ver y p) c = c
relisted s w q d (Invalidate o e ver) c = c
relisted s w q d (Ack o e ver) c = c
relisted s w q d (Offer v n e) c = c
relisted s w q d (Dropped v n e) c = c
relisted s w q d (Batch v n e m) c = c
relisted s w q d (Cleared v n e m) c = c

message_relisted : (s : Setup) (w : World) (q : Queue) (m : Message) → MessageOk s w m → MessageOk s (listing w q) m
message_relisted s w q m c = record { client = c.client; kind = relisted s w q m.client m.kind c.kind }

-- the same invariant with another message list
inv_relisted : (s : Setup) (w : World) (q : Queue) → Inv s w → ((m : Message) → Sent q m → MessageOk s w m) → ((m g : Message) → Sent q m → Sent q g → PairIn s w m g) → Inv s (listing w q)
inv_relisted s w q inv messages pairs = record {
  bounds = inv.bounds;
  epochs = inv.epochs;
  numbers = inv.numbers;
  versions = inv.versions;
  offers = inv.offers;
  batches = inv.batches;
  writes = inv.writes;
  views = inv.views;
  messages = λ m z. message_relisted s w q m (messages m z);
  pairs = pairs;
}

sound_relisted : (s : Setup) (w : World) (q : Queue) → SoundWorld s w → QueueShape q → QueueBounded s q → SoundWorld s (listing w q)
sound_relisted s w q h k b = record {
  shape = record { tables = queue_shape k h.shape.tables; copies = h.shape.copies; requests = h.shape.requests };
  bounds = record { tables = queue_bounded b h.bounds.tables; copies = h.bounds.copies; requests = h.bounds.requests };
}

none_sent : (m : Message) → Sent empty_queue m → ⊥
none_sent m z = let b = z.below in omega arith

empty_shape : QueueShape empty_queue
empty_shape = record { items = refl }

push_bounded : (s : Setup) (q : Queue) (l : List Message) → ((m : Message) → In m l → Named s m) → QueueBounded s q → QueueBounded s (push_all q l)
unfolding push_all In
push_bounded s q [] f h = h
push_bounded s q (m ∷ l) f h = push_bounded s (pushed q m) l (λ g a. f g (inr a)) (pushed_bounded q m (f m (inl refl)) h)

-- ---- the invariant with a message list of messages that were sent
module _ (s : Setup) (n : Net) (ok : NetOk s n) (l : List Message) (f : (m : Message) → In m l → In m n.sent) where
  abbrev list : Queue
  list = push_all empty_queue l

  was : (m : Message) → Sent list m → In m n.sent
  was m z = f m (⊎_elim (λ a. absurd (none_sent m a)) (λ a. a) (sent_all empty_queue l m empty_shape z))

  pub listed_safe : Inv s (listing n.world list)
  listed_safe = inv_relisted s (listing n.world empty_queue) list ok.safe (λ m z. ok.messages m (was m z)) (λ m g a b. ok.pairs m g (was m a) (was g b))

  pub listed_sound : SoundWorld s (listing n.world list)
  listed_sound =
      sound_relisted s (listing n.world empty_queue) list ok.sound (push_shape empty_queue l empty_shape)
      (push_bounded s empty_queue l (λ m a. ok.named m (f m a)) ok.sound.bounds.tables.queue)

-- ---- the invariant after a step that left `rest` and sent `out`, if it holds with any two messages sent before in the list
module _ (s : Setup) (n : Net) (ok : NetOk s n) (rest : World) (out : List Message) (few : length out ≤ 16) where
  abbrev left : List Message → Queue
  left ms = push_all (push_all empty_queue ms) out

  abbrev Holds : Type 0
  Holds = (ms : List Message) → length ms ≤ 2 → ((m : Message) → In m ms → In m n.sent) → SoundWorld s (listing rest (left ms)) × Inv s (listing rest (left ms))

  origin : (m : Message) → In m (n.sent ++ messages (push_all empty_queue out)) → In m n.sent ⊎ In m out
  origin m h =
      ⊎_elim inl
      (λ a. let e = push_all_len empty_queue out (omega arith) in
      let z = listed_sent (push_all empty_queue out) m (push_shape empty_queue out empty_shape) (omega arith) a in
      ⊎_elim (λ b. absurd (none_sent m b)) inr (sent_all empty_queue out m empty_shape z))
      (in_append m n.sent (messages (push_all empty_queue out)) h)

  module _ (holds : Holds) (ms : List Message) (small : length ms ≤ 2) (f : (m : Message) → In m ms → In m n.sent) where
    shape_ms : QueueShape (push_all empty_queue ms)
    shape_ms = push_shape empty_queue ms empty_shape

    there : (m : Message) → In m ms ⊎ In m out → Sent (left ms) m
    there m (inl a) =
        let e = push_all_len empty_queue ms (omega arith) in
        push_all_old (push_all empty_queue ms) out m shape_ms (omega arith) (push_all_new empty_queue ms m empty_shape (omega arith) a)
    there m (inr a) =
        let e = push_all_len empty_queue ms (omega arith) in
        push_all_new (push_all empty_queue ms) out m shape_ms (omega arith) a

    each_named : (m : Message) → In m ms ⊎ In m out → Named s m
    each_named m a =
        let z = there m a in
        let h = (holds ms small f).0 in
        let b = z.below in
        rw z.there at (all_at (Named s) (left ms).items z.place blank (omega (arith, h.bounds.tables.queue.len, h.shape.tables.queue.items)) h.bounds.tables.queue.items)

    each_ok : (m : Message) → In m ms ⊎ In m out → MessageOk s (listing rest empty_queue) m
    each_ok m a = message_relisted s (listing rest (left ms)) empty_queue m ((holds ms small f).1.messages m (there m a))

    two_ok : (m g : Message) → In m ms ⊎ In m out → In g ms ⊎ In g out → PairIn s rest m g
    two_ok m g a b = (holds ms small f).1.pairs m g (there m a) (there g b)

  module _ (holds : Holds) where
    none : (m : Message) → In m [] → In m n.sent
    unfolding In
    none m h = absurd h

    alone : (a : Message) → In a n.sent → (m : Message) → In m (a ∷ []) → In m n.sent
    unfolding In
    alone a h m (inl e) = rw e h
    alone a h m (inr z) = absurd z

    both : (a b : Message) → In a n.sent → In b n.sent → (m : Message) → In m (a ∷ b ∷ []) → In m n.sent
    unfolding In
    both a b h k m (inl e) = rw e h
    both a b h k m (inr (inl e)) = rw e k
    both a b h k m (inr (inr z)) = absurd z

    at_first : (a : Message) (l : List Message) → In a (a ∷ l)
    unfolding In
    at_first a l = inl refl

    at_second : (a b : Message) (l : List Message) → In b (a ∷ b ∷ l)
    unfolding In
    at_second a b l = inr (inl refl)

    named_by : (m : Message) → In m n.sent ⊎ In m out → Named s m
    named_by m (inl a) = each_named holds (m ∷ []) (omega arith) (alone m a) m (inl (at_first m []))
    named_by m (inr a) = each_named holds [] (omega arith) none m (inr a)

    ok_by : (m : Message) → In m n.sent ⊎ In m out → MessageOk s (listing rest empty_queue) m
    ok_by m (inl a) = each_ok holds (m ∷ []) (omega arith) (alone m a) m (inl (at_first m []))
    ok_by m (inr a) = each_ok holds [] (omega arith) none m (inr a)

    pair_by : (m g : Message) → In m n.sent ⊎ In m out → In g n.sent ⊎ In g out → PairIn s rest m g
    pair_by m g (inl a) (inl b) = two_ok holds (m ∷ g ∷ []) (omega arith) (both m g a b) m g (inl (at_first m (g ∷ []))) (inl (at_second m g []))
    pair_by m g (inl a) (inr b) = two_ok holds (m ∷ []) (omega arith) (alone m a) m g (inl (at_first m [])) (inr b)
    pair_by m g (inr a) (inl b) = two_ok holds (g ∷ []) (omega arith) (alone g b) m g (inr a) (inl (at_first g []))
    pair_by m g (inr a) (inr b) = two_ok holds [] (omega arith) none m g (inr a) (inr b)

    pub after_ok : NetOk s (after n (listing rest (push_all empty_queue out)))
    after_ok =
        let h = holds [] (omega arith) none in
        record {
          sound = sound_relisted s _ empty_queue h.0 empty_shape ok.sound.bounds.tables.queue;
          safe = inv_relisted s _ empty_queue h.1 (λ m z. absurd (none_sent m z)) (λ m g a b. absurd (none_sent m a));
          named = λ m a. named_by m (origin m a);
          messages = λ m a. ok_by m (origin m a);
          pairs = λ m g a b. pair_by m g (origin m a) (origin g b);
        }
