-- Every move keeps the invariant, and the world that it finds is sound and safe. No arrival is refused.
-- Letters: s setup, n a net, w world, y a move, x a step, q a message list, m and g messages, l and ms lists of them, j a place; i is that the setup is in
-- range, ok what holds of the net.
use Rattle.std.specs.Prelude.{◌≤◌, false, ◌≡◌, refl}
use Rattle.std.proofs.Common.{arith}
use Rattle.std.proofs.Math.Bool.{true}
use mathlib.Core.List.{List, [], ◌∷◌}
use Rattle.std.proofs.Math.Logic.{⊎_elim}
use Rattle.std.proofs.Math.ListN.{length}
use Rattle.laws.specs.Choice.{true_or_false}
use Rattle.laws.specs.Lists.{remove_at}
use Rattle.protocol.specs.declared.message.Message.{Message}
use Rattle.protocol.specs.declared.setup.Setup.{Setup}
use Rattle.protocol.specs.declared.step.Step.{Step}
use Rattle.protocol.specs.Setup.{in_range}
use Rattle.protocol.proofs.Ranges.{ranges}
use Rattle.protocol.specs.Messages.{pushed, removed, empty_queue}
use Rattle.protocol.specs.World.{World, stepped}
use Rattle.protocol.specs.Ledger.{accepts}
use Rattle.protocol.proofs.Soundness.StepCases.{refused_keeps}
use Rattle.protocol.specs.Soundness.Question.{SoundWorld}
use Rattle.protocol.proofs.Soundness.Question.{stepped_sound, fresh_sound}
use Rattle.protocol.specs.Safety.Invariant.{Inv}
use Rattle.protocol.proofs.Safety.InvariantKept.{step_keeps}
use Rattle.protocol.proofs.Safety.Fresh.{fresh_inv}
use Rattle.protocol.specs.Tables.{fresh_tables}
use Rattle.any_network.specs.Network.{Net, fresh_net, Move, own, arrival, listing, one, receive, found, after, moved, moved_all}
use Rattle.any_network.specs.Lists.{In, push_all}
use Rattle.any_network.proofs.Lists.{sent_in}
use Rattle.any_network.specs.Invariant.{NetOk}
use Rattle.any_network.proofs.Invariant.{listed_safe, listed_sound, after_ok}
use Rattle.any_network.specs.Stepping.{First}
use Rattle.any_network.proofs.Stepping.{own_leaves, own_accepted, received_accepted, received_leaves}

-- the message that arrives is first, and behind it stand at most two others
first_of : (m : Message) (ms : List Message) → length ms ≤ 2 → First m (push_all (one m) ms) (push_all empty_queue ms)
unfolding push_all pushed removed remove_at
first_of m [] h = record { there = omega arith; first = refl; others = refl }
first_of m (a ∷ []) h = record { there = omega arith; first = refl; others = refl }
first_of m (a ∷ b ∷ []) h = record { there = omega arith; first = refl; others = refl }
first_of m (a ∷ b ∷ c ∷ ms) h = absurd (omega arith)

module _ (s : Setup) (i : in_range s ≡ true) (n : Net) (ok : NetOk s n) where
  abbrev w : World
  w = n.world

  clients_few : s.clients ≤ 16
  clients_few = (ranges s i).clients.1

  -- a step of one's own, refused or not
  own_accepts : (x : Step) → accepts s (listing w empty_queue) x ≡ true → NetOk s (after n (stepped s (listing w empty_queue) x))
  own_accepts x a =
      let k = own_leaves s w x a clients_few in
      rw (k.same empty_queue empty_queue refl a)
      (after_ok s n ok k.rest k.out k.few (λ ms h f.
      let q = push_all empty_queue ms in
      let sound = listed_sound s n ok ms f in
      let e = k.same q q refl (own_accepted s w x i a q sound) in
      (rw e at (stepped_sound s (listing w q) x sound), rw e at (step_keeps s (listing w q) x sound (listed_safe s n ok ms f)))))

  own_refused : (x : Step) → accepts s (listing w empty_queue) x ≡ false → NetOk s (after n (stepped s (listing w empty_queue) x))
  unfolding push_all
  own_refused x a =
      rw (refused_keeps s (listing w empty_queue) x a)
      (after_ok s n ok w [] (omega arith) (λ ms h f. (listed_sound s n ok ms f, listed_safe s n ok ms f)))

  own_keeps : (x : Step) → NetOk s (after n (stepped s (listing w empty_queue) x))
  own_keeps x = ⊎_elim (own_accepts x) (own_refused x) (true_or_false (accepts s (listing w empty_queue) x))

  -- a message that was sent arrives, and remains among what was sent
  arrival_keeps : (m : Message) → In m n.sent → NetOk s (after n (stepped s (listing w (one m)) receive))
  unfolding push_all In
  arrival_keeps m z =
      let k = received_leaves s w m in
      let behind : (ms : List Message) → ((g : Message) → In g ms → In g n.sent) → (g : Message) → In g (m ∷ ms) → In g n.sent = λ ms f g a. ⊎_elim (λ e. rw e z) (f g) a in
      let takes : (ms : List Message) → length ms ≤ 2 → ((g : Message) → In g ms → In g n.sent) → accepts s (listing w (push_all (one m) ms)) receive ≡ true =
      λ ms h f. received_accepted s w i (push_all (one m) ms) (first_of m ms h).there (listed_sound s n ok (m ∷ ms) (behind ms f)) in
      rw (k.same (one m) empty_queue (first_of m [] (omega arith)) (takes [] (omega arith) (λ g a. absurd a)))
      (after_ok s n ok k.rest k.out k.few (λ ms h f.
      let q = push_all (one m) ms in
      let sound = listed_sound s n ok (m ∷ ms) (behind ms f) in
      let e = k.same q (push_all empty_queue ms) (first_of m ms h) (takes ms h f) in
      (rw e at (stepped_sound s (listing w q) receive sound), rw e at (step_keeps s (listing w q) receive sound (listed_safe s n ok (m ∷ ms) (behind ms f))))))

  pub move_keeps : (y : Move) → NetOk s (moved s n y)
  unfolding moved
  move_keeps (own x) = own_keeps x
  move_keeps (arrival j) = ⊎_elim (λ e. rw e (own_keeps receive)) (λ a. rw a.2 (arrival_keeps a.0 a.1)) (sent_in n.sent j)

  -- no message that was sent is refused when it arrives
  pub arrival_accepted : (m : Message) → In m n.sent → accepts s (listing w (one m)) receive ≡ true
  unfolding push_all In
  arrival_accepted m z = received_accepted s w i (one m) (first_of m [] (omega arith)).there (listed_sound s n ok (m ∷ []) (λ g a. ⊎_elim (λ e. rw e z) (λ b. absurd b) a))

-- ---- the world that a move finds is sound and safe
module _ (s : Setup) (i : in_range s ≡ true) (n : Net) (ok : NetOk s n) where
  one_of : (m : Message) → In m n.sent → (g : Message) → In g (m ∷ []) → In g n.sent
  unfolding In
  one_of m z g a = ⊎_elim (λ e. rw e z) (λ b. absurd b) a

  pub found_sound : (y : Move) → SoundWorld s (found n y)
  unfolding push_all
  found_sound (own x) = ok.sound
  found_sound (arrival j) = ⊎_elim (λ e. rw e ok.sound) (λ a. rw a.2 (listed_sound s n ok (a.0 ∷ []) (one_of a.0 a.1))) (sent_in n.sent j)

  pub found_safe : (y : Move) → Inv s (found n y)
  unfolding push_all
  found_safe (own x) = ok.safe
  found_safe (arrival j) = ⊎_elim (λ e. rw e ok.safe) (λ a. rw a.2 (listed_safe s n ok (a.0 ∷ []) (one_of a.0 a.1))) (sent_in n.sent j)

pub fresh_ok : (s : Setup) → in_range s ≡ true → NetOk s (fresh_net s)
unfolding In fresh_tables
fresh_ok s i = record {
  sound = fresh_sound s i;
  safe = fresh_inv s (ranges s i);
  named = λ m a. absurd a;
  messages = λ m a. absurd a;
  pairs = λ m g a b. absurd a;
}

pub run_keeps : (s : Setup) → in_range s ≡ true → (n : Net) (ys : List Move) → NetOk s n → NetOk s (moved_all s n ys)
unfolding moved_all
run_keeps s i n [] ok = ok
run_keeps s i n (y ∷ ys) ok = run_keeps s i (moved s n y) ys (move_keeps s i n ok y)
