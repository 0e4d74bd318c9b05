-- A step on a world with any message list: whatever else is in the list stays there, and what is sent goes to its end.
-- Letters: s setup, w world, x a step, q a message list, m a message, c a copy, r a request, k what is framed; a and e are facts.
use Rattle.std.specs.Prelude.{◌<◌, ◌≤◌, false, not, ◌&&◌, ◌||◌, ◌≡◌, get_or}
use Rattle.std.proofs.Common.{arith, ⊎_elim, ne_eqb, lt-ltb}
use Rattle.std.proofs.Math.Bool.{true}
use Rattle.std.proofs.Math.Path.{refl}
use Rattle.std.proofs.Math.Dec.{ltb}
use Rattle.laws.specs.Choice.{and-true, both_true, true_or_false}
use Rattle.protocol.specs.declared.message.Message.{Message}
use Rattle.protocol.specs.declared.message.Queue.{Queue}
use Rattle.protocol.specs.declared.records.Copy.{Copy}
use Rattle.protocol.specs.declared.records.Request.{Request}
use Rattle.protocol.specs.declared.setup.Setup.{Setup}
use Rattle.protocol.specs.declared.step.Step.{Step}
use Rattle.protocol.specs.declared.step.Target.{Target}
use Rattle.protocol.specs.Setup.{in_range}
use Rattle.protocol.specs.Messages.{object_of, empty_queue}
use Rattle.protocol.specs.Tables.{with_queue, no_copy, no_request}
use Rattle.protocol.specs.Gate.{known, exists, timely, vacant, growable, uses_client, uses_object, uses_place, refusal_of_step, refusal}
use Rattle.protocol.specs.Decide.{performed, delivered, deliver_decided}
use Rattle.protocol.specs.World.{World, target_at, target, world_after, stepped}
use Rattle.protocol.specs.Ledger.{accepts}
use Rattle.protocol.specs.Soundness.StepCases.{Passed, request_of, copy_of}
use Rattle.protocol.proofs.Soundness.StepCases.{accepted, by_kind, decision_accepted, place_exists, clock_performed, read_performed, ask_performed, write_performed, deliver_performed, server_performed, client_performed}
use Rattle.protocol.specs.Soundness.Question.{SoundWorld}
use Rattle.protocol.proofs.Soundness.Question.{sounds}
use Rattle.any_network.specs.Network.{listing, receive}
use Rattle.any_network.proofs.Framing.{alike}
use Rattle.any_network.specs.Framed.{Sends, redecide}
use Rattle.any_network.proofs.Framed.{received_frames, clock_frames, read_frames, ask_frames, write_frames, server_frames, client_frames}
use Rattle.any_network.specs.Stepping.{Leaves, First}

-- ---- a step of one's own leaves the list that it finds, with what it sends behind it
module _ (s : Setup) (w : World) (x : Step) (a : accepts s (listing w empty_queue) x ≡ true) where
  passes : Passed s (with_queue w.tables empty_queue) (request_of s (listing w empty_queue) x) x
  passes = (accepted s (listing w empty_queue) x a).passes

  placeless : uses_place x ≡ true → ⊥
  placeless h = let b = place_exists passes h in omega arith

  no_place : uses_place x ≡ false
  no_place = ⊎_elim (λ h. absurd (placeless h)) (λ h. h) (true_or_false (uses_place x))

  abbrev mine : Target
  mine = target_at s x.client x.object

  abbrev copy : Copy
  copy = get_or w.copies mine.copy no_copy

  abbrev request : Request
  request = get_or w.requests mine.client no_request

  frames : s.clients ≤ 16 → Sends redecide (λ q. performed s (with_queue w.tables q) copy request x)
  frames h =
      by_kind (Sends redecide (λ q. performed s (with_queue w.tables q) copy request x)) x passes.knows
      (λ e. alike _ _ (λ q. clock_performed s (with_queue w.tables q) copy request x e) (clock_frames s w.tables x.clock))
      (λ e. alike _ _ (λ q. read_performed s (with_queue w.tables q) copy request x e) (read_frames s w.tables copy x.client x.object))
      (λ e. alike _ _ (λ q. ask_performed s (with_queue w.tables q) copy request x e) (ask_frames s w.tables copy request x.client x.object))
      (λ e. alike _ _ (λ q. write_performed s (with_queue w.tables q) copy request x e) (write_frames s w.tables x.object x.value h))
      (λ e. absurd (placeless (rw e)))
      (λ e. absurd (placeless (rw e)))
      (λ e. absurd (placeless (rw e)))
      (λ e. alike _ _ (λ q. server_performed s (with_queue w.tables q) copy request x e) (server_frames s w.tables))
      (λ e. alike _ _ (λ q. client_performed s (with_queue w.tables q) copy request x e) (client_frames s w.tables x.client))

  own_target : (q : Queue) → target s (with_queue w.tables q) x ≡ mine
  unfolding target
  own_target q = rw (ne_eqb x.kind 5 (λ e. placeless (rw e)))

  pub own_leaves : s.clients ≤ 16 → Leaves s w x ◌≡◌
  unfolding stepped
  own_leaves h =
      let k = frames h in
      record {
        rest = world_after s w mine k.rest;
        out = k.out;
        few = k.few;
        same = λ p q e b. rw (decision_accepted s (listing w p) x b, own_target p, k.same p, e);
      }

  -- it passes the questions whatever list is there
  own_accepted_at : (q : Queue) → Passed s (with_queue w.tables q) (request_of s (listing w q) x) x
  unfolding exists timely vacant growable
  own_accepted_at q =
      let f = and-true ((not (uses_client x) || ltb x.client s.clients) && (not (uses_object x) || ltb x.object s.objects)) (not (uses_place x) || ltb x.place 0) passes.finds in
      let r : request_of s (listing w q) x ≡ request_of s (listing w empty_queue) x = rw (own_target q, own_target empty_queue) in
      let g : (not (uses_place x) || ltb x.place q.len) ≡ true = rw no_place in
      record { knows = passes.knows; finds = both_true f.0 g; times = passes.times; vacates = passes.vacates; grows = rw r passes.grows }

-- a step is accepted where every question is answered "yes"
yes_accepts : (s : Setup) (w : World) (x : Step) → in_range s ≡ true → SoundWorld s w → Passed s w.tables (request_of s w x) x → accepts s w x ≡ true
unfolding refusal refusal_of_step
yes_accepts s w x i h p = rw (sounds s w h i, p.knows, p.finds, p.times, p.vacates, p.grows)

pub own_accepted : (s : Setup) (w : World) (x : Step) → in_range s ≡ true → accepts s (listing w empty_queue) x ≡ true → (q : Queue) → SoundWorld s (listing w q) → accepts s (listing w q) x ≡ true
own_accepted s w x i a q h = yes_accepts s (listing w q) x i h (own_accepted_at s w x a q)

-- ---- message m is received: it is first in the list p that is found, and the others are q
pub received_accepted : (s : Setup) (w : World) → in_range s ≡ true → (q : Queue) → 0 < q.len → SoundWorld s (listing w q) → accepts s (listing w q) receive ≡ true
unfolding known exists timely vacant growable
received_accepted s w i q h k =
    yes_accepts s (listing w q) receive i k (record { knows = refl; finds = lt-ltb 0 q.len h; times = refl; vacates = refl; grows = refl })

module _ (s : Setup) (w : World) (m : Message) where
  abbrev its : Target
  its = target_at s m.client (object_of m.kind)

  pub received_leaves : Leaves s w receive (First m)
  unfolding stepped target deliver_decided
  received_leaves =
      let k = received_frames s w.tables (get_or w.copies its.copy no_copy) (get_or w.requests its.client no_request) m.client m.kind in
      record {
        rest = world_after s w its (delivered m k.rest);
        out = k.out;
        few = k.few;
        same = λ p q e b. rw (decision_accepted s (listing w p) receive b, deliver_performed s (with_queue w.tables p) (copy_of s (listing w p) receive) (request_of s (listing w p) receive) receive refl, e.first, e.others, k.same q);
      }
