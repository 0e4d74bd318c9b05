-- 02, A1: from every state that a run reaches, a client's read is shown after 3 or 7 asks and deliveries.
-- Letters as in Policy and Phases; m is how many steps are still to come.
use Prim.Native.Nat.{ℕ, zero, suc, ◌+◌, ◌<◌, ◌≤◌}
use Rattle.std.proofs.Common.{arith, ◌∙◌, eq-eqb, ne_eqb}
use Rattle.std.specs.Prelude.{Bool, true, false, ◌≡◌, length}
use Rattle.std.proofs.Math.Bool.{cond}
use mathlib.Core.List.{List, [], ◌∷◌, ◌++◌}
use Rattle.std.proofs.Math.Path.{refl, ap}
use Rattle.laws.specs.Choice.{cond_keeps}
use Rattle.laws.specs.Lists.{All}
use Rattle.protocol.specs.declared.message.Message.{Message}
use Rattle.protocol.specs.declared.message.Kind.{Kind}
use Rattle.protocol.specs.declared.setup.Setup.{Setup}
use Rattle.protocol.specs.declared.step.Answer.{Answer}
use Rattle.protocol.specs.declared.step.Answer.TheVariants.{Shown}
use Rattle.protocol.specs.declared.step.Step.{Step}
use Rattle.protocol.specs.Setup.{in_range, volume_of}
use Rattle.protocol.specs.Messages.{message_at}
use Rattle.protocol.specs.Answers.{is_refused}
use Rattle.protocol.specs.World.{World, fresh_world, stepped, ran, answers}
use Rattle.protocol.specs.Ledger.{accepts}
use Rattle.protocol.specs.Ranges.{Ranges}
use Rattle.protocol.proofs.Ranges.{ranges}
use Rattle.protocol.proofs.Soundness.Answered.{accepted_not_refused}
use Rattle.protocol.specs.Soundness.Question.{SoundWorld}
use Rattle.protocol.proofs.Soundness.Question.{stepped_sound}
use Rattle.protocol.specs.Safety.View.{request_at}
use Rattle.protocol.specs.Safety.Invariant.{from}
use Rattle.protocol.proofs.Reached.{ran_on, run_sound, run_safe, shows_posted}
use Rattle.promises.specs.UntilShown.Policy.{ask, deliver, is_dropped, policy, Quiet, connected, ShownAfter, ShownInTime}
use Rattle.promises.specs.UntilShown.Steps.{asking, delivering}
use Rattle.promises.proofs.UntilShown.Steps.{ask_accepted, ask_leaves, read_shows, deliver_accepted, deliver_leaves}
use Rattle.promises.specs.UntilShown.Phases.{Only, Idle, Offered, Dropping, Granted, Showing}
use Rattle.promises.proofs.UntilShown.Moves.{asks, grants, offers, drops_leases, reconnects, shows}

-- ---- the policy from a world on: m steps, however many more it may take, and then the copy may be shown
module _ (s : Setup) (i : in_range s ≡ true) (d o : ℕ) (hd : d < s.clients) (ho : o < s.objects) where
  record Leads (w : World) (m : ℕ) (xs : List Step) : Type 0 where
    many : length xs ≡ m
    accepted : All (λ (a : Answer). is_refused a ≡ false) (answers s w xs)
    showing : Showing s (ran s w xs) d o

  abbrev From : World → Bool → ℕ → Type 0
  From w due m = (n : ℕ) → m ≤ n → Leads w m (policy s d o n due w)

  -- the policy ends where the list is empty, and delivers where it is not
  rests : (w : World) → w.tables.queue.len ≡ 0 → (n : ℕ) → policy s d o n false w ≡ []
  unfolding policy
  rests w e zero = refl
  rests w e (suc n) =
      ap (λ (b : Bool). cond b [] (deliver ∷ policy s d o n (is_dropped (message_at w.tables.queue 0).kind) (stepped s w deliver))) (eq-eqb _ 0 e)

  delivers : (w : World) (g : Kind) → Only w.tables.queue (from d g) → (n : ℕ) → policy s d o (suc n) false w ≡ deliver ∷ policy s d o n (is_dropped g) (stepped s w deliver)
  unfolding policy
  delivers w g q n =
      ap (λ (b : Bool). cond b [] (deliver ∷ policy s d o n (is_dropped (message_at w.tables.queue 0).kind) (stepped s w deliver)))
      (ne_eqb w.tables.queue.len 0 (λ e. omega (arith, q.one)))
      ∙ ap (λ (x : Message). deliver ∷ policy s d o n (is_dropped x.kind) (stepped s w deliver)) q.first

  ended : (w : World) → Showing s w d o → From w false 0
  unfolding All answers ran
  ended w h n l = rw (rests w h.empty n) (record { many = refl; accepted = tt; showing = h })

  asked : (w : World) (m : ℕ) → accepts s w (ask d o) ≡ true → From (stepped s w (ask d o)) false m → From w true (suc m)
  unfolding policy All answers ran
  asked w m a f zero l = absurd (omega arith)
  asked w m a f (suc n) l =
      let r = f n (omega arith) in
      record { many = ap suc r.many; accepted = (accepted_not_refused s w (ask d o) a, r.accepted); showing = r.showing }

  delivered : (w : World) (g : Kind) (m : ℕ) → Only w.tables.queue (from d g) → accepts s w deliver ≡ true → From (stepped s w deliver) (is_dropped g) m → From w false (suc m)
  unfolding All answers ran
  delivered w g m q a f zero l = absurd (omega arith)
  delivered w g m q a f (suc n) l =
      let r = f n (omega arith) in
      rw (delivers w g q n) (record { many = ap suc r.many; accepted = (accepted_not_refused s w deliver a, r.accepted); showing = r.showing })

  -- ---- the phases, last first
  range : Ranges s
  range = ranges s i

  -- a message that is under way alone is delivered, and leads on
  goes_on : (w : World) (g : Kind) (m : ℕ) → SoundWorld s w → Only w.tables.queue (from d g)
      → (SoundWorld s (delivering s w d g) → From (delivering s w d g) (is_dropped g) m) → From w false (suc m)
  goes_on w g m k q f =
      let a = deliver_accepted s i w k (omega (arith, q.one)) in
      let e = deliver_leaves s i w k a d g q.first in
      delivered w g m q a (rw e (f (rw e at (stepped_sound s w deliver k))))

  from_granted : (w : World) (n : ℕ) → SoundWorld s w → Granted s w d o n → From w false 1
  from_granted w n k g = goes_on w _ 0 k g.grant (λ h. ended _ (shows s range w k d o hd ho n g))

  module _ (w : World) (k : SoundWorld s w) where
    -- the ask, and what it leads to
    asks_on : (m : ℕ) → (request_at w.requests d).next < 4294967295 → (SoundWorld s (asking s w d o) → From (asking s w d o) false m) → From w true (suc m)
    asks_on m h f =
        let a = ask_accepted s i w k d o hd ho h in
        let e = ask_leaves s i w k d o hd ho a in
        asked w m a (rw e (f (rw e at (stepped_sound s w (ask d o) k))))

    from_connected : Idle s w d o true → (request_at w.requests d).next < 4294967295 → From w true 3
    from_connected h l =
        asks_on 2 l (λ j. let a = asks s range w k d o hd ho true h in
        goes_on _ _ 1 j a.renew (λ f. from_granted _ _ f (grants s range _ j d o hd ho _ a)))

  from_dropping : (w : World) (n : ℕ) → SoundWorld s w → n + 1 < 4294967295 → Dropping s w d o n → From w false 4
  from_dropping w n k l h =
      goes_on w _ 3 k h.dropped (λ j. let c = reconnects s range w k d o hd ho n h in from_connected _ j c.idle (omega (arith, c.next)))

  from_offered : (w : World) (n : ℕ) → SoundWorld s w → n + 1 < 4294967295 → Offered s w d o n → From w false 5
  from_offered w n k l h = goes_on w _ 4 k h.offer (λ j. from_dropping _ n j l (drops_leases s range w k d o hd ho n h))

  from_unconnected : (w : World) → SoundWorld s w → Idle s w d o false → (request_at w.requests d).next + 1 < 4294967295 → From w true 7
  from_unconnected w k h l =
      asks_on w k 6 (omega arith) (λ j. let a = asks s range w k d o hd ho false h in
      goes_on _ _ 5 j a.renew (λ f. from_offered _ _ f l (offers s range _ j d o hd ho _ a)))

-- ---- the theorem
module _ (s : Setup) (i : in_range s ≡ true) (ys : List Step) (d o : ℕ) where
  abbrev reached : World
  reached = ran s (fresh_world s) ys

  shown_after : (m : ℕ) (xs : List Step) (hd : d < s.clients) (ho : o < s.objects) → Leads s i d o hd ho reached m xs → ShownAfter s ys d o m xs
  shown_after m xs hd ho h =
      let e = ran_on s (fresh_world s) ys xs in
      let g = rw (← e) at h.showing in
      record {
        many = h.many;
        accepted = h.accepted;
        empty = g.empty;
        shown = read_shows s i _ (run_sound s i (ys ++ xs)) d o hd ho g.shows ∙ ap Shown (shows_posted s i (ys ++ xs) d o hd ho g.shows);
      }

  pub shown_in_time : Quiet s (ran s (fresh_world s) ys) d o → ShownInTime s ys d o
  shown_in_time h n l =
      cond_keeps (λ (m : ℕ). ShownAfter s ys d o m (policy s d o n true reached)) (connected reached.tables d (volume_of s o))
      (λ e. shown_after 3 _ h.client h.object (from_connected s i d o h.client h.object reached (run_sound s i ys) (idle true e) (omega (arith, h.numbers)) n (omega arith)))
      (λ e. shown_after 7 _ h.client h.object (from_unconnected s i d o h.client h.object reached (run_sound s i ys) (idle false e) h.numbers n l))
    where
      -- here the invariant's fact is used that every number seen is below the next one
      idle : (known : Bool) → connected reached.tables d (volume_of s o) ≡ known → Idle s reached d o known
      idle known e = record { empty = h.empty; vacant = h.vacant; unnoted = h.unnoted; unseen = (run_safe s i ys).numbers.past d h.client; connects = e }
