-- The last event of a line occurred, and none came after it. As long as none comes, a copy stays as it is.
-- Letters: s setup, w and u worlds, x a step, d client, o object, c and g copies, e an entry of a line, l a line, k the last event.
use Rattle.std.specs.Prelude.{ℕ, ◌<◌, Bool, true, not, ◌&&◌, ◌≡◌, eqb, Option, None, Some}
use Rattle.std.proofs.Common.{arith, sym, ◌∙◌, eqb-true}
use Rattle.std.proofs.Math.Bool.{false}
use mathlib.Core.List.{List, [], ◌∷◌, ◌++◌, map-append, append_assoc, append-nil}
use Rattle.std.proofs.Math.Logic.{⊎_elim}
use Rattle.std.proofs.Math.Path.{refl, ap}
use Rattle.laws.specs.Choice.{true_or_false, or_false, not_both}
use Rattle.laws.specs.Line.{made, made_snoc, longer}
use Rattle.protocol.specs.declared.records.Copy.{Copy}
use Rattle.protocol.specs.declared.setup.Setup.{Setup}
use Rattle.protocol.specs.declared.step.Step.{Step}
use Rattle.protocol.specs.Tables.{no_copy}
use Rattle.protocol.specs.World.{World, fresh_world, stepped, ran}
use Rattle.protocol.specs.Soundness.Question.{SoundWorld}
use Rattle.protocol.proofs.Soundness.Question.{stepped_sound}
use Rattle.protocol.specs.Safety.View.{copy_at}
use Rattle.protocol.specs.Line.{Entry, steps_in, ran_by}
use Rattle.protocol.proofs.Reached.{ran_on}
use Rattle.promises.specs.declared.reasons.Event.{Event}
use Rattle.promises.specs.declared.reasons.Event.TheVariants.{Granted, Erased}
use Rattle.promises.specs.declared.reasons.Last.{Last}
use Rattle.promises.specs.declared.reasons.Why.{Why}
use Rattle.promises.specs.Reasons.Events.{grants, vanished, went_to_zero, erases, happens, cause, event_of, no_event, last_after, after, last_of}
use Rattle.promises.specs.Reasons.Reason.{Uneventful, Happened}
use Rattle.promises.specs.Reasons.Fates.{Fate, stays, filled, invalidated, offered, batched, restarted, ended}
use Rattle.promises.proofs.ReasonsLaws.Fates.{fate}
use Rattle.promises.specs.Reasons.Told.{AsBefore, How}

-- ---- a line that grows by an entry
module _ (s : Setup) (d o : ℕ) where
  -- the state beside the last event is the line's
  beside : (l : List Entry) (w : World) (k : Option Last) → (made (after s d o) (w, k) l).0 ≡ ran s w (steps_in l)
  unfolding made ran
  beside [] w k = refl
  beside (e ∷ l) w k = beside l (stepped s w e.step) (last_after s d o w k e)

  pub last_longer : (l : List Entry) (e : Entry) → last_of s d o (longer l e) ≡ last_after s d o (ran_by s l) (last_of s d o l) e
  last_longer l e =
      ap (λ (a : World × Option Last). a.1) (made_snoc (after s d o) (fresh_world s, no_event) l e)
      ∙ ap (λ (w : World). last_after s d o w (last_of s d o l) e) (beside l (fresh_world s) no_event)

  uneventful_longer : (l : List Entry) (w : World) (e : Entry) → Uneventful s d o w l → happens s (ran s w (steps_in l)) e.step d o ≡ false → Uneventful s d o w (longer l e)
  unfolding Uneventful ran
  uneventful_longer [] w e h q = (q, tt)
  uneventful_longer (a ∷ l) w e h q = (h.0, uneventful_longer l (stepped s w a.step) e h.1 q)

  -- ---- what the last event tells
  -- an erasing one: no GRANT, and its reason
  pub record Erasing (why : Why) (w : World) (x : Step) : Type 0 where
    pub erases : erases s w x d o ≡ true
    pub ungranted : grants s w x d o ≡ false
    pub reason : why ≡ cause w x

  abbrev pub TellsOf : List Entry → ℕ → Event → Type 0
  TellsOf l n Granted = Happened s d o l n (λ w x. grants s w x d o ≡ true)
  TellsOf l n (Erased why) = Happened s d o l n (Erasing why)

  abbrev pub Tells : List Entry → Option Last → Type 0
  Tells l None = Uneventful s d o (fresh_world s) l
  Tells l (Some k) = TellsOf l k.step k.event

  pub ran_parts : (older : List Entry) (e : Entry) (newer : List Entry) → ran_by s (older ++ (e ∷ newer)) ≡ ran s (stepped s (ran_by s older) e.step) (steps_in newer)
  unfolding ran
  ran_parts older e newer = ap (ran s (fresh_world s)) (map-append _ older (e ∷ newer)) ∙ ran_on s (fresh_world s) (steps_in older) (e.step ∷ steps_in newer)

  happened_longer : (P : World → Step → Type 0) (l : List Entry) (n : ℕ) (e : Entry) → happens s (ran_by s l) e.step d o ≡ false → Happened s d o l n P → Happened s d o (longer l e) n P
  happened_longer P l n e q h = record {
    older = h.older;
    event = h.event;
    newer = longer h.newer e;
    parts = ap (λ (m : List Entry). longer m e) h.parts ∙ append_assoc h.older (h.event ∷ h.newer) (e ∷ []);
    number = h.number;
    occurred = h.occurred;
    since = uneventful_longer h.newer _ e h.since (rw (h.parts, ran_parts h.older h.event h.newer) at q);
  }

  newest : (P : World → Step → Type 0) (l : List Entry) (e : Entry) → P (ran_by s l) e.step → Happened s d o (longer l e) e.number P
  unfolding Uneventful
  newest P l e p = record { older = l; event = e; newer = []; parts = refl; number = refl; occurred = p; since = tt }

  event_still : (l : List Entry) (e : Entry) (n : ℕ) (g : Event) → happens s (ran_by s l) e.step d o ≡ false → TellsOf l n g → TellsOf (longer l e) n g
  event_still l e n Granted q h = happened_longer (λ w x. grants s w x d o ≡ true) l n e q h
  event_still l e n (Erased why) q h = happened_longer (Erasing why) l n e q h

  tells_still : (l : List Entry) (e : Entry) (k : Option Last) → happens s (ran_by s l) e.step d o ≡ false → Tells l k → Tells (longer l e) k
  tells_still l e None q h = uneventful_longer l (fresh_world s) e h q
  tells_still l e (Some k) q h = event_still l e k.step k.event q h

  tells_longer : (l : List Entry) (e : Entry) (k : Option Last) → Tells l k → Tells (longer l e) (last_after s d o (ran_by s l) k e)
  unfolding event_of
  tells_longer l e k h = ⊎_elim (λ g. rw g (newest (λ w x. grants s w x d o ≡ true) l e g)) unfilled (true_or_false (grants s (ran_by s l) e.step d o))
    where
      unfilled : grants s (ran_by s l) e.step d o ≡ false → Tells (longer l e) (last_after s d o (ran_by s l) k e)
      unfilled g =
          ⊎_elim (λ r. rw g (rw r (newest (Erasing (cause (ran_by s l) e.step)) l e (record { erases = r; ungranted = g; reason = refl }))))
          (λ r. rw g (rw r (tells_still l e k (rw g r) h))) (true_or_false (erases s (ran_by s l) e.step d o))

  tells_on : (l m : List Entry) → Tells m (last_of s d o m) → Tells (m ++ l) (last_of s d o (m ++ l))
  tells_on [] m h = rw (append-nil m) h
  tells_on (e ∷ l) m h = rw (append_assoc m (e ∷ []) l) at (tells_on l (longer m e) (rw (last_longer m e) (tells_longer m e (last_of s d o m) h)))

  pub last_tells : (l : List Entry) → Tells l (last_of s d o l)
  unfolding made Uneventful
  last_tells l = tells_on l [] tt

-- ---- a copy as long as no event comes
none_went : (a : ℕ) → went_to_zero a a ≡ false
none_went a = pick (eqb a 0)
  where
    pick : (b : Bool) → (not b && b) ≡ false
    pick true = refl
    pick false = refl

-- what stays where nothing went to 0
was_zero : (a : ℕ) → went_to_zero a 0 ≡ false → a ≡ 0
was_zero a h = ⊎_elim (λ e. eqb-true a 0 e) (λ e. not_both (rw e) h) (true_or_false (eqb a 0))

none_vanished : (c : Copy) → vanished c no_copy ≡ false → AsBefore c no_copy
unfolding vanished
none_vanished c h = let b = or_false (went_to_zero c.version 0) _ h in record { version = sym (was_zero _ b.0); expiry = sym (was_zero _ b.1) }

end_vanished : (c : Copy) → vanished c (ended c) ≡ false → AsBefore c (ended c)
unfolding vanished
end_vanished c h = record { version = refl; expiry = sym (was_zero _ (or_false (went_to_zero c.version c.version) _ h).1) }

same_vanished : (c : Copy) → vanished c c ≡ false
unfolding vanished
same_vanished c = rw (none_went c.version) (none_went c.expiry)

-- vanished is vanished, whatever copies come that are as before
pub vanished_still : (c g f : Copy) → AsBefore g f → vanished c g ≡ true → vanished c f ≡ true
unfolding vanished
vanished_still c g f a h = rw (a.version, a.expiry) h

module _ (s : Setup) (d o : ℕ) (hd : d < s.clients) (ho : o < s.objects) where
  abbrev pub copy_in : World → Copy
  copy_in w = copy_at s w.copies d o

  by_fate : (w : World) (x : Step) (g : Copy) → grants s w x d o ≡ false → vanished (copy_in w) g ≡ false → Fate s w x d o g → AsBefore (copy_in w) g
  by_fate w x g n v (stays p) = record { version = ap (λ (c : Copy). c.version) p; expiry = ap (λ (c : Copy). c.expiry) p }
  by_fate w x g n v (filled p) = not_both p n
  by_fate w x g n v (invalidated _ _ p) = rw p (none_vanished (copy_in w) (rw p at v))
  by_fate w x g n v (offered _ _ p) = rw p (end_vanished (copy_in w) (rw p at v))
  by_fate w x g n v (batched _ _ p) = rw p (none_vanished (copy_in w) (rw p at v))
  by_fate w x g n v (restarted _ _ p) = rw p (none_vanished (copy_in w) (rw p at v))

  step_uneventful : (w : World) (x : Step) → SoundWorld s w → happens s w x d o ≡ false → AsBefore (copy_in w) (copy_in (stepped s w x))
  unfolding erases
  step_uneventful w x sound h =
      let b = or_false (grants s w x d o) (erases s w x d o) h in
      by_fate w x (copy_in (stepped s w x)) b.0 b.1 (fate s w x sound d o hd ho)

  pub uneventful_keeps : (l : List Entry) (w : World) → SoundWorld s w → Uneventful s d o w l → AsBefore (copy_in w) (copy_in (ran s w (steps_in l)))
  unfolding Uneventful ran
  uneventful_keeps [] w sound h = record { version = refl; expiry = refl }
  uneventful_keeps (e ∷ l) w sound h =
      let a = step_uneventful w e.step sound h.0 in
      let b = uneventful_keeps l (stepped s w e.step) (stepped_sound s w e.step sound) h.1 in
      record { version = b.version ∙ a.version; expiry = b.expiry ∙ a.expiry }

  -- ---- how a copy was erased
  how_by : (w : World) (x : Step) (g : Copy) → grants s w x d o ≡ false → vanished (copy_in w) g ≡ true → Fate s w x d o g → How s d o w x
  how_by w x g n v (stays p) = not_both (rw p at v) (same_vanished (copy_in w))
  how_by w x g n v (filled p) = not_both p n
  how_by w x g n v (invalidated p c _) = record { above = rw c (omega arith); below = rw c (omega arith); two = λ _. p; three = λ q. absurd (cc); four = λ q. absurd (cc) }
  how_by w x g n v (offered p c _) = record { above = rw c (omega arith); below = rw c (omega arith); two = λ q. absurd (cc); three = λ _. p; four = λ q. absurd (cc) }
  how_by w x g n v (batched p c _) = record { above = rw c (omega arith); below = rw c (omega arith); two = λ q. absurd (cc); three = λ _. p; four = λ q. absurd (cc) }
  how_by w x g n v (restarted p c _) = record { above = rw c (omega arith); below = rw c (omega arith); two = λ q. absurd (cc); three = λ q. absurd (cc); four = λ _. p }

  pub how : (w : World) (x : Step) → SoundWorld s w → grants s w x d o ≡ false → erases s w x d o ≡ true → How s d o w x
  unfolding erases
  how w x sound n v = how_by w x (copy_in (stepped s w x)) n v (fate s w x sound d o hd ho)
