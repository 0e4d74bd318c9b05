-- One lemma for each path through a function: the facts found along the path give its contract.
-- Letters: s setup, w words, v values, d client, o object, x a step, a an answer, r a reason.
use Prim.Native.Nat.{ℕ, ◌+◌, ◌-◌, ◌*◌, ◌<◌, ◌≤◌}
use native.Mathlib.Nat.{le_of_lt}
use native.Mathlib.Omega.{arith}
use mathlib.Core.Bool.{Bool, true, false}
use mathlib.Core.List.{List}
use mathlib.Core.Path.{◌≡◌, sym, ◌∙◌}
use Rattle.std.specs.Prelude.{Option, None, Some, Ok, Err}
use lib.Dec.{ltb}
use lib.ListN.{length, get_or, get_or-eq_default}
use borrow.Author.Tests.{ltb-true}
use Rattle.laws.specs.Choice.{and-true}
use Rattle.laws.specs.Parts.{part_at}
use Rattle.protocol.specs.declared.records.Copy.{Copy}
use Rattle.protocol.specs.declared.records.Request.{Request}
use Rattle.protocol.specs.declared.refusal.Refusal.{Refusal}
use Rattle.protocol.specs.declared.setup.Setup.{Setup}
use Rattle.protocol.specs.declared.step.Answer.{Answer}
use Rattle.protocol.specs.declared.step.Step.{Step}
use Rattle.protocol.specs.declared.step.Target.{Target}
use Rattle.protocol.specs.Tables.{by_volume, no_copy, no_request}
use Rattle.protocol.specs.Setup.{in_range}
use Rattle.protocol.specs.Gate.{is_read}
use Rattle.protocol.specs.World.{World, target_at}
use Rattle.protocol.specs.Saved.{Machine, answer_to, Called}
use Rattle.protocol.specs.Line.{act_of}
use Rattle.protocol.specs.Safety.View.{copy_at, request_at}
use Rattle.state_words.specs.Fields.{word_lengths, VIEW_EXPIRY}
use Rattle.state_words.specs.View.{tables_of, world_of}
use Rattle.lease_tests.specs.Parts.{Placed}
use Rattle.file_shape.specs.Places.{place_before, place_is, record_there}
use Rattle.file_reader.specs.declared.Contents.{Contents}
use Rattle.file_reader.specs.File.{contents_of, step_at}
use Rattle.file_reader.specs.Steps.{steps_of, length_steps}
use Rattle.file_reader.specs.Reading.{unformed, formed, contents_read, Accepted, accepted, step_read}
use Rattle.promises.specs.declared.reasons.Event.{Event}
use Rattle.promises.specs.declared.reasons.Last.{Last}
use Rattle.promises.specs.declared.reasons.Lasts.{Lasts}
use Rattle.promises.specs.declared.reasons.Reason.{Reason}
use Rattle.promises.specs.declared.reasons.Why.{Why}
use Rattle.promises.specs.Reasons.Events.{latest}
use Rattle.promises.specs.Reasons.ByAnswer.{event_by}
use Rattle.promises.specs.Reasons.Lasts.{NameKnown, followed}
use Rattle.promises.specs.Reasons.Reason.{no_step, chosen, view_until, why_by, reason_by, reason_of}
use Rattle.reason.specs.Explained.{reads_in, Chosen, if_asked, explanation_of}
use Rattle.reason.specs.Followed.{none_unread, none_first, Following, follow_named, follow_again, follow_ends}

-- ---- the expiries at the read
pub view_is : (s : Setup) (w v : List ℕ) (x : Step) (m : ℕ) → x.client < s.clients → Placed s x.object m
    → get_or w (2058 + (x.client * 8 + m)) 0 ≡ view_until s (world_of s w v) x.client x.object
unfolding tables_of
view_is s w v x m h p = rw (← p.is) (part_at word_lengths w VIEW_EXPIRY (by_volume x.client m) (omega (arith, p.clients, p.volume)))

-- the records that a read names
module _ (s : Setup) (x : Step) (at : Target) (f : at ≡ target_at s x.client x.object) where
  pub copy_read : (cs : List Copy) (c : Copy) → c ≡ get_or cs at.copy no_copy → c ≡ copy_at s cs x.client x.object
  copy_read cs c p = rw f at p

  pub request_read : (rs : List Request) (r : Request) → r ≡ get_or rs at.client no_request → r ≡ request_at rs x.client
  request_read rs r p = rw f at p

  pub reasoned : (w : World) (k : Last) (c : Copy) (view : ℕ) (why : Why) → c ≡ get_or w.copies at.copy no_copy → view ≡ view_until s w x.client x.object
      → why ≡ why_by view c.expiry k.event → record { why = why; step = k.step } ≡ reason_by s w x.client x.object (Some k)
  reasoned w k c view why p q h = rw (h, q, copy_read w.copies c p)

-- ---- the chosen read of an accepted file
module _ {l : List ℕ} {c : Contents} {k : ℕ} {x : Step} (p : Chosen l c k x) where
  pub facts : Accepted l c
  facts = accepted l c p.contents

  pub in_range_law : in_range c.setup ≡ true
  in_range_law = facts.in_range_law

  pub client_there : x.client < c.setup.clients
  client_there = ltb-true _ _ (and-true (ltb x.client c.setup.clients) _ (and-true (is_read x) _ p.reads).1).0

  pub object_there : x.object < c.setup.objects
  object_there = ltb-true _ _ (and-true (ltb x.client c.setup.clients) (ltb x.object c.setup.objects) (and-true (is_read x) _ p.reads).1).1

  -- a step up to it
  pub within : (j : ℕ) → j ≤ k → j < length (steps_of l)
  within j h = omega (arith, p.there, facts.counted, length_steps l)

  pub step_there : (place j : ℕ) → place ≡ place_before l j → j ≤ k → (y : Step) → y ≡ step_at l place → y ≡ get_or (steps_of l) j no_step
  step_there place j e h y f = f ∙ step_read l c p.contents place j no_step e (omega (arith, p.there))

  -- a step before it
  module _ (q : Machine) (ls : Lasts) (j : ℕ) (g : Following c.setup (steps_of l) x q ls j) (h : j < k) (place : ℕ) (e : place ≡ place_before l j) (y : Step) (f : y ≡ step_at l place) where
    pub named : (a : Answer) → a ≡ answer_to c.setup q y → NameKnown y a
    named = follow_named c.setup (steps_of l) x in_range_law q ls j g (within j (le_of_lt h)) p.reads y (step_there place j e (le_of_lt h) y f)

    pub again : (at : Target) → at ≡ target_at c.setup x.client x.object → (a : Answer) (r : Machine) → Called c.setup q y a r
        → (u : Request) → u ≡ get_or q.now.requests at.client no_request
        → (b b' : Copy) → b ≡ get_or q.now.copies at.copy no_copy → b' ≡ get_or r.now.copies at.copy no_copy
        → (v : Option Event) → v ≡ event_by x.client x.object u b b' y a → (m : Option Last) → m ≡ latest ls.now (j + 1) v → (ls' : Lasts) → ls' ≡ followed ls (act_of m y a)
        → Following c.setup (steps_of l) x r ls' (j + 1)
    again at i a r d u ue b b' be be' =
        follow_again c.setup (steps_of l) x in_range_law q ls j g (within j (le_of_lt h)) p.reads y (step_there place j e (le_of_lt h) y f) a r d
        u (request_read c.setup x at i q.now.requests u ue)
        b b' (copy_read c.setup x at i q.now.copies b be) (copy_read c.setup x at i r.now.copies b' be')

  -- the read itself
  pub ends : (q : Machine) (ls : Lasts) (j : ℕ) → Following c.setup (steps_of l) x q ls j → j ≤ k → k ≤ j → (a : Answer) → a ≡ answer_to c.setup q x
      → (r : Reason) → r ≡ reason_by c.setup q.now x.client x.object ls.now → (u : Option Reason) → u ≡ if_asked a r → u ≡ reason_of c.setup (steps_of l) (k + 1)
  ends q ls j g h i a f r e u d =
      let m : j ≡ k = omega arith in
      d ∙ follow_ends c.setup (steps_of l) x in_range_law q ls k (rw m at g) (within k (omega arith)) p.reads p.is a f r e

  pub place_small : (place j : ℕ) → place ≡ place_before l j → j ≤ k → place + 16 ≤ 65536
  place_small place j e h = omega (arith, record_there l place j e facts.parts c.count facts.counted (omega (arith, p.there)), facts.parts.short)

-- ---- a step by its number
module _ (l : List ℕ) (c : Contents) (e : Ok c ≡ contents_of l) (n : ℕ) where
  read_in : Accepted l c
  read_in = accepted l c e

  pub none_before : n ≡ 0 → None ≡ reason_of c.setup (steps_of l) n
  none_before z = rw z (none_first c.setup (steps_of l))

  pub none_past : c.count < n → None ≡ reason_of c.setup (steps_of l) n
  none_past h = none_unread c.setup read_in.in_range_law (steps_of l) n (rw past)
    where
      past : chosen (steps_of l) n ≡ no_step
      past = get_or-eq_default (steps_of l) no_step {n = n - 1} (omega (arith, read_in.counted, length_steps l))

  module _ (z : n ≡ 0 → ⊥) (h : n ≤ c.count) where
    there : n - 1 < c.count
    there = omega arith

    place_there : c.first + 16 * (n - 1) ≡ place_before l (n - 1)
    place_there = omega (arith, read_in.starts, place_is l 0, place_is l (n - 1))

    pub place_fits : c.first + 16 * (n - 1) ≤ 65536
    place_fits = omega (arith, record_there l (c.first + 16 * (n - 1)) (n - 1) place_there read_in.parts c.count read_in.counted there, read_in.parts.short)

    pub chosen_reason : (r : Option Reason) → r ≡ reason_of c.setup (steps_of l) (n - 1 + 1) → r ≡ reason_of c.setup (steps_of l) n
    chosen_reason r g =
        let m : n - 1 + 1 ≡ n = omega arith in
        rw m at g

    module _ (x : Step) (f : x ≡ step_at l (c.first + 16 * (n - 1))) (b : Bool) (q : b ≡ reads_in c.setup x) where
      is_chosen : x ≡ chosen (steps_of l) n
      is_chosen = f ∙ step_read l c e (c.first + 16 * (n - 1)) (n - 1) no_step place_there there

      pub read_chosen : b ≡ true → Chosen l c (n - 1) x
      read_chosen t = record { contents = e; there = there; is = is_chosen; reads = sym q ∙ t }

      pub unread_reason : b ≡ false → None ≡ reason_of c.setup (steps_of l) n
      unread_reason t = none_unread c.setup read_in.in_range_law (steps_of l) n (rw is_chosen at (sym q ∙ t))

-- ---- the call
module _ (l : List ℕ) (n : ℕ) where
  pub given : (c : Contents) → Ok c ≡ contents_of l → (r : Option Reason) → r ≡ reason_of c.setup (steps_of l) n → Ok r ≡ explanation_of l n
  unfolding explanation_of
  given c e r f = rw (formed l c e, f, contents_read l c e)

  pub refused : (k : Refusal) → Err k ≡ contents_of l → Err k ≡ explanation_of l n
  unfolding explanation_of
  refused k e = let f = unformed l k e in rw (f.0, f.1)
