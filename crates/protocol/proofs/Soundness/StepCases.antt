-- A step is refused and changes nothing, or every question was answered "yes" and it goes by its kind.
use Rattle.std.specs.Prelude.{ℕ, suc, ◌<◌, ◌≤◌, Bool, true, false, not, ◌||◌, ◌≡◌, refl, ltb, leb}
use Rattle.std.proofs.Common.{arith, ⊎_elim}
use Rattle.std.proofs.Math.Path.{ap}
use Rattle.std.proofs.Math.Seq.{set-get_or}
use borrow.Author.Tests.{ltb-true, leb-true, eqb-true, not-true}
use Rattle.laws.specs.Choice.{and-true, not_both, same?}
use Rattle.laws.specs.Loop.{fold_from, all_from, all_each}
use Rattle.protocol.specs.declared.records.Copy.{Copy}
use Rattle.protocol.specs.declared.records.Request.{Request}
use Rattle.protocol.specs.declared.setup.Setup.{Setup}
use Rattle.protocol.specs.declared.step.Answer.TheVariants.{Done, Refused}
use Rattle.protocol.specs.declared.step.Decision.{Decision}
use Rattle.protocol.specs.declared.step.Step.{Step}
use Rattle.protocol.specs.declared.tables.Tables.{Tables}
use Rattle.protocol.specs.Setup.{in_range}
use Rattle.protocol.specs.Tables.{epoch_at, version_at, standing_at, with_queue}
use Rattle.protocol.specs.Messages.{message_at, doubled}
use Rattle.protocol.specs.Writes.{settled, write_staged, clock_staged}
use Rattle.protocol.specs.Server.{server_restarted}
use Rattle.protocol.specs.Client.{swept_all}
use Rattle.protocol.specs.Sound.{sound, kind_sound, tables_sound, clock_limit, can_grow}
use Rattle.protocol.proofs.SoundLaws.{sound_length, sound_message}
use Rattle.protocol.specs.Gate.{is_clock, is_ask, is_write, is_restart_server, uses_client, uses_object, uses_place, known, exists, timely, vacant, growable, refusal_of_step, refusal}
use Rattle.protocol.proofs.Gate.{asked}
use Rattle.protocol.specs.Decide.{kept, answered, counting, read_decided, ask_decided, taken, deliver_decided, restart_decided, performed, refused_with, decided}
use Rattle.protocol.specs.World.{World, target, copies_after, requests_after, decision, stepped, answer_of}
use Rattle.protocol.specs.Ledger.{accepts}
use Rattle.protocol.specs.Soundness.StepCases.{Passed, Accepted, copy_of, request_of, records_of}

pub passed : (s : Setup) (t : Tables) (r : Request) (x : Step) → refusal_of_step s t r x ≡ 0 → Passed s t r x
unfolding refusal_of_step
passed s t r x e =
    let q2 = asked (known x) 1 _ e in
    let q3 = asked (exists s t x) 2 _ q2.1 in
    let q4 = asked (timely t x) 3 _ q3.1 in
    let q5 = asked (vacant t x) 4 _ q4.1 in
    let q6 = asked (growable s t r x) 5 0 q5.1 in
    record { knows = q2.0; finds = q3.0; times = q4.0; vacates = q5.0; grows = q6.0 }

pub step_passes : (s : Setup) (t : Tables) (b : Bool) (r : Request) (x : Step) → refusal s t b r x ≡ 0 → refusal_of_step s t r x ≡ 0
unfolding refusal
step_passes s t b r x e = (asked (sound s t b) 0 _ e).1

pub accepted_all : (s : Setup) (t : Tables) (b : Bool) (r : Request) (x : Step) → refusal s t b r x ≡ 0 → Accepted s t b r x
unfolding refusal
accepted_all s t b r x e = record { sounds = (asked (sound s t b) 0 _ e).0; passes = passed s t r x (step_passes s t b r x e) }

pub accepted : (s : Setup) (w : World) (x : Step) → accepts s w x ≡ true → Accepted s w.tables (records_of s w) (request_of s w x) x
accepted s w x e = accepted_all s w.tables (records_of s w) (request_of s w x) x (eqb-true _ 0 e)

-- ---- what is decided
module _ (s : Setup) (w : World) (x : Step) where
  pub decision_accepted : accepts s w x ≡ true → decision s w x ≡ performed s w.tables (copy_of s w x) (request_of s w x) x
  unfolding decision decided
  decision_accepted e = rw e

  -- what an accepted step leaves
  abbrev pub performed_of : Decision
  performed_of = performed s w.tables (copy_of s w x) (request_of s w x) x

  pub tables_after : accepts s w x ≡ true → (stepped s w x).tables ≡ performed_of.outcome.tables
  unfolding stepped
  tables_after e = ap (λ (d : Decision). d.outcome.tables) (decision_accepted e)

  pub copies_after_law : accepts s w x ≡ true → (stepped s w x).copies ≡ copies_after s w.copies (target s w.tables x) performed_of
  unfolding stepped
  copies_after_law e = ap (copies_after s w.copies (target s w.tables x)) (decision_accepted e)

  pub requests_after_law : accepts s w x ≡ true → (stepped s w x).requests ≡ requests_after w.requests (target s w.tables x) performed_of
  unfolding stepped
  requests_after_law e = ap (requests_after w.requests (target s w.tables x)) (decision_accepted e)

  pub accepted_answer_law : accepts s w x ≡ true → answer_of s w x ≡ performed_of.outcome.answer
  accepted_answer_law e = ap (λ (d : Decision). d.outcome.answer) (decision_accepted e)

  pub decision_refused : accepts s w x ≡ false
      → decision s w x ≡ refused_with w.tables (refusal s w.tables (records_of s w) (request_of s w x) x)
  unfolding decision decided
  decision_refused e = rw e

  -- "the first "no" gives its number, nothing else, and every lent table and buffer is unchanged"
  pub refused_answer : accepts s w x ≡ false → answer_of s w x ≡ Refused (refusal s w.tables (records_of s w) (request_of s w x) x)
  refused_answer e = ap (λ (d : Decision). d.outcome.answer) (decision_refused e)

  pub refused_keeps : accepts s w x ≡ false → stepped s w x ≡ w
  unfolding stepped swept_all fold_from
  refused_keeps e = rw (decision_refused e, set-get_or w.copies, set-get_or w.requests)

-- ---- an accepted step, by its kind
pub by_kind {κ} : (P : Type κ) (x : Step) → known x ≡ true
    → (x.kind ≡ 1 → P) → (x.kind ≡ 2 → P) → (x.kind ≡ 3 → P) → (x.kind ≡ 4 → P) → (x.kind ≡ 5 → P)
    → (x.kind ≡ 6 → P) → (x.kind ≡ 7 → P) → (x.kind ≡ 8 → P) → (x.kind ≡ 9 → P) → P
unfolding known
by_kind P x e clock read ask write deliver lose double server client =
    let b = and-true (leb 1 x.kind) (leb x.kind 9) e in
    next? 1 (leb-true 1 x.kind b.0) clock (λ h2.
    next? 2 h2 read (λ h3.
    next? 3 h3 ask (λ h4.
    next? 4 h4 write (λ h5.
    next? 5 h5 deliver (λ h6.
    next? 6 h6 lose (λ h7.
    next? 7 h7 double (λ h8.
    next? 8 h8 server (λ h9.
    let high = leb-true x.kind 9 b.1 in
    client (omega arith)))))))))
  where
    next? : (k : ℕ) → k ≤ x.kind → (x.kind ≡ k → P) → (suc k ≤ x.kind → P) → P
    next? k h here above = ⊎_elim here (λ n. above (omega arith)) (same? x.kind k)

module _ (s : Setup) (t : Tables) (c : Copy) (r : Request) (x : Step) where
  pub clock_performed : x.kind ≡ 1 → performed s t c r x ≡ counting (settled s (clock_staged s t x.clock))
  unfolding performed
  clock_performed e = rw e

  pub read_performed : x.kind ≡ 2 → performed s t c r x ≡ read_decided s t c x.client x.object
  unfolding performed
  read_performed e = rw e

  pub ask_performed : x.kind ≡ 3 → performed s t c r x ≡ ask_decided s t c r x.client x.object
  unfolding performed
  ask_performed e = rw e

  pub write_performed : x.kind ≡ 4 → performed s t c r x ≡ counting (settled s (write_staged s t x.object x.value))
  unfolding performed
  write_performed e = rw e

  pub deliver_performed : x.kind ≡ 5 → performed s t c r x ≡ deliver_decided s t c r x.place
  unfolding performed
  deliver_performed e = rw e

  pub lose_performed : x.kind ≡ 6 → performed s t c r x ≡ answered kept (taken t x.place) Done
  unfolding performed
  lose_performed e = rw e

  pub double_performed : x.kind ≡ 7 → performed s t c r x ≡ answered kept (with_queue t (doubled t.queue x.place)) Done
  unfolding performed
  double_performed e = rw e

  pub server_performed : x.kind ≡ 8 → performed s t c r x ≡ answered kept (server_restarted s t) Done
  unfolding performed
  server_performed e = rw e

  pub client_performed : x.kind ≡ 9 → performed s t c r x ≡ restart_decided s t x.client
  unfolding performed
  client_performed e = rw e

-- ---- what the questions say
used : (a b : Bool) → (not a || b) ≡ true → a ≡ true → b ≡ true
used true b e h = e
used false b e h = not_both h refl

module _ {s : Setup} {t : Tables} {r : Request} {x : Step} (a : Passed s t r x) where
  found : ((not (uses_client x) || ltb x.client s.clients) ≡ true)
      × ((not (uses_object x) || ltb x.object s.objects) ≡ true)
      × ((not (uses_place x) || ltb x.place t.queue.len) ≡ true)
  unfolding exists
  found =
      let w = and-true _ _ a.finds in
      let v = and-true _ _ w.0 in
      (v.0, v.1, w.1)

  pub client_exists : uses_client x ≡ true → x.client < s.clients
  client_exists h = ltb-true _ _ (used (uses_client x) _ found.0 h)

  pub object_exists : uses_object x ≡ true → x.object < s.objects
  object_exists h = ltb-true _ _ (used (uses_object x) _ found.1 h)

  pub place_exists : uses_place x ≡ true → x.place < t.queue.len
  place_exists h = ltb-true _ _ (used (uses_place x) _ found.2 h)

  pub clock_grows : x.kind ≡ 1 → (t.clock ≤ x.clock) × (x.clock ≤ clock_limit)
  unfolding timely
  clock_grows e =
      let w = and-true _ _ (used (is_clock x) _ a.times (rw e)) in
      (leb-true _ _ w.0, leb-true _ _ w.1)

  pub none_stands : x.kind ≡ 4 → standing_at t x.object ≡ false
  unfolding vacant
  none_stands e = not-true _ (used (is_write x) _ a.vacates (rw e))

  grown : ((not (is_write x) || can_grow (version_at t x.object)) ≡ true)
      × ((not (is_restart_server x) || all_from (λ (v : ℕ). can_grow (epoch_at t v)) 0 s.volumes) ≡ true)
      × ((not (is_ask x) || can_grow r.next) ≡ true)
  unfolding growable
  grown =
      let w = and-true _ _ a.grows in
      let v = and-true _ _ w.0 in
      (v.0, v.1, w.1)

  pub version_grows : x.kind ≡ 4 → version_at t x.object < 4294967295
  version_grows e = ltb-true _ _ (used (is_write x) _ grown.0 (rw e))

  pub epochs_grow : x.kind ≡ 8 → (v : ℕ) → v < s.volumes → epoch_at t v < 4294967295
  epochs_grow e v h = ltb-true _ _ (all_each _ s.volumes (used (is_restart_server x) _ grown.1 (rw e)) v h)

  pub next_grows : x.kind ≡ 3 → r.next < 4294967295
  next_grows e = ltb-true _ _ (used (is_ask x) _ grown.2 (rw e))

-- question 1, in parts
module _ {s : Setup} {t : Tables} {b : Bool} {r : Request} {x : Step} (a : Accepted s t b r x) where
  sounding : (in_range s ≡ true) × (b ≡ true) × (tables_sound s t ≡ true)
  unfolding sound
  sounding =
      let w = and-true _ _ a.sounds in
      let v = and-true _ _ w.0 in
      (v.0, v.1, w.1)

  pub setup_in_range : in_range s ≡ true
  setup_in_range = sounding.0

  pub tables_sound_law : tables_sound s t ≡ true
  tables_sound_law = sounding.2

  pub queue_fits : t.queue.len ≤ 64
  queue_fits = sound_length s t tables_sound_law

  pub message_fits : (i : ℕ) → i < t.queue.len → kind_sound s (message_at t.queue i).kind ≡ true
  message_fits i h = (sound_message s t tables_sound_law i h).1
