-- The effect of each step of a client.
-- Letters: s setup, w and x the words and values before, d client, o object, v volume, c copy, r request.
use Prim.Native.Nat.{ℕ, ◌+◌, ◌*◌, ◌<◌}
use native.Mathlib.Omega.{arith}
use mathlib.Core.Bool.{Bool, true, false, cond}
use mathlib.Core.List.{List}
use mathlib.Core.Path.{◌≡◌, sym, ap, ◌∙◌, fun_ext}
use lib.ListN.{get_or}
use Rattle.laws.specs.Parts.{part_at, stored_each, filling}
use Rattle.laws.specs.Store.{store_each, always}
use Rattle.protocol.specs.declared.message.Kind.TheVariants.{Renew}
use Rattle.protocol.specs.declared.records.Copy.{Copy}
use Rattle.protocol.specs.declared.records.Request.{Request}
use Rattle.protocol.specs.declared.setup.Setup.{Setup}
use Rattle.protocol.specs.declared.step.Answer.TheVariants.{Shown, AskFirst}
use Rattle.protocol.specs.Messages.{message}
use Rattle.protocol.proofs.Ranges.{ranges}
use Rattle.protocol.specs.Setup.{in_range}
use Rattle.protocol.specs.Tables.{by_volume, view_epoch_at, with_views}
use Rattle.protocol.specs.Leases.{client_clock}
use Rattle.protocol.specs.Server.{sent}
use Rattle.protocol.specs.Client.{showable, client_restarted}
use Rattle.protocol.specs.Decide.{read_decided, ask_decided, restart_decided}
use Rattle.lease_tests.specs.Parts.{Placed}
use Rattle.state_words.specs.Fields.{word_lengths, at, CLOCK, VIEW_EPOCH, VIEW_EXPIRY}
use Rattle.state_words.specs.View.{tables_of, numbers_of, records_of}
use Rattle.client_cache.specs.Shown.{shown_at}

-- ---- Step 2

module _ (s : Setup) (w : List ℕ) (d o v : ℕ) (c : Copy) (m : Bool) (h : d < s.clients) (p : Placed s o v) (i : m ≡ shown_at (get_or w 0 0) (get_or w (at VIEW_EXPIRY + by_volume d v) 0) c) where
  inside : by_volume d v < 128
  inside = omega (arith, p.clients, p.volume)

  showing : m ≡ showable s (numbers_of w) c d o
  unfolding showable shown_at client_clock tables_of
  showing = i ∙ rw (part_at word_lengths w CLOCK 0 (omega arith), part_at word_lengths w VIEW_EXPIRY (by_volume d v) inside, p.is)

  answers : (b : Bool) → showable s (numbers_of w) c d o ≡ b → (read_decided s (numbers_of w) c d o).outcome.answer ≡ cond b (Shown c.value) AskFirst
  unfolding read_decided
  answers true e = rw e
  answers false e = rw e

  pub read_shown : m ≡ true → Shown c.value ≡ (read_decided s (numbers_of w) c d o).outcome.answer
  read_shown e = sym (answers true (sym showing ∙ e))

  pub read_first : m ≡ false → AskFirst ≡ (read_decided s (numbers_of w) c d o).outcome.answer
  read_first e = sym (answers false (sym showing ∙ e))

-- ---- Step 3

module _ (s : Setup) (w x : List ℕ) (d o v : ℕ) (c : Copy) (r : Request) (h : d < s.clients) (p : Placed s o v) where
  known : get_or w (at VIEW_EPOCH + by_volume d v) 0 ≡ view_epoch_at (tables_of w x) d v
  unfolding tables_of
  known = part_at word_lengths w VIEW_EPOCH (by_volume d v) (omega (arith, p.clients, p.volume))

  pub asks : (a z : List ℕ)
      → (tables_of a z ≡ sent (tables_of w x) (message d (Renew o r.next (get_or w (at VIEW_EPOCH + by_volume d v) 0) c.version))) × (records_of a z ≡ records_of w x)
      → (tables_of a z ≡ (ask_decided s (tables_of w x) c r d o).outcome.tables) × (records_of a z ≡ records_of w x)
  unfolding ask_decided
  asks a z e = (e.0 ∙ rw (known, p.is), e.1)

-- ---- Step 9: the words become a, then b

module _ (s : Setup) (w x a b : List ℕ) (d : ℕ) (i : in_range s ≡ true) (h : d < s.clients) (e : a ≡ filling (at VIEW_EPOCH + d * 8) s.volumes 0 w)
    (f : b ≡ filling (at VIEW_EXPIRY + d * 8) s.volumes 0 a) where
  view_places : (v : ℕ) → v < s.volumes → by_volume d v < 128
  view_places v k = omega (arith, (ranges s i).clients.1, (ranges s i).volumes.1)

  spread : (field : ℕ) → ◌≡◌ {A = ℕ → ℕ} (λ v. field + d * 8 + v) (λ v. field + by_volume d v)
  spread field = fun_ext (λ v. omega arith)

  epochs : a ≡ store_each always (λ (v : ℕ). at VIEW_EPOCH + by_volume d v) (λ (v : ℕ). 0) w s.volumes
  epochs = e ∙ ap (λ (f : ℕ → ℕ). store_each always f (λ (v : ℕ). 0) w s.volumes) (spread (at VIEW_EPOCH))

  expiries : b ≡ store_each always (λ (v : ℕ). at VIEW_EXPIRY + by_volume d v) (λ (v : ℕ). 0) a s.volumes
  expiries = f ∙ ap (λ (f : ℕ → ℕ). store_each always f (λ (v : ℕ). 0) a s.volumes) (spread (at VIEW_EXPIRY))

  tables_forgot : tables_of b x ≡ with_views (tables_of w x) (client_restarted s (tables_of w x).views d)
  unfolding tables_of client_restarted
  tables_forgot =
      rw (
        expiries,
        stored_each word_lengths VIEW_EXPIRY always (by_volume d) (λ (v : ℕ). 0) s.volumes view_places a,
        epochs,
        stored_each word_lengths VIEW_EPOCH always (by_volume d) (λ (v : ℕ). 0) s.volumes view_places w,
      )

  records_forgot : records_of b x ≡ records_of w x
  unfolding records_of
  records_forgot =
      rw (
        expiries,
        stored_each word_lengths VIEW_EXPIRY always (by_volume d) (λ (v : ℕ). 0) s.volumes view_places a,
        epochs,
        stored_each word_lengths VIEW_EPOCH always (by_volume d) (λ (v : ℕ). 0) s.volumes view_places w,
      )

  pub restarts : (tables_of b x ≡ (restart_decided s (tables_of w x) d).outcome.tables) × (records_of b x ≡ records_of w x)
  unfolding restart_decided
  restarts = (tables_forgot, records_forgot)
