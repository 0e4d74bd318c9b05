-- The server's rules read nothing of what the clients know: it is the same before and after, and all else is the same whatever it is.
-- Letters: s setup, t tables, u what the clients know, A what a rule leaves, put how what they know is put into it, f a rule as a function of it; d client, o
-- object, v volume, T clock, a a value; of a message n number, e epoch, w version, m set.
use Rattle.std.specs.Prelude.{ℕ, false, ◌≡◌, refl, [], ltb}
use Rattle.std.proofs.Common.{arith}
use Rattle.laws.specs.Loop.{fold_keeps}
use Rattle.laws.specs.Choice.{cond_keeps}
use Rattle.protocol.specs.declared.setup.Setup.{Setup}
use Rattle.protocol.specs.declared.tables.Tables.{Tables}
use Rattle.protocol.specs.declared.tables.Views.{Views}
use Rattle.protocol.specs.Setup.{volume_of}
use Rattle.protocol.specs.Tables.{with_views}
use Rattle.protocol.specs.Leases.{guard_passed}
use Rattle.protocol.specs.Writes.{Counted, Staged, waits, delays, delayed, latest_end, opened, awaited, notified, complete_if, settled, completed, posted, released, deserted, written, write_staged, clock_set, clock_staged, ready, due, waited, invalidation}
use Rattle.protocol.specs.Server.{sent, noted, offered, offering, has_notes, batched, batching, lowest_waited, volume_renewed, object_renewed, granted, must_drop, being_written, renewed_by, stale, renewed, ack_taken, acked, ack_staged, drop_taken, dropped, disowned, ready_in, drop_staged, clear_taken, notes_dropped, notes_cleared, server_restarted}
use Rattle.any_network.specs.Framing.{Unread}
use Rattle.any_network.proofs.Framing.{either, choice, settling}
use Rattle.any_network.specs.Blind.{Blind, reviewed}

plain : {A : Type 0} {put : A → Views → A} (a : A) → Blind put (λ u. put a u)
plain a = record { rest = a; out = []; few = omega arith; same = λ u. refl }

-- ---- completing writes
pub ready_unseen : (s : Setup) → Unread with_views s (ready s)
unfolding ready waited guard_passed completed posted released deserted
ready_unseen s = record { tested = λ t u o. refl; completes = λ t u o. refl }

pub due_unseen : (s : Setup) → Unread with_views s (due s)
unfolding due waited guard_passed completed posted released deserted
due_unseen s = record { tested = λ t u o. refl; completes = λ t u o. refl }

pub ready_in_unseen : (s : Setup) (v : ℕ) → Unread with_views s (ready_in s v)
unfolding ready waited guard_passed completed posted released deserted
ready_in_unseen s v = record { tested = λ t u o. refl; completes = λ t u o. refl }

none_unseen : (s : Setup) → Unread with_views s (λ t o. false)
unfolding completed posted released deserted
none_unseen s = record { tested = λ t u o. refl; completes = λ t u o. refl }

-- it does not move the clock
pub settled_clock : (s : Setup) (g : Staged) → (settled s g).tables.clock ≡ g.tables.clock
unfolding settled completed
settled_clock s g =
    fold_keeps (λ (c : Counted). c.tables.clock ≡ g.tables.clock) (complete_if g.test s) step (record { count = 0; tables = g.tables }) g.from g.many refl
  where
    step : (c : Counted) (o : ℕ) → c.tables.clock ≡ g.tables.clock → (complete_if g.test s c o).tables.clock ≡ g.tables.clock
    step c o e = cond_keeps (λ (k : Counted). k.tables.clock ≡ g.tables.clock) (g.test c.tables o) (λ q. e) (λ q. e)

module _ (s : Setup) (t : Tables) where
  pub renewed_blind : (d o n e w : ℕ) → Blind with_views (λ u. renewed s (with_views t u) d o n e w)
  unfolding renewed renewed_by noted offered batched lowest_waited volume_renewed object_renewed granted must_drop
  renewed_blind d o n e w =
      choice (stale t d n) _ _ (plain t)
      (choice (must_drop (noted t d n) d (volume_of s o) e) _ _ (plain (sent (offered (noted t d n) d (volume_of s o) n) (offering t d (volume_of s o) n)))
      (choice (has_notes t d (volume_of s o)) _ _ (plain (sent (batched (noted t d n) d (volume_of s o) n) (batching t d (volume_of s o) n)))
      (choice (ltb (lowest_waited s (noted t d n) d (volume_of s o)) s.objects) _ _ (plain (sent (noted t d n) (invalidation s (noted t d n) (lowest_waited s (noted t d n) d (volume_of s o)) d)))
      (choice (being_written t o) _ _ (plain (noted t d n)) (plain (granted s (noted t d n) d o n w))))))

  pub ack_blind : (d o e w : ℕ) → Blind reviewed (λ u. settled s (ack_staged s (with_views t u) d o e w))
  unfolding ack_staged ack_taken acked
  ack_blind d o e w =
      either (settled s) (ack_taken s t o e w) _ _
      (settling (ready_unseen s) o 1 _ (plain (acked t d o)))
      (settling (none_unseen s) 0 0 _ (plain t))

  pub drop_blind : (d v n e : ℕ) → Blind reviewed (λ u. settled s (drop_staged s (with_views t u) d v n e))
  unfolding drop_staged drop_taken dropped disowned
  drop_blind d v n e =
      either (settled s) (drop_taken t d v n e) _ _
      (settling (ready_in_unseen s v) 0 s.objects _ (plain (dropped s t d v)))
      (settling (none_unseen s) 0 0 _ (plain t))

  pub clear_blind : (d v n e m : ℕ) → Blind with_views (λ u. notes_cleared s (with_views t u) d v n e m)
  unfolding notes_cleared clear_taken notes_dropped
  clear_blind d v n e m = choice (clear_taken t d v n e) _ _ (plain (notes_dropped s t d v m)) (plain t)

  pub clock_blind : (T : ℕ) → Blind reviewed (λ u. settled s (clock_staged s (with_views t u) T))
  unfolding clock_set
  clock_blind T = settling (due_unseen s) 0 s.objects _ (plain (clock_set s t T))

  written_blind : (o a : ℕ) → Blind with_views (λ u. written s (with_views t u) o a)
  unfolding written notified opened awaited delayed delays waits latest_end
  written_blind o a = plain (written s t o a)

  pub write_blind : (o a : ℕ) → Blind reviewed (λ u. settled s (write_staged s (with_views t u) o a))
  write_blind o a = settling (ready_unseen s) o 1 _ (written_blind o a)

  pub restart_blind : Blind with_views (λ u. server_restarted s (with_views t u))
  unfolding server_restarted
  restart_blind = plain (server_restarted s t)
