-- The effect of each message that a client receives.
-- Letters: s setup, w and x the words and values before, d client, o object, v volume, c copy, r request.
use Prim.Native.Nat.{ℕ, ◌<◌}
use native.Mathlib.Omega.{arith}
use mathlib.Core.Bool.{Bool, true}
use mathlib.Core.List.{List}
use mathlib.Core.Path.{◌≡◌, sym, ◌∙◌}
use Rattle.laws.specs.Parts.{stored}
use Rattle.protocol.specs.declared.message.Kind.TheVariants.{Dropped}
use Rattle.protocol.specs.declared.records.Copy.{Copy}
use Rattle.protocol.specs.declared.records.Request.{Request}
use Rattle.protocol.specs.declared.setup.Setup.{Setup}
use Rattle.protocol.specs.declared.step.Change.{Change}
use Rattle.protocol.specs.declared.step.CopyChange.TheVariants as copy
use Rattle.protocol.specs.declared.step.Sweep.TheVariants as sweep
use Rattle.protocol.specs.declared.step.Turn.TheVariants as request
use Rattle.protocol.specs.Messages.{message}
use Rattle.protocol.specs.Tables.{by_volume, with_views}
use Rattle.protocol.specs.Server.{sent}
use Rattle.protocol.specs.Client.{viewed, stands, grant_stored}
use Rattle.protocol.specs.Decide.{by_client, grant_received, offer_received}
use Rattle.lease_tests.specs.Parts.{Placed}
use Rattle.state_words.specs.Fields.{word_lengths, VIEW_EPOCH, VIEW_EXPIRY}
use Rattle.state_words.specs.View.{tables_of, records_of}
use Rattle.client_receive.specs.declared.receive.Terms.{Terms}
use Rattle.client_receive.specs.Views.{view_stored, grant_heard}

-- ---- what a client knows of a volume

module _ (w x a : List ℕ) (d v e y : ℕ) (h : d < 16) (l : v < 8) (i : a ≡ view_stored w (by_volume d v) e y) where
  inside : by_volume d v < 128
  inside = omega arith

  tables_viewed : tables_of a x ≡ with_views (tables_of w x) (viewed (tables_of w x).views d v e y)
  unfolding tables_of
  tables_viewed = rw (i, stored word_lengths _ VIEW_EXPIRY (by_volume d v) y inside, stored word_lengths _ VIEW_EPOCH (by_volume d v) e inside)

  records_viewed : records_of a x ≡ records_of w x
  unfolding records_of
  records_viewed = rw (i, stored word_lengths _ VIEW_EXPIRY (by_volume d v) y inside, stored word_lengths _ VIEW_EPOCH (by_volume d v) e inside)

-- ---- GRANT

module _ (s : Setup) (w x : List ℕ) (c : Copy) (r : Request) (d o : ℕ) (g : Terms) (b : Bool) (k : b ≡ stands r g.number) where
  pub grant_yes : (a : List ℕ) (v : ℕ) (u : Change) → d < s.clients → Placed s o v → b ≡ true → a ≡ view_stored w (by_volume d v) g.epoch g.volume_expiry
      → u ≡ grant_stored c g.version g.object_expiry g.payload
      → (by_client u (tables_of a x) ≡ grant_heard s (tables_of w x) c r d o g) × (records_of a x ≡ records_of w x)
  unfolding grant_received
  grant_yes a v u h p m i j =
      let l : d < 16 = omega (arith, p.clients) in
      (rw (sym k ∙ m, tables_viewed w x a d v g.epoch g.volume_expiry l p.volume i, j, p.is), records_viewed w x a d v g.epoch g.volume_expiry l p.volume i)

-- ---- OFFER

module _ (w x : List ℕ) (r : Request) (d v n e : ℕ) (b : Bool) (k : b ≡ stands r n) where
  pub offer_yes : (a y z : List ℕ) (u : Change) → d < 16 → v < 8 → b ≡ true → a ≡ view_stored w (by_volume d v) e 0
      → (tables_of y z ≡ sent (tables_of a x) (message d (Dropped v n e))) × (records_of y z ≡ records_of a x)
      → u ≡ record { copy = copy.Keep; request = request.End; sweep = sweep.Expire v }
      → (by_client u (tables_of y z) ≡ offer_received (tables_of w x) r d v n e) × (records_of y z ≡ records_of w x)
  unfolding offer_received
  offer_yes a y z u h l m i j q = (rw (sym k ∙ m, q, j.0, tables_viewed w x a d v e 0 h l i), j.1 ∙ records_viewed w x a d v e 0 h l i)
