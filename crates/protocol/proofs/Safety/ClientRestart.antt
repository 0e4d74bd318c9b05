-- A client restarts: it knows and holds nothing, and asks nothing.
use Rattle.std.specs.Prelude.{ℕ, ◌*◌, ◌<◌, List, ◌≡◌, refl, length, get_or, set}
use Rattle.std.proofs.Common.{arith, sym, ◌∙◌}
use Rattle.laws.specs.Store.{store_each, always, store_hit, store_other}
use Rattle.protocol.specs.declared.records.Copy.{Copy}
use Rattle.protocol.specs.declared.setup.Setup.{Setup}
use Rattle.protocol.specs.declared.step.Sweep.TheVariants.{Erase}
use Rattle.protocol.specs.Tables.{by_volume, with_views, no_copy}
use Rattle.protocol.specs.Client.{ended, swept, swept_all, client_restarted}
use Rattle.protocol.specs.World.{World}
use Rattle.protocol.specs.Ranges.{Ranges}
use Rattle.protocol.specs.Soundness.Shape.{WorldShape}
use Rattle.protocol.specs.Safety.View.{copy_at, request_at, view_at}
use Rattle.protocol.specs.Safety.Invariant.{Inv, clocks_of}
use Rattle.protocol.proofs.Safety.Stores.{volume_fits_law, same_version_law}
use Rattle.protocol.specs.Safety.Covering.{Empty}
use Rattle.protocol.proofs.Safety.Covering.{covered_empty, remains_empty}
use Rattle.protocol.specs.Safety.Taking.{Others, Own}
use Rattle.protocol.proofs.Safety.Taking.{taken}
use Rattle.protocol.proofs.Safety.Sweeping.{swept_own, swept_other}

module _ (s : Setup) (range : Ranges s) (w : World) (inv : Inv s w) (shape : WorldShape s w) (d : ℕ) (hd : d < s.clients) where
  abbrev zeroed : List ℕ → List ℕ
  zeroed l = store_each always (by_volume d) (λ (v : ℕ). 0) l s.volumes

  abbrev copies : List Copy
  copies = swept_all s Erase (d * s.objects) w.copies

  zero_own : (l : List ℕ) → length l ≡ 128 → (u : ℕ) → u < s.volumes → get_or (zeroed l) (by_volume d u) 0 ≡ 0
  zero_own l n u h =
      let a = volume_fits_law range h in
      let b = range.clients.1 in
      store_hit always (by_volume d) (λ (v : ℕ). 0) (λ i j e. omega arith) l s.volumes u 0 h refl (omega arith)

  zero_other : (l : List ℕ) (k u : ℕ) → (k ≡ d → ⊥) → u < s.volumes → get_or (zeroed l) (by_volume k u) 0 ≡ get_or l (by_volume k u) 0
  zero_other l k u ne h =
      let a = volume_fits_law range h in
      store_other always (by_volume d) (λ (v : ℕ). 0) l s.volumes (by_volume k u) 0 (λ i j c e. let b = volume_fits_law range j in ne (omega arith))

  gone : (i : ℕ) → i < s.objects → copy_at s copies d i ≡ no_copy
  unfolding swept
  gone i h = swept_own s w.copies d shape.copies hd Erase i h

  no_version : (i : ℕ) → i < s.objects → (copy_at s copies d i).version ≡ 0
  no_version i h = same_version_law (gone i h)

  empty : (u : ℕ) → u < s.volumes → Empty s (clocks_of w.tables d) u (view_at s (zeroed w.tables.views.epoch) (zeroed w.tables.views.expiry) copies d u)
  empty u h = record { volume = zero_own w.tables.views.expiry shape.tables.views.expiry u h; objects = λ i a. a.copy (no_version i a.exists) }

  others : Others s w.tables d (zeroed w.tables.views.epoch) (zeroed w.tables.views.expiry) w.copies copies
  others = record {
    known = λ k u ne h. zero_other w.tables.views.epoch k u ne h;
    expiry = λ k u ne h. zero_other w.tables.views.expiry k u ne h;
    copies = λ k i ne h. swept_other s w.copies d shape.copies hd Erase k i ne h;
  }

  own : Own s w.tables d (zeroed w.tables.views.epoch) (zeroed w.tables.views.expiry) copies
  own = record {
    epochs = λ u h. rw (zero_own w.tables.views.epoch shape.tables.views.epoch u h) (omega arith);
    reached = λ i h. rw (no_version i h) (omega arith);
    values = λ i h e. let p = inv.versions.positive i h in let q = sym e ∙ no_version i h in absurd (omega arith);
    views = λ u h. covered_empty (empty u h);
    erased = λ i e ver z a. no_version i (inv.messages _ z).kind.invalidate.exists;
    remains = λ u n e h z a b. remains_empty (empty u h);
    unheld = λ u n e m h z a b. record { none = λ i p q. (empty u h).objects i q };
  }

  pub client_restart_law : Inv s (record {
    tables = with_views w.tables (client_restarted s w.tables.views d);
    copies = copies;
    requests = set w.requests d (ended (request_at w.requests d));
  })
  unfolding client_restarted
  client_restart_law = taken s range w inv shape d hd (zeroed w.tables.views.epoch) (zeroed w.tables.views.expiry) copies others own
