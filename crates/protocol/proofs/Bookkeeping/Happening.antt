-- The events of an accepted step, by its kind.
-- Letters: s setup, t tables, c a copy, x a step, e what its kind is.
use Rattle.std.specs.Prelude.{[], ◌∷◌, ◌≡◌}
use Rattle.protocol.specs.declared.records.Copy.{Copy}
use Rattle.protocol.specs.declared.setup.Setup.{Setup}
use Rattle.protocol.specs.declared.step.Step.{Step}
use Rattle.protocol.specs.declared.tables.Tables.{Tables}
use Rattle.protocol.specs.Ledger.{server_restart, completions, delivery_staged, read_events, clock_events, write_events, happening}

module _ (s : Setup) (t : Tables) (c : Copy) (x : Step) where
  pub clock_happening : x.kind ≡ 1 → happening s t c x ≡ clock_events s t x.clock
  unfolding happening
  clock_happening e = rw e

  pub read_happening : x.kind ≡ 2 → happening s t c x ≡ read_events s t c x.client x.object
  unfolding happening
  read_happening e = rw e

  pub ask_happening : x.kind ≡ 3 → happening s t c x ≡ []
  unfolding happening
  ask_happening e = rw e

  pub write_happening : x.kind ≡ 4 → happening s t c x ≡ write_events s t x.object x.value
  unfolding happening
  write_happening e = rw e

  pub deliver_happening : x.kind ≡ 5 → happening s t c x ≡ completions s (delivery_staged s t x.place)
  unfolding happening
  deliver_happening e = rw e

  pub lose_happening : x.kind ≡ 6 → happening s t c x ≡ []
  unfolding happening
  lose_happening e = rw e

  pub double_happening : x.kind ≡ 7 → happening s t c x ≡ []
  unfolding happening
  double_happening e = rw e

  pub server_happening : x.kind ≡ 8 → happening s t c x ≡ server_restart ∷ []
  unfolding happening
  server_happening e = rw e

  pub client_happening : x.kind ≡ 9 → happening s t c x ≡ []
  unfolding happening
  client_happening e = rw e
