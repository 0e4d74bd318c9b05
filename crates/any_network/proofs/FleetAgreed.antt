-- Demand 3 of a fleet of halves: what holds of the net that it represents, in words about halves; and what a client's half may show.
-- Letters: those of FleetRuns; rs are answers, d client, c a client's half, o object, z a copy, x an expiry, T and now times.
use Rattle.std.specs.Prelude.{ℕ, ◌<◌, ◌≤◌, true, not, ◌&&◌, ◌≡◌, eqb}
use Rattle.std.proofs.Common.{arith, ◌∙◌, ltb-true, lt-ltb}
use mathlib.Core.List.{List, [], ◌∷◌}
use Rattle.std.proofs.Math.Path.{refl, sym, ap}
use Rattle.laws.specs.Choice.{and-true, both_true}
use Rattle.protocol.specs.declared.records.Copy.{Copy}
use Rattle.protocol.specs.declared.setup.Setup.{Setup}
use Rattle.protocol.specs.declared.step.Answer.{Answer}
use Rattle.protocol.specs.Setup.{in_range, volume_of}
use Rattle.protocol.proofs.Ranges.{ranges}
use Rattle.protocol.specs.Messages.{empty_queue}
use Rattle.protocol.specs.Tables.{value_at}
use Rattle.protocol.specs.Leases.{client_clock, client_alive}
use Rattle.protocol.specs.Client.{showable}
use Rattle.protocol.specs.Ledger.{Event}
use Rattle.protocol.specs.Agreement.{standing_write}
use Rattle.protocol.specs.History.{told, last_completed}
use Rattle.protocol.specs.Safety.View.{copy_at}
use Rattle.protocol.proofs.Safety.InvariantKept.{reads_current}
use Rattle.any_network.specs.Network.{Net, fresh_net, Move, listing, moved, moved_all, answers_to, events_of}
use Rattle.any_network.specs.Halves.{ServerHalf, ClientHalf, tables_for, expiry_in, copy_in, client_to, client_shows}
use Rattle.any_network.specs.Fleet.{Fleet, fresh_fleet, fleet_moved, fleet_moved_all, fleet_answers, fleet_history_from, fleet_history}
use Rattle.any_network.specs.Agreement.{history_from, history, answers_tell, fleet_tells, HalvesAgree, ShowsAhead}
use Rattle.any_network.specs.Invariant.{NetOk}
use Rattle.any_network.proofs.Kept.{move_keeps, fresh_ok, run_keeps}
use Rattle.any_network.proofs.NetAgreed.{net_in_words}
use Rattle.any_network.specs.Represents.{Represents}
use Rattle.any_network.proofs.FleetRuns.{fleet_moves, fresh_represents, represents}
use Rattle.any_network.proofs.FleetAnswers.{same_answer}
use Rattle.any_network.proofs.FleetEvents.{same_events, same_told}

-- what is alive later is alive now, and what would be shown later is shown now
alive_before : (now T x : ℕ) → now ≤ T → client_alive T x ≡ true → client_alive now x ≡ true
unfolding client_alive
alive_before now T x h e = let p = ltb-true T x e in lt-ltb now x (omega arith)

shown_before : (s : Setup) (c : ClientHalf) (o T : ℕ) → c.clock ≤ T → client_shows s (client_to c T) o ≡ true → client_shows s c o ≡ true
shown_before s c o T h e =
    let a = and-true (not (eqb (copy_in c o).version 0)) (client_alive T (expiry_in c (volume_of s o)) && client_alive T (copy_in c o).expiry) e in
    let b = and-true _ _ a.1 in
    both_true a.0 (both_true (alive_before c.clock T (expiry_in c (volume_of s o)) h b.0) (alive_before c.clock T (copy_in c o).expiry h b.1))

module _ (s : Setup) (i : in_range s ≡ true) where
  same_answers : (n : Net) (f : Fleet) (ys : List Move) → NetOk s n → Represents s n f → answers_to s n ys ≡ fleet_answers s f ys
  unfolding answers_to fleet_answers
  same_answers n f [] ok r = refl
  same_answers n f (y ∷ ys) ok r = rw (same_answer s i n f ok r y, same_answers (moved s n y) (fleet_moved s f y) ys (move_keeps s i n ok y) (fleet_moves s i n f ok r y))

  same_history : (n : Net) (f : Fleet) (past : List Event) (ys : List Move) → NetOk s n → Represents s n f → history_from s n past ys ≡ fleet_history_from s f past ys
  unfolding history_from fleet_history_from
  same_history n f past [] ok r = refl
  same_history n f past (y ∷ ys) ok r =
      same_history (moved s n y) (fleet_moved s f y) (told (events_of s n y) past) ys (move_keeps s i n ok y) (fleet_moves s i n f ok r y)
      ∙ ap (λ (es : List Event). fleet_history_from s (fleet_moved s f y) (told es past) ys) (same_events s i n f ok r y)

  same_tells : (n : Net) (f : Fleet) (ys : List Move) (rs : List Answer) → NetOk s n → Represents s n f → answers_tell s n ys rs ≡ fleet_tells s f ys rs
  unfolding answers_tell fleet_tells
  same_tells n f [] rs ok r = refl
  same_tells n f (y ∷ ys) [] ok r = refl
  same_tells n f (y ∷ ys) (a ∷ rs) ok r =
      rw (same_told s i n f ok r y a, same_tells (moved s n y) (fleet_moved s f y) ys rs (move_keeps s i n ok y) (fleet_moves s i n f ok r y))

  module _ (ys : List Move) where
    abbrev net : Net
    net = moved_all s (fresh_net s) ys

    abbrev fleet : Fleet
    fleet = fleet_moved_all s (fresh_fleet s) ys

    histories : history s ys ≡ fleet_history s ys
    histories = same_history (fresh_net s) (fresh_fleet s) [] ys (fresh_ok s i) (fresh_represents s)

    pub fleet_in_words : HalvesAgree s ys
    fleet_in_words =
        let h = net_in_words s i ys in
        let rs = same_answers (fresh_net s) (fresh_fleet s) ys (fresh_ok s i) (fresh_represents s) in
        let tells = same_tells (fresh_net s) (fresh_fleet s) ys (fleet_answers s (fresh_fleet s) ys) (fresh_ok s i) (fresh_represents s) in
        let server = (represents s i ys).server in
        record {
          answered = sym tells ∙ (rw (rs, histories) at h.answered);
          shows = rw histories at h.shows;
          ends = rw histories at h.ends;
          tallies = rw histories at h.tallies;
          reports = rw (rs, histories) at h.reports;
          values = λ o p. sym (ap (λ (k : ServerHalf). value_at (tables_for k) o) server) ∙ (rw histories at (h.values o p));
          writes = λ o p. sym (ap (λ (k : ServerHalf). standing_write (tables_for k) o) server) ∙ (rw histories at (h.writes o p));
        }

    -- ---- what a client's half may show
    module _ (d o : ℕ) (hd : d < s.clients) (ho : o < s.objects) where
      shown_net : client_shows s (fleet.clients d) o ≡ true → showable s (listing net.world empty_queue).tables (copy_at s net.world.copies d o) d o ≡ true
      unfolding showable
      shown_net e =
          let c = (represents s i ys).clients d hd in
          rw (c.copy o ho, c.clock, c.expiry (volume_of s o) ((ranges s i).within o ho)) e

      shown_last : client_shows s (fleet.clients d) o ≡ true → (copy_in (fleet.clients d) o).value ≡ last_completed o (fleet_history s ys)
      shown_last e =
          let ok = run_keeps s i (fresh_net s) ys (fresh_ok s i) in
          ap (λ (z : Copy). z.value) (sym (((represents s i ys).clients d hd).copy o ho))
          ∙ reads_current s i (listing net.world empty_queue) ok.sound ok.safe d o hd ho (shown_net e)
          ∙ (rw histories at ((net_in_words s i ys).values o ho))

      one_clock : (fleet.clients d).clock ≡ fleet.server.clock
      unfolding client_clock
      one_clock = sym ((represents s i ys).clients d hd).clock ∙ ap (λ (k : ServerHalf). k.clock) (represents s i ys).server

    pub shows_ahead : ShowsAhead s ys
    shows_ahead d o T hd ho h e =
        shown_last d o hd ho (shown_before s (fleet.clients d) o T (omega (arith, one_clock d o hd ho)) e)
