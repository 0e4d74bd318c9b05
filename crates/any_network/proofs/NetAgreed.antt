-- Demand 3 over any network, of a net: against the ledger, and of the history.
-- Letters: s setup, n a net, y a move, ys moves, k writes reported before, l ledger, a an answer; i is that the setup is in range, ok what holds of the net.
use Rattle.std.specs.Prelude.{ℕ, ◌+◌, true, ◌≡◌}
use native.Mathlib.Omega.{arith}
use mathlib.Core.List.{List, [], ◌∷◌, ◌++◌, append_assoc, append-nil}
use Rattle.std.proofs.Math.Path.{refl, sym, ap}
use Rattle.std.proofs.Common.{◌∙◌}
use Rattle.protocol.specs.declared.setup.Setup.{Setup}
use Rattle.protocol.specs.declared.step.Answer.{Answer}
use Rattle.protocol.specs.Setup.{in_range}
use Rattle.protocol.specs.Writes.{waits, latest_end}
use Rattle.protocol.specs.Answers.{reported}
use Rattle.protocol.specs.World.{stepped}
use Rattle.protocol.specs.Ledger.{Event, Ledger, empty_ledger, book_all}
use Rattle.protocol.specs.Agreement.{Agrees}
use Rattle.protocol.specs.History.{told, answer_tells, uncompleted, reported_in, how_often, is_completion}
use Rattle.protocol.proofs.History.Answered.{step_told as answer-told}
use Rattle.protocol.proofs.History.Lawful.{shows_last, ends_in_time}
use Rattle.protocol.proofs.History.StepsLawful.{Remembered, step_remembered, step_told, fresh_remembered, adds_up, values_are_last, writes_are_open}
use Rattle.protocol.specs.Bookkeeping.Booked.{Booked}
use Rattle.protocol.proofs.Bookkeeping.Booked.{fresh_booked}
use Rattle.protocol.proofs.Bookkeeping.Agreed.{step_booked, step_agrees}
use Rattle.protocol.proofs.Safety.InvariantKept.{reads_current}
use Rattle.any_network.specs.Network.{Net, fresh_net, Move, own, arrival, found, step_of, moved, moved_all, answer_to, answers_to, events_of}
use Rattle.any_network.specs.Agreement.{books_after, AgreesFrom, AgreesThroughout, history_from, history, answers_tell, NetAgrees}
use Rattle.any_network.specs.Invariant.{NetOk}
use Rattle.any_network.proofs.Kept.{found_safe, found_sound, move_keeps, fresh_ok}

module _ (s : Setup) (i : in_range s ≡ true) where
  -- what holds of a net and of the ledger between two moves
  pub record Kept (n : Net) (k : ℕ) (l : Ledger) : Type 0 where
    pub ok : NetOk s n
    pub booked : Booked s n.world.tables l
    pub counted : k ≡ l.completed_count

  -- the ledger does not read the message list
  found_booked : (n : Net) (y : Move) (l : Ledger) → Booked s n.world.tables l → Booked s (found n y).tables l
  found_booked n (own x) l h = record { values = h.values; writes = h.writes; tallies = h.tallies }
  found_booked n (arrival j) l h = record { values = h.values; writes = h.writes; tallies = h.tallies }

  left_booked : (n : Net) (y : Move) (l : Ledger) → Booked s (stepped s (found n y) (step_of y)).tables l → Booked s (moved s n y).world.tables l
  unfolding moved
  left_booked n y l h = record { values = h.values; writes = h.writes; tallies = h.tallies }

  -- one move, and what holds after it
  pub move_agrees : (n : Net) (k : ℕ) (l : Ledger) → Kept n k l → (y : Move)
      → Agrees s (found n y) k (step_of y) (book_all s l (events_of s n y)) × Kept (moved s n y) (k + reported (answer_to s n y)) (book_all s l (events_of s n y))
  move_agrees n k l h y =
      let sound = found_sound s i n h.ok y in
      let g = found_booked n y l h.booked in
      let b = step_booked s (found n y) (step_of y) l sound g in (
        step_agrees s (found n y) (step_of y) k l sound g h.counted (reads_current s i (found n y) sound (found_safe s i n h.ok y)),
        record { ok = move_keeps s i n h.ok y; booked = left_booked n y _ b.keeps; counted = omega (arith, h.counted, b.reports) },
      )

  pub fresh_kept : Kept (fresh_net s) 0 empty_ledger
  fresh_kept = record { ok = fresh_ok s i; booked = fresh_booked s; counted = refl }

  agrees_from : (n : Net) (k : ℕ) (l : Ledger) (ys : List Move) → Kept n k l → AgreesFrom s n k (record { net = n; ledger = l }) ys
  unfolding AgreesFrom books_after
  agrees_from n k l [] h = tt
  agrees_from n k l (y ∷ ys) h = let a = move_agrees n k l h y in (a.0, agrees_from (moved s n y) _ _ ys a.1)

  pub net_agrees : (ys : List Move) → AgreesThroughout s ys
  net_agrees ys = agrees_from (fresh_net s) 0 empty_ledger ys fresh_kept

  -- ---- the history
  remembered_found : (n : Net) (y : Move) (past : List Event) → Remembered s n.world past → Remembered s (found n y) past
  remembered_found n y past r = record { lawful = r.lawful; booked = found_booked n y _ r.booked }

  move_remembered : (n : Net) (y : Move) (past : List Event) → NetOk s n → Remembered s n.world past → Remembered s (moved s n y).world (told (events_of s n y) past)
  move_remembered n y past ok r =
      let f = reads_current s i (found n y) (found_sound s i n ok y) (found_safe s i n ok y) in
      let k = step_remembered s (found n y) (step_of y) past (found_sound s i n ok y) f (remembered_found n y past r) in
      record { lawful = k.lawful; booked = left_booked n y _ k.booked }

  run_remembered : (n : Net) (past : List Event) (ys : List Move) → NetOk s n → Remembered s n.world past → Remembered s (moved_all s n ys).world (history_from s n past ys)
  unfolding moved_all history_from
  run_remembered n past [] ok r = r
  run_remembered n past (y ∷ ys) ok r = run_remembered (moved s n y) (told (events_of s n y) past) ys (move_keeps s i n ok y) (move_remembered n y past ok r)

  run_told : (n : Net) (past : List Event) (ys : List Move) → NetOk s n → Remembered s n.world past
      → how_often is_completion (history_from s n past ys) ≡ how_often is_completion past + reported_in (answers_to s n ys)
  unfolding history_from answers_to reported_in
  run_told n past [] ok r = omega arith
  run_told n past (y ∷ ys) ok r =
      run_told (moved s n y) (told (events_of s n y) past) ys (move_keeps s i n ok y) (move_remembered n y past ok r)
      ∙ omega (arith, step_told s (found n y) (step_of y) past (found_sound s i n ok y) (remembered_found n y past r))

  -- the latest end of a write does not depend on what arrives
  found_tells : (n : Net) (y : Move) (a : Answer) → answer_tells s (found n y).tables (step_of y) a ≡ answer_tells s n.world.tables (step_of y) a
  unfolding latest_end waits
  found_tells n (own x) a = refl
  found_tells n (arrival j) a = refl

  run_answered : (n : Net) (past : List Event) (ys : List Move) → uncompleted past ++ answers_tell s n ys (answers_to s n ys) ≡ uncompleted (history_from s n past ys)
  unfolding history_from answers_to answers_tell
  run_answered n past [] = append-nil (uncompleted past)
  run_answered n past (y ∷ ys) =
      let a = answer_to s n y in
      let rest = answers_tell s (moved s n y) ys (answers_to s (moved s n y) ys) in
      sym (append_assoc (uncompleted past) (answer_tells s n.world.tables (step_of y) a) rest)
      ∙ ap (λ (l : List Event). (uncompleted past ++ l) ++ rest) (sym (found_tells n y a))
      ∙ ap (λ (l : List Event). l ++ rest) (sym (answer-told s (found n y) (step_of y) past))
      ∙ run_answered (moved s n y) (told (events_of s n y) past) ys

  pub net_in_words : (ys : List Move) → NetAgrees s ys
  unfolding how_often uncompleted
  net_in_words ys =
      let n = moved_all s (fresh_net s) ys in
      let h = history s ys in
      let r = run_remembered (fresh_net s) [] ys (fresh_ok s i) (fresh_remembered s) in
      record {
        answered = run_answered (fresh_net s) [] ys;
        shows = shows_last s h r.lawful;
        ends = ends_in_time s h r.lawful;
        tallies = adds_up s n.world h r;
        reports = omega (arith, run_told (fresh_net s) [] ys (fresh_ok s i) (fresh_remembered s));
        values = values_are_last s n.world h r;
        writes = writes_are_open s n.world h r;
      }
