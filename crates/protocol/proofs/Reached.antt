-- What holds of every state that a run reaches from fresh tables: it is sound and safe, and the ledger goes with it.
-- Letters: s setup, w world, x a step, xs and ys steps, b the ledger's books, d client, o object.
use Rattle.std.specs.Prelude.{ℕ, ◌<◌, true, ◌≡◌, refl}
use mathlib.Core.List.{List, [], ◌∷◌, ◌++◌}
use Rattle.std.proofs.Common.{◌∙◌}
use Rattle.protocol.specs.declared.setup.Setup.{Setup}
use Rattle.protocol.specs.declared.step.Step.{Step}
use Rattle.protocol.specs.Setup.{in_range}
use Rattle.protocol.specs.Client.{showable}
use Rattle.protocol.specs.World.{World, fresh_world, stepped, ran}
use Rattle.protocol.specs.Ledger.{Books, fresh_books, books_after}
use Rattle.protocol.proofs.Ranges.{ranges}
use Rattle.protocol.specs.Soundness.Question.{SoundWorld}
use Rattle.protocol.proofs.Soundness.Question.{stepped_sound, fresh_sound}
use Rattle.protocol.specs.Bookkeeping.Booked.{Booked}
use Rattle.protocol.proofs.Bookkeeping.Booked.{fresh_booked}
use Rattle.protocol.proofs.Bookkeeping.Agreed.{step_booked}
use Rattle.protocol.specs.Safety.View.{copy_at}
use Rattle.protocol.specs.Safety.Invariant.{Inv}
use Rattle.protocol.proofs.Safety.Fresh.{fresh_inv}
use Rattle.protocol.proofs.Safety.InvariantKept.{step_keeps, reads_current}
use Rattle.protocol.specs.Reached.{books_through, posted_after}

-- ---- the ledger of a run
-- its own world is the run's
pub books_world : (s : Setup) (xs : List Step) (b : Books) → (books_through s b xs).world ≡ ran s b.world xs
unfolding books_through books_after ran
books_world s [] b = refl
books_world s (x ∷ xs) b = books_world s xs (books_after s b x)

-- a run goes on where another one ended
pub ran_on : (s : Setup) (w : World) (xs ys : List Step) → ran s w (xs ++ ys) ≡ ran s (ran s w xs) ys
unfolding ran
ran_on s w [] ys = refl
ran_on s w (x ∷ xs) ys = ran_on s (stepped s w x) xs ys

-- ---- what every step keeps
record Lawful (s : Setup) (b : Books) : Type 0 where
  sound : SoundWorld s b.world
  safe : Inv s b.world
  booked : Booked s b.world.tables b.ledger

module _ (s : Setup) (i : in_range s ≡ true) where
  lawful : (xs : List Step) (b : Books) → Lawful s b → Lawful s (books_through s b xs)
  unfolding books_through books_after
  lawful [] b h = h
  lawful (x ∷ xs) b h = lawful xs (books_after s b x) (record {
    sound = stepped_sound s b.world x h.sound;
    safe = step_keeps s b.world x h.sound h.safe;
    booked = (step_booked s b.world x b.ledger h.sound h.booked).keeps;
  })

  run_lawful : (xs : List Step) → Lawful s (books_through s (fresh_books s) xs)
  run_lawful xs = lawful xs (fresh_books s) (record { sound = fresh_sound s i; safe = fresh_inv s (ranges s i); booked = fresh_booked s })

  -- ---- of the state after the steps xs
  pub run_sound : (xs : List Step) → SoundWorld s (ran s (fresh_world s) xs)
  run_sound xs = rw (books_world s xs (fresh_books s)) at (run_lawful xs).sound

  pub run_safe : (xs : List Step) → Inv s (ran s (fresh_world s) xs)
  run_safe xs = rw (books_world s xs (fresh_books s)) at (run_lawful xs).safe

  -- a copy that may be shown has the ledger's posted value
  pub shows_posted : (xs : List Step) (d o : ℕ) → d < s.clients → o < s.objects → showable s (ran s (fresh_world s) xs).tables (copy_at s (ran s (fresh_world s) xs).copies d o) d o ≡ true
      → (copy_at s (ran s (fresh_world s) xs).copies d o).value ≡ posted_after s xs o
  shows_posted xs d o hd ho e =
      reads_current s i _ (run_sound xs) (run_safe xs) d o hd ho e
      ∙ (rw (books_world s xs (fresh_books s)) at ((run_lawful xs).booked.values o ho))
