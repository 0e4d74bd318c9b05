-- A run that is followed up to a read: after k steps, the machine is the one that they leave, and the last events are those of its lines.
-- Letters: s setup, xs the steps of the run, x the next one, q the machine, r the next one, a the answer, d client, o object, ls the last events, n a number of a step.
use Rattle.std.specs.Prelude.{ℕ, ◌+◌, ◌-◌, ◌<◌, true, false, List, [], ◌∷◌, ◌++◌, ◌≡◌, refl, ltb, leb, length, get_or, take, Option, None, Some}
use Rattle.std.proofs.Common.{arith, add-one, sym, ap, ◌∙◌, length-take-le, take-suc}
use Rattle.std.proofs.Math.Bool.{cond}
use Rattle.std.proofs.Math.Logic.{⊎_elim}
use borrow.Author.Tests.{ltb-true, lt-ltb, le-leb}
use Rattle.laws.specs.Choice.{true_or_false, and-true, both_true, not_both}
use Rattle.protocol.specs.declared.records.Copy.{Copy}
use Rattle.protocol.specs.declared.records.Request.{Request}
use Rattle.protocol.specs.declared.setup.Setup.{Setup}
use Rattle.protocol.specs.declared.step.Answer.{Answer}
use Rattle.protocol.specs.declared.step.Step.{Step}
use Rattle.protocol.specs.Setup.{in_range}
use Rattle.protocol.specs.Gate.{is_read}
use Rattle.protocol.specs.Safety.View.{copy_at, request_at}
use Rattle.protocol.specs.Saved.{Machine, fresh_machine, answer_to, moved_by, Called}
use Rattle.protocol.specs.SavedLaws.{SoundMachine}
use Rattle.protocol.proofs.SavedLaws.{fresh_machine_sound, machine_sound_law}
use Rattle.protocol.specs.Line.{act_of, entries, step_lines}
use Rattle.promises.specs.declared.reasons.Event.{Event}
use Rattle.promises.specs.declared.reasons.Last.{Last}
use Rattle.promises.specs.declared.reasons.Lasts.{Lasts}
use Rattle.promises.specs.declared.reasons.Reason.{Reason}
use Rattle.promises.specs.Reasons.Events.{latest, last_of}
use Rattle.promises.specs.Reasons.ByAnswer.{event_by}
use Rattle.promises.specs.Reasons.Lasts.{no_events, NameKnown, followed, Follows}
use Rattle.promises.proofs.ReasonsLaws.Lasts.{moved_snoc, name_known, follows_on, follows_start}
use Rattle.promises.specs.Reasons.Reason.{no_step, chosen, met_by, line_before, asks_first, is_ask_first, reason_by, reason_of}
use Rattle.promises.proofs.ReasonsLaws.Explains.{reading}
use Rattle.reason.specs.Explained.{reads_in, if_asked}

-- ---- steps that are no read answered "ask first"
module _ (s : Setup) (i : in_range s ≡ true) (xs : List Step) (n : ℕ) where
  reads : asks_first s xs n ≡ true → reads_in s (chosen xs n) ≡ true
  unfolding asks_first
  reads a =
      let r = reading s i xs n a in
      both_true (and-true (is_read (chosen xs n)) _ (and-true (leb 1 n) _ a).1).0 (both_true (lt-ltb _ _ r.client) (lt-ltb _ _ r.object))

  pub none_unread : reads_in s (chosen xs n) ≡ false → None ≡ reason_of s xs n
  unfolding reason_of
  none_unread h = ⊎_elim (λ a. not_both (reads a) h) (λ a. rw a) (true_or_false (asks_first s xs n))

-- steps count from 1
pub none_first : (s : Setup) (xs : List Step) → None ≡ reason_of s xs 0
unfolding reason_of asks_first
none_first s xs = refl

-- ---- the run up to a read
module _ (s : Setup) (xs : List Step) (read : Step) where
  abbrev d : ℕ
  d = read.client

  abbrev o : ℕ
  o = read.object

  pub record Following (q : Machine) (ls : Lasts) (k : ℕ) : Type 0 where
    pub ran : q ≡ moved_by s (fresh_machine s) (take k xs)
    pub follows : Follows s d o (step_lines (entries s (take k xs))) ls

  pub follow_starts : (q : Machine) → q ≡ fresh_machine s → (ls : Lasts) → ls ≡ no_events → Following q ls 0
  unfolding moved_by
  follow_starts q e ls f = record { ran = e; follows = rw f (follows_start s d o) }

  module _ (i : in_range s ≡ true) (q : Machine) (ls : Lasts) (k : ℕ) (g : Following q ls k) where
    pub follow_sound : SoundMachine s q
    follow_sound = rw g.ran (machine_sound_law s i (take k xs) (fresh_machine s) (fresh_machine_sound s i))

    module _ (h : k < length xs) where
      one_less : k + 1 - 1 ≡ k
      one_less = omega arith

      module _ (b : reads_in s read ≡ true) where
        client_there : d < s.clients
        client_there = ltb-true _ _ (and-true (ltb d s.clients) _ (and-true (is_read read) _ b).1).0

        object_there : o < s.objects
        object_there = ltb-true _ _ (and-true (ltb d s.clients) (ltb o s.objects) (and-true (is_read read) _ b).1).1

        -- the read itself
        module _ (e : read ≡ get_or xs k no_step) where
          here : chosen xs (k + 1) ≡ read
          here = rw one_less (sym e)

          asked : asks_first s xs (k + 1) ≡ is_ask_first (answer_to s q read)
          unfolding asks_first
          asked = rw (one_less, ← e, ← g.ran, le-leb 1 (k + 1) (omega arith), (and-true (is_read read) _ b).0)

          met : met_by s xs (k + 1) ≡ q.now
          met = ap (λ (j : ℕ). (moved_by s (fresh_machine s) (take j xs)).now) one_less ∙ ap (λ (m : Machine). m.now) (sym g.ran)

          last : last_of s d o (line_before s xs (k + 1)) ≡ ls.now
          last = rw one_less (sym g.follows.now)

          abbrev reason_at : Step → Reason
          reason_at x = reason_by s (met_by s xs (k + 1)) x.client x.object (last_of s x.client x.object (line_before s xs (k + 1)))

          told : reason_at (chosen xs (k + 1)) ≡ reason_by s q.now d o ls.now
          told = ap reason_at here ∙ (λ j. reason_by s (met j) d o (last j))

          pub follow_ends : (a : Answer) → a ≡ answer_to s q read → (r : Reason) → r ≡ reason_by s q.now d o ls.now → if_asked a r ≡ reason_of s xs (k + 1)
          unfolding reason_of
          follow_ends a p r w = rw (p, w) (sym ((λ j. cond (asked j) (Some (told j)) None)))

        -- the next step
        module _ (x : Step) (e : x ≡ get_or xs k no_step) where
          grown : take (k + 1) xs ≡ take k xs ++ (x ∷ [])
          grown = rw (add-one k, e) (take-suc xs k no_step h)

          long : length (take k xs) ≡ k
          long = length-take-le k xs (omega arith)

          -- an accepted save or return has a name
          pub follow_named : (a : Answer) → a ≡ answer_to s q x → NameKnown x a
          follow_named a p = rw (p, g.ran) (name_known s i d o client_there object_there (take k xs) x)

          module _ (a : Answer) (r : Machine) (f : Called s q x a r) where
            pub follow_again : (t : Request) → t ≡ request_at q.now.requests d → (c c' : Copy) → c ≡ copy_at s q.now.copies d o → c' ≡ copy_at s r.now.copies d o
                → (v : Option Event) → v ≡ event_by d o t c c' x a → (m : Option Last) → m ≡ latest ls.now (k + 1) v → (ls' : Lasts) → ls' ≡ followed ls (act_of m x a)
                → Following r ls' (k + 1)
            follow_again t te c c' ce ce' v ve m me ls' lse = record {
              ran = rw (grown, moved_snoc s (fresh_machine s) (take k xs) x, ← g.ran) f.moves;
              follows = rw (grown, lse, me, ve, te, ce, ce', f.answers, f.moves, g.ran) (rw long at (follows_on s i d o client_there object_there (take k xs) x ls g.follows));
            }
