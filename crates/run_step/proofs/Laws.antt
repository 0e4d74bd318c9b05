-- One lemma for each path through a step, on a sound world.
use Prim.Native.Nat.{ℕ, ◌*◌}
use mathlib.Core.Bool.{true, false, ◌&&◌}
use mathlib.Core.List.{List}
use mathlib.Core.Path.{◌≡◌, refl, sym, ap, ◌∙◌}
use lib.ListN.{get_or}
use lib.Seq.{set-get_or}
use lib.Dec.{eqb}
use Rattle.laws.specs.Choice.{cond_keeps, and-true}
use Rattle.laws.specs.Loop.{fold_from}
use Rattle.protocol.specs.declared.records.Copy.{Copy}
use Rattle.protocol.specs.declared.records.Request.{Request}
use Rattle.protocol.specs.declared.setup.Setup.{Setup}
use Rattle.protocol.specs.declared.step.Answer.{Answer}
use Rattle.protocol.specs.declared.step.Answer.TheVariants.{Refused}
use Rattle.protocol.specs.declared.step.Change.{Change}
use Rattle.protocol.specs.declared.step.Decision.{Decision}
use Rattle.protocol.specs.declared.step.Step.{Step}
use Rattle.protocol.specs.declared.step.Target.{Target}
use Rattle.protocol.specs.declared.tables.Tables.{Tables}
use Rattle.protocol.specs.Setup.{in_range}
use Rattle.protocol.specs.Tables.{no_copy, no_request}
use Rattle.protocol.specs.Sound.{tables_sound, sound}
use Rattle.protocol.specs.Client.{CanTurn, swept_all}
use Rattle.protocol.specs.Gate.{is_deliver, refusal_of_step, refusal}
use Rattle.protocol.specs.Decide.{answered, performed, refused_with, decided_by, decided}
use Rattle.protocol.specs.World.{World, target, decision, stepped, answer_of}
use Rattle.protocol.proofs.Soundness.Numbering.{performed_turns}
use Rattle.protocol.specs.Soundness.Question.{SoundWorld}
use Rattle.protocol.proofs.Soundness.Question.{sounds}
use Rattle.protocol.specs.Soundness.StepCases as cases
use Rattle.protocol.proofs.Soundness.StepCases as cases_laws
use Rattle.client_apply.specs.Changes.{changed_at}
use Rattle.state_words.specs.View.{tables_of, records_of, world_of}

first_place_law : (s : Setup) (t : Tables) (x : Step) → (target s t x).first ≡ (target s t x).client * s.objects
unfolding target
first_place_law s t x = cond_keeps (λ (a : Target). a.first ≡ a.client * s.objects) (is_deliver x) (λ _. refl) (λ _. refl)

module _ (s : Setup) (w v : List ℕ) (i : in_range s ≡ true) (o : SoundWorld s (world_of s w v)) where
  abbrev before : World
  before = world_of s w v

  tables_sound_law : tables_sound s (tables_of w v) ≡ true
  unfolding sound
  tables_sound_law = (and-true (in_range s && cases.records_of s before) (tables_sound s (tables_of w v)) (sounds s before o i)).1

  -- a, c and r are the target, copy and request that the step can touch; `no` is the first question answered "no", or 0
  module _ (x : Step) (a : Target) (c : Copy) (r : Request) (no : ℕ) (ea : a ≡ target s (tables_of w v) x) (ec : c ≡ get_or before.copies a.copy no_copy)
      (er : r ≡ get_or before.requests a.client no_request) (en : no ≡ refusal_of_step s (tables_of w v) r x) where
    decides : decided_by no s (tables_of w v) c r x ≡ decision s before x
    unfolding decision decided refusal
    decides = rw (en, ec, er, ea, sounds s before o i)

    pub refused : eqb no 0 ≡ false → (Refused no ≡ answer_of s before x) × (before ≡ stepped s before x)
    unfolding stepped swept_all fold_from
    refused h =
        let d : refused_with (tables_of w v) no ≡ decision s before x = rw h at decides in (
          ap (λ (d : Decision). d.outcome.answer) d,
          rw (
            ← d,
            set-get_or before.copies (target s (tables_of w v) x).copy no_copy,
            set-get_or before.requests (target s (tables_of w v) x).client no_request,
          ),
        )

    module _ (h : no ≡ 0) where
      accepted : refusal_of_step s (tables_of w v) r x ≡ 0
      accepted = sym en ∙ h

      pub can_perform : (in_range s ≡ true) × ((tables_sound s (tables_of w v) ≡ true) × (refusal_of_step s (tables_of w v) r x ≡ 0))
      can_perform = (i, (tables_sound_law, accepted))

      -- the step was performed and left the words u and the values y
      module _ (u y : List ℕ) (g : Change) (b : Answer) (p : (answered g (tables_of u y) b ≡ performed s (tables_of w v) c r x) × (records_of u y ≡ records_of w v)) where
        pub can_change : (in_range s ≡ true) × ((a.first ≡ a.client * s.objects) × CanTurn (get_or (world_of s u y).requests a.client no_request) g.request)
        can_change = (i, (rw ea (first_place_law s (tables_of w v) x), rw (p.1, ← er) turns))
          where
            turns : CanTurn r g.request
            turns = rw (ap (λ (d : Decision). d.change) p.0) (performed_turns r s (tables_of w v) c x (cases_laws.passed s (tables_of w v) r x accepted))

        pub performs : (z : World) → z ≡ changed_at s (world_of s u y) a g → (b ≡ answer_of s before x) × (z ≡ stepped s before x)
        unfolding stepped
        performs z e =
            let d : answered g (tables_of u y) b ≡ decision s before x = p.0 ∙ (rw h at decides) in
            (ap (λ (d : Decision). d.outcome.answer) d, e ∙ rw (p.1, ea, ← d))
