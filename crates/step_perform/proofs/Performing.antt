-- An accepted step x, by its kind: a function that turns the tables t into u and returns the verdict v does what the decision says.
use Prim.Native.Nat.{ℕ}
use mathlib.Core.Bool.{Bool, true, false, cond}
use mathlib.Core.List.{List}
use mathlib.Core.Path.{◌≡◌, refl}
use borrow.Author.Tests.{ne_eqb}
use Rattle.laws.specs.Choice.{not_both}
use Rattle.protocol.specs.declared.records.Copy.{Copy}
use Rattle.protocol.specs.declared.records.Request.{Request}
use Rattle.protocol.specs.declared.setup.Setup.{Setup}
use Rattle.protocol.specs.declared.step.Answer.{Answer}
use Rattle.protocol.specs.declared.step.Answer.TheVariants.{Shown, AskFirst}
use Rattle.protocol.specs.declared.step.Step.{Step}
use Rattle.protocol.specs.declared.tables.Tables.{Tables}
use Rattle.protocol.specs.Client.{showable}
use Rattle.protocol.specs.Gate.{is_ask, uses_client, growable, refusal_of_step}
use Rattle.protocol.specs.Decide.{kept, answered, read_decided, deliver_decided, performed}
use Rattle.protocol.proofs.Soundness.StepCases.{read_performed, deliver_performed}
use Rattle.step_verdict.specs.declared.Verdict.{Verdict}
use Rattle.state_words.specs.View.{tables_of, numbers_of}

-- ---- a read

pub answering : (v : Verdict) (a b : Answer) → v ≡ record { change = kept; answer = a } → a ≡ b → v ≡ record { change = kept; answer = b }
answering v a b f e = rw e at f

-- a read changes no table and reads no value from the tables
either : (b : Bool) (t u : Tables) (c : Copy)
    → answered kept t (cond b (answered kept u (Shown c.value)) (answered kept u AskFirst)).outcome.answer ≡ cond b (answered kept t (Shown c.value)) (answered kept t AskFirst)
either true t u c = refl
either false t u c = refl

reads : (s : Setup) (w y : List ℕ) (c : Copy) (d o : ℕ) → answered kept (tables_of w y) (read_decided s (numbers_of w) c d o).outcome.answer ≡ read_decided s (tables_of w y) c d o
unfolding read_decided showable tables_of
reads s w y c d o = either (showable s (tables_of w y) c d o) (tables_of w y) (numbers_of w) c

module _ (s : Setup) (c : Copy) (r : Request) (x : Step) where
  pub by_read : (v : Verdict) (w y : List ℕ) → x.kind ≡ 2 → v ≡ record { change = kept; answer = (read_decided s (numbers_of w) c x.client x.object).outcome.answer }
      → answered v.change (tables_of w y) v.answer ≡ performed s (tables_of w y) c r x
  by_read v w y k f = rw (f, read_performed s (tables_of w y) c r x k) (reads s w y c x.client x.object)

  module _ (t u : Tables) where
    -- ---- a delivery, which concerns server and client

    pub by_deliver : (v : Verdict) → x.kind ≡ 5 → answered v.change u v.answer ≡ deliver_decided s t c r x.place
        → answered v.change u v.answer ≡ performed s t c r x
    by_deliver v k e = rw (deliver_performed s t c r x k) e

module _ (x : Step) (p : uses_client x ≡ false) where
  not_asked : is_ask x ≡ false
  not_asked = ne_eqb x.kind 3 (λ (k : x.kind ≡ 3). not_both (rw k) p)

  -- an accepted step that is not a client's is accepted with any request
  pub whoever_asks : (s : Setup) (t : Tables) (r : Request) → refusal_of_step s t r x ≡ 0 → (q : Request) → refusal_of_step s t q x ≡ 0
  unfolding refusal_of_step growable
  whoever_asks s t r e q = rw not_asked (rw not_asked at e)
