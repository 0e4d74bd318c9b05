-- What the calls of a step on lent records leave together is what the rules say of it.
-- Letters: s setup, w words, x values, l copies, k requests, y a step, d what was decided; held, asked and both whether copies, requests and all records are
-- sound, a whose records the step can touch, c and r the copy and the request there; v, u, m, n and j the words, the values, the copies before and after the
-- sweep, and the requests, all after it.
use Rattle.std.proofs.Common.{◌≡◌, ℕ, List, Bool, ◌&&◌, get_or, set, sym, ap, ◌∙◌}
use Rattle.protocol.specs.declared.records.Copy.{Copy}
use Rattle.protocol.specs.declared.records.Request.{Request}
use Rattle.protocol.specs.declared.setup.Setup.{Setup}
use Rattle.protocol.specs.declared.step.Decision.{Decision}
use Rattle.protocol.specs.declared.step.Step.{Step}
use Rattle.protocol.specs.declared.step.Target.{Target}
use Rattle.protocol.specs.Answers.{answer_number}
use Rattle.protocol.specs.Client.{CanTurn, changed, turned, swept_all}
use Rattle.protocol.specs.Decide.{decided}
use Rattle.protocol.specs.Sound.{copies_sound, requests_sound}
use Rattle.protocol.specs.Tables.{no_copy, no_request}
use Rattle.protocol.specs.World.{World, target, decision, stepped, world_after}
use Rattle.protocol.proofs.Soundness.Numbering.{decision_turns}
use Rattle.state_words.specs.View.{tables_of}
use Rattle.step_lent.specs.Lent.{world}
use Rattle.step_lent.specs.Refused.{refused_same}

module _ (s : Setup) (w x : List ℕ) (l : List Copy) (k : List Request) (y : Step) where
  pub decides : (held asked both : Bool) (a : Target) (c : Copy) (r : Request) (d : Decision) → held ≡ copies_sound s l → asked ≡ requests_sound s k
      → both ≡ (held && asked) → a ≡ target s (tables_of w x) y → c ≡ get_or l a.copy no_copy → r ≡ get_or k a.client no_request
      → d ≡ decided s (tables_of w x) both c r y → d ≡ decision s (world w x l k) y
  unfolding decision
  decides held asked both a c r d e f g h i j m = m ∙ rw (g, e, f, i, j, h)

  module _ (a : Target) (d : Decision) (h : a ≡ target s (tables_of w x) y) (e : d ≡ decision s (world w x l k) y) where
    pub turns : CanTurn (get_or k a.client no_request) d.change.request
    turns = rw (h, e) (decision_turns s (world w x l k) y)

    module _ (v u : List ℕ) (m n : List Copy) (j : List Request) (t : tables_of v u ≡ d.outcome.tables)
        (f : m ≡ set l a.copy (changed (get_or l a.copy no_copy) d.change.copy)) (g : n ≡ swept_all s d.change.sweep a.first m)
        (i : j ≡ set k a.client (turned (get_or k a.client no_request) d.change.request)) where
      pub moves : world v u n j ≡ stepped s (world w x l k) y
      unfolding stepped
      moves = rw (t, i, g, f, h) (ap (world_after s (world w x l k) (target s (tables_of w x) y)) e)

      pub keeps : answer_number d.outcome.answer ≡ 4 → (n ≡ l) × (j ≡ k)
      keeps r = (ap (λ (z : World). z.copies) same, ap (λ (z : World). z.requests) same)
        where
          same : world v u n j ≡ world w x l k
          same = moves ∙ refused_same s (world w x l k) y (sym (ap (λ (z : Decision). answer_number z.outcome.answer) e) ∙ r)
