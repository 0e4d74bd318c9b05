use native.Mathlib.Nat.{sub-zero}
use Rattle.std.proofs.Common.{◌∙◌, refl, arith}
use Rattle.laws.specs.Loop.{fold_again, fold_end}
use Rattle.laws.specs.Overlay.{overlay}
use Rattle.client_transfer.proofs.record.to_words.Goals as goal

pub loop-k-init : goal.loop-k-init
unfolding overlay
loop-k-init g c = record {
  rest = g.R.Record.laws.none_yet _ _;
  stored = rw sub-zero;
  words = λ _. refl;
  values = λ _. refl;
}

pub loop-k-preserved : goal.loop-k-preserved
loop-k-preserved g c =
    let b = c.loop-k.invariant in
    record {
      rest = g.R.Record.laws.one_more _ _ _ _ _ _ b.rest c.keep.ensures.rest;
      stored = fold_again _ _ _ _ _ _ c.loop-k-test.true (c.keep.ensures.stored ∙ rw (c.look.ensures, c.missing.ensures)) b.stored;
      words = λ z. absurd (omega (arith, z));
      values = λ z. absurd (omega (arith, z));
    }

pub returns-clause-stored : goal.returns-clause-stored
returns-clause-stored g c = fold_end _ _ _ _ _ c.loop-k-test.false c.loop-k.invariant.stored
