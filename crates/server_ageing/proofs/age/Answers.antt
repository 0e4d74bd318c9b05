use native.Mathlib.Omega.{arith}
use native.Mathlib.Nat.{sub-zero}
use mathlib.Core.Path.{sym, ◌∙◌}
use Rattle.laws.specs.Loop.{fold_again, fold_end}
use Rattle.protocol.proofs.Ranges.{ranges}
use Rattle.protocol.specs.Writes.{aged}
use Rattle.server_marks.specs.SessionWords.{only_start, only_again}
use Rattle.server_ageing.specs.NoNotes.{none_age}
use borrow.Author.Rules.{rules}
use Rattle.server_ageing.proofs.age.Goals as goal

pub no_notes-requires : goal.no_notes-requires
no_notes-requires c =
    omega (arith, (ranges _ c.requires).clients.1)

pub returns-then-no_notes : goal.returns-then-no_notes
returns-then-no_notes c = record { words_after = none_age _ _ _ (ranges _ c.requires).volumes.1 (sym c.no_notes.ensures ∙ c.if-no_notes.true); only_sessions = only_start _ }

pub loop-client-init : goal.loop-client-init
loop-client-init c = (only_start _, rw sub-zero)

pub age_client-requires : goal.age_client-requires
age_client-requires c = record { setup_value = search rules; client_bound = omega (arith, (ranges _ c.requires).clients.1) }

pub loop-client-preserved : goal.loop-client-preserved
loop-client-preserved c = (
  only_again _ _ _ c.loop-client.invariant.0 c.age_client.ensures.only_sessions,
  fold_again _ _ _ _ _ _ (search rules) c.age_client.ensures.words_after c.loop-client.invariant.1,
)

pub returns : goal.returns
unfolding aged
returns c = record { words_after = fold_end _ _ _ _ _ (search rules) c.loop-client.invariant.1; only_sessions = c.loop-client.invariant.0 }
