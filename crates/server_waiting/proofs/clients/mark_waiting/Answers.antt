use native.Mathlib.Nat.{sub-zero}
use Rattle.laws.specs.Loop.{fold_again, fold_end}
use Rattle.server_marks.specs.SessionWords.{only_start, only_again}
use Rattle.server_waiting.proofs.Passes.{marks_none}
use borrow.Author.Rules.{rules}
use Rattle.server_waiting.proofs.clients.mark_waiting.Goals as goal
use Rattle.server_waiting.proofs.clients.mark_waiting.Goals.{then-has, else-has}

pub returns-then-waiting-eq0 : goal.returns-then-waiting-eq0
returns-then-waiting-eq0 c = record { words_after = search marks_none; only_sessions = only_start _ }

pub loop-client-init : goal.loop-client-init
loop-client-init c = (only_start _, rw sub-zero)

pub loop-client-preserved : goal.loop-client-preserved
loop-client-preserved c =
    let i = c.loop-client.invariant in
    elim c.if-has.branch [
      | then-has w ↦ rw w.words-is (
        only_again _ _ _ i.0 w.mark.ensures.only_sessions,
        fold_again _ _ _ _ _ _ (search rules) (rw (← c.has.ensures, w.if-has.true) w.mark.ensures.words_after) i.1,
      )
      | else-has w ↦ rw w.words-is (i.0, fold_again _ _ _ _ _ _ (search rules) (rw (← c.has.ensures, w.if-has.false)) i.1)
    ]

pub returns : goal.returns
returns c = record { words_after = search fold_end; only_sessions = c.loop-client.invariant.0 }
