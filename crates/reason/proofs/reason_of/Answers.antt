use native.Mathlib.Omega.{arith}
use Rattle.reason.proofs.Laws.{none_before, none_past, place_fits, read_chosen, chosen_reason, unread_reason}
use Rattle.reason.proofs.reason_of.Goals as goal
use Rattle.reason.proofs.reason_of.Goals.{then-number-eq0-via-then-number-eq0, then-number-eq0-via-else-number-eq0+then-c-number}

pub returns-then-number-eq0 : goal.returns-then-number-eq0
returns-then-number-eq0 c =
    elim c.then-number-eq0.branch [
      | then-number-eq0-via-then-number-eq0 w ↦ none_before _ _ c.requires _ w.if-number-eq0.true
      | then-number-eq0-via-else-number-eq0+then-c-number w ↦ none_past _ _ c.requires _ w.if-c-number.true
    ]

pub overflow_add-c : goal.overflow_add-c
overflow_add-c c = omega (arith, place_fits _ _ c.requires _ c.if-number-eq0.false c.if-c-number.false)

pub run_until-requires : goal.run_until-requires
run_until-requires c = search read_chosen

pub returns-then-reads_in : goal.returns-then-reads_in
returns-then-reads_in c = search chosen_reason

pub returns : goal.returns
returns c = search unread_reason
