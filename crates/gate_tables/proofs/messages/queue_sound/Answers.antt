use borrow.Author.Rules.{rules}
use native.Mathlib.Nat.{sub-zero}
use Rattle.laws.specs.Loop.{all_end}
use Rattle.gate_tables.proofs.Scans.{queue_again, queue_long, queue_short}
use Rattle.gate_tables.proofs.messages.queue_sound.Goals as goal

pub returns-then-length : goal.returns-then-length
returns-then-length c = search queue_long

pub loop-i-init : goal.loop-i-init
loop-i-init c = (search rules, rw sub-zero)

pub loop-i-preserved : goal.loop-i-preserved
loop-i-preserved c =
    let l = c.loop-i in (
      search rules,
      queue_again _ _ _ _ _ l.ok
          _ _ _ c.loop-i-test.true c.message_at-message.ensures c.message_sound-ok.ensures l.invariant.1,
    )

pub returns : goal.returns
returns c = queue_short _ _ _ _ (search rules) (search all_end)
