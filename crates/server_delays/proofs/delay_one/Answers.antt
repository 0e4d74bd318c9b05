use Rattle.server_marks.specs.SessionWords.{only_start}
use Rattle.server_delays.proofs.Delaying.{delays_here}
use borrow.Author.Rules.{rules}
use Rattle.server_delays.proofs.delay_one.Goals as goal

pub returns-then-yes-clause-words_after : goal.returns-then-yes-clause-words_after
returns-then-yes-clause-words_after c =
    delays_here _ _ _ _ _ _ _ c.volume_of-volume.ensures (search rules) c.delays-yes.ensures (rw c.if-yes.true c.put_off.ensures.words_after)

pub returns-else-yes : goal.returns-else-yes
returns-else-yes c = record {
  words_after = delays_here _ _ _ _ _ _ _ c.volume_of-volume.ensures (search rules) c.delays-yes.ensures (rw c.if-yes.false);
  only_sessions = only_start _;
}
