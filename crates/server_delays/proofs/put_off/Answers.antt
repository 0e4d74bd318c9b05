use Rattle.server_delays.proofs.Delaying.{only_noted, puts_off}
use borrow.Author.Rules.{rules}
use Rattle.server_delays.proofs.put_off.Goals as goal

pub returns : goal.returns
returns c = record {
  words_after = puts_off _ _ _ _ _ (search rules) (search rules) c.with_if-notes.ensures;
  only_sessions = only_noted _ _ _ 0 _ (search rules) (search rules);
}
