use Rattle.server_replies.proofs.Replies.{pays_same, pays_value}
use Rattle.server_replies.proofs.payload.Goals as goal

pub returns-then-words-object : goal.returns-then-words-object
returns-then-words-object c = pays_same _ _ _ _ c.requires c.if-words-object.true

pub returns-else-words-object : goal.returns-else-words-object
returns-else-words-object c = pays_value _ _ _ _ c.requires c.if-words-object.false
