use Rattle.server_due.proofs.Tests.{ready_yes, ready_no}
use Rattle.server_due.proofs.ready.Goals as goal

pub returns-then-words-object-ne0 : goal.returns-then-words-object-ne0
returns-then-words-object-ne0 c = search ready_yes

pub returns : goal.returns
returns c = search ready_no
