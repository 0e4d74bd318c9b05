use Rattle.frame.proofs.Laws.{decode_yes, decode_no}
use Rattle.frame.proofs.decode.Goals as goal

pub returns-then-bytes-ne-FRAME : goal.returns-then-bytes-ne-FRAME
returns-then-bytes-ne-FRAME c = search decode_no

pub returns : goal.returns
returns c = search decode_yes
