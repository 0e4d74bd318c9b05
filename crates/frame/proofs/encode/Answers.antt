use Rattle.frame.proofs.Laws.{encode_yes, encode_no}
use Rattle.frame.proofs.encode.Goals as goal

pub returns-then-out-lt-FRAME : goal.returns-then-out-lt-FRAME
returns-then-out-lt-FRAME c = encode_no _ _ c.if-out-lt-FRAME.true

pub returns : goal.returns
returns c = encode_yes _ _ _ _ c.if-out-lt-FRAME.false c.from.ensures c.write.ensures
