use Rattle.export_parts.proofs.Laws.{other_length, not_spare, setup_right}
use Rattle.export_parts.proofs.setup_lent.Goals as goal

pub returns-then-bytes-ne-SETUP : goal.returns-then-bytes-ne-SETUP
returns-then-bytes-ne-SETUP c = search other_length

pub returns-then-bytes-ne0 : goal.returns-then-bytes-ne0
returns-then-bytes-ne0 c = search not_spare

pub returns : goal.returns
returns c = search setup_right
