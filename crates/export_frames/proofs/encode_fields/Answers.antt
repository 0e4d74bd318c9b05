use Rattle.export_frames.proofs.Laws.{encode_right, encode_wrong}
use Rattle.export_frames.proofs.encode_fields.Goals as goal

pub returns-in_err-message : goal.returns-in_err-message
returns-in_err-message c = encode_wrong _ _ _ _ c.in_err-message.ensures c.from_residual.ensures.1

pub returns : goal.returns
returns c = encode_right _ _ _ _ _ c.in_ok-message.ensures c.encode.ensures
