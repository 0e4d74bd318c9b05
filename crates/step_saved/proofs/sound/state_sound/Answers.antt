use Rattle.step_saved.proofs.Sounding.{fits_copies, fits_requests, ranged, state_sound, state_unsound}
use Rattle.step_saved.proofs.sound.state_sound.Goals as goal

pub copies_fit-copies-requires : goal.copies_fit-copies-requires
copies_fit-copies-requires c = search fits_copies

pub requests_fit-requests-requires : goal.requests_fit-requests-requires
requests_fit-requests-requires c = search fits_requests

pub tables_sound-tables-requires : goal.tables_sound-tables-requires
tables_sound-tables-requires c = search ranged

pub returns-then-in_range : goal.returns-then-in_range
returns-then-in_range c = search state_sound

pub returns : goal.returns
returns c = search state_unsound
