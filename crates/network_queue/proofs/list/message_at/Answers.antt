use Rattle.network_queue.proofs.Laws.{past_place, past_last, at_place}
use Rattle.network_queue.proofs.list.message_at.Goals as goal

pub returns-then-place-ge-PLACES : goal.returns-then-place-ge-PLACES
returns-then-place-ge-PLACES c = search past_place

pub returns-then-words-place : goal.returns-then-words-place
returns-then-words-place c = search past_last

pub returns : goal.returns
returns c = search at_place
