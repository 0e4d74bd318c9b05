use Rattle.network_queue.proofs.doubling.double.Goals as goal

pub returns : goal.returns
returns c = record {
  values_after = rw (← c.live_message-message.ensures) c.push.ensures.values_after;
  values_unchanged = c.push.ensures.values_unchanged;
}
