use mathlib.Core.Path.{◌∙◌}
use Rattle.protocol.proofs.SoundLaws.{sound_clock, growing, sound_length, sound_message}
use Rattle.state_words.proofs.LiveRows.{live}
use Rattle.step_deliver.proofs.Delivering.{delivers}
use Rattle.step_deliver.proofs.deliver.Goals as goal

pub live_message-m-requires : goal.live_message-m-requires
live_message-m-requires c = live _ _ _ _ c.requires.place_bound c.requires.setup_value c.requires.values_value

pub remove-requires : goal.remove-requires
remove-requires c = record { place_bound = c.requires.place_bound; values_bound = sound_length _ _ c.requires.values_value }

pub by_server-count-requires : goal.by_server-count-requires
by_server-count-requires c =
    let n = sound_message _ _ c.requires.values_value _ c.requires.place_bound in
    let t = c.remove.ensures.values_after in
    record {
      setup_value = c.requires.setup_value;
      values_bound = rw t (sound_clock _ _ c.requires.values_value);
      growing = rw t (growing _ _ c.requires.values_value);
      client_lt_clients = rw c.live_message-m.ensures n.0;
      k_value = rw c.live_message-m.ensures n.1;
    }

pub by_client-change-requires : goal.by_client-change-requires
by_client-change-requires c =
    let n = sound_message _ _ c.requires.values_value _ c.requires.place_bound in
    record {
      setup_value = c.requires.setup_value;
      client_lt_clients = rw c.live_message-m.ensures n.0;
      k_value = rw c.live_message-m.ensures n.1;
    }

pub returns : goal.returns
returns c = record {
  answer_after = delivers _ _ _ _ _ _ _ _ _ _ c.live_message-m.ensures
      c.remove.ensures.values_after c.by_server-count.ensures.values_after c.by_client-change.ensures.values_after;
  values_unchanged = c.by_client-change.ensures.values_unchanged ∙ c.by_server-count.ensures.values_unchanged ∙ c.remove.ensures.values_unchanged;
}
