use native.Mathlib.Omega.{arith}
use Rattle.server_complete.proofs.Settling.{clock_grows, clock_settles}
use Rattle.server_complete.proofs.settle.pass_time.Goals as goal

pub settle-requires : goal.settle-requires
settle-requires c = record {
  setup_value = c.requires.setup_value;
  growing = clock_grows _ _ _ _ _ (c.age.ensures.words_after, c.age.ensures.only_sessions) (omega arith) c.requires.growing;
}

pub returns : goal.returns
returns c =
    let all = clock_settles _ _ _ _ _ (c.age.ensures.words_after, c.age.ensures.only_sessions) _ _ _ (omega arith) (c.settle.ensures.values_after, c.settle.ensures.values_unchanged) in
    record {
      values_after = all.0;
      values_unchanged = all.1;
    }
