use mathlib.Core.Path.{refl}
use Rattle.server_complete.proofs.Completing.{released_version, completes}
use Rattle.server_complete.proofs.completion.complete.Goals as goal

pub post-requires : goal.post-requires
post-requires c =
    let p = c.volume_of-volume.ensures in record {
      object_bound = p.object;
      object_bound_2 = rw (released_version _ c.args.words.now _ _ c.args.values.now _ _ _
          _ p refl refl (c.mark_waiting.ensures.words_after, c.mark_waiting.ensures.only_sessions) c.clear_leases.ensures) c.requires.object_bound;
    }

pub returns : goal.returns
returns c =
    let all = completes _ _ _ _ _ _ _ _ _ c.volume_of-volume.ensures refl refl (c.mark_waiting.ensures.words_after, c.mark_waiting.ensures.only_sessions) c.clear_leases.ensures _ _
    (c.post.ensures.values_after, c.post.ensures.values_unchanged) in
    record {
      values_after = all.0;
      values_unchanged = all.1;
    }
