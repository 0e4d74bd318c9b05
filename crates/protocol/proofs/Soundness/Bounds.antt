-- The bounds of question 1 as an invariant, in every slot of the tables, also those past the counts, and that each update of the tables keeps it. Each
-- clause speaks of the part that it reads.
-- x is a part of the tables, or a new clock; l is a new field, h and k say that bounds hold.
use Rattle.std.specs.Prelude.{ℕ, ◌<◌, ◌≤◌, ◌*◌, Bool, true, false, List, ◌≡◌, refl, get_or, set}
use Rattle.std.proofs.Common.{arith, ⊎_elim, ltb-true, lt-ltb}
use Rattle.laws.specs.Choice.{cond_keeps, both_true, not_both}
use Rattle.laws.specs.Lists.{All, remove_at, all_snoc, all_remove}
use Rattle.laws.specs.Store.{set_or}
use Rattle.laws.specs.Sets.{within_none}
use Rattle.laws.specs.Each.{each_set, each_get_d, each_replicate, replicate_at}
use Rattle.protocol.specs.declared.message.Message.{Message}
use Rattle.protocol.specs.declared.message.Queue.{Queue}
use Rattle.protocol.specs.declared.setup.Setup.{Setup}
use Rattle.protocol.specs.declared.tables.Volumes.{Volumes}
use Rattle.protocol.specs.declared.tables.Sessions.{Sessions}
use Rattle.protocol.specs.declared.tables.Objects.{Objects}
use Rattle.protocol.specs.declared.tables.Holders.{Holders}
use Rattle.protocol.specs.declared.tables.Views.{Views}
use Rattle.protocol.specs.declared.tables.Tables.{Tables}
use Rattle.protocol.specs.Setup.{in_range, objects_in}
use Rattle.protocol.specs.Ranges.{Ranges}
use Rattle.protocol.proofs.Ranges.{ranges}
use Rattle.protocol.specs.Messages.{blank, message_at, pushed, removed, has_room}
use Rattle.protocol.specs.Tables.{by_volume, with_clock, with_volumes, with_sessions, with_objects, with_holders, with_views, with_queue, no_copy, fresh_sessions, fresh_objects, fresh_holders, fresh_tables}
use Rattle.protocol.specs.Updates.{with_epoch, with_volume_expiry, with_guard, with_seen, with_session_expiry, with_unreachable, with_offer, with_notes, with_batch, with_value, with_version, with_object_expiry, with_standing, with_pending, with_end, set_write, with_lease, with_waiting, with_view_epoch, with_view_expiry}
use Rattle.protocol.specs.Server.{sent}
use Rattle.protocol.specs.Sound.{clock_limit, set_sound}
use Rattle.protocol.specs.Decide.{taken}
use Rattle.protocol.specs.World.{fresh_world}
use Rattle.protocol.specs.Soundness.Bounds.{Timed, Started, Named, VolumesBounded, SetsFit, SessionsBounded, ObjectsBounded, HoldersBounded, ViewsBounded}
use Rattle.protocol.specs.Soundness.Bounds.{QueueBounded, Bounded, CopyBounded, RequestBounded, WorldBounded}

-- ---- one field of a part replaced
pub epoch_bounded : {x : Volumes} (l : List ℕ) → All Started l → VolumesBounded x → VolumesBounded (with_epoch x l)
epoch_bounded l e h = record { epoch = e; expiry = h.expiry; guard = h.guard }

pub volume_expiry_bounded : {x : Volumes} (l : List ℕ) → All Timed l → VolumesBounded x → VolumesBounded (with_volume_expiry x l)
volume_expiry_bounded l e h = record { epoch = h.epoch; expiry = e; guard = h.guard }

pub guard_bounded : {x : Volumes} (l : List ℕ) → All Timed l → VolumesBounded x → VolumesBounded (with_guard x l)
guard_bounded l e h = record { epoch = h.epoch; expiry = h.expiry; guard = e }

pub seen_bounded : {s : Setup} {x : Sessions} (l : List ℕ) → SessionsBounded s x → SessionsBounded s (with_seen x l)
seen_bounded l h = record { expiry = h.expiry; notes = h.notes }

pub session_expiry_bounded : {s : Setup} {x : Sessions} (l : List ℕ) → All Timed l → SessionsBounded s x → SessionsBounded s (with_session_expiry x l)
session_expiry_bounded l e h = record { expiry = e; notes = h.notes }

pub unreachable_bounded : {s : Setup} {x : Sessions} (l : List Bool) → SessionsBounded s x → SessionsBounded s (with_unreachable x l)
unreachable_bounded l h = record { expiry = h.expiry; notes = h.notes }

pub offer_bounded : {s : Setup} {x : Sessions} (l : List ℕ) → SessionsBounded s x → SessionsBounded s (with_offer x l)
offer_bounded l h = record { expiry = h.expiry; notes = h.notes }

pub notes_bounded : {s : Setup} {x : Sessions} (l : List ℕ) → SetsFit s l → SessionsBounded s x → SessionsBounded s (with_notes x l)
notes_bounded l e h = record { expiry = h.expiry; notes = e }

pub batch_bounded : {s : Setup} {x : Sessions} (l : List ℕ) → SessionsBounded s x → SessionsBounded s (with_batch x l)
batch_bounded l h = record { expiry = h.expiry; notes = h.notes }

-- a set stored: where it comes to stand, it fits
pub set_fits : (s : Setup) (l : List ℕ) (i a : ℕ) → SetsFit s l → ((d v : ℕ) → v < 8 → by_volume d v ≡ i → set_sound s v a ≡ true) → SetsFit s (set l i a)
set_fits s l i a h k d v p = ⊎_elim (λ q. rw q.1 (k d v p q.0)) (λ q. rw q (h d v p)) (set_or l i a (by_volume d v) 0)

pub value_bounded : {x : Objects} (l : List ℕ) → ObjectsBounded x → ObjectsBounded (with_value x l)
value_bounded l h = record { version = h.version; expiry = h.expiry; end = h.end; standing = h.standing }

pub version_bounded : {x : Objects} (l : List ℕ) → All Started l → ((o : ℕ) → get_or x.standing o false ≡ true → get_or l o 0 < 4294967295)
    → ObjectsBounded x → ObjectsBounded (with_version x l)
version_bounded l e g h = record { version = e; expiry = h.expiry; end = h.end; standing = g }

pub object_expiry_bounded : {x : Objects} (l : List ℕ) → All Timed l → ObjectsBounded x → ObjectsBounded (with_object_expiry x l)
object_expiry_bounded l e h = record { version = h.version; expiry = e; end = h.end; standing = h.standing }

pub standing_bounded : {x : Objects} (l : List Bool) → ((o : ℕ) → get_or l o false ≡ true → get_or x.version o 0 < 4294967295)
    → ObjectsBounded x → ObjectsBounded (with_standing x l)
standing_bounded l g h = record { version = h.version; expiry = h.expiry; end = h.end; standing = g }

pub pending_bounded : {x : Objects} (l : List ℕ) → ObjectsBounded x → ObjectsBounded (with_pending x l)
pending_bounded l h = record { version = h.version; expiry = h.expiry; end = h.end; standing = h.standing }

pub end_bounded : {x : Objects} (l : List ℕ) → All Timed l → ObjectsBounded x → ObjectsBounded (with_end x l)
end_bounded l e h = record { version = h.version; expiry = h.expiry; end = e; standing = h.standing }

pub write_bounded : {x : Objects} (o : ℕ) (stands : Bool) (a end : ℕ) → ((k : ℕ) → get_or (set x.standing o stands) k false ≡ true → get_or x.version k 0 < 4294967295)
    → Timed end → ObjectsBounded x → ObjectsBounded (set_write x o stands a end)
write_bounded {x} o stands a end g p h = end_bounded _ (each_set Timed x.end o end h.end p) (pending_bounded _ (standing_bounded _ g h))

pub lease_bounded : {x : Holders} (l : List ℕ) → All Timed l → HoldersBounded x → HoldersBounded (with_lease x l)
lease_bounded l e h = record { lease = e }

pub waiting_bounded : {x : Holders} (l : List ℕ) → HoldersBounded x → HoldersBounded (with_waiting x l)
waiting_bounded l h = record { lease = h.lease }

pub view_epoch_bounded : {x : Views} (l : List ℕ) → ViewsBounded x → ViewsBounded (with_view_epoch x l)
view_epoch_bounded l h = record { expiry = h.expiry }

pub view_expiry_bounded : {x : Views} (l : List ℕ) → All Timed l → ViewsBounded x → ViewsBounded (with_view_expiry x l)
view_expiry_bounded l e h = record { expiry = e }

-- ---- one part of the tables replaced
pub clock_bounded : {s : Setup} {t : Tables} (x : ℕ) → x ≤ clock_limit → Bounded s t → Bounded s (with_clock t x)
clock_bounded x k h = record { clock = k; volumes = h.volumes; sessions = h.sessions; objects = h.objects; holders = h.holders; views = h.views; queue = h.queue }

pub volumes_bounded : {s : Setup} {t : Tables} {x : Volumes} → VolumesBounded x → Bounded s t → Bounded s (with_volumes t x)
volumes_bounded k h = record { clock = h.clock; volumes = k; sessions = h.sessions; objects = h.objects; holders = h.holders; views = h.views; queue = h.queue }

pub sessions_bounded : {s : Setup} {t : Tables} {x : Sessions} → SessionsBounded s x → Bounded s t → Bounded s (with_sessions t x)
sessions_bounded k h = record { clock = h.clock; volumes = h.volumes; sessions = k; objects = h.objects; holders = h.holders; views = h.views; queue = h.queue }

pub objects_bounded : {s : Setup} {t : Tables} {x : Objects} → ObjectsBounded x → Bounded s t → Bounded s (with_objects t x)
objects_bounded k h = record { clock = h.clock; volumes = h.volumes; sessions = h.sessions; objects = k; holders = h.holders; views = h.views; queue = h.queue }

pub holders_bounded : {s : Setup} {t : Tables} {x : Holders} → HoldersBounded x → Bounded s t → Bounded s (with_holders t x)
holders_bounded k h = record { clock = h.clock; volumes = h.volumes; sessions = h.sessions; objects = h.objects; holders = k; views = h.views; queue = h.queue }

pub views_bounded : {s : Setup} {t : Tables} {x : Views} → ViewsBounded x → Bounded s t → Bounded s (with_views t x)
views_bounded k h = record { clock = h.clock; volumes = h.volumes; sessions = h.sessions; objects = h.objects; holders = h.holders; views = k; queue = h.queue }

pub queue_bounded : {s : Setup} {t : Tables} {x : Queue} → QueueBounded s x → Bounded s t → Bounded s (with_queue t x)
queue_bounded k h = record { clock = h.clock; volumes = h.volumes; sessions = h.sessions; objects = h.objects; holders = h.holders; views = h.views; queue = k }

-- ---- the message list
pub pushed_bounded : {s : Setup} (q : Queue) (m : Message) → Named s m → QueueBounded s q → QueueBounded s (pushed q m)
unfolding pushed
pushed_bounded {s} q m k h =
    cond_keeps (QueueBounded s) (has_room q)
    (λ e. record { len = omega (arith, ltb-true q.len 64 e); items = each_set (Named s) q.items q.len m h.items k })
    (λ e. h)

pub sent_bounded : {s : Setup} (t : Tables) (m : Message) → Named s m → Bounded s t → Bounded s (sent t m)
sent_bounded t m k h = queue_bounded (pushed_bounded t.queue m k h.queue) h

module _ (s : Setup) (rs : Ranges s) where
  blank_named : Named s blank
  blank_named = both_true (lt-ltb 0 s.clients rs.clients.0) (lt-ltb 0 s.objects rs.objects.0)

  removed_bounded : (q : Queue) (i : ℕ) → QueueBounded s q → QueueBounded s (removed q i)
  unfolding removed
  removed_bounded q i h = record {
    len = omega (arith, h.len);
    items = all_snoc (Named s) (remove_at q.items i) blank (all_remove (Named s) q.items i h.items) blank_named;
  }

  pub taken_bounded : (t : Tables) (i : ℕ) → Bounded s t → Bounded s (taken t i)
  taken_bounded t i h = queue_bounded (removed_bounded t.queue i h.queue) h

  pub named_at : (t : Tables) (i : ℕ) → Bounded s t → Named s (message_at t.queue i)
  named_at t i h = each_get_d (Named s) t.queue.items i blank h.queue.items blank_named

-- ---- fresh tables
pub fresh_sessions_law : (s : Setup) → SessionsBounded s fresh_sessions
fresh_sessions_law s = record { expiry = each_replicate Timed 128 0 (omega arith); notes = λ d v p. rw (replicate_at {A = ℕ} 128 (by_volume d v) 0) (within_none (objects_in s v)) }

pub fresh_objects_law : ObjectsBounded fresh_objects
fresh_objects_law = record {
  version = each_replicate _ 32 1 (omega arith);
  expiry = each_replicate Timed 32 0 (omega arith);
  end = each_replicate Timed 32 0 (omega arith);
  standing = λ o e. not_both e (replicate_at 32 o false);
}

pub fresh_holders_law : HoldersBounded fresh_holders
fresh_holders_law = record { lease = each_replicate Timed 512 0 (omega arith) }

pub fresh_bounded : (s : Setup) → in_range s ≡ true → WorldBounded s (fresh_world s)
unfolding fresh_tables
fresh_bounded s e = record {
  tables = record {
    clock = omega arith;
    volumes = record {
      epoch = each_replicate _ 8 1 (omega arith);
      expiry = each_replicate Timed 8 0 (omega arith);
      guard = each_replicate Timed 8 0 (omega arith);
    };
    sessions = fresh_sessions_law s;
    objects = fresh_objects_law;
    holders = fresh_holders_law;
    views = record { expiry = each_replicate Timed 128 0 (omega arith) };
    queue = record { len = omega arith; items = each_replicate (Named s) 64 _ (blank_named s (ranges s e)) };
  };
  copies = each_replicate CopyBounded (s.clients * s.objects) no_copy (omega arith);
  requests = each_replicate (RequestBounded s) s.clients _ (record { next = omega arith; object = λ f. not_both f refl });
}
