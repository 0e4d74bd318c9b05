-- The lengths of all lists, and that each update of the tables keeps them. Each clause speaks of the part of the tables that it reads.
-- x is a part of the tables, or a new clock; l is a new field, h and k say that lengths are right.
use Rattle.std.specs.Prelude.{ℕ, ◌<◌, Bool, List, ◌≡◌, refl, length}
use Rattle.std.proofs.Common.{arith, ◌∙◌, length-set}
use Rattle.std.proofs.lemmas.List.{length-replicate}
use Rattle.laws.specs.Choice.{cond_keeps}
use Rattle.laws.specs.Lists.{length_remove}
use Rattle.protocol.specs.declared.message.Message.{Message}
use Rattle.protocol.specs.declared.message.Queue.{Queue}
use Rattle.protocol.specs.declared.setup.Setup.{Setup}
use Rattle.protocol.specs.declared.tables.Volumes.{Volumes}
use Rattle.protocol.specs.declared.tables.Sessions.{Sessions}
use Rattle.protocol.specs.declared.tables.Objects.{Objects}
use Rattle.protocol.specs.declared.tables.Holders.{Holders}
use Rattle.protocol.specs.declared.tables.Views.{Views}
use Rattle.protocol.specs.declared.tables.Tables.{Tables}
use Rattle.protocol.specs.Messages.{pushed, removed, has_room}
use Rattle.protocol.specs.Tables.{with_clock, with_volumes, with_sessions, with_objects, with_holders, with_views, with_queue, fresh_sessions, fresh_objects, fresh_holders, fresh_tables}
use Rattle.protocol.specs.Updates.{with_epoch, with_volume_expiry, with_guard, with_seen, with_session_expiry, with_unreachable, with_offer, with_notes, with_batch, with_value, with_version, with_object_expiry, with_standing, with_pending, with_end, set_write, with_lease, with_waiting, with_view_epoch, with_view_expiry}
use Rattle.protocol.specs.Server.{sent}
use Rattle.protocol.specs.Decide.{taken}
use Rattle.protocol.specs.World.{fresh_world}
use Rattle.protocol.specs.Soundness.Shape.{VolumesShape, SessionsShape, ObjectsShape, HoldersShape, ViewsShape, QueueShape, Shape, WorldShape}

-- ---- one field of a part replaced by a list of the same length
pub epoch_shape : {x : Volumes} (l : List ℕ) → length l ≡ length x.epoch → VolumesShape x → VolumesShape (with_epoch x l)
epoch_shape l e h = record { epoch = e ∙ h.epoch; expiry = h.expiry; guard = h.guard }

pub volume_expiry_shape : {x : Volumes} (l : List ℕ) → length l ≡ length x.expiry → VolumesShape x → VolumesShape (with_volume_expiry x l)
volume_expiry_shape l e h = record { epoch = h.epoch; expiry = e ∙ h.expiry; guard = h.guard }

pub guard_shape : {x : Volumes} (l : List ℕ) → length l ≡ length x.guard → VolumesShape x → VolumesShape (with_guard x l)
guard_shape l e h = record { epoch = h.epoch; expiry = h.expiry; guard = e ∙ h.guard }

pub seen_shape : {x : Sessions} (l : List ℕ) → length l ≡ length x.seen → SessionsShape x → SessionsShape (with_seen x l)
seen_shape l e h = record { seen = e ∙ h.seen; expiry = h.expiry; unreachable = h.unreachable; offer = h.offer; notes = h.notes; batch = h.batch }

pub session_expiry_shape : {x : Sessions} (l : List ℕ) → length l ≡ length x.expiry → SessionsShape x → SessionsShape (with_session_expiry x l)
session_expiry_shape l e h = record { seen = h.seen; expiry = e ∙ h.expiry; unreachable = h.unreachable; offer = h.offer; notes = h.notes; batch = h.batch }

pub unreachable_shape : {x : Sessions} (l : List Bool) → length l ≡ length x.unreachable → SessionsShape x → SessionsShape (with_unreachable x l)
unreachable_shape l e h = record { seen = h.seen; expiry = h.expiry; unreachable = e ∙ h.unreachable; offer = h.offer; notes = h.notes; batch = h.batch }

pub offer_shape : {x : Sessions} (l : List ℕ) → length l ≡ length x.offer → SessionsShape x → SessionsShape (with_offer x l)
offer_shape l e h = record { seen = h.seen; expiry = h.expiry; unreachable = h.unreachable; offer = e ∙ h.offer; notes = h.notes; batch = h.batch }

pub notes_shape : {x : Sessions} (l : List ℕ) → length l ≡ length x.notes → SessionsShape x → SessionsShape (with_notes x l)
notes_shape l e h = record { seen = h.seen; expiry = h.expiry; unreachable = h.unreachable; offer = h.offer; notes = e ∙ h.notes; batch = h.batch }

pub batch_shape : {x : Sessions} (l : List ℕ) → length l ≡ length x.batch → SessionsShape x → SessionsShape (with_batch x l)
batch_shape l e h = record { seen = h.seen; expiry = h.expiry; unreachable = h.unreachable; offer = h.offer; notes = h.notes; batch = e ∙ h.batch }

pub value_shape : {x : Objects} (l : List ℕ) → length l ≡ length x.value → ObjectsShape x → ObjectsShape (with_value x l)
value_shape l e h = record { value = e ∙ h.value; version = h.version; expiry = h.expiry; standing = h.standing; pending = h.pending; end = h.end }

pub version_shape : {x : Objects} (l : List ℕ) → length l ≡ length x.version → ObjectsShape x → ObjectsShape (with_version x l)
version_shape l e h = record { value = h.value; version = e ∙ h.version; expiry = h.expiry; standing = h.standing; pending = h.pending; end = h.end }

pub object_expiry_shape : {x : Objects} (l : List ℕ) → length l ≡ length x.expiry → ObjectsShape x → ObjectsShape (with_object_expiry x l)
object_expiry_shape l e h = record { value = h.value; version = h.version; expiry = e ∙ h.expiry; standing = h.standing; pending = h.pending; end = h.end }

pub standing_shape : {x : Objects} (l : List Bool) → length l ≡ length x.standing → ObjectsShape x → ObjectsShape (with_standing x l)
standing_shape l e h = record { value = h.value; version = h.version; expiry = h.expiry; standing = e ∙ h.standing; pending = h.pending; end = h.end }

pub pending_shape : {x : Objects} (l : List ℕ) → length l ≡ length x.pending → ObjectsShape x → ObjectsShape (with_pending x l)
pending_shape l e h = record { value = h.value; version = h.version; expiry = h.expiry; standing = h.standing; pending = e ∙ h.pending; end = h.end }

pub end_shape : {x : Objects} (l : List ℕ) → length l ≡ length x.end → ObjectsShape x → ObjectsShape (with_end x l)
end_shape l e h = record { value = h.value; version = h.version; expiry = h.expiry; standing = h.standing; pending = h.pending; end = e ∙ h.end }

pub write_shape : {x : Objects} (o : ℕ) (stands : Bool) (a end : ℕ) → ObjectsShape x → ObjectsShape (set_write x o stands a end)
write_shape o stands a end h = end_shape _ (simp length-set) (pending_shape _ (simp length-set) (standing_shape _ (simp length-set) h))

pub lease_shape : {x : Holders} (l : List ℕ) → length l ≡ length x.lease → HoldersShape x → HoldersShape (with_lease x l)
lease_shape l e h = record { lease = e ∙ h.lease; waiting = h.waiting }

pub waiting_shape : {x : Holders} (l : List ℕ) → length l ≡ length x.waiting → HoldersShape x → HoldersShape (with_waiting x l)
waiting_shape l e h = record { lease = h.lease; waiting = e ∙ h.waiting }

pub view_epoch_shape : {x : Views} (l : List ℕ) → length l ≡ length x.epoch → ViewsShape x → ViewsShape (with_view_epoch x l)
view_epoch_shape l e h = record { epoch = e ∙ h.epoch; expiry = h.expiry }

pub view_expiry_shape : {x : Views} (l : List ℕ) → length l ≡ length x.expiry → ViewsShape x → ViewsShape (with_view_expiry x l)
view_expiry_shape l e h = record { epoch = h.epoch; expiry = e ∙ h.expiry }

-- ---- one part of the tables replaced
pub clock_shape : (t : Tables) (x : ℕ) → Shape t → Shape (with_clock t x)
clock_shape t x h = record { volumes = h.volumes; sessions = h.sessions; objects = h.objects; holders = h.holders; views = h.views; queue = h.queue }

pub volumes_shape : {t : Tables} {x : Volumes} → VolumesShape x → Shape t → Shape (with_volumes t x)
volumes_shape k h = record { volumes = k; sessions = h.sessions; objects = h.objects; holders = h.holders; views = h.views; queue = h.queue }

pub sessions_shape : {t : Tables} {x : Sessions} → SessionsShape x → Shape t → Shape (with_sessions t x)
sessions_shape k h = record { volumes = h.volumes; sessions = k; objects = h.objects; holders = h.holders; views = h.views; queue = h.queue }

pub objects_shape : {t : Tables} {x : Objects} → ObjectsShape x → Shape t → Shape (with_objects t x)
objects_shape k h = record { volumes = h.volumes; sessions = h.sessions; objects = k; holders = h.holders; views = h.views; queue = h.queue }

pub holders_shape : {t : Tables} {x : Holders} → HoldersShape x → Shape t → Shape (with_holders t x)
holders_shape k h = record { volumes = h.volumes; sessions = h.sessions; objects = h.objects; holders = k; views = h.views; queue = h.queue }

pub views_shape : {t : Tables} {x : Views} → ViewsShape x → Shape t → Shape (with_views t x)
views_shape k h = record { volumes = h.volumes; sessions = h.sessions; objects = h.objects; holders = h.holders; views = k; queue = h.queue }

pub queue_shape : {t : Tables} {x : Queue} → QueueShape x → Shape t → Shape (with_queue t x)
queue_shape k h = record { volumes = h.volumes; sessions = h.sessions; objects = h.objects; holders = h.holders; views = h.views; queue = k }

-- ---- the message list
pub pushed_shape : (q : Queue) (m : Message) → QueueShape q → QueueShape (pushed q m)
unfolding pushed
pushed_shape q m h =
    cond_keeps QueueShape (has_room q) (λ e. record { items = simp length-set h.items }) (λ e. h)

removed_shape : (q : Queue) (i : ℕ) → i < 64 → QueueShape q → QueueShape (removed q i)
unfolding removed
removed_shape q i k h = record { items = length_remove _ q.items i (omega (arith, h.items)) ∙ h.items }

pub sent_shape : (t : Tables) (m : Message) → Shape t → Shape (sent t m)
sent_shape t m h = queue_shape (pushed_shape t.queue m h.queue) h

pub taken_shape : (t : Tables) (i : ℕ) → i < 64 → Shape t → Shape (taken t i)
taken_shape t i k h = queue_shape (removed_shape t.queue i k h.queue) h

-- ---- fresh tables
pub fresh_sessions_law : SessionsShape fresh_sessions
fresh_sessions_law = record { seen = refl; expiry = refl; unreachable = refl; offer = refl; notes = refl; batch = refl }

pub fresh_objects_law : ObjectsShape fresh_objects
fresh_objects_law = record { value = refl; version = refl; expiry = refl; standing = refl; pending = refl; end = refl }

pub fresh_holders_law : HoldersShape fresh_holders
fresh_holders_law = record { lease = refl; waiting = refl }

pub fresh_shape : (s : Setup) → WorldShape s (fresh_world s)
unfolding fresh_tables
fresh_shape s = record {
  tables = record {
    volumes = record { epoch = refl; expiry = refl; guard = refl };
    sessions = fresh_sessions_law;
    objects = fresh_objects_law;
    holders = fresh_holders_law;
    views = record { epoch = refl; expiry = refl };
    queue = record { items = refl };
  };
  copies = length-replicate _ _;
  requests = length-replicate _ _;
}
