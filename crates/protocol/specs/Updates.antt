-- 01, "Tables": one field of a part of the tables replaced, and one place of a field set; all else stays. So a rule names what its sentence names,
-- and a new field changes its part's updates here, and no rule.
-- x is the part, l the field's new list, a what is set; d, v and o are client, volume and object.
use Rattle.std.specs.Prelude.{ℕ, Bool, List, set}
use Rattle.protocol.specs.declared.tables.Volumes.{Volumes}
use Rattle.protocol.specs.declared.tables.Sessions.{Sessions}
use Rattle.protocol.specs.declared.tables.Objects.{Objects}
use Rattle.protocol.specs.declared.tables.Holders.{Holders}
use Rattle.protocol.specs.declared.tables.Views.{Views}
use Rattle.protocol.specs.Tables.{by_volume, by_object}

-- ---- Server, per volume
abbrev pub with_epoch : Volumes → List ℕ → Volumes
with_epoch x l = record { epoch = l; expiry = x.expiry; guard = x.guard }

abbrev pub with_volume_expiry : Volumes → List ℕ → Volumes
with_volume_expiry x l = record { epoch = x.epoch; expiry = l; guard = x.guard }

abbrev pub with_guard : Volumes → List ℕ → Volumes
with_guard x l = record { epoch = x.epoch; expiry = x.expiry; guard = l }

abbrev pub set_volume_expiry : Volumes → ℕ → ℕ → Volumes
set_volume_expiry x v a = with_volume_expiry x (set x.expiry v a)

-- ---- Server, per client, and per client and volume
abbrev pub with_seen : Sessions → List ℕ → Sessions
with_seen x l = record { seen = l; expiry = x.expiry; unreachable = x.unreachable; offer = x.offer; notes = x.notes; batch = x.batch }

abbrev pub with_session_expiry : Sessions → List ℕ → Sessions
with_session_expiry x l = record { seen = x.seen; expiry = l; unreachable = x.unreachable; offer = x.offer; notes = x.notes; batch = x.batch }

abbrev pub with_unreachable : Sessions → List Bool → Sessions
with_unreachable x l = record { seen = x.seen; expiry = x.expiry; unreachable = l; offer = x.offer; notes = x.notes; batch = x.batch }

abbrev pub with_offer : Sessions → List ℕ → Sessions
with_offer x l = record { seen = x.seen; expiry = x.expiry; unreachable = x.unreachable; offer = l; notes = x.notes; batch = x.batch }

abbrev pub with_notes : Sessions → List ℕ → Sessions
with_notes x l = record { seen = x.seen; expiry = x.expiry; unreachable = x.unreachable; offer = x.offer; notes = l; batch = x.batch }

abbrev pub with_batch : Sessions → List ℕ → Sessions
with_batch x l = record { seen = x.seen; expiry = x.expiry; unreachable = x.unreachable; offer = x.offer; notes = x.notes; batch = l }

abbrev pub set_seen : Sessions → ℕ → ℕ → Sessions
set_seen x d a = with_seen x (set x.seen d a)

abbrev pub set_session_expiry : Sessions → ℕ → ℕ → ℕ → Sessions
set_session_expiry x d v a = with_session_expiry x (set x.expiry (by_volume d v) a)

abbrev pub set_unreachable : Sessions → ℕ → ℕ → Bool → Sessions
set_unreachable x d v a = with_unreachable x (set x.unreachable (by_volume d v) a)

abbrev pub set_offer : Sessions → ℕ → ℕ → ℕ → Sessions
set_offer x d v a = with_offer x (set x.offer (by_volume d v) a)

abbrev pub set_notes : Sessions → ℕ → ℕ → ℕ → Sessions
set_notes x d v a = with_notes x (set x.notes (by_volume d v) a)

abbrev pub set_batch : Sessions → ℕ → ℕ → ℕ → Sessions
set_batch x d v a = with_batch x (set x.batch (by_volume d v) a)

-- ---- Server, per object
abbrev pub with_value : Objects → List ℕ → Objects
with_value x l = record { value = l; version = x.version; expiry = x.expiry; standing = x.standing; pending = x.pending; end = x.end }

abbrev pub with_version : Objects → List ℕ → Objects
with_version x l = record { value = x.value; version = l; expiry = x.expiry; standing = x.standing; pending = x.pending; end = x.end }

abbrev pub with_object_expiry : Objects → List ℕ → Objects
with_object_expiry x l = record { value = x.value; version = x.version; expiry = l; standing = x.standing; pending = x.pending; end = x.end }

abbrev pub with_standing : Objects → List Bool → Objects
with_standing x l = record { value = x.value; version = x.version; expiry = x.expiry; standing = l; pending = x.pending; end = x.end }

abbrev pub with_pending : Objects → List ℕ → Objects
with_pending x l = record { value = x.value; version = x.version; expiry = x.expiry; standing = x.standing; pending = l; end = x.end }

abbrev pub with_end : Objects → List ℕ → Objects
with_end x l = record { value = x.value; version = x.version; expiry = x.expiry; standing = x.standing; pending = x.pending; end = l }

abbrev pub set_value : Objects → ℕ → ℕ → Objects
set_value x o a = with_value x (set x.value o a)

abbrev pub set_version : Objects → ℕ → ℕ → Objects
set_version x o a = with_version x (set x.version o a)

abbrev pub set_object_expiry : Objects → ℕ → ℕ → Objects
set_object_expiry x o a = with_object_expiry x (set x.expiry o a)

-- "perhaps a standing write: value, latest end": whether one stands on o, and these two
abbrev pub set_write : Objects → ℕ → Bool → ℕ → ℕ → Objects
set_write x o stands a end = with_end (with_pending (with_standing x (set x.standing o stands)) (set x.pending o a)) (set x.end o end)

-- ---- Server, per client and object
abbrev pub with_lease : Holders → List ℕ → Holders
with_lease x l = record { lease = l; waiting = x.waiting }

abbrev pub with_waiting : Holders → List ℕ → Holders
with_waiting x l = record { lease = x.lease; waiting = l }

abbrev pub set_lease : Holders → ℕ → ℕ → ℕ → Holders
set_lease x d o a = with_lease x (set x.lease (by_object d o) a)

abbrev pub set_waiting : Holders → ℕ → ℕ → Holders
set_waiting x o a = with_waiting x (set x.waiting o a)

-- ---- Client, per volume
abbrev pub with_view_epoch : Views → List ℕ → Views
with_view_epoch x l = record { epoch = l; expiry = x.expiry }

abbrev pub with_view_expiry : Views → List ℕ → Views
with_view_expiry x l = record { epoch = x.epoch; expiry = l }

abbrev pub set_view_epoch : Views → ℕ → ℕ → ℕ → Views
set_view_epoch x d v a = with_view_epoch x (set x.epoch (by_volume d v) a)

abbrev pub set_view_expiry : Views → ℕ → ℕ → ℕ → Views
set_view_expiry x d v a = with_view_expiry x (set x.expiry (by_volume d v) a)
