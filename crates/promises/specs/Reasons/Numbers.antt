-- The numbers of the reasons (02, A8): "never granted, copy invalidated, leases dropped on an offer or batch, dash restarted, volume lease ran out, object lease
-- ran out. They are 1 to 6 in that order". 0 is for a step that erases no copy.
use Rattle.std.specs.Prelude.{ℕ}
use Rattle.promises.specs.declared.reasons.Why.{Why}
use Rattle.promises.specs.declared.reasons.Why.TheVariants.{NoCause, NeverGranted, CopyInvalidated, LeasesDropped, ClientRestarted, VolumeLeaseRanOut, ObjectLeaseRanOut}

abbrev pub number_of : Why → ℕ
number_of NoCause = 0
number_of NeverGranted = 1
number_of CopyInvalidated = 2
number_of LeasesDropped = 3
number_of ClientRestarted = 4
number_of VolumeLeaseRanOut = 5
number_of ObjectLeaseRanOut = 6
