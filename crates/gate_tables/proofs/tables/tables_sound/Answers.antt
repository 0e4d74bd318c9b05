use Rattle.protocol.proofs.Ranges.{ranges}
use Rattle.gate_tables.proofs.Scans.{scanned}
use borrow.Author.Rules.{rules}
use Rattle.gate_tables.proofs.tables.tables_sound.Goals as goal

pub volumes_fit-volumes-requires : goal.volumes_fit-volumes-requires
volumes_fit-volumes-requires c = let k = ranges _ c.requires in search rules

pub objects_fit-objects-requires : goal.objects_fit-objects-requires
objects_fit-objects-requires c = let k = ranges _ c.requires in search rules

pub returns : goal.returns
returns c = search scanned
