use borrow.Author.Rules.{rules}
use mathlib.Core.Path.{refl}
use Rattle.laws.specs.Sets.{set_of}
use Rattle.protocol.proofs.Ranges.{ranges}
use Rattle.gate_message.proofs.Members.{object_again, objects_end}
use Rattle.gate_message.proofs.object_sets.objects_in.Goals as goal

pub loop-object-init : goal.loop-object-init
unfolding set_of
loop-object-init c = (search rules, refl)

pub bounds-setup-object : goal.bounds-setup-object
bounds-setup-object c = let k = ranges _ c.requires in search rules

pub with_if-set-requires : goal.with_if-set-requires
with_if-set-requires c = let k = ranges _ c.requires in search rules

pub loop-object-preserved : goal.loop-object-preserved
loop-object-preserved c = (search rules, object_again _ _ _ _ _ c.requires (search rules) c.loop-object.invariant.1 (rw c.from.ensures at c.with_if-set.ensures))

pub returns : goal.returns
returns c = search objects_end
