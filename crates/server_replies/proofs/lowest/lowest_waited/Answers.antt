use native.Mathlib.Nat.{sub-zero}
use native.Mathlib.Omega.{arith}
use mathlib.Core.Path.{◌≡◌, ◌∙◌}
use Rattle.laws.specs.Loop.{first_again, first_end, first_stop}
use Rattle.protocol.specs.Server.{waited_in, lowest_waited}
use borrow.Author.Rules.{rules}
use Rattle.server_replies.proofs.lowest.lowest_waited.Goals as goal

pub loop-object-init : goal.loop-object-init
loop-object-init c = (search rules, rw sub-zero)

pub loop-object-preserved : goal.loop-object-preserved
loop-object-preserved c = (search rules, first_again _ _ _ _ _ (search rules) c.waited_in.ensures c.if-waited_in.false c.loop-object.invariant.1)

pub returns-then-n-object-clause-lowest : goal.returns-then-n-object-clause-lowest
unfolding lowest_waited
returns-then-n-object-clause-lowest c =
    let e : c.args.setup.objects ≡ c.loop-object.object = omega (arith, c.if-n-object.true, c.loop-object.invariant.0) in
    e ∙ first_end _ _ _ _ c.if-n-object.true c.loop-object.invariant.1

pub returns-then-waited_in-clause-lowest : goal.returns-then-waited_in-clause-lowest
unfolding lowest_waited
returns-then-waited_in-clause-lowest c = first_stop _ _ _ _ _ (search rules) c.waited_in.ensures c.if-waited_in.true c.loop-object.invariant.1
