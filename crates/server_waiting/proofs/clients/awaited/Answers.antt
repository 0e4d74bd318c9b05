use mathlib.Core.Path.{refl}
use Rattle.laws.specs.Sets.{set_of, set_end}
use Rattle.server_waiting.proofs.Passes.{await_again}
use borrow.Author.Rules.{rules}
use Rattle.server_waiting.proofs.clients.awaited.Goals as goal

pub loop-client-init : goal.loop-client-init
unfolding set_of
loop-client-init c = refl

pub loop-client-preserved : goal.loop-client-preserved
loop-client-preserved c =
    await_again _ _ _ _ (search rules) (search rules) (search rules) _ _ _ c.loop-client.invariant c.waits-yes.ensures c.with_if-waiting.ensures

pub returns : goal.returns
returns c = search set_end
