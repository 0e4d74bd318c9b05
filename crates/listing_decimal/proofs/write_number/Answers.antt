use borrow.Author.Rules.{rules}
use native.Mathlib.Omega.{arith}
use mathlib.Core.Path.{refl}
use lib.ListN.{length-set}
use Rattle.listing_decimal.specs.Decimal.{further_most}
use Rattle.listing_decimal.proofs.Laws.{digit_again, digits_written}
use Rattle.listing_decimal.proofs.write_number.Goals as goal

pub loop-left-init : goal.loop-left-init
loop-left-init c = (omega (arith, further_most 19 c.args.number), (refl, refl))

pub loop-left-preserved : goal.loop-left-preserved
loop-left-preserved c = (search rules, (simp length-set (search rules), search (digit_again, rules)))

pub returns : goal.returns
returns c = search digits_written
