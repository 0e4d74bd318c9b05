use Rattle.listing_decimal.proofs.Laws.{after_number, field_written}
use native.Mathlib.Omega.{arith}
use borrow.Author.Rules.{rules}
use Rattle.listing_decimal.proofs.write_field.Goals as goal

pub bounds-out-next : goal.bounds-out-next
bounds-out-next c = search (after_number, rules)

pub overflow_add-result : goal.overflow_add-result
overflow_add-result c = omega (arith, after_number _ _ _ _ _ c.write_number-next.ensures c.requires)

pub returns : goal.returns
returns c = search field_written
