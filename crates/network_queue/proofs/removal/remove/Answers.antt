use native.Mathlib.Omega.{arith}
use Rattle.state_words.proofs.ReadsLaws.{length_word}
use Rattle.network_queue.proofs.RemovalLaws.{removes}
use Rattle.network_queue.proofs.removal.remove.Goals as goal

pub overflow_cast-rows : goal.overflow_cast-rows
overflow_cast-rows c = omega (arith, length_word c.args.words.now c.args.values.now, c.requires.place_bound, c.requires.values_bound)

pub overflow_sub-rows : goal.overflow_sub-rows
overflow_sub-rows c = omega (arith, length_word c.args.words.now c.args.values.now, c.requires.place_bound, c.requires.values_bound)

pub overflow_mul-rows : goal.overflow_mul-rows
overflow_mul-rows c = omega (arith, length_word c.args.words.now c.args.values.now, c.requires.place_bound, c.requires.values_bound)

pub shift-requires : goal.shift-requires
shift-requires c = omega (arith, length_word c.args.words.now c.args.values.now, c.requires.place_bound, c.requires.values_bound)

pub shift-requires-2 : goal.shift-requires-2
shift-requires-2 c =
    omega (arith, length_word c.args.words.now c.args.values.now, c.requires.place_bound, c.requires.values_bound)

pub overflow_sub-words : goal.overflow_sub-words
overflow_sub-words c =
    omega (arith, length_word c.args.words.now c.args.values.now, c.requires.place_bound, c.requires.values_bound)

pub returns : goal.returns
returns c =
    let n = length_word c.args.words.now c.args.values.now in let all = removes _ _ _ c.told-words
    c.told-values _ _ (omega (arith, n, c.requires.place_bound))
    (omega (arith, n, c.requires.values_bound)) (c.shift.ensures 0) (c.shift-2.ensures 0) in record { values_after = all.0; values_unchanged = all.1 }
