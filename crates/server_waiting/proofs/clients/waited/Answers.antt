use native.Mathlib.Nat.{sub-zero}
use Rattle.laws.specs.Parts.{part_at}
use Rattle.laws.specs.Skip.{first_any}
use Rattle.state_words.specs.Fields.{word_lengths, WAITING}
use Rattle.server_waiting.proofs.clients.waited.Goals as goal

pub returns : goal.returns
returns c = rw (c.next.ensures.is, sub-zero, part_at word_lengths _ WAITING _ c.requires.object_bound) (first_any _ _)
