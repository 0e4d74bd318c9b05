use mathlib.Core.List.{[]}
use Rattle.state_words.specs.Saved.{marked}
use Rattle.saved_states.proofs.Laws.{set_row}
use Rattle.saved_states.proofs.save.Goals as goal

pub returns : goal.returns
returns c =
    record {
      words = set_row marked [] c.args.saved.now c.args.name c.args.words.now;
      values = c.save_values.ensures;
      long = c.told-words;
      names_words = c.told-saved;
      names_values = c.told-saved_values;
    }
