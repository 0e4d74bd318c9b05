-- 02, A7: "Returning restores all tables, messages, counters and clock exactly, but not the four saved states." Of every list of steps: what a return restores is
-- what was saved last under its name.
-- Letters: s setup, q a machine, ys the steps before the save x, zs those between it and the return y, n a name or the number of a step, w world, e an entry.
use Rattle.std.specs.Prelude.{ℕ, true, ◌≡◌}
use mathlib.Core.List.{List, [], ◌∷◌, ◌++◌}
use Rattle.protocol.specs.declared.setup.Setup.{Setup}
use Rattle.protocol.specs.declared.step.Step.{Step}
use Rattle.protocol.specs.Saved.{fresh_machine, is_save, moved_by}
use Rattle.protocol.specs.Line.{present_line, accounts}

-- ---- steps that save nothing under n
abbrev pub SavesElsewhere : ℕ → Step → Type 0
SavesElsewhere n z = is_save z ≡ true → z.place ≡ n → ⊥

-- ---- from the save to the return
abbrev pub through : List Step → Step → List Step → Step → List Step
through ys x zs y = ys ++ ((x ∷ zs) ++ (y ∷ []))

pub record Restored (s : Setup) (ys : List Step) (x : Step) (zs : List Step) (y : Step) : Type 0 where
  -- "restores all tables, messages, counters and clock exactly"
  pub now : (moved_by s (fresh_machine s) (through ys x zs y)).now ≡ (moved_by s (fresh_machine s) ys).now
  -- "but not the four saved states"
  pub saved : (moved_by s (fresh_machine s) (through ys x zs y)).saved ≡ (moved_by s (fresh_machine s) (ys ++ (x ∷ zs))).saved
  -- the line and the ledger are those of the restored state
  pub line : present_line s (through ys x zs y) ≡ present_line s ys
  pub ledger : (accounts s (through ys x zs y)).now ≡ (accounts s ys).now
