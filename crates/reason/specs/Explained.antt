-- 02, A8, for a run file's bytes: what the call returns, and that it explains.
use Rattle.std.specs.Prelude.{ℕ, ◌<◌, Bool, true, cond, ◌&&◌, List, ◌≡◌, ltb, get_or, Option, None, Some, Result, Ok, Err}
use Rattle.protocol.specs.declared.refusal.Refusal.{Refusal}
use Rattle.protocol.specs.declared.refusal.Refusal.TheVariants.{File}
use Rattle.protocol.specs.declared.setup.Setup.{Setup}
use Rattle.protocol.specs.declared.step.Answer.{Answer}
use Rattle.protocol.specs.declared.step.Step.{Step}
use Rattle.protocol.specs.Gate.{is_read}
use Rattle.file_shape.specs.Shape.{well_formed}
use Rattle.file_shape.specs.Parts.{formed_in_range}
use Rattle.file_reader.specs.declared.Contents.{Contents}
use Rattle.file_reader.specs.File.{setup_of, contents_of}
use Rattle.file_reader.specs.Steps.{steps_of}
use Rattle.promises.specs.declared.reasons.Reason.{Reason}
use Rattle.promises.specs.Reasons.Reason.{no_step, is_ask_first, reason_of, Explained}
use Rattle.promises.proofs.ReasonsLaws.Explains.{explains}

-- a read of a client and an object that the setup has
abbrev pub reads_in : Setup → Step → Bool
reads_in s x = is_read x && (ltb x.client s.clients && ltb x.object s.objects)

-- c is what the reader returns for file l, which is accepted, and x its step k, from 0: such a read
pub record Chosen (l : List ℕ) (c : Contents) (k : ℕ) (x : Step) : Type 0 where
  pub contents : Ok c ≡ contents_of l
  pub there : k < c.count
  pub is : x ≡ get_or (steps_of l) k no_step
  pub reads : reads_in c.setup x ≡ true

-- the reason, if the answer is "ask first"
abbrev pub if_asked : Answer → Reason → Option Reason
if_asked a r = cond (is_ask_first a) (Some r) None

-- the reason of a run file's step n: "Run file shaped as above, its setup in range? 9"
unfoldable pub explanation_of : List ℕ → ℕ → Result (Option Reason) Refusal
explanation_of l n = cond (well_formed l) (Ok (reason_of (setup_of l) (steps_of l) n)) (Err File)

-- "Prove that the named event occurred and that no later event restored the copy; for 1, that there was none; for 5 and 6, that the named lease was dead."
pub file_explained : (l : List ℕ) (n : ℕ) → well_formed l ≡ true → Explained (setup_of l) (steps_of l) n (reason_of (setup_of l) (steps_of l) n)
file_explained l n e = explains (setup_of l) (formed_in_range l e) (steps_of l) n
