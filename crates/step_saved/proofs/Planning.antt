-- The plan of a step, way by way.
-- Letters: s setup, a what the rules of 01 answered, ws the words under each name, x a step, r what a save or a return does, n a name, p a plan.
use Rattle.std.proofs.Common.{◌≡◌, refl, ◌∙◌, ap, ℕ, Bool, true, false, cond, List, [], Result, Ok, Err, ltb, get_or}
use Rattle.protocol.specs.declared.refusal.Refusal.{Refusal}
use Rattle.protocol.specs.declared.refusal.Refusal.TheVariants.{Name}
use Rattle.protocol.specs.declared.setup.Setup.{Setup}
use Rattle.protocol.specs.declared.step.Answer.TheVariants.{Refused}
use Rattle.protocol.specs.declared.step.Step.{Step}
use Rattle.protocol.specs.Refusals.{number_of}
use Rattle.protocol.specs.Saved.{names, is_save}
use Rattle.state_words.specs.Saved.{is_saved}
use Rattle.step_saved.specs.declared.plan.Act.{Act}
use Rattle.step_saved.specs.declared.plan.Act.TheVariants.{Save, Return}
use Rattle.step_saved.specs.declared.plan.Plan.{Plan}
use Rattle.step_saved.specs.Plan.{act_by_name, staying, saving, returning, name_plan}

-- the plan of an act, or of its refusal
abbrev pub planned : Setup → Result Act Refusal → Plan
planned s (Ok (Save n)) = saving s n
planned s (Ok (Return n)) = returning s n
planned s (Err e) = staying (Refused (number_of e))

chosen : (s : Setup) (n : ℕ) (named save saved : Bool)
    → planned s (cond named (cond save (Ok (Save n)) (cond saved (Ok (Return n)) (Err Name))) (Err Name))
    ≡ cond named (cond save (saving s n) (cond saved (returning s n) (staying (Refused 11)))) (staying (Refused 11))
chosen s n false save saved = refl
chosen s n true true saved = refl
chosen s n true false true = refl
chosen s n true false false = refl

pub plan_by_name : (s : Setup) (ws : List (List ℕ)) (x : Step) (r : Result Act Refusal) (p : Plan) → r ≡ act_by_name ws x → p ≡ planned s r → p ≡ name_plan s ws x
unfolding act_by_name name_plan
plan_by_name s ws x r p e f = f ∙ ap (planned s) e ∙ chosen s x.place (ltb x.place names) (is_save x) (is_saved (get_or ws x.place []))
