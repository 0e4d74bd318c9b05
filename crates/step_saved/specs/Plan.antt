-- What is left of a step once the rules of 01 have answered it: they refuse a save and a return for their kind, or with 1. All saved states are sound.
-- Letters: s setup, a what the rules of 01 answered, ws the words under each name, x a step, n a name.
use Rattle.std.specs.Prelude.{ℕ, ◌*◌, Bool, false, cond, List, [], Some, None, Result, Ok, Err, eqb, ltb, get_or}
use Rattle.protocol.specs.declared.refusal.Refusal.{Refusal}
use Rattle.protocol.specs.declared.refusal.Refusal.TheVariants.{Name}
use Rattle.protocol.specs.declared.setup.Setup.{Setup}
use Rattle.protocol.specs.declared.step.Answer.{Answer}
use Rattle.protocol.specs.declared.step.Answer.TheVariants.{Done, Shown, AskFirst, Completed, Delivered, Refused}
use Rattle.protocol.specs.declared.step.Step.{Step}
use Rattle.protocol.specs.Saved.{names, is_save, uses_name}
use Rattle.state_words.specs.Saved.{is_saved}
use Rattle.step_saved.specs.declared.plan.Act.{Act}
use Rattle.step_saved.specs.declared.plan.Act.TheVariants.{Save, Return}
use Rattle.step_saved.specs.declared.plan.Plan.{Plan}

-- whether an answer is a refusal with 1
abbrev pub by_one : Answer → Bool
by_one Done = false
by_one (Shown v) = false
by_one AskFirst = false
by_one (Completed n) = false
by_one (Delivered m n) = false
by_one (Refused n) = eqb n 1

abbrev pub staying : Answer → Plan
staying a = record { act = None; copies_saved = 0; requests_saved = 0; copies_restored = 0; requests_restored = 0; answer = a }

-- all lent records go into the words that are saved
abbrev pub saving : Setup → ℕ → Plan
saving s n = record {
  act = Some (Save n);
  copies_saved = s.clients * s.objects;
  requests_saved = s.clients;
  copies_restored = 0;
  requests_restored = 0;
  answer = Done;
}

-- all lent records come from the words that are restored
abbrev pub returning : Setup → ℕ → Plan
returning s n = record {
  act = Some (Return n);
  copies_saved = 0;
  requests_saved = 0;
  copies_restored = s.clients * s.objects;
  requests_restored = s.clients;
  answer = Done;
}

-- what a save or a return on sound states does: "11 when the name is above 3 or, for a return, was never saved"
unfoldable pub act_by_name : List (List ℕ) → Step → Result Act Refusal
act_by_name ws x =
    cond (ltb x.place names) (cond (is_save x) (Ok (Save x.place)) (cond (is_saved (get_or ws x.place [])) (Ok (Return x.place)) (Err Name))) (Err Name)

-- the plan of a save or a return on sound states
unfoldable pub name_plan : Setup → List (List ℕ) → Step → Plan
name_plan s ws x =
    cond (ltb x.place names)
    (cond (is_save x) (saving s x.place) (cond (is_saved (get_or ws x.place [])) (returning s x.place) (staying (Refused 11))))
    (staying (Refused 11))

unfoldable pub plan_of : Setup → Answer → List (List ℕ) → Step → Plan
plan_of s a ws x = cond (uses_name x) (cond (by_one a) (staying a) (name_plan s ws x)) (staying a)
