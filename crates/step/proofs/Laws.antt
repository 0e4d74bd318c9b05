-- What the calls of a step leave together is what the machine's step leaves (02, A7).
-- Letters: s setup, w words, x values, l copies, k requests, ws and xs the words and the values under each name, y a step. Those that the step is lent have
-- no number; 1 is after the step of 01, 2 after the copies, 3 after the requests are in the words, 4 at the end.
use Prim.Native.Nat.{ℕ, ◌*◌, ◌<◌, ◌≤◌}
use native.Mathlib.Omega.{arith}
use mathlib.Core.Bool.{Bool, true, false, cond}
use mathlib.Core.List.{List, []}
use mathlib.Core.Logic.{⊎_elim}
use mathlib.Core.Path.{◌≡◌, refl, sym, ap, subst, ◌∙◌}
use lib.Dec.{eqb, ltb}
use lib.ListN.{length, get_or, set, take}
use lib.Seq.{take_all}
use borrow.Author.Tests.{eqb-true, ltb-true}
use Rattle.laws.specs.Choice.{true_or_false, not_both, and-true, and_no, or_true}
use Rattle.laws.specs.Line.{Saved, never, state, saved_under}
use Rattle.laws.specs.Overlay.{overlay, overlay_none, overlay_take, length_overlay}
use Rattle.laws.specs.Tabulate.{length_tabulate}
use Rattle.protocol.specs.declared.records.Copy.{Copy}
use Rattle.protocol.specs.declared.records.Request.{Request}
use Rattle.protocol.specs.declared.setup.Setup.{Setup}
use Rattle.protocol.specs.declared.step.Answer.{Answer}
use Rattle.protocol.specs.declared.step.Answer.TheVariants.{Done, Refused}
use Rattle.protocol.specs.declared.step.Step.{Step}
use Rattle.protocol.specs.Setup.{in_range}
use Rattle.protocol.proofs.Ranges.{ranges}
use Rattle.protocol.specs.Sound.{copies_sound, requests_sound, records_sound, tables_sound, sound}
use Rattle.protocol.specs.Tables.{no_copy, no_request}
use Rattle.protocol.specs.Answers.{answer_number, is_refused}
use Rattle.protocol.specs.Gate.{or_refuse}
use Rattle.protocol.specs.Ledger.{accepts}
use Rattle.protocol.specs.World.{World, stepped, answer_of}
use Rattle.protocol.specs.Saved.{Machine, names, is_save, is_return, uses_name, world_sound, saved_sound, named, refusal_in, answer_to, moved, Called}
use Rattle.protocol.specs.Saved.{saving as savingMove, returning as returningMove}
use Rattle.protocol.proofs.SavedLaws.{ordinary_answer, ordinary_move, name_unknown, name_answer, name_move, refused_moves_nothing}
use Rattle.protocol.proofs.Soundness.StepCases.{refused_answer}
use Rattle.state_words.specs.View.{tables_of, records_of, requests_of, world_of}
use Rattle.state_words.specs.Saved.{is_saved, saved_of}
use Rattle.state_words.proofs.SavedLaws.{saved_at}
use Rattle.state_words.proofs.Worlds.{few_copies}
use Rattle.saved_states.specs.Stored.{Saves, Restores, saves_world, restores_world}
use Rattle.client_records.specs.Stores.{with_copies, with_requests}
use Rattle.step_saved.specs.declared.plan.Plan.{Plan}
use Rattle.step_saved.specs.Sound.{all_sound, all_sound_law}
use Rattle.step_saved.specs.Plan.{staying, saving, returning, name_plan, plan_of}
use Rattle.step_saved.specs.Applied.{Same, SameSaved, Applied}
use Rattle.step_lent.specs.Lent.{world}
use Rattle.step.specs.Lent.{machine, Unchanged}

-- ---- what is planned, once the rules of 01 have answered
abbrev pub planned : Setup → World → List (List ℕ) → Step → Plan
planned s w ws y = plan_of s (answer_of s w y) ws y

-- ---- what they leave
pub record Left (s : Setup) (w x : List ℕ) (l : List Copy) (k : List Request) (ws xs : List (List ℕ)) (y : Step)
    (w₄ x₄ : List ℕ) (l₄ : List Copy) (k₄ : List Request) (ws₄ xs₄ : List (List ℕ)) : Type 0 where
  pub w₁ : List ℕ
  pub x₁ : List ℕ
  pub l₁ : List Copy
  pub k₁ : List Request
  pub w₂ : List ℕ
  pub x₂ : List ℕ
  pub w₃ : List ℕ
  pub steps : world w₁ x₁ l₁ k₁ ≡ stepped s (world w x l k) y
  pub refuses : answer_number (answer_of s (world w x l k) y) ≡ 4 → (w₁ ≡ w) × ((x₁ ≡ x) × ((l₁ ≡ l) × (k₁ ≡ k)))
  pub keeps : records_of w₁ x₁ ≡ records_of w x
  pub copies_tables : tables_of w₂ x₂ ≡ tables_of w₁ x₁
  pub copies_records : records_of w₂ x₂
      ≡ with_copies (records_of w₁ x₁) (overlay no_copy (records_of w₁ x₁).copies l₁ (planned s (world w x l k) ws y).copies_saved)
  pub copies_none : (planned s (world w x l k) ws y).copies_saved ≡ 0 → (w₂ ≡ w₁) × (x₂ ≡ x₁)
  pub requests_tables : (z : List ℕ) → tables_of w₃ z ≡ tables_of w₂ z
  pub requests_records : (z : List ℕ) → records_of w₃ z
      ≡ with_requests (records_of w₂ z) (overlay no_request (records_of w₂ z).requests k₁ (planned s (world w x l k) ws y).requests_saved)
  pub requests_none : (planned s (world w x l k) ws y).requests_saved ≡ 0 → w₃ ≡ w₂
  pub applied : Applied (planned s (world w x l k) ws y).act w₃ x₂ ws xs w₄ x₄ ws₄ xs₄
  pub copies : l₄ ≡ overlay no_copy l₁ (records_of w₄ x₄).copies (planned s (world w x l k) ws y).copies_restored
  pub requests : k₄ ≡ overlay no_request k₁ (requests_of w₄) (planned s (world w x l k) ws y).requests_restored

-- ---- the records in the words
module _ {A : Type 0} (d : A) (l m : List A) (n : ℕ) where
  -- all elements are replaced
  replaced : length l ≡ n → n ≤ length m → overlay d l m n ≡ take n m
  replaced e h = sym (take_all n (overlay d l m n) (omega (arith, length_overlay d l m n, e))) ∙ overlay_take d l m n (omega (arith, e)) h

  -- the first elements are those of a list
  stored_first : length m ≡ n → n ≤ length l → take n (overlay d l m n) ≡ m
  stored_first e h = overlay_take d l m n h (omega (arith, e)) ∙ take_all n m (omega (arith, e))

all_copies : (w x : List ℕ) → length (records_of w x).copies ≡ 512
unfolding records_of
all_copies w x = length_tabulate _ 0 512

all_requests : (w x : List ℕ) → length (records_of w x).requests ≡ 16
unfolding records_of
all_requests w x = length_tabulate _ 0 16

-- the requests consist of words only
requests_alone : (w x : List ℕ) → requests_of w ≡ (records_of w x).requests
unfolding records_of
requests_alone w x = refl

-- ---- what a sound state has
module _ (s : Setup) (w : World) (h : world_sound s w ≡ true) where
  in_range_law : in_range s ≡ true
  unfolding sound
  in_range_law = (and-true _ _ (and-true _ _ h).0).0

  records_sound_law : records_sound s w.copies w.requests ≡ true
  unfolding sound
  records_sound_law = (and-true (in_range s) _ (and-true _ (tables_sound s w.tables) h).0).1

  copies_counted : length w.copies ≡ s.clients * s.objects
  unfolding copies_sound
  copies_counted = eqb-true _ _ (and-true _ _ (and-true (copies_sound s w.copies) (requests_sound s w.requests) records_sound_law).0).0

  requests_counted : length w.requests ≡ s.clients
  unfolding requests_sound
  requests_counted = eqb-true _ _ (and-true _ _ (and-true (copies_sound s w.copies) (requests_sound s w.requests) records_sound_law).1).0

-- ---- what the rules of 01 refuse
not_zero : (b : Bool) → eqb (or_refuse b 1 2) 0 ≡ false
not_zero true = refl
not_zero false = refl

module _ (s : Setup) (q : Machine) (y : Step) (u : uses_name y ≡ true) where
  name_refused : accepts s q.now y ≡ false
  name_refused = rw (name_unknown s q y u) (not_zero (world_sound s q.now))

  name_answered : answer_of s q.now y ≡ Refused (or_refuse (world_sound s q.now) 1 2)
  name_answered = refused_answer s q.now y name_refused ∙ ap Refused (name_unknown s q y u)

-- a save does not return
save_no_return : (y : Step) → is_save y ≡ true → is_return y ≡ false
save_no_return y e = rw (eqb-true y.kind 10 e)

-- ---- small laws
kept_same : {n m : World} {v u : List (Saved World)} → n ≡ m → v ≡ u → ◌≡◌ {A = Machine} (record { now = n; saved = v }) (record { now = m; saved = u })
kept_same e f = rw (e, f)

done_refuses {ℓ} : {A : Type ℓ} → ◌≡◌ {A = ℕ} 0 4 → A
done_refuses e = absurd (omega (arith, e))

module _ (s : Setup) (w x : List ℕ) (l : List Copy) (k : List Request) (ws xs : List (List ℕ)) (y : Step) where
  abbrev q : Machine
  q = machine s w x l k ws xs

  abbrev a : Answer
  a = answer_of s q.now y

  abbrev p : Plan
  p = planned s q.now ws y

  saved_same : saved_sound s q ≡ all_sound s ws xs
  saved_same = sym (all_sound_law s q.now ws xs)

  -- a saved state is unsound: the step is refused, and nothing changes
  pub unsound_called : all_sound s ws xs ≡ false → Called s q y (Refused 1) q
  unfolding answer_to refusal_in
  unsound_called f = record { answers = one; moves = sym (refused_moves_nothing s q y (sym (ap is_refused one))) }
    where
      one : Refused 1 ≡ answer_to s q y
      one = rw (saved_same, f, and_no (world_sound s q.now))

  -- what the step's contract says
  pub record Met (w₄ x₄ : List ℕ) (l₄ : List Copy) (k₄ : List Request) (ws₄ xs₄ : List (List ℕ)) : Type 0 where
    pub calls : Called s q y p.answer (machine s w₄ x₄ l₄ k₄ ws₄ xs₄)
    pub refuses : answer_number p.answer ≡ 4 → Unchanged w x l k ws xs w₄ x₄ l₄ k₄ ws₄ xs₄
    pub keeps : uses_name y ≡ false → records_of w₄ x₄ ≡ records_of w x

  module _ (w₄ x₄ : List ℕ) (l₄ : List Copy) (k₄ : List Request) (ws₄ xs₄ : List (List ℕ)) (h : Left s w x l k ws xs y w₄ x₄ l₄ k₄ ws₄ xs₄) where
    -- a plan that stays leaves what the step of 01 left
    stays : (b : Answer) → p ≡ staying b → Unchanged h.w₁ h.x₁ h.l₁ h.k₁ ws xs w₄ x₄ l₄ k₄ ws₄ xs₄
    unfolding Applied
    stays b e =
        let did : Same h.w₃ h.x₂ w₄ x₄ × SameSaved ws xs ws₄ xs₄ = subst (λ (g : Plan). Applied g.act h.w₃ h.x₂ ws xs w₄ x₄ ws₄ xs₄) e h.applied in
        let none : (h.w₂ ≡ h.w₁) × (h.x₂ ≡ h.x₁) = h.copies_none (ap (λ (g : Plan). g.copies_saved) e) in
        record {
          words = did.0.words ∙ h.requests_none (ap (λ (g : Plan). g.requests_saved) e) ∙ none.0;
          values = did.0.values ∙ none.1;
          copies = h.copies ∙ ap (λ (g : Plan). overlay no_copy h.l₁ (records_of w₄ x₄).copies g.copies_restored) e ∙ overlay_none no_copy h.l₁ _;
          requests = h.requests ∙ ap (λ (g : Plan). overlay no_request h.k₁ (requests_of w₄) g.requests_restored) e ∙ overlay_none no_request h.k₁ _;
          saved = did.1.words;
          saved_values = did.1.values;
        }

    -- .. and so nothing changes where that was refused
    module _ (b : Answer) (e : p ≡ staying b) (r : answer_number a ≡ 4) where
      unchanged : Unchanged w x l k ws xs w₄ x₄ l₄ k₄ ws₄ xs₄
      unchanged = record {
        words = (stays b e).words ∙ (h.refuses r).0;
        values = (stays b e).values ∙ (h.refuses r).1.0;
        copies = (stays b e).copies ∙ (h.refuses r).1.1.0;
        requests = (stays b e).requests ∙ (h.refuses r).1.1.1;
        saved = (stays b e).saved;
        saved_values = (stays b e).saved_values;
      }

    same_machine : {v u : List ℕ} {m : List Copy} {j : List Request} → Unchanged v u m j ws xs w₄ x₄ l₄ k₄ ws₄ xs₄ → machine s w₄ x₄ l₄ k₄ ws₄ xs₄
        ≡ machine s v u m j ws xs
    same_machine e = rw (e.words, e.values, e.copies, e.requests, e.saved, e.saved_values)

    same_records : {v u : List ℕ} {m : List Copy} {j : List Request} → Unchanged v u m j ws xs w₄ x₄ l₄ k₄ ws₄ xs₄ → records_of w₄ x₄ ≡ records_of v u
    same_records e = rw (e.words, e.values)

    -- ---- a refused step
    refused_met : (n : ℕ) → p ≡ staying (Refused n) → answer_number a ≡ 4 → Refused n ≡ answer_to s q y → Met w₄ x₄ l₄ k₄ ws₄ xs₄
    refused_met n e r t = record {
      calls = record {
        answers = ap (λ (g : Plan). g.answer) e ∙ t;
        moves = same_machine (unchanged (Refused n) e r) ∙ sym (refused_moves_nothing s q y (sym (ap is_refused t)));
      };
      refuses = λ _. unchanged (Refused n) e r;
      keeps = λ _. same_records (unchanged (Refused n) e r);
    }

    module _ (f : all_sound s ws xs ≡ true) where
      sound_q : saved_sound s q ≡ true
      sound_q = saved_same ∙ f

      -- ---- a step of 01's kinds
      ordinary_met : uses_name y ≡ false → Met w₄ x₄ l₄ k₄ ws₄ xs₄
      unfolding plan_of
      ordinary_met u = record {
        calls = record {
          answers = answer ∙ sym (ordinary_answer s q y u sound_q);
          moves = same_machine (stays a plan) ∙ ap (λ (z : World). record { now = z; saved = saved_of s ws xs }) h.steps ∙ sym (ordinary_move s q y u sound_q);
        };
        refuses = λ r. unchanged a plan (sym (ap answer_number answer) ∙ r);
        keeps = λ _. same_records (stays a plan) ∙ h.keeps;
      }
        where
          plan : p ≡ staying a
          plan = rw u

          answer : p.answer ≡ a
          answer = ap (λ (g : Plan). g.answer) plan

      -- ---- a save or a return
      module _ (u : uses_name y ≡ true) where
        a_told : a ≡ Refused (or_refuse (world_sound s q.now) 1 2)
        a_told = name_answered s q y u

        four : answer_number a ≡ 4
        four = ap answer_number a_told

        now_unsound_met : world_sound s q.now ≡ false → Met w₄ x₄ l₄ k₄ ws₄ xs₄
        unfolding plan_of
        now_unsound_met g = refused_met 1 plan four (sym (name_answer s q y u ∙ rw g))
          where
            plan : p ≡ staying (Refused 1)
            plan = rw (a_told, u, g)

        module _ (g : world_sound s q.now ≡ true) where
          plan_named : p ≡ name_plan s ws y
          unfolding plan_of
          plan_named = rw (a_told, u, g)

          answered_by : (b : Bool) → named q y ≡ b → answer_to s q y ≡ cond b Done (Refused 11)
          answered_by b e = name_answer s q y u ∙ rw (g, sound_q, e)

          moved_by_law : named q y ≡ true → moved s q y ≡ cond (is_save y) (savingMove q y.place) (returningMove q y.place)
          moved_by_law e = name_move s q y u ∙ rw (g, sound_q, e)

          -- the name is above 3
          above_met : ltb y.place names ≡ false → Met w₄ x₄ l₄ k₄ ws₄ xs₄
          unfolding name_plan named
          above_met e = refused_met 11 plan four (sym (answered_by false not_named))
            where
              plan : p ≡ staying (Refused 11)
              plan = plan_named ∙ rw e

              not_named : named q y ≡ false
              not_named = rw (u, e)

          module _ (e : ltb y.place names ≡ true) where
            below : y.place < names
            below = ltb-true _ _ e

            same : (h.w₁ ≡ w) × ((h.x₁ ≡ x) × ((h.l₁ ≡ l) × (h.k₁ ≡ k)))
            same = h.refuses four

            copies_many : length l ≡ s.clients * s.objects
            copies_many = copies_counted s q.now g

            requests_many : length k ≡ s.clients
            requests_many = requests_counted s q.now g

            copies_room : (w x : List ℕ) → s.clients * s.objects ≤ length (records_of w x).copies
            copies_room w x = rw (all_copies w x) (few_copies s (in_range_law s q.now g))

            requests_room : (w x : List ℕ) → s.clients ≤ length (records_of w x).requests
            requests_room w x = rw (all_requests w x) (ranges s (in_range_law s q.now g)).clients.1

            save_met : is_save y ≡ true → Met w₄ x₄ l₄ k₄ ws₄ xs₄
            unfolding name_plan named Applied
            save_met i = record {
              calls = record {
                answers = answer ∙ sym (answered_by true yes);
                moves = kept_same now after ∙ sym (moved_by_law yes ∙ rw i);
              };
              refuses = λ r. done_refuses (sym (ap answer_number answer) ∙ r);
              keeps = λ n. not_both u n;
            }
              where
                plan : p ≡ saving s y.place
                plan = plan_named ∙ rw (e, i)

                answer : p.answer ≡ Done
                answer = ap (λ (g : Plan). g.answer) plan

                yes : named q y ≡ true
                yes = rw (u, e, save_no_return y i)

                did : Same h.w₃ h.x₂ w₄ x₄ × Saves h.w₃ h.x₂ ws xs y.place ws₄ xs₄
                did = subst (λ (g : Plan). Applied g.act h.w₃ h.x₂ ws xs w₄ x₄ ws₄ xs₄) plan h.applied

                tables : tables_of h.w₃ h.x₂ ≡ tables_of w x
                tables = h.requests_tables h.x₂ ∙ h.copies_tables ∙ rw (same.0, same.1.0)

                records : records_of h.w₃ h.x₂ ≡ record {
                  copies = overlay no_copy (records_of w x).copies l (s.clients * s.objects);
                  requests = overlay no_request (records_of w x).requests k s.clients;
                }
                records = h.requests_records h.x₂ ∙ rw (h.copies_records, plan, same.0, same.1.0, same.1.1.0, same.1.1.1)

                -- the state that is saved
                stored : world_of s h.w₃ h.x₂ ≡ q.now
                stored = rw (
                  tables,
                  records,
                  stored_first no_copy (records_of w x).copies l (s.clients * s.objects) copies_many (copies_room w x),
                  stored_first no_request (records_of w x).requests k s.clients requests_many (requests_room w x),
                )

                now : world w₄ x₄ l₄ k₄ ≡ q.now
                now = rw (
                  did.0.words,
                  did.0.values,
                  tables,
                  h.copies,
                  h.requests,
                  plan,
                  overlay_none no_copy h.l₁ (records_of w₄ x₄).copies,
                  overlay_none no_request h.k₁ (requests_of w₄),
                  same.1.1.0,
                  same.1.1.1,
                )

                after : saved_of s ws₄ xs₄ ≡ set (saved_of s ws xs) y.place (state q.now)
                after = saves_world s h.w₃ h.x₂ ws xs y.place ws₄ xs₄ below did.1 ∙ ap (λ (z : World). set (saved_of s ws xs) y.place (state z)) stored

            module _ (i : is_save y ≡ false) where
              returns : is_return y ≡ true
              returns = ⊎_elim (λ t. not_both t i) (λ t. t) (or_true _ _ u)

              return_met : is_saved (get_or ws y.place []) ≡ true → Met w₄ x₄ l₄ k₄ ws₄ xs₄
              unfolding name_plan named Applied
              return_met t = record {
                calls = record {
                  answers = answer ∙ sym (answered_by true yes);
                  moves = kept_same now after ∙ sym (moved_by_law yes ∙ rw (i, there));
                };
                refuses = λ r. done_refuses (sym (ap answer_number answer) ∙ r);
                keeps = λ n. not_both u n;
              }
                where
                  plan : p ≡ returning s y.place
                  plan = plan_named ∙ rw (e, i, t)

                  answer : p.answer ≡ Done
                  answer = ap (λ (g : Plan). g.answer) plan

                  there : saved_under q y.place ≡ state (world_of s (get_or ws y.place []) (get_or xs y.place []))
                  there = saved_at s ws xs y.place below ∙ rw t

                  yes : named q y ≡ true
                  yes = rw (u, e, returns, there)

                  did : Restores w₄ x₄ ws xs y.place × SameSaved ws xs ws₄ xs₄
                  did = subst (λ (g : Plan). Applied g.act h.w₃ h.x₂ ws xs w₄ x₄ ws₄ xs₄) plan h.applied

                  loaded : l₄ ≡ take (s.clients * s.objects) (records_of w₄ x₄).copies
                  loaded = h.copies ∙ rw (plan, same.1.1.0) (replaced no_copy l (records_of w₄ x₄).copies (s.clients * s.objects) copies_many (copies_room w₄ x₄))

                  asked_again_law : k₄ ≡ take s.clients (records_of w₄ x₄).requests
                  asked_again_law = h.requests ∙ rw (plan, same.1.1.1, requests_alone w₄ x₄)
                      (replaced no_request k (records_of w₄ x₄).requests s.clients requests_many (requests_room w₄ x₄))

                  now : world w₄ x₄ l₄ k₄ ≡ world_of s (get_or ws y.place []) (get_or xs y.place [])
                  now = rw (loaded, asked_again_law) (restores_world s w₄ x₄ ws xs y.place did.0)

                  after : saved_of s ws₄ xs₄ ≡ saved_of s ws xs
                  after = rw (did.1.words, did.1.values)

              -- nothing was ever saved there
              never_met : is_saved (get_or ws y.place []) ≡ false → Met w₄ x₄ l₄ k₄ ws₄ xs₄
              unfolding name_plan named
              never_met t = refused_met 11 plan four (sym (answered_by false no))
                where
                  plan : p ≡ staying (Refused 11)
                  plan = plan_named ∙ rw (e, i, t)

                  there : saved_under q y.place ≡ never
                  there = saved_at s ws xs y.place below ∙ rw t

                  no : named q y ≡ false
                  no = rw (u, e, returns, there)

          name_met : Met w₄ x₄ l₄ k₄ ws₄ xs₄
          name_met =
              ⊎_elim (λ e. ⊎_elim (save_met e) (λ i. ⊎_elim (return_met e i) (never_met e i) (true_or_false (is_saved (get_or ws y.place [])))) (true_or_false (is_save y)))
              above_met (true_or_false (ltb y.place names))

      -- ---- all steps
      pub met : Met w₄ x₄ l₄ k₄ ws₄ xs₄
      met = ⊎_elim named_met ordinary_met (true_or_false (uses_name y))
        where
          named_met : uses_name y ≡ true → Met w₄ x₄ l₄ k₄ ws₄ xs₄
          named_met u = ⊎_elim (name_met u) (now_unsound_met u) (true_or_false (world_sound s q.now))

-- ---- what each call promises, in the order of the calls: b is the answer by the rules of 01, p the plan
module _ (s : Setup) (w x : List ℕ) (l : List Copy) (k : List Request) (ws xs : List (List ℕ)) (y : Step) (b : Answer) (p : Plan)
    (g : b ≡ answer_of s (world w x l k) y) (h : p ≡ plan_of s b ws y) where
  pub plan_is : p ≡ planned s (world w x l k) ws y
  plan_is = h ∙ ap (λ (z : Answer). plan_of s z ws y) g

  module _ (w₁ x₁ : List ℕ) (l₁ : List Copy) (k₁ : List Request) (w₂ x₂ w₃ w₄ x₄ : List ℕ) (l₄ : List Copy) (k₄ : List Request) (ws₄ xs₄ : List (List ℕ)) where
    pub leaves : world w₁ x₁ l₁ k₁ ≡ stepped s (world w x l k) y → (answer_number b ≡ 4 → (w₁ ≡ w) × ((x₁ ≡ x) × ((l₁ ≡ l) × (k₁ ≡ k))))
        → records_of w₁ x₁ ≡ records_of w x → tables_of w₂ x₂ ≡ tables_of w₁ x₁
        → records_of w₂ x₂ ≡ with_copies (records_of w₁ x₁) (overlay no_copy (records_of w₁ x₁).copies l₁ p.copies_saved)
        → (p.copies_saved ≡ 0 → (w₂ ≡ w₁) × (x₂ ≡ x₁)) → ((z : List ℕ) → tables_of w₃ z ≡ tables_of w₂ z)
        → ((z : List ℕ) → records_of w₃ z ≡ with_requests (records_of w₂ z) (overlay no_request (records_of w₂ z).requests k₁ p.requests_saved))
        → (p.requests_saved ≡ 0 → w₃ ≡ w₂) → Applied p.act w₃ x₂ ws xs w₄ x₄ ws₄ xs₄
        → l₄ ≡ overlay no_copy l₁ (records_of w₄ x₄).copies p.copies_restored → k₄ ≡ overlay no_request k₁ (requests_of w₄) p.requests_restored
        → Left s w x l k ws xs y w₄ x₄ l₄ k₄ ws₄ xs₄
    leaves b₀ b₁ b₂ b₃ b₄ b₅ b₆ b₇ b₈ b₉ b₁₀ b₁₁ = record {
      w₁ = w₁;
      x₁ = x₁;
      l₁ = l₁;
      k₁ = k₁;
      w₂ = w₂;
      x₂ = x₂;
      w₃ = w₃;
      steps = b₀;
      refuses = λ r. b₁ (ap answer_number g ∙ r);
      keeps = b₂;
      copies_tables = b₃;
      copies_records = rw (← plan_is) b₄;
      copies_none = rw (← plan_is) b₅;
      requests_tables = b₆;
      requests_records = rw (← plan_is) b₇;
      requests_none = rw (← plan_is) b₈;
      applied = rw (← plan_is) b₉;
      copies = rw (← plan_is) b₁₀;
      requests = rw (← plan_is) b₁₁;
    }
