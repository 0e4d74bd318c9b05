-- 02, A7: "Returning restores all tables, messages, counters and clock exactly, but not the four saved states." Of every list of steps: what a return restores is
-- what was saved last under its name.
-- Letters: s setup, q a machine, ys the steps before the save x, zs those between it and the return y, n a name or the number of a step, w world, e an entry.
use Rattle.std.specs.Prelude.{ℕ, suc, ◌+◌, ◌<◌, true, ◌≡◌, refl, length}
use Rattle.std.proofs.Common.{arith, sym, ◌∙◌}
use mathlib.Core.List.{List, [], ◌∷◌, ◌++◌, map, map-append, append_assoc}
use Rattle.std.proofs.Math.Path.{ap}
use borrow.Author.Tests.{lt-ltb}
use Rattle.laws.specs.Choice.{cond_keeps}
use Rattle.laws.specs.Lists.{All}
use Rattle.laws.specs.Line.{state, Kept, start, saved_under, Act, save, back, along, longer, saved_as, under_as, Elsewhere, along_on, length_along, saved_stays, returned}
use Rattle.protocol.specs.declared.setup.Setup.{Setup}
use Rattle.protocol.specs.declared.step.Step.{Step}
use Rattle.protocol.specs.Setup.{in_range}
use Rattle.protocol.specs.Answers.{is_refused}
use Rattle.protocol.specs.Ledger.{Books}
use Rattle.protocol.proofs.Soundness.Question.{sounds}
use Rattle.protocol.specs.Saved.{Machine, names, fresh_machine, is_save, uses_name, is_there, named, refusal_in, answer_to, moved, moved_by}
use Rattle.protocol.specs.Line.{act_of, Entry, entries_from, entries, entry_act, step_lines, present_line, ran_by, booked_by}
use Rattle.protocol.specs.SavedLaws.{SoundMachine}
use Rattle.protocol.proofs.SavedLaws.{name_refusal, saved_sounds, machine_sound_law, fresh_machine_sound}
use Rattle.protocol.proofs.Along.{run_joined}
use Rattle.protocol.specs.Returned.{SavesElsewhere, through, Restored}

-- ---- a list goes on where another one ended
moved_on : (s : Setup) (xs ys : List Step) (q : Machine) → moved_by s q (xs ++ ys) ≡ moved_by s (moved_by s q xs) ys
unfolding moved_by
moved_on s [] ys q = refl
moved_on s (x ∷ xs) ys q = moved_on s xs ys (moved s q x)

next_number : (n k : ℕ) → n + 1 + k ≡ n + suc k
next_number n k = omega arith

entries_on : (s : Setup) (xs ys : List Step) (q : Machine) (n : ℕ) → entries_from s q n (xs ++ ys) ≡ entries_from s q n xs ++ entries_from s (moved_by s q xs) (n + length xs) ys
unfolding entries_from moved_by
entries_on s [] ys q n = ap (λ (k : ℕ). entries_from s q k ys) (omega arith)
entries_on s (x ∷ xs) ys q n =
    ap (◌∷◌ (record { number = n; step = x; answer = answer_to s q x }))
    (entries_on s xs ys (moved s q x) (n + 1)
    ∙ ap (λ (k : ℕ). entries_from s (moved s q x) (n + 1) xs ++ entries_from s (moved_by s (moved s q x) xs) k ys) (next_number n (length xs)))

lines_on : (s : Setup) (xs ys : List Step)
    → step_lines (entries s (xs ++ ys)) ≡ along longer (step_lines (entries s xs)) (map entry_act (entries_from s (moved_by s (fresh_machine s) xs) (1 + length xs) ys))
lines_on s xs ys =
    let rest : List Entry = entries_from s (moved_by s (fresh_machine s) xs) (1 + length xs) ys in
    ap step_lines (entries_on s xs ys (fresh_machine s) 1)
    ∙ ap (along longer (start names [])) (map-append entry_act (entries s xs) rest)
    ∙ along_on longer (start names []) (map entry_act (entries s xs)) (map entry_act rest)

-- ---- a save, and a return to what is there, are accepted
module _ (s : Setup) (i : in_range s ≡ true) (q : Machine) (h : SoundMachine s q) (x : Step) (below : x.place < names) where
  save_accepted : x.kind ≡ 10 → refusal_in s q x ≡ 0
  unfolding named
  save_accepted e = name_refusal s q x (rw e) ∙ rw (sounds s q.now h.now i, saved_sounds s i q h, lt-ltb x.place names below, e)

  return_accepted : x.kind ≡ 11 → is_there (saved_under q x.place) ≡ true → refusal_in s q x ≡ 0
  unfolding named
  return_accepted e there = name_refusal s q x (rw e) ∙ rw (sounds s q.now h.now i, saved_sounds s i q h, lt-ltb x.place names below, there, e)

  -- their acts; y stands for the step
  save_act : {Y : Type 0} (y : Y) → x.kind ≡ 10 → act_of y x (answer_to s q x) ≡ save x.place
  unfolding answer_to
  save_act y e = rw (save_accepted e, e)

  return_act : {Y : Type 0} (y : Y) → x.kind ≡ 11 → is_there (saved_under q x.place) ≡ true → act_of y x (answer_to s q x) ≡ back x.place
  unfolding answer_to
  return_act y e there = rw (return_accepted e there, e)

-- ---- steps that save nothing under n
elsewhere : (s : Setup) (n : ℕ) (zs : List Step) (q : Machine) (k : ℕ) → All (SavesElsewhere n) zs → All (Elsewhere n) (map entry_act (entries_from s q k zs))
unfolding All entries_from
elsewhere s n [] q k h = tt
elsewhere s n (z ∷ zs) q k h = (act, elsewhere s n zs (moved s q z) (k + 1) h.1)
  where
    act : Elsewhere n (entry_act (record { number = k; step = z; answer = answer_to s q z }))
    act =
        cond_keeps (Elsewhere n) (uses_name z) (λ _.
        cond_keeps (Elsewhere n) (is_refused (answer_to s q z)) (λ _. tt) (λ _.
        cond_keeps (Elsewhere n) (is_save z) (λ e. h.0 e) (λ _. tt))) (λ _. tt)

-- ---- from the save to the return
module _ (s : Setup) (i : in_range s ≡ true) (ys : List Step) (x : Step) (zs : List Step) (y : Step) (hx : x.kind ≡ 10) (hy : y.kind ≡ 11)
    (same : y.place ≡ x.place) (below : x.place < names) (others : All (SavesElsewhere x.place) zs) where
  abbrev n : ℕ
  n = x.place

  -- before the save, and before the return
  abbrev q : Machine
  q = moved_by s (fresh_machine s) ys

  abbrev r : Machine
  r = moved_by s (fresh_machine s) (ys ++ (x ∷ zs))

  q_sound : SoundMachine s q
  q_sound = machine_sound_law s i ys (fresh_machine s) (fresh_machine_sound s i)

  r_sound : SoundMachine s r
  r_sound = machine_sound_law s i (ys ++ (x ∷ zs)) (fresh_machine s) (fresh_machine_sound s i)

  abbrev lined : Kept (List Entry)
  lined = step_lines (entries s ys)

  abbrev between : List (Act Entry)
  between = map entry_act (entries_from s (moved s q x) (1 + length ys + 1) zs)

  left_alone : All (Elsewhere n) between
  left_alone = elsewhere s n zs (moved s q x) (1 + length ys + 1) others

  four : n < length lined.saved
  four = rw (length_along longer (start names []) (map entry_act (entries s ys))) below

  -- the lines before the return
  saved_acts : map entry_act (entries_from s q (1 + length ys) (x ∷ zs)) ≡ save n ∷ between
  unfolding entries_from
  saved_acts = ap (λ (a : Act Entry). a ∷ between) (save_act s i q q_sound x below _ hx)

  lines_then : step_lines (entries s (ys ++ (x ∷ zs))) ≡ along longer lined (save n ∷ between)
  lines_then = lines_on s ys (x ∷ zs) ∙ ap (along longer lined) saved_acts

  -- so the state is there
  under : saved_under r n ≡ state (ran_by s (present_line s ys))
  under =
      ap (λ (p : Machine). saved_under p n) (run_joined s i (ys ++ (x ∷ zs))).runs
      ∙ under_as (ran_by s) (step_lines (entries s (ys ++ (x ∷ zs)))) n
      ∙ ap (λ (k : Kept (List Entry)). saved_as (ran_by s) (saved_under k n)) lines_then
      ∙ ap (saved_as (ran_by s)) (saved_stays longer lined between n four left_alone)

  there : is_there (saved_under r y.place) ≡ true
  there = rw (same, under)

  below_too : y.place < names
  below_too = rw same below

  -- .. and the lines after it
  back_act : map entry_act (entries_from s r (1 + length (ys ++ (x ∷ zs))) (y ∷ [])) ≡ back n ∷ []
  unfolding entries_from
  back_act = ap (λ (a : Act Entry). a ∷ []) (return_act s i r r_sound y below_too _ hy there ∙ ap back same)

  whole : through ys x zs y ≡ (ys ++ (x ∷ zs)) ++ (y ∷ [])
  whole = sym (append_assoc ys (x ∷ zs) (y ∷ []))

  lines_back : step_lines (entries s (through ys x zs y)) ≡ along longer lined ((save n ∷ between) ++ (back n ∷ []))
  lines_back =
      ap (λ (xs : List Step). step_lines (entries s xs)) whole
      ∙ lines_on s (ys ++ (x ∷ zs)) (y ∷ [])
      ∙ ap (along longer (step_lines (entries s (ys ++ (x ∷ zs))))) back_act
      ∙ ap (λ (k : Kept (List Entry)). along longer k (back n ∷ [])) lines_then
      ∙ sym (along_on longer lined (save n ∷ between) (back n ∷ []))

  same_line : present_line s (through ys x zs y) ≡ present_line s ys
  same_line = ap (λ (k : Kept (List Entry)). k.now) lines_back ∙ returned longer lined between n four left_alone

  kept_saved : (moved_by s (fresh_machine s) (through ys x zs y)).saved ≡ r.saved
  unfolding moved_by moved
  kept_saved =
      ap (λ (xs : List Step). (moved_by s (fresh_machine s) xs).saved) whole
      ∙ ap (λ (p : Machine). p.saved) (moved_on s (ys ++ (x ∷ zs)) (y ∷ []) (fresh_machine s))
      ∙ rw (return_accepted s i r r_sound y below_too hy there, hy)

  pub restored : Restored s ys x zs y
  restored = record {
    now =
        ap (λ (p : Machine). p.now) (run_joined s i (through ys x zs y)).runs
        ∙ ap (ran_by s) same_line
        ∙ sym (ap (λ (p : Machine). p.now) (run_joined s i ys).runs);
    saved = kept_saved;
    line = same_line;
    ledger =
        ap (λ (p : Kept Books). p.now) (run_joined s i (through ys x zs y)).books
        ∙ ap (booked_by s) same_line
        ∙ sym (ap (λ (p : Kept Books). p.now) (run_joined s i ys).books);
  }
