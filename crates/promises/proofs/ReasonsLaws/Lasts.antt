-- The last event is saved and restored with the state: kept beside each state, it is the one of that state's line.
-- Letters: s setup, xs steps, x one more, q the machine that it meets, a its answer, n its number or a name, e its entry, d client, o object, k the last events,
-- ls the lines, l a line.
use Rattle.std.specs.Prelude.{ℕ, ◌+◌, ◌<◌, Bool, cond, not, ◌&&◌, ◌||◌, List, [], ◌∷◌, ◌++◌, map, ◌≡◌, ltb, length, get_or, set, Option}
use Rattle.std.proofs.Common.{arith, ⊎_elim, sym, ap, ◌∙◌, length-set, get_or-set_same, get_or-set_other, ltb-true}
use Rattle.std.proofs.Math.Bool.{true, false}
use Rattle.std.proofs.lemmas.List.{map-append, length-replicate}
use Rattle.std.proofs.Math.Path.{refl}
use Rattle.laws.specs.Choice.{and-true, not_both, same?}
use Rattle.laws.specs.Each.{each_get_d, each_replicate}
use Rattle.laws.specs.Line.{Saved, never, state, Kept, start, saved_under, state_or, go, save, back, idle, follow, longer, along, along_on, length_along, made, OfSaved, saved_as, under_as}
use Rattle.protocol.specs.declared.setup.Setup.{Setup}
use Rattle.protocol.specs.declared.step.Answer.{Answer}
use Rattle.protocol.specs.declared.step.Answer.TheVariants.{Done, Refused}
use Rattle.protocol.specs.declared.step.Step.{Step}
use Rattle.protocol.specs.Setup.{in_range}
use Rattle.protocol.specs.Answers.{is_refused}
use Rattle.protocol.specs.Safety.View.{copy_at, request_at}
use Rattle.protocol.specs.Saved.{Machine, names, fresh_machine, is_save, is_return, uses_name, world_sound, saved_sound, is_there, named, answer_to, moved, moved_by}
use Rattle.protocol.proofs.SavedLaws.{or_yes_right, ordinary_answer, ordinary_move, name_answer, saved_sounds}
use Rattle.protocol.specs.Line.{act_of, Entry, entries_from, entries, entry_act, step_lines, accounts, ran_by}
use Rattle.protocol.specs.Along.{Joined}
use Rattle.protocol.proofs.Along.{run_joined}
use Rattle.promises.specs.declared.reasons.Event.{Event}
use Rattle.promises.specs.declared.reasons.Last.{Last}
use Rattle.promises.specs.declared.reasons.Lasts.{Lasts}
use Rattle.promises.specs.Reasons.Events.{no_event, latest, last_of, event_of}
use Rattle.promises.specs.Reasons.ByAnswer.{event_by}
use Rattle.promises.proofs.ReasonsLaws.ByAnswer.{event_told}
use Rattle.promises.proofs.ReasonsLaws.Told.{last_longer}
use Rattle.promises.specs.Reasons.Lasts.{no_events, followed, NameKnown, entry_of, Follows}

-- ---- a list that grows by a step
pub moved_snoc : (s : Setup) (q : Machine) (xs : List Step) (x : Step) → moved_by s q (xs ++ (x ∷ [])) ≡ moved s (moved_by s q xs) x
unfolding moved_by
moved_snoc s q [] x = refl
moved_snoc s q (y ∷ xs) x = moved_snoc s (moved s q y) xs x

entries_snoc : (s : Setup) (q : Machine) (n : ℕ) (xs : List Step) (x : Step)
    → entries_from s q n (xs ++ (x ∷ [])) ≡ entries_from s q n xs ++ (record { number = length xs + n; step = x; answer = answer_to s (moved_by s q xs) x } ∷ [])
unfolding entries_from moved_by
entries_snoc s q n [] x =
    let e : 0 + n ≡ n = omega arith in
    rw e
entries_snoc s q n (y ∷ xs) x =
    let e : length (y ∷ xs) + n ≡ length xs + (n + 1) = omega arith in
    rw e (ap (◌∷◌ (record { number = n; step = y; answer = answer_to s q y })) (entries_snoc s (moved s q y) (n + 1) xs x))

lines_snoc : (s : Setup) (xs : List Step) (x : Step) → step_lines (entries s (xs ++ (x ∷ []))) ≡ follow longer (step_lines (entries s xs)) (entry_act (entry_of s xs x))
unfolding along
lines_snoc s xs x =
    ap step_lines (entries_snoc s (fresh_machine s) 1 xs x)
    ∙ ap (along longer (start names [])) (map-append entry_act (entries s xs) (entry_of s xs x ∷ []))
    ∙ along_on longer (start names []) (map entry_act (entries s xs)) (entry_act (entry_of s xs x) ∷ [])

-- ---- each state has the last event of its line
state_is : {A : Type 0} (a b : A) → ◌≡◌ {A = Saved A} (state a) (state b) → a ≡ b
state_is a b e = cc

module _ (s : Setup) (d o : ℕ) (ls : Kept (List Entry)) (k : Lasts) (h : Follows s d o ls k) where
  goes : (e : Entry) (l : Option Last) → l ≡ last_of s d o (longer ls.now e) → Follows s d o (follow longer ls (go e)) (followed k (go l))
  goes e l p = record { now = p; many = h.many; saved = h.saved }

  saves : (n : ℕ) → n < names → length ls.saved ≡ names → Follows s d o (follow longer ls (save n)) (followed k (save n))
  saves n p q = record { now = h.now; many = length-set k.saved n k.now ∙ h.many; saved = λ j l e. ⊎_elim (same j l e) (other j l e) (same? j n) }
    where
      same : (j : ℕ) (l : List Entry) → get_or (set ls.saved n (state ls.now)) j never ≡ state l → j ≡ n → get_or (set k.saved n k.now) j no_event ≡ last_of s d o l
      same j l e f =
          rw (f, get_or-set_same k.saved n k.now no_event (omega (arith, h.many)))
          (h.now ∙ ap (last_of s d o) (state_is _ _ (sym (get_or-set_same ls.saved n (state ls.now) never (omega arith)) ∙ (rw f at e))))

      other : (j : ℕ) (l : List Entry) → get_or (set ls.saved n (state ls.now)) j never ≡ state l → (j ≡ n → ⊥) → get_or (set k.saved n k.now) j no_event ≡ last_of s d o l
      other j l e f = get_or-set_other k.saved n j k.now no_event f ∙ h.saved j l (sym (get_or-set_other ls.saved n j (state ls.now) never f) ∙ e)

  returns : (n : ℕ) (l : List Entry) → saved_under ls n ≡ state l → Follows s d o (follow longer ls (back n)) (followed k (back n))
  returns n l e = record { now = h.saved n l e ∙ ap (λ (u : Saved (List Entry)). last_of s d o (state_or ls.now u)) (sym e); many = h.many; saved = h.saved }

-- ---- a step
module _ (s : Setup) (i : in_range s ≡ true) (d o : ℕ) (hd : d < s.clients) (ho : o < s.objects) (xs : List Step) (x : Step) where
  abbrev q : Machine
  q = moved_by s (fresh_machine s) xs

  abbrev ls : Kept (List Entry)
  ls = step_lines (entries s xs)

  abbrev a : Answer
  a = answer_to s q x

  joined : Joined s q ls (accounts s xs)
  joined = run_joined s i xs

  -- the event that the step's answer tells, and the copy before and after
  abbrev pub told : Option Event
  told = event_by d o (request_at q.now.requests d) (copy_at s q.now.copies d o) (copy_at s (moved s q x).now.copies d o) x a

  here : q.now ≡ ran_by s ls.now
  here = ap (λ (r : Machine). r.now) joined.runs

  saved_sound_law : saved_sound s q ≡ true
  saved_sound_law = saved_sounds s i q joined.sound

  told_true : uses_name x ≡ false → told ≡ event_of s q.now x d o
  told_true u = rw (ordinary_answer s q x u saved_sound_law, ordinary_move s q x u saved_sound_law) (sym (event_told s q.now x joined.sound.now d o hd ho))

  last_on : (k : Option Last) → k ≡ last_of s d o ls.now → uses_name x ≡ false → latest k (length xs + 1) told ≡ last_of s d o (longer ls.now (entry_of s xs x))
  last_on k e u =
      ap (latest k (length xs + 1)) (told_true u)
      ∙ (λ j. latest (e j) (length xs + 1) (event_of s (here j) x d o))
      ∙ sym (last_longer s d o ls.now (entry_of s xs x))

  -- an accepted save or return has a name, and what it returns to is there
  name_there : uses_name x ≡ true → is_refused a ≡ false → (ltb x.place names && (not (is_return x) || is_there (saved_under q x.place))) ≡ true
  unfolding named
  name_there u r = rw u at (pick (world_sound s q.now && saved_sound s q) (named q x) (rw (name_answer s q x u) at r))
    where
      pick : (b c : Bool) → is_refused (cond b (cond c Done (Refused 11)) (Refused 1)) ≡ false → c ≡ true
      pick true true e = refl
      pick true false e = not_both refl e
      pick false c e = not_both refl e

  line_there : (u : Saved (List Entry)) → is_there (saved_as (ran_by s) u) ≡ true → (l : List Entry) × (u ≡ state l)
  line_there never e = not_both e refl
  line_there (state l) e = (l, refl)

  returned_line : uses_name x ≡ true → is_refused a ≡ false → is_save x ≡ false → (l : List Entry) × (saved_under ls x.place ≡ state l)
  returned_line u r v = line_there _ (rw (sym under) there)
    where
      under : saved_under q x.place ≡ saved_as (ran_by s) (saved_under ls x.place)
      under = ap (λ (m : Machine). saved_under m x.place) joined.runs ∙ under_as (ran_by s) ls x.place

      there : is_there (saved_under q x.place) ≡ true
      there = rw (or_yes_right (is_save x) (is_return x) u v) at (and-true (ltb x.place names) (not (is_return x) || is_there (saved_under q x.place)) (name_there u r)).1

  pub name_known : NameKnown x a
  name_known u r = ltb-true _ _ (and-true _ _ (name_there u r)).0

  module _ (k : Lasts) (h : Follows s d o ls k) where
    abbrev next : Option Last
    next = latest k.now (length xs + 1) told

    by_act : (u r v : Bool) → (u ≡ true → r ≡ false → x.place < names) → (u ≡ true → r ≡ false → v ≡ false → (l : List Entry) × (saved_under ls x.place ≡ state l))
        → (u ≡ false → next ≡ last_of s d o (longer ls.now (entry_of s xs x)))
        → Follows s d o (follow longer ls (cond u (cond r idle (cond v (save x.place) (back x.place))) (go (entry_of s xs x))))
        (followed k (cond u (cond r idle (cond v (save x.place) (back x.place))) (go next)))
    by_act true true v f g p = h
    by_act true false true f g p = saves s d o ls k h x.place (f refl refl) (length_along longer (start names []) (map entry_act (entries s xs)))
    by_act true false false f g p = let l = g refl refl refl in returns s d o ls k h x.place l.0 l.1
    by_act false r v f g p = goes s d o ls k h (entry_of s xs x) next (p refl)

    pub follows_on : Follows s d o (step_lines (entries s (xs ++ (x ∷ [])))) (followed k (act_of next x a))
    follows_on =
        rw (lines_snoc s xs x)
        (by_act (uses_name x) (is_refused a) (is_save x) name_known returned_line (last_on k.now h.now))

-- ---- before the first step
none_under : (n : ℕ) (l : List Entry) → get_or (start names []).saved n never ≡ state l → ⊥
none_under n l e = rw e at (each_get_d (OfSaved None) (start names []).saved n never (each_replicate (OfSaved None) names never tt) tt)
  where
    None : List Entry → Type 0
    None l = ⊥

pub follows_start : (s : Setup) (d o : ℕ) → Follows s d o (step_lines (entries s [])) no_events
unfolding entries_from along made
follows_start s d o = record { now = refl; many = length-replicate names no_event; saved = λ n l e. absurd (none_under n l e) }
