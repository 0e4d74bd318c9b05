-- A history in which each event is lawful after those before it, and what follows for the whole.
-- Letters: s setup, h a history, a that it is lawful, e an event, d client, o and k objects, v and y values, u and z latest ends, T clock, b a test;
-- the others are proofs.
use Prim.Native.Nat.{ℕ, zero, suc, ◌+◌, ◌≤◌}
use native.Mathlib.Omega.{arith}
use Rattle.std.specs.Prelude.{Bool, true, false, cond, ◌≡◌, eqb}
use mathlib.Core.List.{List, [], ◌∷◌, ◌++◌, map}
use Rattle.std.proofs.Math.Path.{refl}
use Rattle.std.proofs.Common.{sym, ap, ◌∙◌, eqb-true, eq-eqb}
use Rattle.laws.specs.Choice.{not_both, or_false}
use Rattle.laws.specs.Count.{count_same}
use Rattle.protocol.specs.declared.setup.Setup.{Setup}
use Rattle.protocol.proofs.Leases.{not_over}
use Rattle.protocol.specs.Ledger.{Event, acceptance, completion, server_restart, showing, clock_step, Open, none, write, is_open, open_or, Ledger, empty_ledger, open_count, book, book_all}
use Rattle.protocol.specs.Bookkeeping.Settled.{OpenEach}
use Rattle.protocol.specs.History.{told, last_accepted, last_completed, open_in, still_open, cut_offs, how_often, is_acceptance, is_completion, is_completion_of, is_cut_off, ShowsLast, EndsInTime}
use Rattle.protocol.specs.History.Lawful.{Lawful, LawfulAll}

-- each event of a lawful history is lawful after those before it
lawful_at : (s : Setup) (later : List Event) (e : Event) (before : List Event) → LawfulAll s (later ++ (e ∷ before)) → Lawful s before e × LawfulAll s before
unfolding LawfulAll
lawful_at s [] e before a = a
lawful_at s (_ ∷ later) e before a = lawful_at s later e before a.1

pub shows_last : (s : Setup) (h : List Event) → LawfulAll s h → ShowsLast h
shows_last s h a later before d o v q = (lawful_at s later (showing d o v) before (rw q at a)).0

-- ---- a write that is neither completed nor cut off is still open
not_counted : (b : Bool) (n : ℕ) → cond b 1 0 + n ≡ 0 → (b ≡ false) × (n ≡ 0)
not_counted true n q = absurd (omega arith)
not_counted false n q = (refl, omega arith)

never_both {ℓ} : {A : Type ℓ} (found : Open) (v u : ℕ) → found ≡ none → found ≡ write v u → A
never_both found v u p q = absurd (let r : ◌≡◌ {A = ℕ} 0 1 = cc in omega arith)

module _ (s : Setup) (o v u : ℕ) where
  stays_open : (between older : List Event) → LawfulAll s (between ++ (acceptance o v u ∷ older))
      → how_often (is_completion_of o) between ≡ 0 → is_cut_off o between ≡ false → open_in o (between ++ (acceptance o v u ∷ older)) ≡ write v u
  unfolding LawfulAll open_in how_often is_cut_off
  stays_open [] older a p q = rw (eq-eqb o o refl)
  stays_open (acceptance k y z ∷ between) older a p q = go (eqb o k) refl (stays_open between older a.1 (omega arith) q)
    where
      before : List Event
      before = between ++ (acceptance o v u ∷ older)

      go : (b : Bool) → eqb o k ≡ b → open_in o before ≡ write v u → cond b (write y z) (open_in o before) ≡ write v u
      go true f i = never_both (open_in o before) v u (ap (λ (j : ℕ). open_in j before) (eqb-true o k f) ∙ a.0.1) i
      go false f i = i
  stays_open (completion k ∷ between) older a p q =
      let f = not_counted (eqb o k) (how_often (is_completion_of o) between) p in
      rw f.0 (stays_open between older a.1 f.1 q)
  stays_open (server_restart ∷ between) older a p q =
      let f = or_false (eqb (how_often (is_completion_of o) between) 0) (is_cut_off o between) q in
      not_both (eq-eqb (how_often (is_completion_of o) between) 0 (omega arith)) f.0
  stays_open (showing _ _ _ ∷ between) older a p q = stays_open between older a.1 (omega arith) q
  stays_open (clock_step _ ∷ between) older a p q = stays_open between older a.1 (omega arith) q

pub ends_in_time : (s : Setup) (h : List Event) → LawfulAll s h → EndsInTime h
unfolding LawfulAll
ends_in_time s h a later between older T o v u q p f = go (how_often (is_completion_of o) between) refl
  where
    at : Lawful s (between ++ (acceptance o v u ∷ older)) (clock_step T) × LawfulAll s (between ++ (acceptance o v u ∷ older))
    at = lawful_at s later (clock_step T) (between ++ (acceptance o v u ∷ older)) (rw q at a)

    go : (n : ℕ) → how_often (is_completion_of o) between ≡ n → 1 ≤ n
    go zero i =
        let first = lawful_at s between (acceptance o v u) older at.1 in
        let below = not_over T u (at.0 o v u first.0.0 (stays_open s o v u between older at.1 i f)) in
        absurd (omega arith)
    go (suc n) i = omega arith

pub told_append : (es fs past : List Event) → told (es ++ fs) past ≡ told fs (told es past)
unfolding told
told_append [] fs past = refl
told_append (e ∷ es) fs past = told_append es fs (e ∷ past)

-- the value of an open write is that of the write accepted last
open_value : (h : List Event) (o old : ℕ) → is_open (open_in o h) ≡ true → open_or old (open_in o h) ≡ last_accepted o h
unfolding open_in last_accepted
open_value [] o old p = not_both p refl
open_value (acceptance k v u ∷ past) o old p = go (eqb o k) p (open_value past o old)
  where
    go : (b : Bool) → is_open (cond b (write v u) (open_in o past)) ≡ true → (is_open (open_in o past) ≡ true → open_or old (open_in o past) ≡ last_accepted o past)
        → open_or old (cond b (write v u) (open_in o past)) ≡ cond b v (last_accepted o past)
    go true q r = refl
    go false q r = r q
open_value (completion k ∷ past) o old p = go (eqb o k) p (open_value past o old)
  where
    go : (b : Bool) → is_open (cond b none (open_in o past)) ≡ true → (is_open (open_in o past) ≡ true → open_or old (open_in o past) ≡ last_accepted o past)
        → open_or old (cond b none (open_in o past)) ≡ last_accepted o past
    go true q r = not_both q refl
    go false q r = r q
open_value (server_restart ∷ past) o old p = not_both p refl
open_value (showing _ _ _ ∷ past) o old p = open_value past o old p
open_value (clock_step _ ∷ past) o old p = open_value past o old p

-- ---- the ledger of a history
module _ (s : Setup) where
  unfoldable pub ledger_of : List Event → Ledger
  ledger_of [] = empty_ledger
  ledger_of (e ∷ past) = book s (ledger_of past) e

  pub ledger_told : (es past : List Event) → book_all s (ledger_of past) es ≡ ledger_of (told es past)
  unfolding book_all ledger_of told
  ledger_told [] past = refl
  ledger_told (e ∷ es) past = ledger_told es (e ∷ past)

  pub ledger_open : (h : List Event) (o : ℕ) → (ledger_of h).open_write o ≡ open_in o h
  unfolding ledger_of book open_in
  ledger_open [] o = refl
  ledger_open (acceptance _ _ _ ∷ past) o = rw (ledger_open past o)
  ledger_open (completion _ ∷ past) o = rw (ledger_open past o)
  ledger_open (server_restart ∷ past) o = refl
  ledger_open (showing _ _ _ ∷ past) o = ledger_open past o
  ledger_open (clock_step _ ∷ past) o = ledger_open past o

  pub ledger_posted : (h : List Event) → LawfulAll s h → (o : ℕ) → (ledger_of h).posted_value o ≡ last_completed o h
  unfolding LawfulAll ledger_of book last_completed
  ledger_posted [] a o = refl
  ledger_posted (acceptance _ _ _ ∷ past) a o = ledger_posted past a.1 o
  ledger_posted (completion k ∷ past) a o = go (eqb o k) refl (ledger_posted past a.1 o)
    where
      posted : ℕ
      posted = (ledger_of past).posted_value k

      go : (b : Bool) → eqb o k ≡ b → (ledger_of past).posted_value o ≡ last_completed o past
          → cond b (open_or posted ((ledger_of past).open_write k)) ((ledger_of past).posted_value o) ≡ cond b (last_accepted o past) (last_completed o past)
      go true q r = ap (open_or posted) (ledger_open past k) ∙ open_value past k posted a.0 ∙ sym (ap (λ (j : ℕ). last_accepted j past) (eqb-true o k q))
      go false q r = r
  ledger_posted (server_restart ∷ past) a o = ledger_posted past a.1 o
  ledger_posted (showing _ _ _ ∷ past) a o = ledger_posted past a.1 o
  ledger_posted (clock_step _ ∷ past) a o = ledger_posted past a.1 o

  pub open_counted : (h : List Event) → open_count s (ledger_of h) ≡ still_open s h
  open_counted h = count_same _ _ 0 s.objects (λ o p q. ap is_open (ledger_open h o))

  -- its tallies count the history's events
  pub record Tallied (h : List Event) : Type 0 where
    pub acceptances : (ledger_of h).accepted_count ≡ how_often is_acceptance h
    pub completions : (ledger_of h).completed_count ≡ how_often is_completion h
    pub cut_offs_law : (ledger_of h).cut_off_count ≡ cut_offs s h

  pub ledger_tallies : (h : List Event) → Tallied h
  unfolding ledger_of book how_often cut_offs
  ledger_tallies [] = record { acceptances = refl; completions = refl; cut_offs_law = refl }
  ledger_tallies (acceptance _ _ _ ∷ past) = let t = ledger_tallies past in record { acceptances = omega arith; completions = omega arith; cut_offs_law = omega arith }
  ledger_tallies (completion _ ∷ past) = let t = ledger_tallies past in record { acceptances = omega arith; completions = omega arith; cut_offs_law = omega arith }
  ledger_tallies (server_restart ∷ past) = let t = ledger_tallies past in record { acceptances = omega arith; completions = omega arith; cut_offs_law = omega (arith, open_counted past) }
  ledger_tallies (showing _ _ _ ∷ past) = let t = ledger_tallies past in record { acceptances = omega arith; completions = omega arith; cut_offs_law = omega arith }
  ledger_tallies (clock_step _ ∷ past) = let t = ledger_tallies past in record { acceptances = omega arith; completions = omega arith; cut_offs_law = omega arith }

  -- ---- lawful events on top of a lawful history
  pub completions_lawful : (os : List ℕ) (past : List Event) → OpenEach s (ledger_of past) os → LawfulAll s past → LawfulAll s (told (map completion os) past)
  unfolding LawfulAll told OpenEach ledger_of
  completions_lawful [] past p a = a
  completions_lawful (o ∷ os) past p a = completions_lawful os (completion o ∷ past) p.1 (sym (ap is_open (ledger_open past o)) ∙ p.0, a)
