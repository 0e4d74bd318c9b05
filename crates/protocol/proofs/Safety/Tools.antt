-- The laws of what later rules may change, by which alone the proofs go: the tests of time (T1 to T6), whom the server does not count on (E1, E2) and what a
-- DROPPED leaves; and laws of the standing request, of functions and of the message list.
use Rattle.std.specs.Prelude.{ℕ, zero, suc, ◌+◌, ◌<◌, ◌≤◌, min, Bool, true, false, List, [], ◌∷◌, ◌++◌, ◌⊎◌, ◌≡◌, refl, eqb, length, get_or, set}
use Rattle.std.proofs.Math.Decide.{dec_le}
use Rattle.std.proofs.Common.{arith, inl, inr, sym, ◌∙◌, ltb-true, ltb-false, lt-ltb, le-ltb, eqb-true}
use Rattle.std.proofs.Math.Logic.{⊎_elim}
use Rattle.std.proofs.Math.ListN.{get_or-append}
use Rattle.std.proofs.lemmas.Bool.{not-true}
use Rattle.laws.specs.Choice.{cond_keeps, and-true, or_true, or_yes}
use Rattle.laws.specs.Store.{set_at}
use Rattle.laws.specs.Sets.{bit_at, bit_none}
use Rattle.laws.specs.Lists.{remove_at, length_removed}
use Rattle.protocol.specs.declared.message.Message.{Message}
use Rattle.protocol.specs.declared.message.Queue.{Queue}
use Rattle.protocol.specs.declared.records.Request.{Request}
use Rattle.protocol.specs.declared.tables.Tables.{Tables}
use Rattle.protocol.specs.Messages.{blank, message_at, pushed, removed, has_room}
use Rattle.protocol.specs.Tables.{by_volume, guard_at}
use Rattle.protocol.specs.Leases.{server_alive, client_alive, client_clock, guard_passed, end_over}
use Rattle.protocol.proofs.Leases.{over_past}
use Rattle.protocol.specs.Client.{stands}
use Rattle.protocol.specs.Safety.View.{Stands, request_at, excused, left}
use Rattle.protocol.specs.Safety.Invariant.{Sent}

-- ---- time: e is an expiry by the server's clock or by client d's

-- T5: 0 is dead
pub zero_dead : (clock : ℕ) → server_alive clock 0 ≡ false
unfolding server_alive
zero_dead clock = le-ltb clock 0 (omega arith)

pub zero_dead_client : (clock : ℕ) {e : ℕ} → e ≡ 0 → client_alive clock e ≡ true → ⊥
unfolding client_alive
zero_dead_client clock {e} z p = let q = ltb-true clock e p in omega arith

-- T1, the one law that relates the two clocks: what a client holds to be alive, the server does
pub client_server : (clock d e : ℕ) → client_alive (client_clock clock d) e ≡ true → server_alive clock e ≡ true
unfolding client_alive server_alive client_clock
client_server clock d e p = p

-- T2: a later expiry is alive too
pub longer_alive : (clock : ℕ) {e f : ℕ} → e ≤ f → server_alive clock e ≡ true → server_alive clock f ≡ true
unfolding server_alive
longer_alive clock {e} {f} h p = let q = ltb-true clock e p in lt-ltb clock f (omega arith)

-- .. and so is the lesser of two that are
pub lesser_alive : (clock e f : ℕ) → server_alive clock e ≡ true → server_alive clock f ≡ true → server_alive clock (min e f) ≡ true
lesser_alive clock e f p q = go (dec_le e f)
  where
    go : Dec (e ≤ f) → server_alive clock (min e f) ≡ true
    go (yes h) = longer_alive clock (omega arith) p
    go (no h) = longer_alive clock (omega arith) q

-- T3: at a later time no more is alive
pub later_dead : (clock later e : ℕ) → clock ≤ later → server_alive clock e ≡ false → server_alive later e ≡ false
unfolding server_alive
later_dead clock later e h p = let q = ltb-false clock e p in le-ltb later e (omega arith)

pub earlier_alive : (clock later d e : ℕ) → clock ≤ later → client_alive (client_clock later d) e ≡ true → client_alive (client_clock clock d) e ≡ true
unfolding client_alive client_clock
earlier_alive clock later d e h p = let q = ltb-true later e p in lt-ltb clock e (omega arith)

-- T4: what ends by a latest end that is over is dead; so is a guard that has passed
pub over_dead : (clock end e : ℕ) → end_over clock end ≡ true → e ≤ end → server_alive clock e ≡ false
unfolding server_alive
over_dead clock end e p h = let q = over_past clock end p in le-ltb clock e (omega arith)

pub passed_dead : (t : Tables) (v : ℕ) → guard_passed t v ≡ true → server_alive t.clock (guard_at t v) ≡ false
unfolding guard_passed
passed_dead t v p = not-true _ p

-- T6: a lease is alive where it is granted
pub granted_alive : (clock d : ℕ) {length : ℕ} → 1 ≤ length → client_alive (client_clock clock d) (clock + length) ≡ true
unfolding client_alive client_clock
granted_alive clock d {length} h = lt-ltb clock (clock + length) (omega arith)

-- T7: what is dead has ended
pub dead_ended : (clock e : ℕ) → server_alive clock e ≡ false → e ≤ clock
unfolding server_alive
dead_ended clock e p = ltb-false clock e p

-- ---- E1: a mark excuses the client for every object of the volume, E2: a note for one, neither for none; and other marks and notes do not matter
module _ (un : List Bool) (notes : List ℕ) (d v o : ℕ) where
  pub marked_excused : get_or un (by_volume d v) false ≡ true → excused un notes d v o ≡ true
  unfolding excused
  marked_excused e = rw e

  pub noted_excused : bit_at (get_or notes (by_volume d v) 0) o ≡ true → excused un notes d v o ≡ true
  unfolding excused
  noted_excused e = rw e (sym (or_yes (get_or un (by_volume d v) false)))

  pub unmarked_trusted : get_or un (by_volume d v) false ≡ false → get_or notes (by_volume d v) 0 ≡ 0 → excused un notes d v o ≡ false
  unfolding excused
  unmarked_trusted e f = rw (e, f) (bit_none o)

  pub excused_grows : (un' : List Bool) (notes' : List ℕ) → (get_or un (by_volume d v) false ≡ true → excused un' notes' d v o ≡ true)
      → (bit_at (get_or notes (by_volume d v) 0) o ≡ true → excused un' notes' d v o ≡ true) → excused un notes d v o ≡ true → excused un' notes' d v o ≡ true
  unfolding excused
  excused_grows un' notes' f g e = ⊎_elim f g (or_true _ _ e)

-- ---- what a DROPPED leaves of a lease: no more than there was, and no less of a longer one

pub left_below : (lease : ℕ) → left lease ≤ lease
unfolding left
left_below lease = omega arith

pub left_grows : {lease lease' : ℕ} → lease ≤ lease' → left lease ≤ left lease'
unfolding left
left_grows h = omega arith

-- .. and nothing at all
pub left_none : (lease : ℕ) → left lease ≡ 0
unfolding left
left_none lease = refl

-- ---- the standing request

pub stands_true : (requests : List Request) (d n : ℕ) → stands (request_at requests d) n ≡ true → Stands requests d n
unfolding stands
stands_true requests d n e =
    let a = and-true (request_at requests d).standing (eqb (request_at requests d).number n) e in
    record { there = a.0; same = eqb-true _ _ a.1 }

-- ---- the message list

pub sent_pushed : (q : Queue) (g m : Message) → length q.items ≡ 64 → Sent (pushed q g) m → Sent q m ⊎ (m ≡ g)
unfolding pushed
sent_pushed q g m n = cond_keeps (λ (r : Queue). Sent r m → Sent q m ⊎ (m ≡ g)) (has_room q) room (λ e z. inl z)
  where
    room : has_room q ≡ true → Sent (record { items = set q.items q.len g; len = q.len + 1 }) m → Sent q m ⊎ (m ≡ g)
    room e z =
        let h = ltb-true q.len 64 e in
        ⊎_elim (λ a. inr (sym z.there ∙ a.1))
        (λ a. let k = z.below in let i : z.place < q.len = omega (arith, a.0) in inl (record { place = z.place; below = i; there = sym a.1 ∙ z.there }))
        (set_at q.items q.len g z.place blank (omega arith))

-- an element of a list without one
removed_at : {A : Type 0} (l : List A) (i j : ℕ) (y : A) → (get_or (remove_at l i) j y ≡ get_or l j y) ⊎ (get_or (remove_at l i) j y ≡ get_or l (suc j) y)
unfolding remove_at
removed_at [] i j y = inl refl
removed_at (x ∷ l) zero j y = inr refl
removed_at (x ∷ l) (suc i) zero y = inl refl
removed_at (x ∷ l) (suc i) (suc j) y = removed_at l i j y

pub sent_removed : (q : Queue) (i : ℕ) (m : Message) → length q.items ≡ 64 → q.len ≤ 64 → i < q.len → Sent (removed q i) m → Sent q m
unfolding removed
sent_removed q i m n k h z =
    let b = z.below in
    let c = length_removed q.items i (omega arith) in
    let e : get_or (remove_at q.items i ++ (blank ∷ [])) z.place blank ≡ get_or (remove_at q.items i) z.place blank =
    get_or-append (remove_at q.items i) (blank ∷ []) blank z.place (omega arith) in
    ⊎_elim (λ a. record { place = z.place; below = omega arith; there = sym (e ∙ a) ∙ z.there })
    (λ a. record { place = suc z.place; below = omega arith; there = sym (e ∙ a) ∙ z.there })
    (removed_at q.items i z.place blank)

pub sent_at_law : (q : Queue) (i : ℕ) → i < q.len → Sent q (message_at q i)
sent_at_law q i h = record { place = i; below = h; there = refl }
