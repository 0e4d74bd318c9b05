-- Lists of messages of any length, and what becomes of a message list of 64 places when such a list is sent to it.
-- Letters: q a message list, m and g messages, l and k lists of them, i a place.
use Rattle.std.specs.Prelude.{ℕ, zero, suc, ◌+◌, ◌<◌, ◌≤◌, List, [], ◌∷◌, ◌++◌, ◌⊎◌, ◌≡◌, refl, length, get_or, take}
use Rattle.std.proofs.Common.{le_of_suc-le-suc, arith, inl, inr, ⊎_elim, sym, ◌∙◌, get_or-set_same, get_or-set_other, lt-ltb}
use Rattle.protocol.specs.declared.message.Message.{Message}
use Rattle.protocol.specs.declared.message.Queue.{Queue}
use Rattle.protocol.specs.Messages.{blank, messages, pushed}
use Rattle.protocol.specs.Safety.Invariant.{Sent}
use Rattle.protocol.proofs.Safety.Tools.{sent_pushed}
use Rattle.protocol.specs.Soundness.Shape.{QueueShape}
use Rattle.protocol.proofs.Soundness.Shape.{pushed_shape}
use Rattle.any_network.specs.Network.{nothing, something, sent_at}
use Rattle.any_network.specs.Lists.{In, push_all}

pub in_append : (m : Message) (l k : List Message) → In m (l ++ k) → In m l ⊎ In m k
unfolding In
in_append m [] k h = inr h
in_append m (g ∷ l) k (inl e) = inl (inl e)
in_append m (g ∷ l) k (inr h) = ⊎_elim (λ a. inl (inr a)) inr (in_append m l k h)

pub in_left : (m : Message) (l k : List Message) → In m l → In m (l ++ k)
unfolding In
in_left m [] k h = absurd h
in_left m (g ∷ l) k (inl e) = inl e
in_left m (g ∷ l) k (inr h) = inr (in_left m l k h)

-- what arrives is in the list
pub sent_in : (l : List Message) (i : ℕ) → (sent_at l i ≡ nothing) ⊎ ((m : Message) × In m l × (sent_at l i ≡ something m))
unfolding sent_at In
sent_in [] i = inl refl
sent_in (m ∷ l) zero = inr (m, inl refl, refl)
sent_in (m ∷ l) (suc i) = ⊎_elim inl (λ a. inr (a.0, inr a.1, a.2)) (sent_in l i)

pub push_shape : (q : Queue) (l : List Message) → QueueShape q → QueueShape (push_all q l)
unfolding push_all
push_shape q [] h = h
push_shape q (m ∷ l) h = push_shape (pushed q m) l (pushed_shape q m h)

-- whatever is in the message list then was there before or was sent
pub sent_all : (q : Queue) (l : List Message) (m : Message) → QueueShape q → Sent (push_all q l) m → Sent q m ⊎ In m l
unfolding push_all In
sent_all q [] m h z = inl z
sent_all q (g ∷ l) m h z =
    ⊎_elim (λ a. ⊎_elim inl (λ e. inr (inl e)) (sent_pushed q g m h.items a)) (λ a. inr (inr a)) (sent_all (pushed q g) l m (pushed_shape q g h) z)

-- ---- while there is room nothing is lost
room_len : (q : Queue) (g : Message) → q.len < 64 → (pushed q g).len ≡ q.len + 1
unfolding pushed
room_len q g h = rw (lt-ltb q.len 64 h)

push_last : (q : Queue) (g : Message) → QueueShape q → q.len < 64 → Sent (pushed q g) g
unfolding pushed
push_last q g k h = rw (lt-ltb q.len 64 h) (record { place = q.len; below = omega arith; there = get_or-set_same q.items q.len g blank (omega (arith, k.items)) })

push_old : (q : Queue) (g m : Message) → q.len < 64 → Sent q m → Sent (pushed q g) m
unfolding pushed
push_old q g m h z =
    rw (lt-ltb q.len 64 h)
    (record { place = z.place; below = let b = z.below in omega arith; there = get_or-set_other q.items q.len z.place g blank (λ e. let b = z.below in absurd (omega arith)) ∙ z.there })

pub push_all_len : (q : Queue) (l : List Message) → q.len + length l ≤ 64 → (push_all q l).len ≡ q.len + length l
unfolding push_all
push_all_len q [] h = omega arith
push_all_len q (g ∷ l) h =
    let e = room_len q g (omega arith) in
    push_all_len (pushed q g) l (omega (arith, e)) ∙ omega (arith, e)

pub push_all_old : (q : Queue) (l : List Message) (m : Message) → QueueShape q → q.len + length l ≤ 64 → Sent q m → Sent (push_all q l) m
unfolding push_all
push_all_old q [] m k h z = z
push_all_old q (g ∷ l) m k h z =
    let e = room_len q g (omega arith) in
    push_all_old (pushed q g) l m (pushed_shape q g k) (omega (arith, e)) (push_old q g m (omega arith) z)

pub push_all_new : (q : Queue) (l : List Message) (m : Message) → QueueShape q → q.len + length l ≤ 64 → In m l → Sent (push_all q l) m
unfolding push_all In
push_all_new q [] m k h a = absurd a
push_all_new q (g ∷ l) m k h (inl e) =
    let r = room_len q g (omega arith) in
    rw e (push_all_old (pushed q g) l g (pushed_shape q g k) (omega (arith, r)) (push_last q g k (omega arith)))
push_all_new q (g ∷ l) m k h (inr a) =
    let r = room_len q g (omega arith) in
    push_all_new (pushed q g) l m (pushed_shape q g k) (omega (arith, r)) a

-- ---- what a message list has is under way in it
taken_at : (l : List Message) (n : ℕ) (m : Message) → n ≤ length l → In m (take n l) → (i : ℕ) × (i < n) × (get_or l i blank ≡ m)
unfolding In
taken_at l zero m h a = absurd a
taken_at [] (suc n) m h a = absurd a
taken_at (g ∷ l) (suc n) m h (inl e) = (0, omega arith, sym e)
taken_at (g ∷ l) (suc n) m h (inr a) = let r = taken_at l n m (le_of_suc-le-suc h) a in let b = r.1 in (suc r.0, omega arith, r.2)

pub listed_sent : (q : Queue) (m : Message) → QueueShape q → q.len ≤ 64 → In m (messages q) → Sent q m
listed_sent q m k h a = let r = taken_at q.items q.len m (omega (arith, k.items)) a in record { place = r.0; below = r.1; there = r.2 }
