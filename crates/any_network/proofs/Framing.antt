-- Rules as functions of a part of the state that they do not read. The part is the message list, at whose end a rule puts what it sends, or what the clients
-- know, which stays as it is. Everything else that a rule leaves is the same whatever the part is.
-- Letters: A what a rule leaves, X the part, put how it is put into what is left, adds what becomes of it when messages are sent, f and g rules as functions
-- of the part that they find; s setup, t tables, c what a rule counted, o object, q a message list.
use Prim.Native.Nat.{ℕ, zero, suc, ◌+◌}
use Rattle.std.proofs.Common.{arith, ◌∙◌}
use Rattle.std.specs.Prelude.{Bool, true, false, cond, List, [], ◌∷◌, ◌≡◌}
use Rattle.std.proofs.Math.Path.{refl, ap}
use Rattle.laws.specs.Loop.{fold_from}
use Rattle.protocol.specs.declared.message.Message.{Message}
use Rattle.protocol.specs.declared.message.Queue.{Queue}
use Rattle.protocol.specs.declared.setup.Setup.{Setup}
use Rattle.protocol.specs.declared.tables.Tables.{Tables}
use Rattle.protocol.specs.Messages.{pushed}
use Rattle.protocol.specs.Writes.{Counted, complete_if, settled, completed}
use Rattle.any_network.specs.Lists.{push_all}
use Rattle.any_network.specs.Framing.{Frames, recounted, Unread}

module _ {A X : Type 0} {put : A → X → A} {adds : X → List Message → X} where
  -- a choice that does not read the part
  pub either : {S : Type 0} (h : S → A) (b : Bool) (f g : X → S) → Frames put adds (λ x. h (f x)) → Frames put adds (λ x. h (g x)) → Frames put adds (λ x. h (cond b (f x) (g x)))
  either h true f g k l = k
  either h false f g k l = l

  pub choice : (b : Bool) (f g : X → A) → Frames put adds f → Frames put adds g → Frames put adds (λ x. cond b (f x) (g x))
  choice b f g k l = either (λ (a : A). a) b f g k l

  -- what comes after and does not read the part
  pub then : {B : Type 0} {put' : B → X → B} (h : A → B) → ((a : A) (x : X) → h (put a x) ≡ put' (h a) x) → (f : X → A) → Frames put adds f → Frames put' adds (λ x. h (f x))
  then h e f k = record { rest = h k.rest; out = k.out; few = k.few; same = λ x. ap h (k.same x) ∙ e k.rest (adds x k.out) }

  pub alike : (f g : X → A) → ((x : X) → f x ≡ g x) → Frames put adds g → Frames put adds f
  alike f g e k = record { rest = k.rest; out = k.out; few = k.few; same = λ x. e x ∙ k.same x }

-- ---- the message list: nothing is sent, or one message
module _ {A : Type 0} {put : A → Queue → A} where
  pub quiet : (a : A) → Frames put push_all (λ q. put a q)
  unfolding push_all
  quiet a = record { rest = a; out = []; few = omega arith; same = λ q. refl }

  pub single : (a : A) (m : Message) → Frames put push_all (λ q. put a (pushed q m))
  unfolding push_all
  single a m = record { rest = a; out = m ∷ []; few = omega arith; same = λ q. refl }

-- ---- completing writes
cond_put : {X : Type 0} (put : Tables → X → Tables) (b : Bool) (c d : Counted) (x : X) → cond b (recounted put c x) (recounted put d x) ≡ recounted put (cond b c d) x
cond_put put true c d x = refl
cond_put put false c d x = refl

module _ {X : Type 0} {put : Tables → X → Tables} {s : Setup} {test : Tables → ℕ → Bool} (u : Unread put s test) where
  turn : (c : Counted) (x : X) (o : ℕ) → complete_if test s (recounted put c x) o ≡ recounted put (complete_if test s c o) x
  turn c x o =
      rw (u.tested c.tables x o, u.completes c.tables x o)
      (cond_put put (test c.tables o) (record { count = c.count + 1; tables = completed s c.tables o }) c x)

  turns : (c : Counted) (x : X) (j n : ℕ) → fold_from (complete_if test s) (recounted put c x) j n ≡ recounted put (fold_from (complete_if test s) c j n) x
  unfolding fold_from
  turns c x j zero = refl
  turns c x j (suc n) = ap (λ (k : Counted). fold_from (complete_if test s) k (j + 1) n) (turn c x j) ∙ turns (complete_if test s c j) x (j + 1) n

  settles : (from many : ℕ) (t : Tables) (x : X)
      → settled s (record { tables = put t x; test = test; from = from; many = many }) ≡ recounted put (settled s (record { tables = t; test = test; from = from; many = many })) x
  unfolding settled
  settles from many t x = turns (record { count = 0; tables = t }) x from many

  pub settling : {adds : X → List Message → X} (from many : ℕ) (f : X → Tables) → Frames put adds f
      → Frames (recounted put) adds (λ x. settled s (record { tables = f x; test = test; from = from; many = many }))
  settling from many f k = then (λ (t : Tables). settled s (record { tables = t; test = test; from = from; many = many })) (settles from many) f k
