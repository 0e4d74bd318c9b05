-- Lemmas cited by the function proofs: each derives a postcondition from what the calls returned.
use Prim.Native.Nat.{ℕ, ◌+◌, ◌*◌, ◌≤◌}
use native.Mathlib.Omega.{arith}
use mathlib.Core.List.{List}
use mathlib.Core.Path.{◌≡◌, refl, sym}
use lib.ListN.{length}
use Rattle.bytes_layout.specs.Number.{bytes_of, four_bytes, Stored}
use Rattle.bytes_layout.proofs.Number.{stored_then, number_stored}
use Rattle.protocol.specs.declared.setup.Setup.{Setup}
use Rattle.protocol.specs.declared.step.Step.{Step}
use Rattle.bytes_layout.specs.Written.{Written}
use Rattle.file_records.specs.Bytes.{setup_front, setup_bytes, step_bytes, trailer_bytes, length_front, length_setup, length_step, length_trailer}

module _ (p : ℕ) where
  pub step_stored : (x : Step) (l m n r : List ℕ) → Stored l m p (four_bytes x.kind x.client x.object x.place) → Stored m n (p + 4) (bytes_of 4 x.clock)
      → Stored n r (p + 8) (bytes_of 8 x.value) → Written l r p (step_bytes x) (p + 16)
  unfolding step_bytes
  step_stored x l m n r a b c =
      let e : p + 8 ≡ p + 4 + 4 = omega arith in
      record { next = rw (length_step x); bytes = stored_then l m r p (p + 4) _ _ a (number_stored m n r (p + 4) 4 _ _ b (rw (← e) c)) refl }

  pub trailer_stored : (n : ℕ) (l m r : List ℕ) → Stored l m p (bytes_of 4 n) → Stored m r (p + 4) (bytes_of 4 (56 + 16 * n)) → Written l r p (trailer_bytes n) (p + 8)
  unfolding trailer_bytes
  trailer_stored n l m r a b = record { next = rw (length_trailer n); bytes = number_stored l m r p 4 _ _ a b }

  pub front_stored : (s : Setup) (l a b c r : List ℕ) → Stored l a p (four_bytes s.clients s.volumes s.objects 0) → Stored a b (p + 4) (bytes_of 4 s.tv)
      → Stored b c (p + 8) (bytes_of 4 s.t) → Stored c r (p + 12) (bytes_of 4 s.m) → Stored l r p (setup_front s)
  unfolding setup_front
  front_stored s l a b c r e f g h =
      let i : p + 8 ≡ p + 4 + 4 = omega arith in
      let j : p + 12 ≡ p + 4 + 4 + 4 = omega arith in
      stored_then l a r p (p + 4) _ _ e (number_stored a b r (p + 4) 4 _ _ f (number_stored b c r (p + 4 + 4) 4 _ _ (rw (← i) g) (rw (← j) h))) refl

  -- The volume bytes fit after the first 16 bytes of the setup.
  pub volumes_fit : (v l m b : List ℕ) → 28 ≡ length v → p + 48 ≤ length l → Stored l m p b → p + 16 + length v ≤ length m
  volumes_fit v l m b e h a = omega (arith, e, h, a.long)

  pub setup_stored : (s : Setup) (l m n r : List ℕ) (q : ℕ) → 28 ≡ length s.volume → Stored l m p (setup_front s) → Written m n (p + 16) s.volume q
      → Stored n r (p + 44) (bytes_of 4 s.delay) → (Written l r p (setup_bytes s) (p + 48)) × ((p + 48 ≡ p + 48) × (length s.volume ≡ 28))
  setup_stored s l m n r q e a w d =
      let both = stored_then m n r (p + 16) (p + 44) _ _ w.bytes d (omega (arith, e)) in
      (record { next = rw (length_setup s (sym e)); bytes = stored_then l m r p (p + 16) _ _ a both (rw (length_front s)) }, (refl, sym e))
