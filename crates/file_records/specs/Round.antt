-- Writing records and reading them are inverse to each other.
use Prim.Native.Nat.{ℕ, zero, suc, ◌+◌, ◌*◌, ◌<◌, ◌≤◌}
use Rattle.std.proofs.Common.{add-zero, sym, ap, ◌∙◌}
use native.Mathlib.Omega.{arith}
use Rattle.std.specs.Prelude.{true, ◌≡◌, length, get_or}
use mathlib.Core.List.{List, [], ◌∷◌, ◌++◌, append_assoc}
use Rattle.std.proofs.Math.Path.{refl}
use Rattle.std.proofs.Math.ListN.{drop}
use Rattle.std.proofs.Math.Seq.{get_or-drop}
use Rattle.bytes_layout.specs.Number.{little_endian, bytes_of, bytes_at, limit, number_at, Bytes, four_bytes}
use Rattle.bytes_layout.proofs.Number.{length_bytes, read_back, bytes_then, four_then, number_then, number_last}
use Rattle.protocol.specs.declared.setup.Setup.{Setup}
use Rattle.protocol.specs.declared.step.Step.{Step}
use Rattle.protocol.specs.Setup.{in_range}
use Rattle.protocol.proofs.Ranges.{ranges}
use Rattle.file_records.specs.Records.{setup_in, step_in}
use Rattle.file_records.specs.Bytes.{setup_front, setup_bytes, step_bytes, trailer_bytes}

-- Clock and value fit their widths, as in every step that a program can build.
pub record Widths (x : Step) : Type 0 where
  pub clock : x.clock < limit 4
  pub value : x.value < limit 8

-- ---- the record at place p is the record at the start of the bytes from p on
module _ (l : List ℕ) (p : ℕ) where
  pub bytes_there : (q w : ℕ) → bytes_at l (p + q) w ≡ bytes_at (drop p l) q w
  unfolding bytes_at
  bytes_there q zero = refl
  bytes_there q (suc w) =
      let e : p + q + 1 ≡ p + (q + 1) = omega arith in
      rw (← get_or-drop p l q 0, e) (ap (◌∷◌ (get_or (drop p l) q 0)) (bytes_there (q + 1) w))

  first_there : get_or l p 0 ≡ get_or (drop p l) 0 0
  first_there = sym (get_or-drop p l 0 0 ∙ rw add-zero)

  pub step_there : step_in l p ≡ step_in (drop p l) 0
  unfolding step_in
  step_there =
      rw (first_there, ← get_or-drop p l 1 0, ← get_or-drop p l 2 0, ← get_or-drop p l 3 0, bytes_there 4 4, bytes_there 8 8)

  pub setup_there : setup_in l p ≡ setup_in (drop p l) 0
  unfolding setup_in
  setup_there =
      rw (first_there, ← get_or-drop p l 1 0, ← get_or-drop p l 2 0, bytes_there 4 4, bytes_there 8 4, bytes_there 12 4, bytes_there 16 28, bytes_there 44 4)

  pub bytes_left : Bytes l → Bytes (drop p l)
  bytes_left b i = rw (get_or-drop p l i 0) (b (p + i))

-- ---- written, then read back, with any bytes after it
bytes_whole : (v b : List ℕ) → bytes_at (v ++ b) 0 (length v) ≡ v
unfolding bytes_at
bytes_whole [] b = refl
bytes_whole (x ∷ v) b = ap (◌∷◌ x) (bytes_there (x ∷ (v ++ b)) 1 0 (length v) ∙ bytes_whole v b)

bytes_past : (v b : List ℕ) (w : ℕ) → bytes_at (v ++ b) (length v) w ≡ bytes_at b 0 w
bytes_past [] b w = refl
bytes_past (x ∷ v) b w =
    let e : suc (length v) ≡ 1 + length v = omega arith in
    rw e (bytes_there (x ∷ (v ++ b)) 1 (length v) w ∙ bytes_past v b w)

pub step_back : (x : Step) (b : List ℕ) → Widths x → step_in (step_bytes x ++ b) 0 ≡ x
unfolding step_in step_bytes little_endian bytes_of bytes_at
step_back x b h = rw (read_back 4 x.clock h.clock, read_back 8 x.value h.value)

-- .. of a setup what follows its first 16 bytes: the volumes, and the delay
module _ (s : Setup) (b : List ℕ) (h : length s.volume ≡ 28) where
  rest : drop 16 (setup_bytes s ++ b) ≡ s.volume ++ (bytes_of 4 s.delay ++ b)
  unfolding setup_front bytes_of
  rest = append_assoc s.volume (bytes_of 4 s.delay) b

  volumes_back : bytes_at (setup_bytes s ++ b) 16 28 ≡ s.volume
  volumes_back =
      bytes_there (setup_bytes s ++ b) 16 0 28 ∙ ap (λ (l : List ℕ). bytes_at l 0 28) rest ∙ (rw h at (bytes_whole s.volume (bytes_of 4 s.delay ++ b)))

  delay_back : s.delay < limit 4 → number_at (setup_bytes s ++ b) 44 4 ≡ s.delay
  delay_back g =
      ap little_endian
      (bytes_there (setup_bytes s ++ b) 16 28 4 ∙ ap (λ (l : List ℕ). bytes_at l 28 4) rest ∙ (rw h at (bytes_past s.volume (bytes_of 4 s.delay ++ b) 4))
      ∙ (rw (length_bytes 4 s.delay) at (bytes_whole (bytes_of 4 s.delay) b))) ∙ read_back 4 s.delay g

pub setup_back : (s : Setup) (b : List ℕ) → in_range s ≡ true → length s.volume ≡ 28 → setup_in (setup_bytes s ++ b) 0 ≡ s
unfolding setup_in setup_front little_endian bytes_of bytes_at limit
setup_back s b e h =
    let r = ranges s e in
    rw (
      volumes_back s b h,
      delay_back s b h (omega (arith, r.delay.1)),
      read_back 4 s.tv (omega (arith, r.tv.1)),
      read_back 4 s.t (omega (arith, r.t.1)),
      read_back 4 s.m (omega (arith, r.m.1)),
    )

pub trailer_back : (n : ℕ) → n ≤ 4000 → (number_at (trailer_bytes n) 0 4 ≡ n) × (number_at (trailer_bytes n) 4 4 ≡ 56 + 16 * n)
unfolding trailer_bytes little_endian bytes_of bytes_at limit
trailer_back n h = (read_back 4 n (omega arith), read_back 4 (56 + 16 * n) (omega arith))

-- ---- read, then written again, with the same bytes after it
module _ (l : List ℕ) (b : Bytes l) where
  pub step_again : 16 ≤ length l → step_bytes (step_in l 0) ++ drop 16 l ≡ l
  unfolding step_bytes step_in
  step_again h = simp append_assoc (rw (number_then l b 8 8 (omega arith), number_then l b 4 4 (omega arith)) (four_then l (omega arith)))

  pub setup_again : 48 ≤ length l → get_or l 3 0 ≡ 0 → setup_bytes (setup_in l 0) ++ drop 48 l ≡ l
  unfolding setup_front setup_in
  setup_again h z =
      simp append_assoc (rw (
        number_then l b 44 4 (omega arith),
        bytes_then l 16 28 (omega arith),
        number_then l b 12 4 (omega arith),
        number_then l b 8 4 (omega arith),
        number_then l b 4 4 (omega arith),
      )
      (ap (λ (d : ℕ). four_bytes (get_or l 0 0) (get_or l 1 0) (get_or l 2 0) d ++ drop 4 l) (sym z) ∙ four_then l (omega arith)))

  pub trailer_again : (n : ℕ) → length l ≡ 8 → number_at l 0 4 ≡ n → number_at l 4 4 ≡ 56 + 16 * n → trailer_bytes n ≡ l
  unfolding trailer_bytes
  trailer_again n h e f = rw (← f, ← e) (rw (number_last l b 4 4 (sym h)) (number_then l b 0 4 (omega arith)))
