-- Copying bytes to a part of a list, or from one.
use Rattle.std.specs.Prelude.{ℕ, zero, suc, ◌+◌, ◌-◌, ◌≤◌, List, ◌∷◌, ◌≡◌, refl, length, get_or, take, drop}
use Rattle.std.proofs.Common.{arith, append_assoc, sym, ap, ◌∙◌, drop-cons}
use Rattle.std.proofs.lemmas.List.Edits.{sets-eq}
use Rattle.std.proofs.Math.Seq.{length-sets}
use borrow.Rule.Slice.PartMut.{put_mid, Post-is}
use Rattle.bytes_layout.specs.Number.{bytes_at}
use Rattle.bytes_layout.specs.Written.{Written}

-- a part of a list, replaced by as many bytes
pub part_written : (l b ys : List ℕ) (p : ℕ) → p + length b ≤ length l → ys ≡ b → Written l (put_mid p (p + length b - p) l ys) p b (p + length b)
part_written l b ys p h f =
    let i : p ≤ p + length b = omega arith in
    let e = sets-eq b l p h ∙ append_assoc (take p l) b (drop (p + length b) l) in
    rw (f, Post-is p (p + length b) l i) (record { next = refl; bytes = record { stored = sym e; long = ap length (sym e) ∙ length-sets l p b } })

-- the bytes of a part, in order
first_read : (l : List ℕ) (p n : ℕ) → p + n ≤ length l → take n (drop p l) ≡ bytes_at l p n
unfolding bytes_at
first_read l p zero h = refl
first_read l p (suc n) h =
    let i : suc p ≡ p + 1 = omega arith in
    rw (drop-cons l p 0 (omega arith)) (ap (◌∷◌ (get_or l p 0)) (rw i (first_read l (p + 1) n (omega arith))))

pub part_read : (l ys : List ℕ) (p n : ℕ) → p + n ≤ length l → ys ≡ take (p + n - p) (drop p l) → ys ≡ bytes_at l p n
part_read l ys p n h e =
    let i : p + n - p ≡ n = omega arith in
    (rw i at e) ∙ first_read l p n h
