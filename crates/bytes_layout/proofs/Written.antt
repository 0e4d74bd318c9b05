-- Writing bytes to a lent output in order.
use Rattle.std.specs.Prelude.{ℕ, suc, ◌+◌, ◌≤◌, List, [], ◌∷◌, ◌++◌, ◌≡◌, refl, length, set}
use Rattle.std.proofs.Common.{arith, sym, length-append}
use Rattle.std.proofs.lemmas.List.Edits.{sets}
use Rattle.std.proofs.lemmas.List.{set_comm}
use Rattle.bytes_layout.proofs.Number.{stored_then}
use Rattle.bytes_layout.specs.Written.{Written}

pub written_then : (l m r : List ℕ) (p q e : ℕ) (a b : List ℕ) → Written l m p a q → Written m r q b e → Written l r p (a ++ b) e
written_then l m r p q e a b f g = record {
  next = omega (arith, f.next, g.next, length-append a b);
  bytes = stored_then l m r p q a b f.bytes g.bytes (sym f.next);
}

-- a store past the written bytes can be moved before them
pub sets_past : (l : List ℕ) (p q d : ℕ) (b : List ℕ) → p + length b ≤ q → sets (set l q d) p b ≡ set (sets l p b) q d
sets_past l p q d [] h = refl
sets_past l p q d (x ∷ b) h =
    let e : set (set l q d) p x ≡ set (set l p x) q d = set_comm l q p d x (λ f. omega arith) in
    rw e (sets_past (set l p x) (suc p) q d b (omega arith))
