-- What a store of one kind of record leaves as it was: the tables, and the records of the other kind.
use Rattle.std.specs.Prelude.{ℕ, List, ◌≡◌, refl}
use Rattle.std.proofs.Common.{◌∙◌}
use Rattle.state_words.specs.View.{tables_of, records_of}

-- what holds of words w and values x and of the same ones, and goes on over one more store
pub record KeepsRest {V : Type 0} (Same : List ℕ → V → List ℕ → V → Type 0) : Type 0 where
  pub none_yet : (w : List ℕ) (x : V) → Same w x w x
  pub one_more : (w u a : List ℕ) (x y z : V) → Same w x u y → Same u y a z → Same w x a z

abbrev pub SameButCopies : List ℕ → List ℕ → List ℕ → List ℕ → Type 0
SameButCopies w x u y = (tables_of u y ≡ tables_of w x) × ((records_of u y).requests ≡ (records_of w x).requests)

-- requests lie in the words alone, so this holds for any values
abbrev pub SameButRequests : List ℕ → List ℕ → Type 0
SameButRequests w u = (x : List ℕ) → (tables_of u x ≡ tables_of w x) × ((records_of u x).copies ≡ (records_of w x).copies)

pub copies_keep : KeepsRest SameButCopies
copies_keep = record {
  none_yet = λ w x. (refl, refl);
  one_more = λ w u a x y z e f. (f.0 ∙ e.0, f.1 ∙ e.1);
}

pub requests_keep : {V : Type 0} → KeepsRest {V = V} (λ w _ u _. SameButRequests w u)
requests_keep = record {
  none_yet = λ w x y. (refl, refl);
  one_more = λ w u a x y z e f v. ((f v).0 ∙ (e v).0, (f v).1 ∙ (e v).1);
}
