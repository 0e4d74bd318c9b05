-- A walk lends a row of elements that it holds (of an opened `&mut [T]` or of a local array) to a callee for a lifetime κ', and gets it back.
--     lend_mut, back_mut     as a `&κ' mut [T]`: the row comes back with the list that the callee's contract states
--     lies_in, lies_out      turn a local's cell and what its value owns into the form in memory that `lends_ref` of `Denote/Lend.antt` lends, and back
--     lend_shr, back_shr     as a `&κ' [T]`: the row comes back unchanged
-- n is the length that the machine holds; the lent list has the same length.
-- Assumes `Logic`.
use Rattle.std.specs.Prelude.{◌≡◌, refl, ℕ, List, [], ◌∷◌, ◌++◌, length}
use Rattle.std.proofs.Common.{subst}
use seplogic.Ra.Ura.{Ura}
use base.Fraction.{full_share}
use mir.Syntax.{Lifetime}
use mir.Val.{Val}
use base.Logic.{SProp, ent, sep, ex, via, id⊢}
use base.Fml.{Lft, GName, Fml, fsep, fdead, flent, Incl}
use types.Logic.{Logic, sem, lfts}
use ghost.Rules.{Toks, span}
use types.Kit.{‵, raw, later, ◌$◌, ◌∵◌, !, qed, by, use1, use2, use3, split, join, ◌⊛◌, drop, fsplit, fjoin, fpack, feq_i, await, updating, now as at_once, done}
use types.Tokens.{lent_back}
use types.SemTy.{cells, Arr}
use types.Share.{arr_parts}
use Rattle.std.specs.Borrow.{RattleType, MutBor}
use denote.Memory.{mem, shares, shared_of, cell_at, part_of}
use denote.Slice.{slice_val, MutSlice, ShrSlice, Room, finally}
use denote.Lend.{Held, lends_slice, slice_back, lends_shr_slice}
use denote.Shares.{SharesAsFrom}
use denote.Index.{row, whole_out, whole_in}
use borrow.Table.Elements.{at, cut_app, join_app}

module _ {M : Type 1} {𝓤 : Ura M} (𝓛 : Logic 𝓤) (R : RattleType) (ℓ : Lifetime) (κ' : Lft) (b o : ℕ) where
  open 𝓛 use {H, A}

  abbrev at_list : GName → List R.Denot → MutBor (List R.Denot)
  at_list δ ys = record { ref_ptr = (b, o); ghost_name = δ; now = ys }

  abbrev vals : ℕ → List Val
  vals n = slice_val (b, o) n ∷ []

  abbrev LentMut : ℕ → List R.Denot → SProp 𝓤
  LentMut n ys = H.⇛ (ex 𝓤 (λ (δ : GName). sep 𝓤 (sem 𝓛 ((MutSlice ℓ κ' R).own_val (at_list δ ys) (vals n))) (sem 𝓛 (flent κ' (Held R n b o δ)))))

  pub lend_mut : (n : ℕ) (ys : List R.Denot) → length ys ≡ n → Room R n → ent 𝓤 (sem 𝓛 (row R full_share ys b o)) (LentMut n ys)
  lend_mut n ys e = subst (λ (m : ℕ). Room R m → ent 𝓤 (sem 𝓛 (row R full_share ys b o)) (LentMut m ys))
      e (λ g. via 𝓤 (sem 𝓛 (cells (mem R) ys b o)) (whole_in 𝓛 R ys b o) (lends_slice 𝓛 R ℓ κ' ys b o g))

  pub back_mut : (n : ℕ) (δ : GName) (zs : List R.Denot)
      → ent 𝓤 (sep 𝓤 (A.dead κ') (sep 𝓤 (sem 𝓛 (flent κ' (Held R n b o δ))) (sem 𝓛 (finally R δ zs))))
      (H.⇛ (sem 𝓛 (row R full_share zs b o)))
  back_mut n δ zs =
      qed 𝓛 (‵ (fdead κ') ∷ ‵ (flent κ' (Held R n b o δ)) ∷ ‵ (finally R δ zs) ∷ []) ∵ updating ! $
      use3 𝓛 (later (‵ ((Arr (mem R) n).own_at zs b o))) (slice_back 𝓛 R κ' δ zs n b o) $ await ! tt $
      fsplit ! $ drop ! $ use1 𝓛 (‵ (row R full_share zs b o)) (whole_out 𝓛 R zs b o) $ at_once ! $ done !

  -- cutting a row in two, and joining it again
  pub cut_row : (xs ys : List R.Denot) → ent 𝓤 (sem 𝓛 (row R full_share (xs ++ ys) b o))
      (sep 𝓤 (sem 𝓛 (row R full_share xs b o)) (sem 𝓛 (cells (mem R) ys b (at o (mem R).size (length xs)))))
  cut_row xs ys =
      qed 𝓛 (‵ (row R full_share (xs ++ ys) b o) ∷ []) ∵ use1 𝓛 (‵ (cells (mem R) (xs ++ ys) b o)) (whole_in 𝓛 R (xs ++ ys) b o) $
      use1 𝓛 (‵ (cells (mem R) xs b o) ⊛ ‵ (cells (mem R) ys b (at o (mem R).size (length xs))))
      (cut_app 𝓛 (mem R) xs ys b o) $
      split ! $ use1 𝓛 (‵ (row R full_share xs b o)) (whole_out 𝓛 R xs b o) $ join ! $ done !

  pub join_row : (m : ℕ) (xs ys : List R.Denot) → length xs ≡ m
      → ent 𝓤 (sep 𝓤 (sem 𝓛 (row R full_share xs b o)) (sem 𝓛 (cells (mem R) ys b (at o (mem R).size m))))
      (sem 𝓛 (row R full_share (xs ++ ys) b o))
  join_row m xs ys e = subst (λ (k : ℕ).
      ent 𝓤 (sep 𝓤 (sem 𝓛 (row R full_share xs b o)) (sem 𝓛 (cells (mem R) ys b (at o (mem R).size k))))
      (sem 𝓛 (row R full_share (xs ++ ys) b o))) e
      (qed 𝓛 (‵ (row R full_share xs b o) ∷ ‵ (cells (mem R) ys b (at o (mem R).size (length xs))) ∷ []) ∵ use1 𝓛 (‵ (cells (mem R) xs b o)) (whole_in 𝓛 R xs b o) $
      use2 𝓛 (‵ (cells (mem R) (xs ++ ys) b o)) (join_app 𝓛 (mem R) xs ys b o) $ use1 𝓛 (‵ (row R full_share (xs ++ ys) b o)) (whole_out 𝓛 R (xs ++ ys) b o) $ done !)

  abbrev pub Part : List R.Denot → Fml
  Part ys = (arr_parts (shares R) (length ys)).part full_share ys b o

  abbrev LentShrs : ℕ → List R.Denot → SProp 𝓤
  LentShrs n ys = sep 𝓤 (sem 𝓛 ((ShrSlice ℓ κ' R).own_val (record { ref_ptr = (b, o); now = ys }) (vals n))) (A.lent κ' (Part ys))

  -- with tokens ts whose lifetimes' meet is within l, for which R is shared out, and within κ'
  pub lend_shr : (ys : List R.Denot) → Room R (length ys) → (l : Lft) → SharesAsFrom 𝓛 full_share R (shared_of R) l → (ts : Toks) → Incl (span ts) l
      → Incl (span ts) κ' → ent 𝓤 (sep 𝓤 (sem 𝓛 (row R full_share ys b o)) (lfts 𝓛 ts)) (H.⇛ (sep 𝓤 (LentShrs (length ys) ys) (lfts 𝓛 ts)))
  lend_shr ys g l s ts inc sp =
      qed 𝓛 (‵ (row R full_share ys b o) ∷ raw (lfts 𝓛 ts) ∷ []) ∵ feq_i ! ℕ (length ys) (length ys) refl $ fjoin ! $ join ! $
      by ! (lends_shr_slice 𝓛 R ℓ κ' full_share ys b o g l s ts inc sp)

  -- the same, where n is the length that the machine holds
  pub lend_shr_at : (n : ℕ) (ys : List R.Denot) → length ys ≡ n → Room R n → (l : Lft) → SharesAsFrom 𝓛 full_share R (shared_of R) l → (ts : Toks)
      → Incl (span ts) l → Incl (span ts) κ' → ent 𝓤 (sep 𝓤 (sem 𝓛 (row R full_share ys b o)) (lfts 𝓛 ts)) (H.⇛ (sep 𝓤 (LentShrs n ys) (lfts 𝓛 ts)))
  lend_shr_at n ys e h l s ts inc sp =
      subst (λ (m : ℕ). Room R m → ent 𝓤 (sep 𝓤 (sem 𝓛 (row R full_share ys b o)) (lfts 𝓛 ts)) (H.⇛ (sep 𝓤 (LentShrs m ys) (lfts 𝓛 ts))))
      e (λ g. lend_shr ys g l s ts inc sp) h

  pub back_shr : (ys : List R.Denot) → ent 𝓤 (sep 𝓤 (A.dead κ') (sem 𝓛 (flent κ' (Part ys)))) (H.⇛ (sem 𝓛 (row R full_share ys b o)))
  back_shr ys = qed 𝓛 (‵ (fdead κ') ∷ ‵ (flent κ' (Part ys)) ∷ []) ∵ updating ! $ lent_back ! tt $ fsplit ! $ drop ! $ at_once ! $ done !

module _ {M : Type 1} {𝓤 : Ura M} (𝓛 : Logic 𝓤) (R : RattleType) (h : R.Denot) (b o : ℕ) where
  pub lies_in : (vs : List Val) → ent 𝓤 (sep 𝓤 (sem 𝓛 (cell_at full_share R.mir vs b o)) (sem 𝓛 (R.own_val h vs))) (sem 𝓛 ((mem R).own_at h b o))
  unfolding part_of
  lies_in vs = qed 𝓛 (‵ (cell_at full_share R.mir vs b o) ∷ ‵ (R.own_val h vs) ∷ []) ∵ fjoin ! $ fpack ! (List Val)
      (λ us. fsep (cell_at full_share R.mir us b o) (R.own_val h us)) vs $ done !

  pub lies_out : ent 𝓤 (sem 𝓛 ((mem R).own_at h b o)) (ex 𝓤 (λ (vs : List Val). sep 𝓤 (sem 𝓛 (cell_at full_share R.mir vs b o)) (sem 𝓛 (R.own_val h vs))))
  unfolding part_of
  lies_out = id⊢ 𝓤 _
