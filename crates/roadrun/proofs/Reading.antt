-- Reading on into the rest of a file.
use Rattle.std.proofs.Common.{◌≡◌, ℕ, ◌+◌, ◌≤◌, List, ◌++◌, length, take, drop, sym, ap, ◌∙◌, le_refl, drop_at, length-take-le}
use Rattle.std.proofs.lemmas.Slice.{take-put_mid_below}
use borrow.Rule.Slice.PartMut.{put_mid, post_of}
use lib.Seq.{take-add, take-append-le}

-- what stands in a file up to n, and the m bytes that were then put after it, are the first n + m bytes
pub take_put_mid_more : (n k m : ℕ) (file part : List ℕ) → n ≤ length file → m ≤ length part
    → take n file ++ take m part ≡ take (n + m) (put_mid n k file part)
take_put_mid_more n k m file part within fits =
    let new = put_mid n k file part in
    let front : take n new ≡ take n file = take-put_mid_below _ _ _ _ _ (le_refl _) within in
    let after : take m (drop n new) ≡ take m part =
    ap (take m) (drop_at (take n file) (part ++ post_of n k file) n (length-take-le n file within)) ∙ take-append-le m part (post_of n k file) fits in
    ap (λ l. l ++ take m part) (sym front) ∙ ap (λ l. take n new ++ l) (sym after) ∙ sym (take-add n m new)
